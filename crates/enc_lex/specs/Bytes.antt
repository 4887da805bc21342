-- The bytes that tokens are made of.
use Rattle.std.specs.Prelude.{ℕ, Bool, false, not, ◌||◌, ◌==◌, List, [], ◌∷◌}

-- the tab
abbrev pub tab : ℕ
tab = 9

-- the end of a line
abbrev pub line_feed : ℕ
line_feed = 10

-- the carriage return, which ends no line
abbrev pub carriage_return : ℕ
carriage_return = 13

-- the space
abbrev pub space : ℕ
space = 32

-- the byte before a text and behind it
abbrev pub quote : ℕ
quote = 34

-- the byte that begins a comment with another one
abbrev pub slash : ℕ
slash = 47

-- the digit 0
abbrev pub zero_digit : ℕ
zero_digit = 48

-- the byte that begins an escape
abbrev pub backslash : ℕ
backslash = 92

-- the byte of names that is no letter and no digit
abbrev pub underscore : ℕ
underscore = 95

-- a byte that stands between tokens
abbrev pub is_blank : ℕ → Bool
is_blank byte = byte == space || byte == tab || byte == carriage_return || byte == line_feed

-- a byte of a line, and not the end of it
abbrev pub is_in_line : ℕ → Bool
is_in_line byte = not (byte == line_feed)

-- a byte that stands for itself between quotes
abbrev pub is_plain : ℕ → Bool
is_plain byte = not (byte == quote || byte == backslash || byte == line_feed)

-- whether a list begins with an item that passes
abbrev pub begins_with : (ℕ → Bool) → List ℕ → Bool
begins_with test [] = false
begins_with test (item ∷ items) = test item
