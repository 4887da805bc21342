-- What an escape in a text stands for.
use Rattle.std.specs.Prelude.{ℕ, Bool, ◌==◌, if◌then◌else◌, Option, Some, None, is_some}
use Rattle.enc_lex.specs.Bytes.{tab, line_feed, quote, backslash}

-- the byte that a letter behind a backslash stands for
abbrev pub escaped_byte : ℕ → Option ℕ
escaped_byte letter =
    if letter == 110 then Some line_feed
    else if letter == 116 then Some tab
    else if letter == backslash then Some backslash
    else if letter == quote then Some quote
    else None

-- a letter that may follow a backslash
abbrev pub is_escape : ℕ → Bool
is_escape letter = is_some (escaped_byte letter)
