-- Where a byte of a text stands, for a reader.
use Rattle.std.specs.Prelude.{ℕ, Bool, List, ◌+◌, ◌==◌, length, take, count_by}
use Rattle.std.specs.List.{after_last}

-- whether a byte ends a line
abbrev pub is_line_end : ℕ → Bool
is_line_end byte = byte == 10

-- the number of the line in which a byte stands, counted from 1
abbrev pub line_of : List ℕ → ℕ → ℕ
line_of text at = count_by is_line_end (take at text) + 1

-- the place of a byte in its line, counted from 1
abbrev pub column_of : List ℕ → ℕ → ℕ
column_of text at = length (after_last is_line_end (take at text)) + 1
