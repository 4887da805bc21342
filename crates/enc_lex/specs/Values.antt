-- What the bytes at a token's span stand for.
use Rattle.std.specs.Prelude.{ℕ, ◌+◌, ◌-◌, ◌*◌, min, Bool, true, false, ◌==◌, if◌then◌else◌, List, [], ◌∷◌, length, take, drop, fold, unwrap_or}
use Rattle.std.specs.Str.Lossy.{utf8_lossy}
use Rattle.enc_ast.specs.declared.rules.Span.{Span}
use Rattle.enc_lex.specs.Bytes.{zero_digit, backslash}
use Rattle.enc_lex.specs.Escapes.{escaped_byte}

-- the bytes of a text from the start of a span to before its end
abbrev pub bytes_at : List ℕ → Span → List ℕ
bytes_at text span = take (span.end - span.start) (drop span.start text)

-- the number that digits write
abbrev pub value_of : List ℕ → ℕ
value_of digits = fold (λ value digit. value * 10 + (digit - zero_digit)) 0 digits

-- the greatest integer
abbrev pub max_int : ℕ
max_int = 9223372036854775807

-- the value of an integer's digits, which is at most the greatest one
abbrev pub int_of : List ℕ → ℕ
int_of digits = min (value_of digits) max_int

-- the bytes with each escape replaced by what it stands for; `escaped` says that a backslash came before
abbrev pub unescaped : Bool → List ℕ → List ℕ
unescaped escaped [] = []
unescaped true (letter ∷ bytes) = unwrap_or (escaped_byte letter) letter ∷ unescaped false bytes
unescaped false (byte ∷ bytes) = if byte == backslash then unescaped true bytes else byte ∷ unescaped false bytes

-- what stands between the first and the last byte
abbrev pub inside : List ℕ → List ℕ
inside bytes = take (length bytes - 2) (drop 1 bytes)

-- the bytes that a text stands for, which is given with its quotes
abbrev pub text_of : List ℕ → List ℕ
text_of bytes = unescaped false (inside bytes)

-- what a name says: its bytes, since a name is UTF-8
abbrev pub word_of : List ℕ → List ℕ
word_of bytes = utf8_lossy bytes
