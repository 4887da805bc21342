-- The symbols, each with its kind.
use Rattle.std.specs.Prelude.{ℕ, Bool, false, ◌||◌, if◌then◌else◌, List, [], ◌∷◌, ◌++◌, codes, Option, Some, None, is_some}
use Rattle.std.specs.Str.{bytes_eq}
use Rattle.enc_lex.specs.declared.kinds.Kind.{Kind}
use Rattle.enc_lex.specs.declared.kinds.Kind.TheVariants as k

-- each symbol with the kind of its token
abbrev pub symbols : List (List ℕ × Kind)
symbols =
    (codes "{", k.OpenBrace) ∷
    (codes "}", k.CloseBrace) ∷
    (codes "(", k.OpenParen) ∷
    (codes ")", k.CloseParen) ∷
    (codes "[", k.OpenBracket) ∷
    (codes "]", k.CloseBracket) ∷
    (codes ":", k.Colon) ∷
    (codes ";", k.Semicolon) ∷
    (codes ",", k.Comma) ∷
    (codes ".", k.Dot) ∷
    (codes "!", k.Bang) ∷
    (codes "=", k.Assign) ∷
    (codes "==", k.Equal) ∷
    (codes "!=", k.NotEqual) ∷
    (codes "<", k.Less) ∷
    (codes "<=", k.LessEqual) ∷
    (codes ">", k.Greater) ∷
    (codes ">=", k.GreaterEqual) ∷
    (codes "+", k.Plus) ∷
    (codes "-", k.Minus) ∷
    (codes "*", k.Star) ∷
    (codes "/", k.Slash) ∷
    (codes "%", k.Percent) ∷
    []

-- the kind that the table gives the bytes
abbrev pub symbol_in : List (List ℕ × Kind) → List ℕ → Option Kind
symbol_in [] word = None
symbol_in (entry ∷ entries) word = if bytes_eq word entry.0 then Some entry.1 else symbol_in entries word

-- the symbol that the bytes are
abbrev pub symbol_of : List ℕ → Option Kind
symbol_of word = symbol_in symbols word

-- whether a symbol is cut short: with the byte behind it, it is a longer one or begins a comment
abbrev pub is_cut_short : List ℕ → List ℕ → Bool
is_cut_short word [] = false
is_cut_short word (byte ∷ rest) = is_some (symbol_of (word ++ byte ∷ [])) || bytes_eq (word ++ byte ∷ []) (codes "//")
