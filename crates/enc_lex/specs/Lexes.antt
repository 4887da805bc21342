-- The tokens of a text, with their spans.
use Rattle.std.specs.Prelude.{◌≡◌, ℕ, ◌+◌, ◌≤◌, ◌<◌, List, [], ◌∷◌, ◌++◌, length, drop, IsUtf8}
use Rattle.enc_ast.specs.declared.rules.Span.{Span}
use Rattle.enc_lex.specs.declared.kinds.Kind.{Kind}
use Rattle.enc_lex.specs.declared.tokens.Token.{Token}
use Rattle.enc_lex.specs.Standing.{IsGap, Stands}
use Rattle.enc_lex.specs.Values.{bytes_at}

-- the greatest length of a text, in bytes
abbrev pub max_len : ℕ
max_len = 1048576

-- a part of a text
abbrev pub span : ℕ → ℕ → Span
span start end = record { start = start; end = end }

-- the token that the word is, which begins at the place
abbrev pub token_at : Kind → ℕ → List ℕ → Token
token_at kind at word = record { kind = kind; span = span at (at + length word) }

-- Reading goes from one place to a later one, and these tokens stand between. A place is the number of a byte with the text from there on.
pub data Meets : ℕ → List ℕ → ℕ → List ℕ → List Token → Type 0 where
  -- the two places are one
  here : {at : ℕ} {text : List ℕ} → Meets at text at text []
  -- what stands first is no token
  gap : {at end : ℕ} {text rest left : List ℕ} {tokens : List Token} (skipped : List ℕ) → text ≡ skipped ++ rest → IsGap skipped rest → Meets (at + length skipped) rest end left tokens → Meets at text end left tokens
  -- a token stands first
  token : {at end : ℕ} {text rest left : List ℕ} {tokens : List Token} (kind : Kind) (word : List ℕ) → text ≡ word ++ rest → Stands kind word rest → Meets (at + length word) rest end left tokens → Meets at text end left (token_at kind at word ∷ tokens)

-- The text is not too long, it is UTF-8, and from its start to its end these are its tokens.
pub record Lexes (text : List ℕ) (tokens : List Token) : Type 0 where
  pub short : length text ≤ max_len
  pub utf8 : IsUtf8 text
  pub end : ℕ
  pub read : Meets 0 text end [] tokens

-- The bytes at the token's span are a token of its kind where what is behind them follows.
pub record StandsIn (text : List ℕ) (token : Token) : Type 0 where
  pub within : token.span.end ≤ length text
  pub some : token.span.start < token.span.end
  pub stands : Stands token.kind (bytes_at text token.span) (drop token.span.end text)

-- Each token ends before the next begins, from the first place to the last.
abbrev pub InOrder : ℕ → ℕ → List Token → Type 0
InOrder start end [] = start ≤ end
InOrder start end (first ∷ tokens) = (start ≤ first.span.start) × (first.span.start < first.span.end) × InOrder first.span.end end tokens
