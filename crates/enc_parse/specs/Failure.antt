-- Why a text is refused, and where.
use Rattle.std.specs.Prelude.{◌≡◌, ◌⊎◌, ℕ, List, length, slice_get, Option, Some, None}
use Rattle.enc_ast.specs.declared.rules.Span.{Span}
use Rattle.enc_ast.specs.declared.rules.Rule.TheVariants as rules
use Rattle.enc_ast.specs.declared.rules.Reject.{Reject}
use Rattle.enc_lex.specs.declared.tokens.Token.{Token}
use Rattle.enc_lex.specs.Lexes.{Lexes}
use Rattle.enc_lex.specs.Failure as lexical
use Rattle.enc_cursor.specs.Limits.{standard}
use Rattle.enc_cursor.specs.Answers.{FirstFailure, FirstOver}
use Rattle.enc_parse.specs.Decls.{IsProgram}

-- the span of a token, or the empty one at the end of a text of this length
abbrev pub span_or_end : ℕ → Option Token → Span
span_or_end len None = record { start = len; end = len }
span_or_end len (Some t) = t.span

-- where the token with this number stands, or the end of a text of this length
abbrev pub place_at : ℕ → List Token → ℕ → Span
place_at len tokens at = span_or_end len (slice_get tokens at)

-- The tokens are refused at the first with which they begin no program, or at the end.
pub record IsWrong (text : List ℕ) (tokens : List Token) (reject : Reject) : Type 0 where
  pub at : ℕ
  pub first : FirstFailure standard (IsProgram text) tokens at
  pub is : reject ≡ record { rule = rules.Form; span = place_at (length text) tokens at }

-- The tokens are refused at the first by which a limit is passed.
pub record IsOver (text : List ℕ) (tokens : List Token) (reject : Reject) : Type 0 where
  pub at : ℕ
  pub first : FirstOver standard (IsProgram text) tokens at
  pub is : reject ≡ record { rule = rules.Limit; span = place_at (length text) tokens at }

-- the first failure of the tokens of a text
abbrev pub RefusesTokens : List ℕ → List Token → Reject → Type 0
RefusesTokens text tokens reject = IsWrong text tokens reject ⊎ IsOver text tokens reject

-- The text has tokens, and they are refused.
pub record IsUnfit (text : List ℕ) (reject : Reject) : Type 0 where
  pub tokens : List Token
  pub lexes : Lexes text tokens
  pub unfit : RefusesTokens text tokens reject

-- the first failure of a text
abbrev pub Refuses : List ℕ → Reject → Type 0
Refuses text reject = lexical.Refuses text reject ⊎ IsUnfit text reject
