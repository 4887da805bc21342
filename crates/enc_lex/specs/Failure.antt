-- Why a text has no tokens, and where.
use Rattle.std.specs.Prelude.{◌≡◌, ◌≢◌, ◌⊎◌, ℕ, ◌+◌, ◌<◌, ◌≤◌, List, [], ◌++◌, length, IsUtf8}
use Rattle.std.specs.Str.Lossy.{utf8_valid_len}
use Rattle.enc_ast.specs.declared.rules.Rule.TheVariants as rules
use Rattle.enc_ast.specs.declared.rules.Reject.{Reject}
use Rattle.enc_lex.specs.declared.kinds.Kind.{Kind}
use Rattle.enc_lex.specs.declared.tokens.Token.{Token}
use Rattle.enc_lex.specs.Standing.{IsGap, Stands}
use Rattle.enc_lex.specs.Lexes.{max_len, span, Meets}

-- More text is there, and neither a token nor what may stand between tokens begins with it.
pub record IsBad (text : List ℕ) : Type 0 where
  pub some : text ≢ []
  pub no_gap : (skipped rest : List ℕ) → text ≡ skipped ++ rest → ¬ (IsGap skipped rest)
  pub no_token : (kind : Kind) (word rest : List ℕ) → text ≡ word ++ rest → ¬ (Stands kind word rest)

-- the text is refused as too long
abbrev pub size_reject : Reject
size_reject = record { rule = rules.Size; span = span 0 0 }

-- the text is refused for its byte at a place
abbrev pub token_reject : ℕ → Reject
token_reject at = record { rule = rules.Token; span = span at (at + 1) }

-- The text is too long.
pub record IsTooLong (text : List ℕ) (reject : Reject) : Type 0 where
  pub long : max_len < length text
  pub is : reject ≡ size_reject

-- The text is not UTF-8. The place is the byte at which its longest front that is UTF-8 ends.
pub record IsBroken (text : List ℕ) (reject : Reject) : Type 0 where
  pub short : length text ≤ max_len
  pub broken : ¬ (IsUtf8 text)
  pub is : reject ≡ token_reject (utf8_valid_len text)

-- Reading comes to a place from which it cannot go on.
pub record IsStuck (text : List ℕ) (reject : Reject) : Type 0 where
  pub short : length text ≤ max_len
  pub utf8 : IsUtf8 text
  pub place : ℕ
  pub rest : List ℕ
  pub tokens : List Token
  pub read : Meets 0 text place rest tokens
  pub bad : IsBad rest
  pub is : reject ≡ token_reject place

-- the first failure of a text
abbrev pub Refuses : List ℕ → Reject → Type 0
Refuses text reject = IsTooLong text reject ⊎ (IsBroken text reject ⊎ IsStuck text reject)
