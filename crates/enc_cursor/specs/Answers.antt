-- What is said of a whole list of tokens. S is the relation of what it may spell.
use Rattle.std.specs.Prelude.{◌≡◌, ℕ, ◌+◌, ◌<◌, ◌≤◌, [], ◌++◌, length, take, Option, Some, None}
use Rattle.enc_cursor.specs.Limits.{Limits, passed}
use Rattle.enc_cursor.specs.Place.{Tokens, Place, start_of}
use Rattle.enc_cursor.specs.Stretch.{Stretch}

-- The tokens spell x.
pub record Spells {A : Type 0} (S : A → Stretch) (tokens : Tokens) (x : A) : Type 0 where
  pub end : Place
  pub tree : S x (start_of tokens) end
  pub done : end.spot.ahead ≡ []

-- The tokens begin some that spell something.
abbrev pub IsViable : {A : Type 0} → (A → Stretch) → Tokens → Type 0
IsViable {A} S tokens = (more : Tokens) × (x : A) × Spells S (tokens ++ more) x

-- The tokens spell x, and no limit is passed.
pub record Fits {A : Type 0} (L : Limits) (S : A → Stretch) (tokens : Tokens) (x : A) : Type 0 where
  pub spells : Spells S tokens x
  pub fine : passed L spells.end.log ≡ None

-- There is a number, and it is less.
abbrev pub IsBefore : ℕ → Option ℕ → Type 0
IsBefore at None = ⊥
IsBefore at (Some n) = n < at

-- The first failure: the tokens before it are viable and pass no limit, and with it they are not viable. At the end it is that just these tokens spell nothing.
pub record FirstFailure {A : Type 0} (L : Limits) (S : A → Stretch) (tokens : Tokens) (at : ℕ) : Type 0 where
  pub within : at ≤ length tokens
  pub viable : IsViable S (take at tokens)
  pub fine : (more : Tokens) (x : A) (s : Spells S (take at tokens ++ more) x) → IsBefore at (passed L s.end.log) → ⊥
  pub exact : at < length tokens → IsViable S (take (at + 1) tokens) → ⊥
  pub whole : (x : A) → Spells S tokens x → ⊥

-- The first passed limit: the tokens up to and with it are viable, and in all that goes on from them it is the first token by which a limit is passed.
pub record FirstOver {A : Type 0} (L : Limits) (S : A → Stretch) (tokens : Tokens) (at : ℕ) : Type 0 where
  pub within : at < length tokens
  pub viable : IsViable S (take (at + 1) tokens)
  pub over : (more : Tokens) (x : A) (s : Spells S (take (at + 1) tokens ++ more) x) → passed L s.end.log ≡ Some at
