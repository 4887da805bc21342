-- Limits, and the first token by which one is passed.
use Rattle.std.specs.Prelude.{◌&&◌, ℕ, zero, suc, Bool, true, false, List, [], ◌∷◌, length, Option, Some, None}
use Rattle.enc_cursor.specs.Counts.{Mark, Bracket, Operator, Variable, Declared, Group, Trait, Letters}

-- how much there may be of all but brackets
pub record Allowed : Type 0 where
  pub letters : ℕ
  pub variables : ℕ
  pub operators : ℕ
  pub names : ℕ
  pub groups : ℕ
  pub traits : ℕ

-- how many brackets may be open, and how much there may be of all else
pub record Limits : Type 0 where
  pub brackets : ℕ
  pub counts : Allowed

-- whether a number is at most another
abbrev pub at_most : ℕ → ℕ → Bool
at_most zero m = true
at_most (suc n) zero = false
at_most (suc n) (suc m) = at_most n m

-- whether a mark passes no limit
abbrev pub mark_fits : Limits → Mark → Bool
mark_fits L (Bracket n) = at_most n L.brackets
mark_fits L (Operator n) = at_most n L.counts.operators
mark_fits L (Variable n) = at_most n L.counts.variables
mark_fits L (Declared n) = at_most n L.counts.names
mark_fits L (Group n) = at_most n L.counts.groups
mark_fits L (Trait n) = at_most n L.counts.traits
mark_fits L (Letters n) = at_most n L.counts.letters

-- whether none of a token's marks passes a limit
abbrev pub fits : Limits → List Mark → Bool
fits L [] = true
fits L (m ∷ ms) = fits L ms && mark_fits L m

-- what the tokens so far were counted as, the newest first
abbrev pub Log : Type 0
Log = List (List Mark)

-- the number that is there, else the other
abbrev pub earlier : Option ℕ → Option ℕ → Option ℕ
earlier None o = o
earlier (Some n) o = Some n

-- the number, unless that is so
abbrev pub unless : Bool → ℕ → Option ℕ
unless true n = None
unless false n = Some n

-- the first token by which a limit is passed
abbrev pub passed : Limits → Log → Option ℕ
passed L [] = None
passed L (m ∷ log) = earlier (passed L log) (unless (fits L m) (length log))

-- limits with room for so many brackets
abbrev pub with_brackets : ℕ → Allowed → Limits
with_brackets n C = record { brackets = n; counts = C }

-- how much a text may have
unfoldable pub allowed : Allowed
allowed = record { letters = 255; variables = 255; operators = 256; names = 65535; groups = 64; traits = 64 }

-- the limits of a text
abbrev pub standard : Limits
standard = with_brackets 256 allowed
