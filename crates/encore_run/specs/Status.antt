-- The numbers with which the program ends, and when.
use Rattle.std.specs.Prelude.{◌≡◌, ◌==◌, ◌||◌, ℕ, Bool, true, false, List, [], ◌∷◌}
use Rattle.encore_run.specs.declared.status.Status.{Status}
use Rattle.encore_run.specs.declared.status.Status.TheVariants.{Ended, Rejected, Usage, Trapped, Blocked, Budget, Memory, ReadFault, WriteFault}

-- the number of a status
abbrev pub code_of : Status → ℕ
code_of Ended = 0
code_of Rejected = 1
code_of Usage = 2
code_of Trapped = 3
code_of Blocked = 4
code_of Budget = 5
code_of Memory = 6
code_of ReadFault = 7
code_of WriteFault = 8

-- the number is that of one of these
abbrev pub is_one_of : List Status → ℕ → Bool
is_one_of [] code = false
is_one_of (status ∷ statuses) code = code == code_of status || is_one_of statuses code

-- the number is that of one of these
abbrev pub IsOneOf : List Status → ℕ → Type 0
IsOneOf statuses code = is_one_of statuses code ≡ true

abbrev pub Is : Status → ℕ → Type 0
Is status code = IsOneOf (status ∷ []) code

-- The status is answered only where P holds. Where it holds, the status is answered, or one that may come in its place.
pub record ExactlyWhere (P : Type 0) (code : ℕ) (status : Status) (in_its_place : List Status) : Type 0 where
  pub only : Is status code → P
  pub whenever : P → IsOneOf (status ∷ in_its_place) code
