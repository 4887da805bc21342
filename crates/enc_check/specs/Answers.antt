-- What a check answers.
use Rattle.std.specs.Prelude.{Option, Some, None, Result}
use Rattle.enc_ast.specs.declared.decls.Program.{Program}
use Rattle.enc_ast.specs.declared.rules.Fail.{Fail}
use Rattle.enc_ast.specs.declared.rules.Fail.TheVariants as fail
use Rattle.enc_premises.specs.Passing.{fault, MemoryOnly}
use Rattle.enc_rules.specs.Programs.{IsFirstFailure}
use Rattle.enc_rules.specs.WellTyped.{WellTyped}

-- With no failure the program is well typed, and a refusal is its first failure.
abbrev pub ChecksFault : Option Fail → Program → Type 0
ChecksFault None p = WellTyped p
ChecksFault (Some fail.Memory) p = Unit {0}
ChecksFault (Some (fail.Reject r)) p = IsFirstFailure p r

-- an answer tells that the program is well typed, or what its first failure is
abbrev pub Checks : {A : Type 0} → Result A Fail → Program → Type 0
Checks r p = ChecksFault (fault r) p

-- what is well typed isn't refused
abbrev pub Spares : {A : Type 0} → Result A Fail → Program → Type 0
Spares r p = WellTyped p → MemoryOnly r
