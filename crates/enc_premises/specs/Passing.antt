-- What an answer says of premises.
use Rattle.std.specs.Prelude.{◌≡◌, cond, Option, Some, None, Result, Ok, Err}
use Rattle.enc_ast.specs.declared.rules.Reject.{Reject}
use Rattle.enc_ast.specs.declared.rules.Fail.{Fail}
use Rattle.enc_ast.specs.declared.rules.Fail.TheVariants as fail
use Rattle.enc_premises.specs.Premises.{Premises, none, premise, then}
use Rattle.enc_premises.specs.First.{AllHold, FirstFailure}

abbrev pub or_else : {A : Type 0} → Option A → Option A → Option A
or_else (Some x) y = Some x
or_else None y = y

-- the first premise that doesn't hold, by recursion
abbrev pub first : Premises → Option Reject
first none = None
first (premise r s b) = cond b None (Some (record { rule = r; span = s }))
first (then a b) = or_else (first a) (first b)

-- A failure, or none, agrees with the premises. Where memory ran out, nothing is known.
unfoldable pub Agrees : Option Fail → Premises → Type 0
Agrees None ps = first ps ≡ None
Agrees (Some fail.Memory) ps = Unit {0}
Agrees (Some (fail.Reject r)) ps = first ps ≡ Some r

abbrev pub fault : {A : Type 0} → Result A Fail → Option Fail
fault (Ok x) = None
fault (Err e) = Some e

-- what a function answered agrees with the premises
abbrev pub Passes : {A : Type 0} → Result A Fail → Premises → Type 0
Passes r ps = Agrees (fault r) ps

-- the failure, if there is one, is that memory ran out
unfoldable pub IsMemory : Option Fail → Type 0
IsMemory None = Unit {0}
IsMemory (Some fail.Memory) = Unit {0}
IsMemory (Some (fail.Reject r)) = ⊥

-- a function answers, unless memory runs out
abbrev pub MemoryOnly : {A : Type 0} → Result A Fail → Type 0
MemoryOnly r = IsMemory (fault r)

-- A failure, or none, tells that all premises hold, or which is the first that doesn't.
abbrev pub TellsFault : Option Fail → Premises → Type 0
TellsFault None ps = AllHold ps
TellsFault (Some fail.Memory) ps = Unit {0}
TellsFault (Some (fail.Reject r)) ps = FirstFailure ps r

-- an answer tells that all premises hold, or which is the first that doesn't
abbrev pub Tells : {A : Type 0} → Result A Fail → Premises → Type 0
Tells r ps = TellsFault (fault r) ps

-- an answer is no refusal, where the premises hold
abbrev pub Accepts : {A : Type 0} → Result A Fail → Premises → Type 0
Accepts r ps = AllHold ps → MemoryOnly r
