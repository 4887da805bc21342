-- What is asked of one argument.
use Rattle.std.specs.Prelude.{Bool, true, Option, Some, None}
use Rattle.enc_modes.specs.declared.ty.Ty.{Ty}
use Rattle.enc_modes.specs.Equality.{same}
use Rattle.enc_names.specs.declared.members.Slot.{Slot}

-- the type of its parameter, where there is one
abbrev pub wanted : Option Slot → Ty → Bool
wanted None = λ u. true
wanted (Some p) = same p.ty
