-- How the type of an expression is told.
use Rattle.std.specs.Prelude.{Option, Some, None}
use Rattle.enc_modes.specs.declared.ty.Ty.{Ty}
use Rattle.enc_exprs.specs.declared.told.Told.{Told}
use Rattle.enc_exprs.specs.declared.told.Told.TheVariants as by

-- the type, where it is known
abbrev pub told : Told → Option Ty
told by.Unknown = None
told (by.Seen t) = Some t.now
told (by.Made t) = Some t
