use Rattle.std.proofs.Common.{◌≡◌}
use Rattle.enc_modes.specs.Equality.{same}
use Rattle.enc_modes.proofs.ty.Ty.is.Given as goal

abbrev pub invariant-loop-left : goal.invariant-loop-left
invariant-loop-left l = same l.left l.right ≡ same l.fn.self l.fn.other
