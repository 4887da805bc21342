use Rattle.enc_modes.specs.Equality.{same_alt}
use Rattle.enc_modes.proofs.Agree.{AgreesTo}
use Rattle.enc_modes.proofs.equality.same_group.Given as goal

abbrev pub invariant-loop-at : goal.invariant-loop-at
invariant-loop-at l = AgreesTo same_alt l.left l.right l.at
