use Rattle.std.proofs.Common.{◌≡◌, drop}
use Rattle.enc_modes.specs.Modes as spec
use Rattle.enc_modes.proofs.composing.alt_in.Given as goal

abbrev pub invariant-loop-alt : goal.invariant-loop-alt
invariant-loop-alt l = spec.alt_in l.group l.number ≡ spec.alt_in (drop l.alt-index l.group) l.number
