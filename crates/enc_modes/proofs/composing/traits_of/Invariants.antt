use Rattle.std.proofs.Common.{◌≡◌, ◌++◌, drop}
use Rattle.enc_modes.specs.Modes as spec
use Rattle.enc_modes.proofs.composing.traits_of.Given as goal

abbrev pub invariant-loop-group : goal.invariant-loop-group
invariant-loop-group l = l.numbers.items ++ spec.traits_of (drop l.group-index l.groups) ≡ spec.traits_of l.groups
