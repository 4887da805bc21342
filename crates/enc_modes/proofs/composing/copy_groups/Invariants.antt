use Rattle.std.proofs.Common.{◌≡◌, take}
use Rattle.enc_modes.proofs.composing.copy_groups.Given as goal

abbrev pub invariant-loop-group : goal.invariant-loop-group
invariant-loop-group l = l.copied ≡ take l.group-index l.cap
