use Rattle.enc_modes.proofs.Parting.{Walked}
use Rattle.enc_modes.proofs.splitting.interleave.Given as goal

abbrev pub invariant-loop-group : goal.invariant-loop-group
invariant-loop-group l = Walked l.whole l.left l.right l.lefts l.rights l.group-index
