use Rattle.enc_check.proofs.Blocks.{BodiesRest}
use Rattle.enc_check.proofs.routines.bodies.Given as goal

abbrev pub invariant-loop-at : goal.invariant-loop-at
invariant-loop-at l = BodiesRest l.tables l.decls l.at
