use Rattle.std.proofs.Common.{◌≡◌, drop}
use Rattle.enc_decls.specs.Conflicts.{all_fit}
use Rattle.enc_decls.specs.Found.{Right}
use Rattle.enc_decls.proofs.groups.all_fit.Given as goal

abbrev pub invariant-loop-at : goal.invariant-loop-at
invariant-loop-at l = (all_fit l.decls l.names (drop l.at l.alts) ≡ all_fit l.decls l.names l.alts) × Right l.decls l.names l.traits
