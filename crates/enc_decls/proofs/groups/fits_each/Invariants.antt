use Rattle.std.proofs.Common.{◌≡◌, drop}
use Rattle.enc_types.specs.Words.{every}
use Rattle.enc_decls.specs.Conflicts.{one_or_fit}
use Rattle.enc_decls.specs.Found.{Right}
use Rattle.enc_decls.proofs.groups.fits_each.Given as goal

abbrev pub invariant-loop-other : goal.invariant-loop-other
invariant-loop-other l = (every (one_or_fit l.decls l.names l.one) (drop l.other-index l.others) ≡ every (one_or_fit l.decls l.names l.one) l.others) × Right l.decls l.names l.traits
