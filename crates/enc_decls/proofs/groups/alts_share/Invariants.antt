use Rattle.std.proofs.Common.{◌≡◌, drop}
use Rattle.enc_types.specs.Words.{every}
use Rattle.enc_decls.specs.Conflicts.{may_leave}
use Rattle.enc_decls.specs.Found.{Right}
use Rattle.enc_decls.proofs.groups.alts_share.Given as goal

abbrev pub invariant-loop-alt : goal.invariant-loop-alt
invariant-loop-alt l = (every (may_leave l.decls l.names) (drop l.alt-index l.alts) ≡ every (may_leave l.decls l.names) l.alts) × Right l.decls l.names l.traits
