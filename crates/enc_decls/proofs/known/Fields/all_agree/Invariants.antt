use Rattle.std.proofs.Common.{◌≡◌, drop}
use Rattle.enc_decls.specs.Conflicts.{each_agrees}
use Rattle.enc_decls.proofs.known.Fields.all_agree.Given as goal

abbrev pub invariant-loop-entry : goal.invariant-loop-entry
invariant-loop-entry l = each_agrees (drop l.entry-index l.self) l.other ≡ each_agrees l.self l.other
