use Rattle.enc_premises.proofs.Loops.{Rest}
use Rattle.enc_decls.specs.Found.{Right}
use Rattle.enc_decls.specs.Rules.{group_premises}
use Rattle.enc_decls.proofs.classes.each_group.Given as goal

abbrev pub invariant-loop-group : goal.invariant-loop-group
invariant-loop-group l = Rest (group_premises l.decls l.names) l.groups l.group-index × Right l.decls l.names l.traits
