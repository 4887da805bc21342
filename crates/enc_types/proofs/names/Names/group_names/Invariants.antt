use Rattle.enc_premises.proofs.Loops.{Rest}
use Rattle.enc_types.specs.Written.{group_premises}
use Rattle.enc_types.proofs.names.Names.group_names.Given as goal

abbrev pub invariant-loop-group : goal.invariant-loop-group
invariant-loop-group l = Rest (group_premises l.self l.many) l.groups l.group-index
