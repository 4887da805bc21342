use Rattle.std.proofs.Common.{Some}
use Rattle.enc_premises.proofs.Loops.{Rest}
use Rattle.enc_rules.specs.Programs.{routine_premises}
use Rattle.enc_check.proofs.routines.methods.Given as goal

abbrev pub invariant-loop-method : goal.invariant-loop-method
invariant-loop-method l = Rest (routine_premises l.tables (Some l.owner)) l.methods l.method-index
