use Rattle.enc_types.specs.Written.{type_premises}
use Rattle.enc_premises.proofs.Loops.{Rest}
use Rattle.enc_decls.proofs.routines.param_types.Given as goal

abbrev pub invariant-loop-param : goal.invariant-loop-param
invariant-loop-param l = Rest (λ p. type_premises l.names p.ty) l.params l.param-index
