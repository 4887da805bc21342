use Rattle.enc_premises.proofs.Loops.{rest_end}
use Rattle.enc_decls.proofs.routines.param_types.Goals as goal

pub returns : goal.returns
returns c = rest_end _ _ _ c.loop-param-test.false c.loop-param.invariant
