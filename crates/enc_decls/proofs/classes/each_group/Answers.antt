use Rattle.enc_premises.proofs.Loops.{rest_end}
use Rattle.enc_decls.proofs.classes.each_group.Goals as goal

pub returns-clause-passes : goal.returns-clause-passes
returns-clause-passes c = rest_end _ _ _ c.loop-group-test.false c.loop-group.invariant.0
