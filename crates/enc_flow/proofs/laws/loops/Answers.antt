use Rattle.enc_flow.proofs.Unders as laws
use Rattle.enc_flow.proofs.laws.loops.Goals as goal

pub returns-clause-after : goal.returns-clause-after
returns-clause-after c = laws.same_under

pub returns-clause-before : goal.returns-clause-before
returns-clause-before c = laws.same_over
