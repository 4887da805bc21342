use Rattle.enc_flow.proofs.Unders as laws
use Rattle.enc_flow.proofs.laws.branches.Goals as goal

pub returns-clause-left : goal.returns-clause-left
returns-clause-left c = laws.merged_under_left

pub returns-clause-right : goal.returns-clause-right
returns-clause-right c = laws.merged_under_right
