use Rattle.enc_flow.proofs.Unders as laws
use Rattle.enc_flow.proofs.laws.blocks.Goals as goal

pub returns : goal.returns
returns c = laws.cut_under
