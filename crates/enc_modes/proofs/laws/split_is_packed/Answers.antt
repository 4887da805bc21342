use Rattle.enc_modes.proofs.Repacked as laws
use Rattle.enc_modes.proofs.laws.split_is_packed.Goals as goal

pub returns : goal.returns
returns c = laws.split_is_packed
