use Rattle.enc_modes.proofs.Equal as laws
use Rattle.enc_modes.proofs.laws.same_is_equal.Goals as goal

pub returns : goal.returns
returns c = laws.same_is_equal
