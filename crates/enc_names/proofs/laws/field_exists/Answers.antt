use Rattle.enc_names.proofs.There as laws
use Rattle.enc_names.proofs.laws.field_exists.Goals as goal

pub returns : goal.returns
returns c = laws.field_exists
