use Rattle.enc_thin.proofs.Programs.{thin_typed}
use Rattle.enc_thin.proofs.laws.thin_is_well_typed.Goals as goal

pub returns : goal.returns
returns c = thin_typed
