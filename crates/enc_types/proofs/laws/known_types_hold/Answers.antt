use Rattle.enc_types.proofs.KnownTypes.{known_holds}
use Rattle.enc_types.proofs.laws.known_types_hold.Goals as goal

pub returns : goal.returns
returns c = known_holds
