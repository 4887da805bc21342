use Rattle.enc_model.proofs.Runs.{stops_soon-thin}
use Rattle.enc_model.proofs.laws.stops_soon.Goals as goal

pub returns : goal.returns
returns c = stops_soon-thin c.args.program.now c.requires
