use Rattle.enc_model.proofs.Runs.{never_blocked-thin}
use Rattle.enc_model.proofs.laws.never_blocked.Goals as goal

pub returns : goal.returns
returns c = never_blocked-thin c.args.program.now c.requires
