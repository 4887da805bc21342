use Rattle.enc_model.proofs.Runs.{never_stuck-thin}
use Rattle.enc_model.proofs.laws.never_stuck.Goals as goal

pub returns : goal.returns
returns c = never_stuck-thin c.args.program.now c.requires
