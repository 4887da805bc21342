use Rattle.enc_within.proofs.Programs.{spelled_within}
use Rattle.enc_within.proofs.laws.spelled_is_within.Goals as goal

pub returns : goal.returns
returns c = spelled_within c.args.text.now c.args.program.now c.requires
