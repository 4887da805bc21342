use Rattle.std.proofs.Common.{rules}
use Rattle.enc_modes.proofs.Parting.{first_not}
use Rattle.enc_modes.proofs.splitting.behind.Goals as goal

pub returns-else-same_group : goal.returns-else-same_group
returns-else-same_group c = first_not c.args.groups.now c.in_ok-first.rest.now c.in_ok-first.first.now c.args.group.now c.in_ok-first.ensures.cases (search rules)
