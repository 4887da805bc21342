use Rattle.std.proofs.Common.{sym, ◌∙◌}
use Rattle.enc_types.specs.Names.{trait_named}
use Rattle.enc_types.specs.Words.{all_there}
use Rattle.enc_types.proofs.There.{gathered_more}
use Rattle.enc_types.proofs.names.Names.groups_named.Goals as goal

pub loop-group-preserved : goal.loop-group-preserved
loop-group-preserved c = rw c.in_ok-push-in-Some.ensures.ok (gathered_more (λ g. all_there (λ n. trait_named c.args.self.now n.word) g.names) c.args.groups.now c.loop-group.group-index c.group-item.result c.in-Some.row c.loop-group.rows c.loop-group-test.true c.group-item.is (sym c.in_ok-group_named.ensures ∙ c.in-Some.is) c.loop-group.invariant)
