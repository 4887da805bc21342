use Rattle.std.proofs.lemmas.Result.{err_from_is_err_and}
use Rattle.enc_premises.proofs.Loops.{rest_more, rest_err, rest_end}
use Rattle.enc_types.specs.Written.{group_premises}
use Rattle.enc_types.proofs.names.Names.group_names.Goals as goal

pub returns-in_err-group : goal.returns-in_err-group
returns-in_err-group c =
    let p = err_from_is_err_and c.from_residual.result c.from_residual.ensures.1 in
    rw (p.1, p.2) (rest_err (group_premises c.args.self.now c.args.many) c.args.groups.now c.loop-group.group-index c.group-item.result c.loop-group-test.true c.group-item.is c.loop-group.invariant _ c.in_err-group.ensures)

pub loop-group-preserved : goal.loop-group-preserved
loop-group-preserved c = rest_more (group_premises c.args.self.now c.args.many) c.args.groups.now c.loop-group.group-index c.group-item.result c.loop-group-test.true c.group-item.is c.loop-group.invariant c.in_ok-group.ensures

pub returns : goal.returns
returns c = rest_end (group_premises c.args.self.now c.args.many) c.args.groups.now c.loop-group.group-index c.loop-group-test.false c.loop-group.invariant
