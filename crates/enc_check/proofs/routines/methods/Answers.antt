use Rattle.std.proofs.Common.{Some}
use Rattle.std.proofs.lemmas.Result.{err_from_is_err_and}
use Rattle.enc_premises.proofs.Loops.{rest_start, rest_more, rest_err, rest_end}
use Rattle.enc_rules.specs.Programs.{routine_premises}
use Rattle.enc_check.proofs.routines.methods.Goals as goal

pub loop-method-init : goal.loop-method-init
loop-method-init c = rest_start (routine_premises c.args.tables.now (Some c.args.owner)) c.args.methods.now

pub returns-in_err-routine : goal.returns-in_err-routine
returns-in_err-routine c =
    let p = err_from_is_err_and c.from_residual.result c.from_residual.ensures.1 in
    rw (p.1, p.2) (rest_err (routine_premises c.args.tables.now (Some c.args.owner)) c.args.methods.now c.loop-method.method-index c.method-item.result c.loop-method-test.true c.method-item.is c.loop-method.invariant _ c.in_err-routine.ensures)

pub loop-method-preserved : goal.loop-method-preserved
loop-method-preserved c = rest_more (routine_premises c.args.tables.now (Some c.args.owner)) c.args.methods.now c.loop-method.method-index c.method-item.result c.loop-method-test.true c.method-item.is c.loop-method.invariant c.in_ok-routine.ensures

pub returns : goal.returns
returns c = rest_end (routine_premises c.args.tables.now (Some c.args.owner)) c.args.methods.now c.loop-method.method-index c.loop-method-test.false c.loop-method.invariant
