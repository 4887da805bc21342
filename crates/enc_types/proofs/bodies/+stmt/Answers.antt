use Rattle.std.proofs.lemmas.Result.{err_from_is_err_and}
use Rattle.enc_premises.proofs.Loops.{rest_more, rest_err, rest_end}
use Rattle.enc_types.specs.Bodies.{stmt_types}
use Rattle.enc_types.proofs.bodies.+stmt.Goals as goal

pub body_types-returns-in_err-stmt_types : goal.body_types-returns-in_err-stmt_types
body_types-returns-in_err-stmt_types t c =
    let p = err_from_is_err_and c.from_residual.result c.from_residual.ensures.1 in
    rw (p.1, p.2) (rest_err (stmt_types c.args.names.now) c.args.body.now c.loop-stmt.stmt-index c.stmt-item.result c.loop-stmt-test.true c.stmt-item.is c.loop-stmt.invariant _ c.in_err-stmt_types.ensures)

pub body_types-loop-stmt-preserved : goal.body_types-loop-stmt-preserved
body_types-loop-stmt-preserved t c = rest_more (stmt_types c.args.names.now) c.args.body.now c.loop-stmt.stmt-index c.stmt-item.result c.loop-stmt-test.true c.stmt-item.is c.loop-stmt.invariant c.in_ok-stmt_types.ensures

pub body_types-returns : goal.body_types-returns
body_types-returns t c = rest_end (stmt_types c.args.names.now) c.args.body.now c.loop-stmt.stmt-index c.loop-stmt-test.false c.loop-stmt.invariant
