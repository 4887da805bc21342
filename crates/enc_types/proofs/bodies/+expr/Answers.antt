use Rattle.std.proofs.lemmas.Result.{err_from_is_err_and}
use Rattle.enc_premises.proofs.Loops.{rest_more, rest_err, rest_end}
use Rattle.enc_types.specs.Bodies.{expr_types}
use Rattle.enc_types.proofs.bodies.+expr.Goals as goal

pub exprs_types-returns-in_err-expr_types : goal.exprs_types-returns-in_err-expr_types
exprs_types-returns-in_err-expr_types t c =
    let p = err_from_is_err_and c.from_residual.result c.from_residual.ensures.1 in
    rw (p.1, p.2) (rest_err (expr_types c.args.names.now) c.args.exprs.now c.loop-expr.expr-index c.expr-item.result c.loop-expr-test.true c.expr-item.is c.loop-expr.invariant _ c.in_err-expr_types.ensures)

pub exprs_types-loop-expr-preserved : goal.exprs_types-loop-expr-preserved
exprs_types-loop-expr-preserved t c = rest_more (expr_types c.args.names.now) c.args.exprs.now c.loop-expr.expr-index c.expr-item.result c.loop-expr-test.true c.expr-item.is c.loop-expr.invariant c.in_ok-expr_types.ensures

pub exprs_types-returns : goal.exprs_types-returns
exprs_types-returns t c = rest_end (expr_types c.args.names.now) c.args.exprs.now c.loop-expr.expr-index c.loop-expr-test.false c.loop-expr.invariant
