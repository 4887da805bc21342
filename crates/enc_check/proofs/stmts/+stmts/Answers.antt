use Rattle.std.proofs.Common.{◌≡◌}
use Rattle.std.proofs.lemmas.Result.{err_from_is_err_and}
use Rattle.enc_rules.specs.Stmts.{act}
use Rattle.enc_check.proofs.Blocks.{more, err, ended}
use Rattle.enc_check.proofs.stmts.+stmts.Goals as goal

pub in_order-returns-clause-premises : goal.in_order-returns-clause-premises
in_order-returns-clause-premises t c = (ended _ _ _ _ _ c.loop-judged-test.false c.loop-judged.invariant).0

pub in_order-returns-in_err-stmt-clause-premises : goal.in_order-returns-in_err-stmt-clause-premises
in_order-returns-in_err-stmt-clause-premises t c =
    let p = err_from_is_err_and c.from_residual.result c.from_residual.ensures.1 in
    rw (p.1, p.2) (err c.args.context.now c.args.env.now c.args.stmts.now c.loop-judged.env c.loop-judged.judged-index c.judged-item.result c.loop-judged-test.true c.judged-item.is c.loop-judged.invariant _ c.in_err-stmt.ensures.premises)

pub in_order-loop-judged-preserved : goal.in_order-loop-judged-preserved
in_order-loop-judged-preserved t c =
    let e : c.stmt.new.env ≡ (act c.judged-item.result).after c.args.context.now c.loop-judged.env = c.in_ok-stmt.ensures.after in
    rw e (more c.args.context.now c.args.env.now c.args.stmts.now c.loop-judged.env c.loop-judged.judged-index c.judged-item.result c.loop-judged-test.true c.judged-item.is c.loop-judged.invariant c.in_ok-stmt.ensures.premises)
