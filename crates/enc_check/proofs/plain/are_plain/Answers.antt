use Rattle.std.proofs.lemmas.Result.{err_from_is_err_and}
use Rattle.enc_check.proofs.Printing.{print_start, print_more, print_err, print_end}
use Rattle.enc_check.proofs.plain.are_plain.Goals as goal

pub loop-value-init : goal.loop-value-init
loop-value-init c = print_start c.args.context.now c.args.env.now c.args.values.now

pub returns-in_err-plain-clause-premises : goal.returns-in_err-plain-clause-premises
returns-in_err-plain-clause-premises c =
    let p = err_from_is_err_and c.from_residual.result c.from_residual.ensures.1 in
    rw (p.1, p.2) (print_err c.args.context.now c.args.env.now c.args.values.now c.loop-value.plain c.loop-value.value-index c.value-item.result c.loop-value-test.true c.value-item.is c.loop-value.invariant _ c.in_err-plain.ensures.premises)

pub loop-value-preserved : goal.loop-value-preserved
loop-value-preserved c = print_more c.args.context.now c.args.env.now c.args.values.now c.loop-value.plain _ c.loop-value.value-index c.value-item.result c.loop-value-test.true c.value-item.is c.loop-value.invariant c.in_ok-plain.ensures.premises c.in_ok-plain.ensures.plain

pub returns-clause-premises : goal.returns-clause-premises
returns-clause-premises c = (print_end _ _ _ _ _ c.loop-value-test.false c.loop-value.invariant).0

pub returns-clause-plain : goal.returns-clause-plain
returns-clause-plain c = (print_end _ _ _ _ _ c.loop-value-test.false c.loop-value.invariant).1
