use Rattle.std.proofs.Common.{◌≡◌}
use Rattle.std.proofs.lemmas.Result.{err_from_is_err_and}
use Rattle.enc_exprs.specs.Exprs.{judged, consumes}
use Rattle.enc_sources.proofs.Loops.{rest_more, rest_err, rest_end}
use Rattle.enc_sources.proofs.calls.each_argument.Goals as goal

pub returns-in_err-argument-clause-premises : goal.returns-in_err-argument-clause-premises
returns-in_err-argument-clause-premises c =
    let p = err_from_is_err_and c.from_residual.result c.from_residual.ensures.1 in
    rw (p.1, p.2) (rest_err c.args.names.now c.args.env.now c.args.params.now c.args.args.now c.loop-at.env c.loop-at.at c.index-args-at.result c.loop-at-test.true c.index-args-at.is c.loop-at.invariant _ (rw c.param_at.ensures at c.in_err-argument.ensures.premises))

pub loop-at-preserved : goal.loop-at-preserved
loop-at-preserved c =
    let e : c.argument.new.env ≡ consumes c.loop-at.env (judged c.args.names.now c.index-args-at.result).name = c.in_ok-argument.ensures.after in
    rw e (rest_more c.args.names.now c.args.env.now c.args.params.now c.args.args.now c.loop-at.env c.loop-at.at c.index-args-at.result c.loop-at-test.true c.index-args-at.is c.loop-at.invariant (rw c.param_at.ensures at c.in_ok-argument.ensures.premises))

pub returns-clause-premises : goal.returns-clause-premises
returns-clause-premises c = (rest_end c.args.names.now c.args.env.now c.args.params.now c.args.args.now c.loop-at.env c.loop-at.at c.loop-at-test.false c.loop-at.invariant).0
