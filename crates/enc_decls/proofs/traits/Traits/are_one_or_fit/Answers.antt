use Rattle.std.proofs.Common.{◌≡◌, IfOk, subst}
use Rattle.enc_decls.proofs.Agreeing.{apart_turned}
use Rattle.enc_decls.proofs.traits.Traits.are_one_or_fit.Goals as goal

pub returns-then-right-left-clause-value : goal.returns-then-right-left-clause-value
returns-then-right-left-clause-value c =
    subst (λ fits. IfOk c.fit.result (λ it. it ≡ fits)) (apart_turned c.args.decls.now c.args.names.now c.args.left c.args.right c.if-left-right.false) c.fit.ensures.value
