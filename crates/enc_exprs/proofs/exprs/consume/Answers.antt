use Rattle.std.proofs.Common.{sym, ap}
use Rattle.enc_exprs.specs.Exprs.{consumes}
use Rattle.enc_exprs.proofs.Meaning.{name-other}
use Rattle.enc_exprs.proofs.exprs.consume.Goals as goal

pub returns-in_default : goal.returns-in_default
returns-in_default c = λ names. sym (ap (consumes c.args.env.now) (name-other names c.args.expr.now c.in_default.not-This c.in_default.not-Name))
