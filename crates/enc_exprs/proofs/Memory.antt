-- Where memory ran out.
use Rattle.std.proofs.Common.{◌≡◌, Some, sym, subst}
use Rattle.enc_ast.specs.declared.rules.Fail.{Fail}
use Rattle.enc_ast.specs.declared.rules.Fail.TheVariants as fail
use Rattle.enc_premises.specs.Premises.{Premises}
use Rattle.enc_premises.specs.Passing.{Agrees}

-- nothing is known of the premises
pub out_of_memory : (e : Fail) (ps : Premises) → e ≡ fail.Memory → Agrees (Some e) ps
unfolding Agrees
out_of_memory e ps is = subst (λ f. Agrees (Some f) ps) (sym is) tt
