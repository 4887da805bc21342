-- Where memory ran out.
use Rattle.std.proofs.Common.{◌≡◌, Some, sym, subst}
use Rattle.enc_ast.specs.declared.rules.Fail.{Fail}
use Rattle.enc_ast.specs.declared.rules.Fail.TheVariants as fail
use Rattle.enc_premises.specs.Passing.{IsMemory}
use Rattle.enc_premises.proofs.Passing.{is_memory, no_fault}

-- a failure that is one of memory
pub out : (e : Fail) → e ≡ fail.Memory → IsMemory (Some e)
out e is = subst (λ f. IsMemory (Some f)) (sym is) is_memory

pub ruleset memory = (is_memory, no_fault, out)
