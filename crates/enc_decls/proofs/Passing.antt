-- How the answer for a part passes on, where memory may run out between parts.
use Rattle.std.proofs.Common.{◌≡◌, Bool, true, false, Some, None, refl, arith}
use Rattle.enc_ast.specs.declared.rules.Fail.{Fail}
use Rattle.enc_ast.specs.declared.rules.Fail.TheVariants as fail
use Rattle.enc_ast.specs.declared.rules.Rule.{Rule}
use Rattle.enc_ast.specs.declared.rules.Span.{Span}
use Rattle.enc_premises.specs.Premises.{Premises, premise}
use Rattle.enc_premises.specs.Passing.{Agrees}
use Rattle.enc_premises.proofs.Passing.{both, here, later, nothing, over}

-- where memory ran out nothing is known
pub no_memory : (e : Fail) (c : Premises) → e ≡ fail.Memory → Agrees (Some e) c
unfolding Agrees
no_memory e c p = rw p tt

-- how each exit of a node passes on
pub ruleset passing = (both, here, later, nothing, over, no_memory)

-- a premise that holds
pub demanded : (r : Rule) (s : Span) (b : Bool) → Agrees None (premise r s b) → b ≡ true
unfolding Agrees
demanded r s true p = refl
demanded r s false p = absurd (grind arith)
