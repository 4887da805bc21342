-- What is known of a part of a type.
use Rattle.std.proofs.Common.{◌≡◌, Bool, true, false, Some, None, refl, arith}
use Rattle.enc_ast.specs.declared.rules.Rule.{Rule}
use Rattle.enc_ast.specs.declared.rules.Span.{Span}
use Rattle.enc_ast.specs.declared.rules.Fail.TheVariants as fail
use Rattle.enc_premises.specs.Premises.{Premises, premise}
use Rattle.enc_premises.specs.Passing.{Agrees}

-- a premise that nothing was said against holds
pub held : (r : Rule) (s : Span) (b : Bool) → Agrees None (premise r s b) → b ≡ true
unfolding Agrees
held r s true p = refl
held r s false p = absurd (grind arith)

-- what is not known breaks no rule
pub unknown : (r : Rule) (s : Span) → Agrees None (premise r s true)
unfolding Agrees
unknown r s = refl

-- where memory ran out nothing is said
pub out_of_memory : (ps : Premises) → Agrees (Some fail.Memory) ps
unfolding Agrees
out_of_memory ps = tt

pub ruleset parts = (held, unknown, out_of_memory)
