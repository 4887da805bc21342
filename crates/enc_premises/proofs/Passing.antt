-- How the answer for a part passes on to the whole.
use Rattle.std.proofs.Common.{◌≡◌, Option, Some, None, refl, ap, ◌∙◌}
use Rattle.enc_ast.specs.declared.rules.Fail.{Fail}
use Rattle.enc_ast.specs.declared.rules.Fail.TheVariants as fail
use Rattle.enc_premises.specs.Premises.{Premises, none, ◌⨾◌}
use Rattle.enc_premises.specs.Passing.{first, or_else, Agrees, IsMemory}

pub none_first : (c : Premises) → Agrees None c → first c ≡ None
unfolding Agrees
none_first c p = p

pub both : (x y : Premises) → Agrees None x → Agrees None y → Agrees None (x ⨾ y)
unfolding Agrees
both x y p q = ap (λ z. or_else z (first y)) p ∙ q

-- a failure of the first part
pub here : (e : Fail) (x y : Premises) → Agrees (Some e) x → Agrees (Some e) (x ⨾ y)
unfolding Agrees
here fail.Memory x y p = tt
here (fail.Reject f) x y p = ap (λ z. or_else z (first y)) p

-- a failure of the second part
pub later : (e : Fail) (x y : Premises) → Agrees None x → Agrees (Some e) y → Agrees (Some e) (x ⨾ y)
unfolding Agrees
later fail.Memory x y n p = tt
later (fail.Reject f) x y n p = ap (λ z. or_else z (first y)) n ∙ p

pub nothing : Agrees None none
unfolding Agrees
nothing = refl

-- whatever comes of the second part comes of the whole
pub over : (x y : Premises) → Agrees None x → (o : Option Fail) → Agrees o y → Agrees o (x ⨾ y)
over x y p None q = both x y p q
over x y p (Some e) q = later e x y p q

pub memory : (e : Fail) (c : Premises) → IsMemory (Some e) → Agrees (Some e) c
unfolding Agrees IsMemory
memory fail.Memory c p = tt
memory (fail.Reject f) c p = absurd p

pub no_fault : IsMemory None
unfolding IsMemory
no_fault = tt

pub is_memory : IsMemory (Some fail.Memory)
unfolding IsMemory
is_memory = tt

pub ruleset passing = (both, here, later, nothing, memory)
