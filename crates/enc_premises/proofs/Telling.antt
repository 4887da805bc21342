-- What an answer that agrees with the premises tells.
use Rattle.std.proofs.Common.{◌≡◌, ◌⊎◌, inl, inr, refl, Option, Some, None, sym, ◌∙◌, arith}
use Rattle.enc_ast.specs.declared.rules.Reject.{Reject}
use Rattle.enc_ast.specs.declared.rules.Fail.{Fail}
use Rattle.enc_ast.specs.declared.rules.Fail.TheVariants as fail
use Rattle.enc_premises.specs.Premises.{Premises}
use Rattle.enc_premises.specs.First.{AllHold, FirstFailure}
use Rattle.enc_premises.specs.Passing.{Agrees, TellsFault, IsMemory, first}
use Rattle.enc_premises.proofs.Listed.{is_first, first_hold, first_is, hold_first}

pub tells : (o : Option Fail) (ps : Premises) → Agrees o ps → TellsFault o ps
unfolding Agrees
tells None ps p = first_hold ps p
tells (Some fail.Memory) ps p = tt
tells (Some (fail.Reject f)) ps p = first_is ps f p

pub accepts : (o : Option Fail) (ps : Premises) → Agrees o ps → AllHold ps → IsMemory o
unfolding Agrees IsMemory
accepts None ps p h = tt
accepts (Some fail.Memory) ps p h = tt
accepts (Some (fail.Reject f)) ps p h = let q : None ≡ Some f = sym (hold_first ps h) ∙ p in absurd (grind arith)

pub either : (ps : Premises) → AllHold ps ⊎ ((f : Reject) × FirstFailure ps f)
either ps = go (first ps) refl
  where
    go : (o : Option Reject) → first ps ≡ o → AllHold ps ⊎ ((f : Reject) × FirstFailure ps f)
    go None e = inl (first_hold ps e)
    go (Some f) e = inr (f, first_is ps f e)

pub not_both : (ps : Premises) (f : Reject) → AllHold ps → FirstFailure ps f → ⊥
not_both ps f h i = let q : None ≡ Some f = sym (hold_first ps h) ∙ is_first ps f i in grind arith

pub unique : (ps : Premises) (f g : Reject) → FirstFailure ps f → FirstFailure ps g → f ≡ g
unique ps f g i j = let e : Some f ≡ Some g = sym (is_first ps f i) ∙ is_first ps g j in grind arith
