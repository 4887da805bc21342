-- The first premise that doesn't hold, by recursion and in the row of all premises.
use Rattle.std.proofs.Common.{◌≡◌, ◌⊎◌, inl, inr, Bool, true, false, cond, List, [], ◌∷◌, ◌++◌, Option, Some, None, refl, sym, ap, ◌∙◌, append_assoc, arith}
use Rattle.std.specs.List.{AllByRecursion}
use Rattle.enc_ast.specs.declared.rules.Reject.{Reject}
use Rattle.enc_premises.specs.Premises.{Premises, none, premise, then}
use Rattle.enc_premises.specs.First.{AllHold, nothing, one, join, Judged, listed, FirstFailure}
use Rattle.enc_premises.specs.Passing.{first, or_else}

abbrev Hold : List Judged → Type 0
Hold = AllByRecursion (λ j. j.holds ≡ true)

abbrev first_in : List Judged → Option Reject
first_in [] = None
first_in (p ∷ ps) = cond p.holds (first_in ps) (Some p.is)

split_none : (a b : Option Reject) → or_else a b ≡ None → (a ≡ None) × (b ≡ None)
split_none None b e = (refl, e)
split_none (Some f) b e = absurd (grind arith)

split_some : (a b : Option Reject) (f : Reject) → or_else a b ≡ Some f → (a ≡ Some f) ⊎ ((a ≡ None) × (b ≡ Some f))
split_some None b f e = inr (refl, e)
split_some (Some g) b f e = inl e

pub hold_first : (c : Premises) → AllHold c → first c ≡ None
hold_first none h = refl
hold_first (premise r s b) (one e) = ap (λ z. cond z None (Some (record { rule = r; span = s }))) e
hold_first (then a b) (join h i) = ap (λ z. or_else z (first b)) (hold_first a h) ∙ hold_first b i

pub first_hold : (c : Premises) → first c ≡ None → AllHold c
first_hold none h = nothing
first_hold (premise r s true) h = one refl
first_hold (premise r s false) h = absurd (grind arith)
first_hold (then a b) h = let p = split_none (first a) (first b) h in join (first_hold a p.0) (first_hold b p.1)

hold_append : (a b : List Judged) → Hold a → Hold b → Hold (a ++ b)
hold_append [] b h i = i
hold_append (p ∷ a) b h i = (h.0, hold_append a b h.1 i)

hold_listed : (c : Premises) → AllHold c → Hold (listed c)
hold_listed none h = tt
hold_listed (premise r s b) (one e) = (e, tt)
hold_listed (then a b) (join h i) = hold_append (listed a) (listed b) (hold_listed a h) (hold_listed b i)

-- The first of a row, before it is known which.
record Front (ps : List Judged) (f : Reject) : Type 0 where
  before : List Judged
  after : List Judged
  split : ps ≡ before ++ record { is = f; holds = false } ∷ after
  hold : Hold before

front : (c : Premises) (f : Reject) → first c ≡ Some f → Front (listed c) f
front none f h = absurd (grind arith)
front (premise r s true) f h = absurd (grind arith)
front (premise r s false) f h = let e : record { rule = r; span = s } ≡ f = grind arith in record { before = []; after = []; split = ap (λ (z : Reject). record { is = z; holds = false } ∷ []) e; hold = tt }
front (then a b) f h = go (split_some (first a) (first b) f h) (λ e. front a f e) (λ e. front b f e)
  where
    go : (first a ≡ Some f) ⊎ ((first a ≡ None) × (first b ≡ Some f)) → (first a ≡ Some f → Front (listed a) f) → (first b ≡ Some f → Front (listed b) f) → Front (listed a ++ listed b) f
    go (inl e) l r = let p = l e in record { before = p.before; after = p.after ++ listed b; split = ap (λ z. z ++ listed b) p.split ∙ append_assoc p.before _ _; hold = p.hold }
    go (inr e) l r = let p = r e.1 in record { before = listed a ++ p.before; after = p.after; split = ap (λ z. listed a ++ z) p.split ∙ sym (append_assoc (listed a) p.before _); hold = hold_append (listed a) p.before (hold_listed a (first_hold a e.0)) p.hold }

pub first_is : (c : Premises) (f : Reject) → first c ≡ Some f → FirstFailure c f
first_is c f h = let p = front c f h in record { before = p.before; after = p.after; split = p.split; hold = p.hold }

hold_first_in : (before : List Judged) (f : Reject) (after : List Judged) → Hold before → first_in (before ++ record { is = f; holds = false } ∷ after) ≡ Some f
hold_first_in [] f after h = refl
hold_first_in (p ∷ ps) f after h = ap (λ z. cond z (first_in (ps ++ record { is = f; holds = false } ∷ after)) (Some p.is)) h.0 ∙ hold_first_in ps f after h.1

first_in_append : (a b : List Judged) → first_in (a ++ b) ≡ or_else (first_in a) (first_in b)
first_in_append [] b = refl
first_in_append (p ∷ a) b = go p.holds (first_in_append a b)
  where
    go : (c : Bool) → first_in (a ++ b) ≡ or_else (first_in a) (first_in b) → cond c (first_in (a ++ b)) (Some p.is) ≡ or_else (cond c (first_in a) (Some p.is)) (first_in b)
    go true e = e
    go false e = refl

first_listed : (c : Premises) → first c ≡ first_in (listed c)
first_listed none = refl
first_listed (premise r s b) = refl
first_listed (then a b) = ap (λ z. or_else z (first b)) (first_listed a) ∙ (ap (λ z. or_else (first_in (listed a)) z) (first_listed b) ∙ sym (first_in_append (listed a) (listed b)))

-- what is the first in the row is what the recursion gives
pub is_first : (c : Premises) (f : Reject) → FirstFailure c f → first c ≡ Some f
is_first c f i = first_listed c ∙ (ap first_in i.split ∙ hold_first_in i.before f i.after i.hold)
