-- The test of sameness tells equality.
use Rattle.std.specs.Prelude.{◌≡◌, ◌↔◌, IsTrue, Bool, true}
use Rattle.std.proofs.Common.{refl, ap, sym, subst, ◌∙◌, eq-eqb}
use Rattle.std.proofs.lemmas.Bool.{false≢true}
use Rattle.std.proofs.lemmas.Bool.Decides.{Decides-eqb}
use Rattle.enc_modes.specs.declared.ty.Ty.{Ty, out-Ty}
use Rattle.enc_modes.specs.declared.ty.Ty.TheOpen.{Ty-F}
use Rattle.enc_modes.specs.declared.ty.Ty.TheViews.{roll-Ty, out-roll-Ty, roll-out-Ty}
use Rattle.enc_modes.specs.declared.ty.Ty.TheFolds.{ind-Ty, fold-roll-Ty, map-Ty}
use Rattle.enc_modes.specs.Equality.{same, same_layer}
use Rattle.enc_modes.proofs.Same.{against}
use Rattle.enc_modes.proofs.Tells.{alt_tells, cap_tells}

-- a type that is equal to each that is the same
abbrev Known : Type 0
Known = (t : Ty) × ((u : Ty) → same t u ≡ true → t ≡ u)

-- the types of a layer
abbrev types : Ty-F Known → Ty-F Ty
types y = map-Ty Known Ty (λ e. e.0) y

-- the tests of a layer's types
abbrev tests : Ty-F Ty → Ty-F (Ty → Bool)
tests l = map-Ty Ty (Ty → Bool) same l

-- sameness layer by layer
same_rolled : (l : Ty-F Ty) (u : Ty) → same (roll-Ty l) u ≡ same_layer (tests l) (out-Ty u)
unfolding same
same_rolled l u = ap (λ z. z u) (fold-roll-Ty (Ty → Bool) against l)

-- layers that are the same are equal
layer_equal : (y : Ty-F Known) (l : Ty-F Ty) → same_layer (tests (types y)) l ≡ true → types y ≡ l
layer_equal Ty-F.Int Ty-F.Int h = refl
layer_equal Ty-F.Bool Ty-F.Bool h = refl
layer_equal Ty-F.Text Ty-F.Text h = refl
layer_equal Ty-F.Unit Ty-F.Unit h = refl
layer_equal (Ty-F.Actor k) (Ty-F.Actor l) h = ap Ty-F.Actor ((Decides-eqb k l).0 h)
layer_equal (Ty-F.Cap gs) (Ty-F.Cap hs) h = ap Ty-F.Cap (cap_tells.equal gs hs h)
layer_equal (Ty-F.Bestowed a) (Ty-F.Bestowed b) h = ap Ty-F.Bestowed (alt_tells.equal a b h)
layer_equal (Ty-F.Fut t) (Ty-F.Fut u) h = ap Ty-F.Fut (t.1 u h)
layer_equal (Ty-F.Par t) (Ty-F.Par u) h = ap Ty-F.Par (t.1 u h)
layer_equal (Ty-F.List t) (Ty-F.List u) h = ap Ty-F.List (t.1 u h)
layer_equal _ _ h = absurd (false≢true h)

-- types that are the same are equal
pub same_equal : (t u : Ty) → same t u ≡ true → t ≡ u
same_equal = ind-Ty (λ t. (u : Ty) → same t u ≡ true → t ≡ u) (λ x y is u h.
    let e : same_layer (tests x) (out-Ty u) ≡ true = sym (same_rolled x u) ∙ h in
    let f : types y ≡ out-Ty u = layer_equal y (out-Ty u) (rw is e) in
    ap roll-Ty (sym is ∙ f) ∙ roll-out-Ty u)

-- a type that is the same as itself
abbrev Itself : Type 0
Itself = (t : Ty) × (same t t ≡ true)

-- a layer of such types is the same as itself
layer_itself : (y : Ty-F Itself) → same_layer (tests (map-Ty Itself Ty (λ e. e.0) y)) (map-Ty Itself Ty (λ e. e.0) y) ≡ true
layer_itself Ty-F.Int = refl
layer_itself Ty-F.Bool = refl
layer_itself Ty-F.Text = refl
layer_itself Ty-F.Unit = refl
layer_itself (Ty-F.Actor k) = eq-eqb k k refl
layer_itself (Ty-F.Cap gs) = cap_tells.itself gs
layer_itself (Ty-F.Bestowed a) = alt_tells.itself a
layer_itself (Ty-F.Fut t) = t.1
layer_itself (Ty-F.Par t) = t.1
layer_itself (Ty-F.List t) = t.1

-- each type is the same as itself
same_itself : (t : Ty) → same t t ≡ true
same_itself = ind-Ty (λ t. same t t ≡ true) (λ x y is.
    same_rolled x (roll-Ty x) ∙ ap (λ z. same_layer (tests x) z) (out-roll-Ty x) ∙ (rw is at (layer_itself y)))

-- sameness is equality
pub same_is_equal : (t u : Ty) → IsTrue (same t u) ↔ (t ≡ u)
same_is_equal t u = (same_equal t u, λ e. subst (λ z. same t z ≡ true) e (same_itself t))
