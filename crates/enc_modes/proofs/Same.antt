-- What `same` is at each form.
use Rattle.std.proofs.Common.{◌≡◌, ℕ, ◌==◌, Bool, ap, ◌∙◌}
use Rattle.enc_modes.specs.declared.ty.Alt.{Alt}
use Rattle.enc_modes.specs.declared.ty.Ty.{Ty, out-Ty}
use Rattle.enc_modes.specs.declared.ty.Ty.TheOpen.{Ty-F}
use Rattle.enc_modes.specs.declared.ty.Ty.TheViews.{roll-Ty, out-roll-Ty}
use Rattle.enc_modes.specs.declared.ty.Ty.TheVariants as ty
use Rattle.enc_modes.specs.declared.ty.Ty.TheVariants.{rolls-Int, rolls-Bool, rolls-Text, rolls-Unit, rolls-Actor, rolls-Cap, rolls-Bestowed, rolls-Fut, rolls-Par, rolls-List}
use Rattle.enc_modes.specs.declared.ty.Ty.TheFolds.{fold-roll-Ty}
use Rattle.enc_modes.specs.Order.{Cap}
use Rattle.enc_modes.specs.Equality.{same, same_layer, same_cap, same_alt}

-- what compares with the form
abbrev pub against : Ty-F (Ty → Bool) → Ty → Bool
against l u = same_layer l (out-Ty u)

pub same-int : (u : Ty) → same ty.Int u ≡ same_layer Ty-F.Int (out-Ty u)
unfolding same roll-Ty denote.Hole.Carrier.roll
same-int u = ap (λ z. same z u) (rolls-Int) ∙ ap (λ z. z u) (fold-roll-Ty (Ty → Bool) against (Ty-F.Int))

pub same-bool : (u : Ty) → same ty.Bool u ≡ same_layer Ty-F.Bool (out-Ty u)
unfolding same roll-Ty denote.Hole.Carrier.roll
same-bool u = ap (λ z. same z u) (rolls-Bool) ∙ ap (λ z. z u) (fold-roll-Ty (Ty → Bool) against (Ty-F.Bool))

pub same-text : (u : Ty) → same ty.Text u ≡ same_layer Ty-F.Text (out-Ty u)
unfolding same roll-Ty denote.Hole.Carrier.roll
same-text u = ap (λ z. same z u) (rolls-Text) ∙ ap (λ z. z u) (fold-roll-Ty (Ty → Bool) against (Ty-F.Text))

pub same-unit : (u : Ty) → same ty.Unit u ≡ same_layer Ty-F.Unit (out-Ty u)
unfolding same roll-Ty denote.Hole.Carrier.roll
same-unit u = ap (λ z. same z u) (rolls-Unit) ∙ ap (λ z. z u) (fold-roll-Ty (Ty → Bool) against (Ty-F.Unit))

pub same-actor : (k : ℕ) (u : Ty) → same (ty.Actor k) u ≡ same_layer (Ty-F.Actor k) (out-Ty u)
unfolding same roll-Ty denote.Hole.Carrier.roll
same-actor k u = ap (λ z. same z u) (rolls-Actor k) ∙ ap (λ z. z u) (fold-roll-Ty (Ty → Bool) against (Ty-F.Actor k))

pub same-cap : (gs : Cap) (u : Ty) → same (ty.Cap gs) u ≡ same_layer (Ty-F.Cap gs) (out-Ty u)
unfolding same roll-Ty denote.Hole.Carrier.roll
same-cap gs u = ap (λ z. same z u) (rolls-Cap gs) ∙ ap (λ z. z u) (fold-roll-Ty (Ty → Bool) against (Ty-F.Cap gs))

pub same-bestowed : (a : Alt) (u : Ty) → same (ty.Bestowed a) u ≡ same_layer (Ty-F.Bestowed a) (out-Ty u)
unfolding same roll-Ty denote.Hole.Carrier.roll
same-bestowed a u = ap (λ z. same z u) (rolls-Bestowed a) ∙ ap (λ z. z u) (fold-roll-Ty (Ty → Bool) against (Ty-F.Bestowed a))

pub same-fut : (t : Ty) (u : Ty) → same (ty.Fut t) u ≡ same_layer (Ty-F.Fut (same t)) (out-Ty u)
unfolding same roll-Ty denote.Hole.Carrier.roll
same-fut t u = ap (λ z. same z u) (rolls-Fut t) ∙ ap (λ z. z u) (fold-roll-Ty (Ty → Bool) against (Ty-F.Fut t))

pub same-par : (t : Ty) (u : Ty) → same (ty.Par t) u ≡ same_layer (Ty-F.Par (same t)) (out-Ty u)
unfolding same roll-Ty denote.Hole.Carrier.roll
same-par t u = ap (λ z. same z u) (rolls-Par t) ∙ ap (λ z. z u) (fold-roll-Ty (Ty → Bool) against (Ty-F.Par t))

pub same-list : (t : Ty) (u : Ty) → same (ty.List t) u ≡ same_layer (Ty-F.List (same t)) (out-Ty u)
unfolding same roll-Ty denote.Hole.Carrier.roll
same-list t u = ap (λ z. same z u) (rolls-List t) ∙ ap (λ z. z u) (fold-roll-Ty (Ty → Bool) against (Ty-F.List t))

pub both-actor : (k l : ℕ) → same (ty.Actor k) (ty.Actor l) ≡ (k == l)
unfolding roll-Ty denote.Hole.Carrier.roll
both-actor k l = same-actor k (ty.Actor l) ∙ ap (λ z. same_layer (Ty-F.Actor k) (out-Ty z)) (rolls-Actor l) ∙ ap (λ z. same_layer (Ty-F.Actor k) z) (out-roll-Ty (Ty-F.Actor l))

pub both-cap : (gs hs : Cap) → same (ty.Cap gs) (ty.Cap hs) ≡ (same_cap gs hs)
unfolding roll-Ty denote.Hole.Carrier.roll
both-cap gs hs = same-cap gs (ty.Cap hs) ∙ ap (λ z. same_layer (Ty-F.Cap gs) (out-Ty z)) (rolls-Cap hs) ∙ ap (λ z. same_layer (Ty-F.Cap gs) z) (out-roll-Ty (Ty-F.Cap hs))

pub both-bestowed : (a b : Alt) → same (ty.Bestowed a) (ty.Bestowed b) ≡ (same_alt a b)
unfolding roll-Ty denote.Hole.Carrier.roll
both-bestowed a b = same-bestowed a (ty.Bestowed b) ∙ ap (λ z. same_layer (Ty-F.Bestowed a) (out-Ty z)) (rolls-Bestowed b) ∙ ap (λ z. same_layer (Ty-F.Bestowed a) z) (out-roll-Ty (Ty-F.Bestowed b))

pub both-fut : (t u : Ty) → same (ty.Fut t) (ty.Fut u) ≡ (same t u)
unfolding roll-Ty denote.Hole.Carrier.roll
both-fut t u = same-fut t (ty.Fut u) ∙ ap (λ z. same_layer (Ty-F.Fut (same t)) (out-Ty z)) (rolls-Fut u) ∙ ap (λ z. same_layer (Ty-F.Fut (same t)) z) (out-roll-Ty (Ty-F.Fut u))

pub both-par : (t u : Ty) → same (ty.Par t) (ty.Par u) ≡ (same t u)
unfolding roll-Ty denote.Hole.Carrier.roll
both-par t u = same-par t (ty.Par u) ∙ ap (λ z. same_layer (Ty-F.Par (same t)) (out-Ty z)) (rolls-Par u) ∙ ap (λ z. same_layer (Ty-F.Par (same t)) z) (out-roll-Ty (Ty-F.Par u))

pub both-list : (t u : Ty) → same (ty.List t) (ty.List u) ≡ (same t u)
unfolding roll-Ty denote.Hole.Carrier.roll
both-list t u = same-list t (ty.List u) ∙ ap (λ z. same_layer (Ty-F.List (same t)) (out-Ty z)) (rolls-List u) ∙ ap (λ z. same_layer (Ty-F.List (same t)) z) (out-roll-Ty (Ty-F.List u))

pub ruleset same_forms = (same-int, same-bool, same-text, same-unit, same-actor, same-cap, same-bestowed, same-fut, same-par, same-list, both-actor, both-cap, both-bestowed, both-fut, both-par, both-list)
