-- When two types are the same.
use Rattle.std.specs.Prelude.{◌==◌, Bool, true, false, ◌&&◌, [], ◌∷◌}
use Rattle.enc_modes.specs.declared.ty.Alt.{Alt}
use Rattle.enc_modes.specs.declared.ty.Mode.{Mode}
use Rattle.enc_modes.specs.declared.ty.Mode.TheVariants as mode
use Rattle.enc_modes.specs.declared.ty.Ty.{Ty, out-Ty}
use Rattle.enc_modes.specs.declared.ty.Ty.TheOpen.{Ty-F}
use Rattle.enc_modes.specs.declared.ty.Ty.TheFolds.{fold-Ty}
use Rattle.enc_modes.specs.Order.{Group, Cap}

abbrev pub same_mode : Mode → Mode → Bool
same_mode mode.Linear mode.Linear = true
same_mode mode.Local mode.Local = true
same_mode mode.Read mode.Read = true
same_mode mode.Subordinate mode.Subordinate = true
same_mode _ _ = false

abbrev pub same_alt : Alt → Alt → Bool
same_alt a b = (a.number == b.number) && same_mode a.mode b.mode

abbrev pub same_group : Group → Group → Bool
same_group [] [] = true
same_group (a ∷ alts) (b ∷ brts) = same_alt a b && same_group alts brts
same_group _ _ = false

abbrev pub same_cap : Cap → Cap → Bool
same_cap [] [] = true
same_cap (g ∷ gs) (h ∷ hs) = same_group g h && same_cap gs hs
same_cap _ _ = false

-- one type, of which parts are compared already, and another
abbrev pub same_layer : Ty-F (Ty → Bool) → Ty-F Ty → Bool
same_layer Ty-F.Int Ty-F.Int = true
same_layer Ty-F.Bool Ty-F.Bool = true
same_layer Ty-F.Text Ty-F.Text = true
same_layer Ty-F.Unit Ty-F.Unit = true
same_layer (Ty-F.Actor k) (Ty-F.Actor l) = k == l
same_layer (Ty-F.Cap gs) (Ty-F.Cap hs) = same_cap gs hs
same_layer (Ty-F.Bestowed a) (Ty-F.Bestowed b) = same_alt a b
same_layer (Ty-F.Fut t) (Ty-F.Fut u) = t u
same_layer (Ty-F.Par t) (Ty-F.Par u) = t u
same_layer (Ty-F.List t) (Ty-F.List u) = t u
same_layer _ _ = false

-- both are the same type
unfoldable pub same : Ty → Ty → Bool
same t = fold-Ty (Ty → Bool) (λ l u. same_layer l (out-Ty u)) t
