-- What types are made of.
use Rattle.std.specs.Prelude.{Bool, true, false, [], ◌∷◌, Option, Some, None, is_some, option_map, option_and_then}
use Rattle.enc_modes.specs.declared.ty.Alt.{Alt}
use Rattle.enc_modes.specs.declared.ty.Mode.{Mode}
use Rattle.enc_modes.specs.declared.ty.Mode.TheVariants as mode
use Rattle.enc_modes.specs.declared.ty.Ty.{Ty, out-Ty}
use Rattle.enc_modes.specs.declared.ty.Ty.TheOpen.{Ty-F}
use Rattle.enc_modes.specs.declared.ty.Ty.TheVariants as ty
use Rattle.enc_modes.specs.Order.{Cap}
use Rattle.enc_modes.specs.Modes.{mode_of, split_of, pack_of, choose_of}
use Rattle.enc_modes.specs.Equality.{same}

abbrev pub future_layer : Ty-F Ty → Option Ty
future_layer (Ty-F.Fut t) = Some t
future_layer _ = None

-- the type of what a future will be
unfoldable pub future_of : Ty → Option Ty
future_of t = future_layer (out-Ty t)

abbrev pub tree_layer : Ty-F Ty → Option Ty
tree_layer (Ty-F.Par t) = Some t
tree_layer _ = None

-- the type of the values of a tree
unfoldable pub tree_of : Ty → Option Ty
tree_of t = tree_layer (out-Ty t)

-- the type of the values of a tree of trees
abbrev pub tree_of_trees : Ty → Option Ty
tree_of_trees t = option_and_then tree_of (tree_of t)

abbrev cap_layer : Ty-F Ty → Option Cap
cap_layer (Ty-F.Cap gs) = Some gs
cap_layer _ = None

-- the groups of a capability type
unfoldable pub cap_of : Ty → Option Cap
cap_of t = cap_layer (out-Ty t)

abbrev pub is_cap : Ty → Bool
is_cap t = is_some (cap_of t)

abbrev target_layer : Ty-F Ty → Bool
target_layer (Ty-F.Actor k) = true
target_layer (Ty-F.Bestowed a) = true
target_layer _ = false

-- an active class or a bestowed trait, to which messages can be sent
unfoldable pub is_target : Ty → Bool
is_target t = target_layer (out-Ty t)

abbrev subordinate_mode : Mode → Bool
subordinate_mode mode.Subordinate = true
subordinate_mode _ = false

abbrev subordinate_layer : Ty-F Ty → Bool
subordinate_layer (Ty-F.Cap gs) = subordinate_mode (mode_of gs)
subordinate_layer _ = false

unfoldable pub is_subordinate : Ty → Bool
is_subordinate t = subordinate_layer (out-Ty t)

-- both are of one type, as far as that is known
abbrev pub agree : Option Ty → Option Ty → Bool
agree None u = true
agree (Some t) None = true
agree (Some t) (Some u) = same t u

-- ---- capability types that are split, packed and chosen from

abbrev split_caps : Option Cap → Option Cap → Option Cap → Bool
split_caps (Some w) (Some l) (Some r) = split_of w l r
split_caps _ _ _ = false

-- the two types are the groups of the whole, parted in two
unfoldable pub splits : Ty → Ty → Ty → Bool
splits whole left right = split_caps (cap_of whole) (cap_of left) (cap_of right)

abbrev packed_caps : Option Cap → Option Cap → Option Ty
packed_caps (Some l) (Some r) = option_map ty.Cap (pack_of l r)
packed_caps _ _ = None

-- the type of the groups of both
unfoldable pub packed : Ty → Ty → Option Ty
packed left right = packed_caps (cap_of left) (cap_of right)

-- the type of a reference by this trait alone
abbrev pub chosen_alt : Alt → Ty
chosen_alt a = ty.Cap ((a ∷ []) ∷ [])

abbrev chosen_cap : Option Cap → Option Alt → Option Ty
chosen_cap (Some gs) (Some a) = option_map chosen_alt (choose_of gs a.number)
chosen_cap _ _ = None

-- the type of a reference whose disjunction is narrowed to the trait
unfoldable pub chosen : Ty → Option Alt → Option Ty
chosen t a = chosen_cap (cap_of t) a

-- what is chosen has the trait as its type, also where the type of the whole isn't known
abbrev pub choice_of : Option Ty → Option Alt → Option Ty
choice_of None a = option_map chosen_alt a
choice_of (Some t) a = chosen t a
