-- What the modes of types allow.
use Rattle.std.specs.Prelude.{◌==◌, ℕ, Bool, true, false, not, ◌&&◌, ◌||◌, cond, List, [], ◌∷◌, ◌++◌, map, flat_map, Option, Some, None}
use Rattle.enc_modes.specs.declared.ty.Alt.{Alt}
use Rattle.enc_modes.specs.declared.ty.Mode.{Mode}
use Rattle.enc_modes.specs.declared.ty.Mode.TheVariants as mode
use Rattle.enc_modes.specs.declared.ty.Ty.{Ty, out-Ty}
use Rattle.enc_modes.specs.declared.ty.Ty.TheOpen.{Ty-F}
use Rattle.enc_modes.specs.Order.{Group, Cap, in_order}
use Rattle.enc_modes.specs.Parting.{parted}

abbrev pub linear_mode : Mode → Bool
linear_mode mode.Linear = true
linear_mode mode.Local = false
linear_mode mode.Read = false
linear_mode mode.Subordinate = false

abbrev pub read_mode : Mode → Bool
read_mode mode.Linear = false
read_mode mode.Local = false
read_mode mode.Read = true
read_mode mode.Subordinate = false

-- the mode of a capability type: that of its trait where it is one trait, and otherwise linear
abbrev pub mode_of : Cap → Mode
mode_of ((a ∷ []) ∷ []) = a.mode
mode_of _ = mode.Linear

-- ---- types

abbrev linear_layer : Ty-F Ty → Bool
linear_layer (Ty-F.Cap gs) = linear_mode (mode_of gs)
linear_layer _ = false

-- a reference of it has no other beside it
unfoldable pub is_linear : Ty → Bool
is_linear t = linear_layer (out-Ty t)

abbrev shareable_layer : Ty-F Ty → Bool
shareable_layer (Ty-F.Cap gs) = read_mode (mode_of gs)
shareable_layer _ = true

-- a value of it may be held by several actors
unfoldable pub is_shareable : Ty → Bool
is_shareable t = shareable_layer (out-Ty t)

-- a value of it may go to another actor
abbrev pub is_sendable : Ty → Bool
is_sendable t = is_linear t || is_shareable t

-- ---- capability types

-- the traits of all groups, by their numbers
abbrev pub traits_of : Cap → List ℕ
traits_of gs = flat_map (map (λ a. a.number)) gs

abbrev pub contains : List ℕ → ℕ → Bool
contains [] n = false
contains (m ∷ ms) n = (m == n) || contains ms n

-- none of them stands twice
abbrev pub distinct : List ℕ → Bool
distinct [] = true
distinct (n ∷ ns) = not (contains ns n) && distinct ns

-- some number stands in both
abbrev pub overlap : List ℕ → List ℕ → Bool
overlap [] ms = false
overlap (n ∷ ns) ms = contains ms n || overlap ns ms

-- it is a linear trait or a disjunction
abbrev pub can_join : Group → Bool
can_join (a ∷ []) = linear_mode a.mode
can_join _ = true

abbrev pub all_join : Cap → Bool
all_join [] = true
all_join (g ∷ gs) = can_join g && all_join gs

abbrev pub joins : Cap → Bool
joins (g ∷ h ∷ gs) = all_join (g ∷ h ∷ gs)
joins _ = true

-- No trait stands in it twice, and of several groups each is a linear trait or a disjunction.
unfoldable pub composes : Cap → Bool
composes gs = distinct (traits_of gs) && joins gs

-- it has a trait
abbrev pub some_trait : Group → Bool
some_trait [] = false
some_trait (a ∷ alts) = true

-- it has a group
abbrev pub some_group : Cap → Bool
some_group [] = false
some_group (g ∷ gs) = true

-- the groups of both
abbrev pub union : Cap → Cap → Cap
union left right = in_order (left ++ right)

-- whole is linear, and the two are its groups parted, neither without a group
unfoldable pub split_of : Cap → Cap → Cap → Bool
split_of whole left right = linear_mode (mode_of whole) && (some_group left && (some_group right && parted whole left right))

-- both are linear, and they share no trait
abbrev pub can_pack : Cap → Cap → Bool
can_pack left right = linear_mode (mode_of left) && (linear_mode (mode_of right) && not (overlap (traits_of left) (traits_of right)))

-- the groups of both, or none where they can't be packed
unfoldable pub pack_of : Cap → Cap → Option Cap
pack_of left right = cond (can_pack left right) (Some (union left right)) None

abbrev pub alt_in : Group → ℕ → Option Alt
alt_in [] n = None
alt_in (a ∷ alts) n = cond (a.number == n) (Some a) (alt_in alts n)

-- the trait of one disjunction, or none where it isn't one with that trait
unfoldable pub choose_of : Cap → ℕ → Option Alt
choose_of ((a ∷ b ∷ alts) ∷ []) n = alt_in (a ∷ b ∷ alts) n
choose_of _ n = None
