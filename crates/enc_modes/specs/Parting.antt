-- Groups parted in two, in whatever order they and their traits stand.
use Rattle.std.specs.Prelude.{◌==◌, ℕ, nat_lt, ◌+◌, Bool, true, ◌&&◌, List, ◌∷◌, ◌++◌, length, filter}
use Rattle.std.specs.List.{list_all}
use Rattle.enc_modes.specs.Order.{Group, Cap, place_of}
use Rattle.enc_modes.specs.Equality.{same_alt}

-- how many of them are like x
abbrev pub times : {A : Type 0} → (A → A → Bool) → A → List A → ℕ
times like x xs = length (filter (like x) xs)

-- each trait stands in both equally often
abbrev pub alike : Group → Group → Bool
alike g h = list_all (λ a. times same_alt a g == times same_alt a h) (g ++ h)

-- a group stands in whole as often as in both parts together
abbrev pub balanced : Cap → Cap → Cap → Group → Bool
balanced whole left right g = times alike g whole == times alike g left + times alike g right

-- each group of the three does
abbrev pub parted : Cap → Cap → Cap → Bool
parted whole left right = list_all (balanced whole left right) (whole ++ (left ++ right))

-- each key is above the one before it
abbrev pub ascends : {A : Type 0} → (A → ℕ) → List A → Bool
ascends key (x ∷ y ∷ ys) = nat_lt (key x) (key y) && ascends key (y ∷ ys)
ascends key _ = true

-- groups ascend by their places, and the traits of each by their numbers
abbrev pub ordered : Cap → Bool
ordered gs = ascends place_of gs && list_all (ascends (λ a. a.number)) gs
