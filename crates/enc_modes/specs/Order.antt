-- The order of declaration.
use Rattle.std.specs.Prelude.{ℕ, nat_lt, cond, List, [], ◌∷◌, map}
use Rattle.enc_modes.specs.declared.ty.Alt.{Alt}

-- the traits of a group
abbrev pub Group : Type 0
Group = List Alt

-- the groups of a capability type
abbrev pub Cap : Type 0
Cap = List Group

-- x is put before the first that doesn't come before it
abbrev pub insert : {A : Type 0} → (A → ℕ) → A → List A → List A
insert key x [] = x ∷ []
insert key x (y ∷ ys) = cond (nat_lt (key y) (key x)) (y ∷ insert key x ys) (x ∷ y ∷ ys)

-- Sorted by their keys. Those of one key stay as they were.
abbrev pub sorted : {A : Type 0} → (A → ℕ) → List A → List A
sorted key [] = []
sorted key (x ∷ xs) = insert key x (sorted key xs)

-- the declaration by which a group has its place
abbrev pub place_of : Group → ℕ
place_of [] = 0
place_of (a ∷ alts) = a.number

-- the groups, and the traits inside each, in order of declaration
unfoldable pub in_order : Cap → Cap
in_order gs = sorted place_of (map (sorted (λ a. a.number)) gs)
