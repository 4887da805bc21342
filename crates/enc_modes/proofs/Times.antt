-- How often an element stands in a list.
use Rattle.std.specs.Prelude.{◌≡◌, ◌==◌, ◌⊎◌, ℕ, ◌+◌, ◌<◌, Bool, true, false, cond, List, [], ◌∷◌, ◌++◌, length, filter}
use Rattle.std.specs.List.{list_all}
use Rattle.std.proofs.Common.{refl, arith, ap, sym, subst, ◌∙◌, inl, inr, eq-eqb}
use Rattle.std.proofs.lemmas.Bool.{false≢true}
use Rattle.std.proofs.lemmas.Bool.Decides.{Decides-eqb}
use Rattle.enc_modes.specs.declared.ty.Alt.{Alt}
use Rattle.enc_modes.specs.Order.{Group}
use Rattle.enc_modes.specs.Equality.{same_alt}
use Rattle.enc_modes.specs.Parting.{times, alike}
use Rattle.enc_modes.proofs.Tells.{alt_tells, and_left, and_right}

-- ---- elements

-- It is one of them.
abbrev pub In : {A : Type 0} → A → List A → Type 0
In x [] = ⊥
In x (y ∷ ys) = (y ≡ x) ⊎ In x ys

-- what holds of all holds of one of them
pub all_at : {A : Type 0} (p : A → Bool) (xs : List A) (x : A) → list_all p xs ≡ true → In x xs → p x ≡ true
all_at p [] x h i = absurd i
all_at p (y ∷ ys) x h i = elim i [
  | inl e ↦ subst (λ z. p z ≡ true) e (and_left (p y) (list_all p ys) h)
  | inr j ↦ all_at p ys x (and_right (p y) (list_all p ys) h) j
]

-- one of the first list
pub in_left : {A : Type 0} (xs ys : List A) (x : A) → In x xs → In x (xs ++ ys)
in_left [] ys x i = absurd i
in_left (z ∷ xs) ys x i = elim i [ inl e ↦ inl e | inr j ↦ inr (in_left xs ys x j) ]

-- one of the second
pub in_right : {A : Type 0} (xs ys : List A) (x : A) → In x ys → In x (xs ++ ys)
in_right [] ys x i = i
in_right (z ∷ xs) ys x i = inr (in_right xs ys x i)

-- tests that agree on all of them let the same through
pub filter_same : {A : Type 0} (p q : A → Bool) (xs : List A) → ((x : A) → In x xs → p x ≡ q x) → filter p xs ≡ filter q xs
filter_same p q [] h = refl
filter_same p q (x ∷ xs) h = rw (h x (inl refl), filter_same p q xs (λ y i. h y (inr i))) refl

-- what a test lets through is one of them, and passes
pub passed : {A : Type 0} (p : A → Bool) (xs : List A) (x : A) → In x (filter p xs) → In x xs × (p x ≡ true)
passed p [] x i = absurd i
passed p (y ∷ xs) x i = go (p y) refl i (passed p xs x)
  where
    go : (b : Bool) → p y ≡ b → In x (cond b (y ∷ filter p xs) (filter p xs)) → (In x (filter p xs) → In x xs × (p x ≡ true)) → In x (y ∷ xs) × (p x ≡ true)
    go true e j r = elim j [ inl q ↦ (inl q, subst (λ z. p z ≡ true) q e) | inr k ↦ (inr (r k).0, (r k).1) ]
    go false e j r = (inr (r j).0, (r j).1)

-- one passes, or none does
pub some_passes : {A : Type 0} (p : A → Bool) (xs : List A) → ((x : A) × In x xs × (p x ≡ true)) ⊎ (filter p xs ≡ [])
some_passes p [] = inr refl
some_passes {A} p (y ∷ xs) = go (p y) refl (some_passes p xs)
  where
    go : (b : Bool) → p y ≡ b → ((x : A) × In x xs × (p x ≡ true)) ⊎ (filter p xs ≡ []) → ((x : A) × In x (y ∷ xs) × (p x ≡ true)) ⊎ (cond b (y ∷ filter p xs) (filter p xs) ≡ [])
    go true e s = inl (y, inl refl, e)
    go false e s = elim s [ inl t ↦ inl (t.0, inr t.1, t.2) | inr t ↦ inr t ]

-- where none does, none of them passes
pub none_passes : {A : Type 0} (p : A → Bool) (xs : List A) (x : A) → filter p xs ≡ [] → In x xs → p x ≡ true → ⊥
none_passes p [] x n i e = absurd i
none_passes p (y ∷ xs) x n i e = go (p y) refl n i (none_passes p xs x)
  where
    go : (b : Bool) → p y ≡ b → cond b (y ∷ filter p xs) (filter p xs) ≡ [] → (y ≡ x) ⊎ In x xs → (filter p xs ≡ [] → In x xs → p x ≡ true → ⊥) → ⊥
    go true f n j r = absurd (grind arith)
    go false f n j r = elim j [ inl q ↦ false≢true (sym (subst (λ z. p z ≡ false) q f) ∙ e) | inr k ↦ r n k e ]

-- ---- how often

-- one more in front
pub times_cons : {A : Type 0} (like : A → A → Bool) (g x : A) (xs : List A) → times like g (x ∷ xs) ≡ cond (like g x) 1 0 + times like g xs
times_cons like g x xs = elim (like g x) as (λ b. length (cond b (x ∷ filter (like g) xs) (filter (like g) xs)) ≡ cond b 1 0 + times like g xs) [ true ↦ omega arith | false ↦ omega arith ]

-- what holds of each holds of all
pub all_true : {A : Type 0} (p : A → Bool) → ((x : A) → p x ≡ true) → (xs : List A) → list_all p xs ≡ true
all_true p h [] = refl
all_true p h (x ∷ xs) = rw (h x) (all_true p h xs)

-- in two lists
pub times_append : {A : Type 0} (like : A → A → Bool) (g : A) (xs ys : List A) → times like g (xs ++ ys) ≡ times like g xs + times like g ys
times_append like g [] ys = omega arith
times_append like g (x ∷ xs) ys =
    let a = times_cons like g x (xs ++ ys) in
    let b = times_cons like g x xs in
    let c = times_append like g xs ys in
    omega arith

-- one that is like it is counted
pub counted : {A : Type 0} (like : A → A → Bool) (x y : A) → like x y ≡ true → (ys : List A) → In y ys → 0 < times like x ys
counted like x y e [] i = absurd i
counted like x y e (z ∷ ys) i =
    let c = times_cons like x z ys in
    elim i [
      | inl q ↦ let b : like x z ≡ true = subst (λ w. like x w ≡ true) (sym q) e in let d : cond {A = ℕ} (like x z) 1 0 ≡ 1 = ap (λ w. cond {A = ℕ} w 1 0) b in omega arith
      | inr j ↦ let h = counted like x y e ys j in omega arith
    ]

-- one that is there as often elsewhere has one like it there
pub counterpart : {A : Type 0} (like : A → A → Bool) (y : A) → like y y ≡ true → (xs ys : List A) → times like y xs ≡ times like y ys → In y ys → (x : A) × In x xs × (like y x ≡ true)
counterpart like y own xs ys e i = elim (some_passes (like y) xs) [
  | inl t ↦ t
  | inr n ↦ absurd (let s = counted like y y own ys i in let z = ap length n in omega arith)
]

-- tests that hold together are one
pub both_ways : (a b : Bool) → (a ≡ true → b ≡ true) → (b ≡ true → a ≡ true) → a ≡ b
both_ways true b f g = sym (f refl)
both_ways false true f g = g refl
both_ways false false f g = refl

-- groups that are alike have each trait equally often
pub alike_all : (g h : Group) → alike g h ≡ true → (a : Alt) → times same_alt a g ≡ times same_alt a h
alike_all g h e a = elim (some_passes (same_alt a) (g ++ h)) [
  | inl t ↦ let q : a ≡ t.0 = alt_tells.equal a t.0 t.2 in subst (λ z. times same_alt z g ≡ times same_alt z h) (sym q) ((Decides-eqb (times same_alt t.0 g) (times same_alt t.0 h)).0 (all_at (λ b. times same_alt b g == times same_alt b h) (g ++ h) t.0 e t.1))
  | inr n ↦ let z = ap length n in let s = times_append same_alt a g h in omega arith
]

-- and those that have are alike
pub all_alike : (g h : Group) → ((a : Alt) → times same_alt a g ≡ times same_alt a h) → alike g h ≡ true
all_alike g h e = all_true (λ a. times same_alt a g == times same_alt a h) (λ a. eq-eqb (times same_alt a g) (times same_alt a h) (e a)) (g ++ h)

pub alike_own : (g : Group) → alike g g ≡ true
alike_own g = all_alike g g (λ a. refl)

pub alike_join : (g h k : Group) → alike g k ≡ true → alike h k ≡ true → alike g h ≡ true
alike_join g h k e f = all_alike g h (λ a. alike_all g k e a ∙ sym (alike_all h k f a))
