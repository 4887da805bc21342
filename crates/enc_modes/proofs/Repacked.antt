-- What a type is split into packs to it in order.
use Rattle.std.specs.Prelude.{◌≡◌, ◌==◌, IsTrue, ℕ, ◌+◌, ◌<◌, ◌≤◌, Bool, true, false, not, ◌&&◌, ◌||◌, cond, List, [], ◌∷◌, ◌++◌, map, length, filter, Some}
use Rattle.std.specs.List.{list_all}
use Rattle.std.proofs.Common.{refl, arith, ap, sym, subst, ◌∙◌, inl, inr, eq-eqb}
use Rattle.std.proofs.lemmas.Bool.{false≢true}
use Rattle.std.proofs.lemmas.Bool.Decides.{Decides-eqb, eqb_tells}
use Rattle.enc_modes.specs.declared.ty.Alt.{Alt}
use Rattle.enc_modes.specs.Order.{Group, Cap, insert, sorted, place_of, in_order}
use Rattle.enc_modes.specs.Equality.{same_alt}
use Rattle.enc_modes.specs.Modes.{contains, distinct, overlap, traits_of, can_join, all_join, joins, composes, some_trait, some_group, linear_mode, mode_of, split_of, can_pack, pack_of, union}
use Rattle.enc_modes.specs.Parting.{times, alike, balanced, parted}
use Rattle.enc_modes.proofs.Sorting.{lt_tells, of_key, ascends_sorted, of_key_sorted, same_ascending}
use Rattle.enc_modes.proofs.Tells.{alt_tells, and_left, and_right, and_true}
use Rattle.enc_modes.proofs.Distinct.{all_join_is}
use Rattle.enc_modes.proofs.Times.{In, all_at, in_left, in_right, filter_same, passed, some_passes, none_passes, times_append, counted, counterpart, both_ways, alike_all, alike_own, alike_join, times_cons}

-- ---- lists that hold each equally often, in order

module _ {A B : Type 0} (form : A → B) (key : B → ℕ) (like : A → A → Bool) (own : (x : A) → like x x ≡ true) (join : (x y z : A) → like x z ≡ true → like y z ≡ true → like x y ≡ true) where
  -- as many formed alike
  formed_alike : (b : B) (xs ys : List A) → ((x : A) → In x xs → form x ≡ b) → ((y : A) → In y ys → form y ≡ b) → length xs ≡ length ys → map form xs ≡ map form ys
  formed_alike b [] [] f g l = refl
  formed_alike b [] (y ∷ ys) f g l = absurd (omega arith)
  formed_alike b (x ∷ xs) [] f g l = absurd (omega arith)
  formed_alike b (x ∷ xs) (y ∷ ys) f g l =
      let e : form x ≡ form y = f x (inl refl) ∙ sym (g y (inl refl)) in
      let r : map form xs ≡ map form ys = formed_alike b xs ys (λ z i. f z (inr i)) (λ z i. g z (inr i)) (omega arith) in
      cc

  -- those of a key, before and after they are formed
  of_key_formed : (k : ℕ) (xs : List A) → of_key key k (map form xs) ≡ map form (filter (λ x. key (form x) == k) xs)
  of_key_formed k [] = refl
  of_key_formed k (x ∷ xs) = go (key (form x) == k) (of_key_formed k xs)
    where
      go : (b : Bool) → of_key key k (map form xs) ≡ map form (filter (λ x. key (form x) == k) xs) → cond b (form x ∷ of_key key k (map form xs)) (of_key key k (map form xs)) ≡ map form (cond b (x ∷ filter (λ x. key (form x) == k) xs) (filter (λ x. key (form x) == k) xs))
      go true e = ap (λ z. form x ∷ z) e
      go false e = e

  module _ (xs ys : List A) (unique : (x z : A) → In x xs → In z xs → key (form x) ≡ key (form z) → like x z ≡ true) (formed : (x y : A) → In x xs → like x y ≡ true → form x ≡ form y) (same : (z : A) → In z (xs ++ ys) → times like z xs ≡ times like z ys) where
    -- the other way round
    turned : (x y : A) → like x y ≡ true → like y x ≡ true
    turned x y h = join y x y (own y) h

    -- each of the others is formed as one of them
    formed_there : (y : A) → In y ys → (x : A) × In x xs × (like y x ≡ true) × (form x ≡ form y)
    formed_there y i =
        let c = counterpart like y (own y) xs ys (same y (in_right xs ys y i)) i in
        (c.0, c.1, c.2, formed c.0 y c.1 (turned y c.0 c.2))

    -- those of one key are those that are like one of it
    key_here : (x z : A) → In x xs → In z xs → (key (form z) == key (form x)) ≡ like x z
    key_here x z i j = both_ways (key (form z) == key (form x)) (like x z)
        (λ h. unique x z i j (sym ((Decides-eqb (key (form z)) (key (form x))).0 h)))
        (λ h. eq-eqb (key (form z)) (key (form x)) (ap key (sym (formed x z i h))))

    -- and so are those of the others
    key_there : (x y : A) → In x xs → In y ys → (key (form y) == key (form x)) ≡ like x y
    key_there x y i j = both_ways (key (form y) == key (form x)) (like x y)
        (λ h.
        let c = formed_there y j in
        let e : key (form x) ≡ key (form c.0) = sym (ap key c.3 ∙ (Decides-eqb (key (form y)) (key (form x))).0 h) in
        join x y c.0 (unique x c.0 i c.1 e) c.2)
        (λ h. eq-eqb (key (form y)) (key (form x)) (ap key (sym (formed x y i h))))

    -- both have the same of a key
    by_key : (k : ℕ) → of_key key k (map form xs) ≡ of_key key k (map form ys)
    by_key k = elim (some_passes (λ x. key (form x) == k) xs) [
      | inl t ↦
          let x : A = t.0 in
          let e : key (form x) ≡ k = (Decides-eqb (key (form x)) k).0 t.2 in
          let f : filter (λ z. key (form z) == k) xs ≡ filter (like x) xs = rw (← e) (filter_same (λ z. key (form z) == key (form x)) (like x) xs (λ z i. key_here x z t.1 i)) in
          let g : filter (λ z. key (form z) == k) ys ≡ filter (like x) ys = rw (← e) (filter_same (λ z. key (form z) == key (form x)) (like x) ys (λ z i. key_there x z t.1 i)) in
          let m : map form (filter (like x) xs) ≡ map form (filter (like x) ys) = formed_alike (form x) (filter (like x) xs) (filter (like x) ys) (λ z i. sym (formed x z t.1 (passed (like x) xs z i).1)) (λ z i. sym (formed x z t.1 (passed (like x) ys z i).1)) (same x (in_left xs ys x t.1)) in
          of_key_formed k xs ∙ ap (map form) f ∙ m ∙ sym (of_key_formed k ys ∙ ap (map form) g)
      | inr n ↦ elim (some_passes (λ y. key (form y) == k) ys) [
        | inl t ↦ absurd (
            let c = formed_there t.0 t.1 in
            none_passes (λ x. key (form x) == k) xs c.0 n c.1 (ap (λ b. key b == k) c.3 ∙ t.2))
        | inr m ↦ of_key_formed k xs ∙ ap (map form) n ∙ sym (of_key_formed k ys ∙ ap (map form) m)
      ]
    ]

    -- so both are the same in order
    same_order : sorted key (map form xs) ≡ sorted key (map form ys)
    same_order = same_ascending key 0 0 (sorted key (map form xs)) (sorted key (map form ys)) (ascends_sorted key (map form xs)) (ascends_sorted key (map form ys)) (λ k. of_key_sorted key k (map form xs) ∙ by_key k ∙ sym (of_key_sorted key k (map form ys)))

-- ---- numbers

-- the numbers of two lists
contains_append : (ms ns : List ℕ) (n : ℕ) → contains (ms ++ ns) n ≡ (contains ms n || contains ns n)
contains_append [] ns n = refl
contains_append (m ∷ ms) ns n = rw (contains_append ms ns n) (or_assoc (m == n) (contains ms n) (contains ns n))
  where
    or_assoc : (a b c : Bool) → (a || (b || c)) ≡ ((a || b) || c)
    or_assoc true b c = refl
    or_assoc false b c = refl

-- a number that stands in the first list doesn't stand in the second
apart : (ms ns : List ℕ) (n : ℕ) → distinct (ms ++ ns) ≡ true → contains ms n ≡ true → contains ns n ≡ true → ⊥
apart [] ns n d i j = false≢true i
apart (m ∷ ms) ns n d i j = elim (eqb_tells m n) [
  | inl w ↦ out (and_left (not (contains (ms ++ ns) m)) (distinct (ms ++ ns)) d) (rw (← w.1) at j)
  | inr w ↦ apart ms ns n (and_right (not (contains (ms ++ ns) m)) (distinct (ms ++ ns)) d) (rw (w.0) at i) j
]
  where
    out : not (contains (ms ++ ns) m) ≡ true → contains ns m ≡ true → ⊥
    out e f = go (contains ms m) (rw (contains_append ms ns m, f) at e)
      where
        go : (b : Bool) → not (b || true) ≡ true → ⊥
        go true q = false≢true q
        go false q = false≢true q

-- the first of two lists
distinct_left : (ms ns : List ℕ) → distinct (ms ++ ns) ≡ true → distinct ms ≡ true
distinct_left [] ns d = refl
distinct_left (m ∷ ms) ns d = and_true (not (contains ms m)) (distinct ms) (go (contains ms m) (rw (contains_append ms ns m) at (and_left (not (contains (ms ++ ns) m)) (distinct (ms ++ ns)) d))) (distinct_left ms ns (and_right (not (contains (ms ++ ns) m)) (distinct (ms ++ ns)) d))
  where
    go : (b : Bool) → not (b || contains ns m) ≡ true → not b ≡ true
    go true q = absurd (false≢true q)
    go false q = refl

-- the second
distinct_right : (ms ns : List ℕ) → distinct (ms ++ ns) ≡ true → distinct ns ≡ true
distinct_right [] ns d = d
distinct_right (m ∷ ms) ns d = distinct_right ms ns (and_right (not (contains (ms ++ ns) m)) (distinct (ms ++ ns)) d)

-- ---- groups

abbrev numbers : Group → List ℕ
numbers = map (λ a. a.number)

-- one of them has its number
has_number : (g : Group) (a : Alt) → In a g → contains (numbers g) a.number ≡ true
has_number [] a i = absurd i
has_number (b ∷ g) a i = elim i [
  | inl e ↦ rw (eq-eqb b.number a.number (ap (λ c. c.number) e)) refl
  | inr j ↦ rw (has_number g a j) (go (b.number == a.number))
]
  where
    go : (c : Bool) → (c || true) ≡ true
    go true = refl
    go false = refl

-- traits of distinct numbers are known by them
number_unique : (g : Group) → distinct (numbers g) ≡ true → (a b : Alt) → In a g → In b g → a.number ≡ b.number → a ≡ b
number_unique [] d a b i j e = absurd i
number_unique (c ∷ g) d a b i j e =
    let fresh : (x : Alt) → In x g → c.number ≡ x.number → ⊥ = λ x k q. apart (c.number ∷ []) (numbers g) c.number d (rw (eq-eqb c.number c.number refl) refl) (rw (sym q) at (has_number g x k)) in
    elim i [
      | inl p ↦ elim j [ inl q ↦ sym p ∙ q | inr l ↦ absurd (fresh b l (ap (λ z. z.number) p ∙ e)) ]
      | inr k ↦ elim j [ inl q ↦ absurd (fresh a k (ap (λ z. z.number) q ∙ sym e)) | inr l ↦ number_unique g (and_right (not (contains (numbers g) c.number)) (distinct (numbers g)) d) a b k l e ]
    ]

mapped_itself : {A : Type 0} (xs : List A) → map (λ x. x) xs ≡ xs
mapped_itself [] = refl
mapped_itself (x ∷ xs) = ap (λ z. x ∷ z) (mapped_itself xs)

-- groups that are alike are the same in order
alike_sorted : (g h : Group) → distinct (numbers g) ≡ true → alike g h ≡ true → sorted (λ a. a.number) g ≡ sorted (λ a. a.number) h
alike_sorted g h d e = rw (mapped_itself g, mapped_itself h) at (same_order {A = Alt} {B = Alt} (λ a. a) (λ a. a.number) same_alt alt_tells.itself
    (λ x y z p q. subst (λ w. same_alt x w ≡ true) (sym (alt_tells.equal y z q)) p)
    g h
    (λ x z i j q. subst (λ w. same_alt x w ≡ true) (number_unique g d x z i j q) (alt_tells.itself x))
    (λ x y i q. alt_tells.equal x y q)
    (λ z i. alike_all g h e z))

-- ---- capability types

-- a group has no trait twice where no trait stands twice in all
distinct_in : (gs : Cap) (g : Group) → distinct (traits_of gs) ≡ true → In g gs → distinct (numbers g) ≡ true
distinct_in [] g d i = absurd i
distinct_in (h ∷ gs) g d i = elim i [
  | inl e ↦ subst (λ z. distinct (numbers z) ≡ true) e (distinct_left (numbers h) (traits_of gs) d)
  | inr j ↦ distinct_in gs g (distinct_right (numbers h) (traits_of gs) d) j
]

-- a trait of a group is one of all
trait_in : (gs : Cap) (g : Group) (n : ℕ) → In g gs → contains (numbers g) n ≡ true → contains (traits_of gs) n ≡ true
trait_in [] g n i c = absurd i
trait_in (h ∷ gs) g n i c = rw (contains_append (numbers h) (traits_of gs) n) (elim i [
  | inl e ↦ rw (subst (λ z. contains (numbers z) n ≡ true) (sym e) c) refl
  | inr j ↦ rw (trait_in gs g n j c) (go (contains (numbers h) n))
])
  where
    go : (b : Bool) → (b || true) ≡ true
    go true = refl
    go false = refl

-- a group has its place by one of its traits
place_in : (g : Group) → some_trait g ≡ true → contains (numbers g) (place_of (sorted (λ a. a.number) g)) ≡ true
place_in [] s = absurd (false≢true s)
place_in (a ∷ []) s = rw (eq-eqb a.number a.number refl) refl
place_in (a ∷ b ∷ g) s = go (sorted (λ a. a.number) (b ∷ g)) (place_in (b ∷ g) refl)
  where
    later : (c : Bool) → (c || true) ≡ true
    later true = refl
    later false = refl

    go : (t : Group) → contains (numbers (b ∷ g)) (place_of t) ≡ true → contains (numbers (a ∷ b ∷ g)) (place_of (insert (λ a. a.number) a t)) ≡ true
    go [] e = rw (eq-eqb a.number a.number refl) refl
    go (c ∷ t) e = elim (lt_tells c.number a.number) [
      | inl w ↦ rw (w.0, e) (later (a.number == c.number))
      | inr w ↦ rw (w.0, eq-eqb a.number a.number refl) refl
    ]

-- groups are known by their places
place_unique : (gs : Cap) → distinct (traits_of gs) ≡ true → list_all some_trait gs ≡ true → (g h : Group) → In g gs → In h gs → place_of (sorted (λ a. a.number) g) ≡ place_of (sorted (λ a. a.number) h) → g ≡ h
place_unique [] d s g h i j e = absurd i
place_unique (k ∷ gs) d s g h i j e =
    let rest : list_all some_trait gs ≡ true = and_right (some_trait k) (list_all some_trait gs) s in
    let own : contains (numbers k) (place_of (sorted (λ a. a.number) k)) ≡ true = place_in k (and_left (some_trait k) (list_all some_trait gs) s) in
    let fresh : (x : Group) → In x gs → place_of (sorted (λ a. a.number) k) ≡ place_of (sorted (λ a. a.number) x) → ⊥ = λ x l q. apart (numbers k) (traits_of gs) (place_of (sorted (λ a. a.number) k)) d own (trait_in gs x (place_of (sorted (λ a. a.number) k)) l (rw q (place_in x (all_at some_trait gs x rest l)))) in
    elim i [
      | inl p ↦ elim j [ inl q ↦ sym p ∙ q | inr l ↦ absurd (fresh h l (ap (λ z. place_of (sorted (λ a. a.number) z)) p ∙ e)) ]
      | inr m ↦ elim j [ inl q ↦ absurd (fresh g m (ap (λ z. place_of (sorted (λ a. a.number) z)) q ∙ sym e)) | inr l ↦ place_unique gs (distinct_right (numbers k) (traits_of gs) d) rest g h m l e ]
    ]

-- what is parted is, in order, the groups of both parts
parted_order : (whole left right : Cap) → distinct (traits_of whole) ≡ true → list_all some_trait whole ≡ true → parted whole left right ≡ true → in_order whole ≡ union left right
unfolding in_order
parted_order whole left right d s h = same_order (sorted (λ a. a.number)) place_of alike alike_own alike_join whole (left ++ right)
    (λ g h i j e. subst (λ z. alike g z ≡ true) (place_unique whole d s g h i j e) (alike_own g))
    (λ g h i e. alike_sorted g h (distinct_in whole g d i) e)
    (λ g i. (Decides-eqb (times alike g whole) (times alike g left + times alike g right)).0 (all_at (balanced whole left right) (whole ++ (left ++ right)) g h i) ∙ sym (times_append alike g left right))

-- ---- the parts

-- a number of a group is that of one of its traits
number_there : (g : Group) (n : ℕ) → contains (numbers g) n ≡ true → (a : Alt) × In a g × (a.number ≡ n)
number_there [] n c = absurd (false≢true c)
number_there (a ∷ g) n c = elim (eqb_tells a.number n) [
  | inl w ↦ (a, inl refl, w.1)
  | inr w ↦ let t = number_there g n (rw (w.0) at c) in (t.0, inr t.1, t.2)
]

-- groups that are alike have the same numbers
alike_number : (g k : Group) (n : ℕ) → alike g k ≡ true → contains (numbers g) n ≡ true → contains (numbers k) n ≡ true
alike_number g k n e c =
    let t = number_there g n c in
    let d = counterpart same_alt t.0 (alt_tells.itself t.0) k g (sym (alike_all g k e t.0)) t.1 in
    let q : d.0.number ≡ n = sym (ap (λ a. a.number) (alt_tells.equal t.0 d.0 d.2)) ∙ t.2 in
    subst (λ m. contains (numbers k) m ≡ true) q (has_number k d.0 d.1)

-- a trait of all is one of a group
trait_there : (gs : Cap) (n : ℕ) → contains (traits_of gs) n ≡ true → (g : Group) × In g gs × (contains (numbers g) n ≡ true)
trait_there [] n c = absurd (false≢true c)
trait_there (g ∷ gs) n c = go (contains (numbers g) n) refl (sym (contains_append (numbers g) (traits_of gs) n) ∙ c) (trait_there gs n)
  where
    go : (b : Bool) → contains (numbers g) n ≡ b → (contains (numbers g) n || contains (traits_of gs) n) ≡ true → (contains (traits_of gs) n ≡ true → (k : Group) × In k gs × (contains (numbers k) n ≡ true)) → (k : Group) × In k (g ∷ gs) × (contains (numbers k) n ≡ true)
    go true e d r = (g, inl refl, e)
    go false e d r = let t = r (rw (e) at d) in (t.0, inr t.1, t.2)

-- the group of a trait
trait_unique : (gs : Cap) → distinct (traits_of gs) ≡ true → (g h : Group) (n : ℕ) → In g gs → In h gs → contains (numbers g) n ≡ true → contains (numbers h) n ≡ true → g ≡ h
trait_unique [] d g h n i j c e = absurd i
trait_unique (k ∷ gs) d g h n i j c e = elim i [
  | inl p ↦ elim j [
    | inl q ↦ sym p ∙ q
    | inr l ↦ absurd (apart (numbers k) (traits_of gs) n d (subst (λ z. contains (numbers z) n ≡ true) (sym p) c) (trait_in gs h n l e))
  ]
  | inr m ↦ elim j [
    | inl q ↦ absurd (apart (numbers k) (traits_of gs) n d (subst (λ z. contains (numbers z) n ≡ true) (sym q) e) (trait_in gs g n m c))
    | inr l ↦ trait_unique gs (distinct_right (numbers k) (traits_of gs) d) g h n m l c e
  ]
]

-- no group is there twice
once : (gs : Cap) → distinct (traits_of gs) ≡ true → list_all some_trait gs ≡ true → (g : Group) → times alike g gs ≤ 1
once [] d s g = omega arith
once (k ∷ gs) d s g =
    let c = times_cons alike g k gs in
    let r = once gs (distinct_right (numbers k) (traits_of gs) d) (and_right (some_trait k) (list_all some_trait gs) s) g in
    go (alike g k) refl c r
  where
    none : alike g k ≡ true → filter (alike g) gs ≡ []
    none e = elim (some_passes (alike g) gs) [
      | inl t ↦ absurd (
          let f : alike k t.0 ≡ true = alike_join k t.0 g (alike_join k g k (alike_own k) e) (alike_join t.0 g t.0 (alike_own t.0) t.2) in
          let n : ℕ = place_of (sorted (λ a. a.number) k) in
          let i = place_in k (and_left (some_trait k) (list_all some_trait gs) s) in
          apart (numbers k) (traits_of gs) n d i (trait_in gs t.0 n t.1 (alike_number k t.0 n f i)))
      | inr n ↦ n
    ]

    go : (b : Bool) → alike g k ≡ b → times alike g (k ∷ gs) ≡ cond {A = ℕ} (alike g k) 1 0 + times alike g gs → times alike g gs ≤ 1 → times alike g (k ∷ gs) ≤ 1
    go true e c r = let z = ap length (none e) in let q : cond {A = ℕ} (alike g k) 1 0 ≡ 1 = ap (λ w. cond {A = ℕ} w 1 0) e in omega arith
    go false e c r = let q : cond {A = ℕ} (alike g k) 1 0 ≡ 0 = ap (λ w. cond {A = ℕ} w 1 0) e in omega arith

-- a group that is like one trait is that trait
alike_one : (a : Alt) (k : Group) → distinct (numbers k) ≡ true → alike (a ∷ []) k ≡ true → k ≡ a ∷ []
alike_one a k d e = go k d (λ b i. is_a b (counterpart same_alt b (alt_tells.itself b) (a ∷ []) k (alike_all (a ∷ []) k e b) i)) (counted same_alt a a (alt_tells.itself a) (a ∷ []) (inl refl)) (alike_all (a ∷ []) k e a)
  where
    is_a : (b : Alt) → (x : Alt) × In x (a ∷ []) × (same_alt b x ≡ true) → b ≡ a
    is_a b t = alt_tells.equal b t.0 t.2 ∙ elim (t.1) [ inl q ↦ sym q | inr j ↦ absurd j ]

    go : (h : Group) → distinct (numbers h) ≡ true → ((b : Alt) → In b h → b ≡ a) → 0 < times same_alt a (a ∷ []) → times same_alt a (a ∷ []) ≡ times same_alt a h → h ≡ a ∷ []
    go [] d u s t = absurd (omega arith)
    go (b ∷ []) d u s t = ap (λ z. z ∷ []) (u b (inl refl))
    go (b ∷ c ∷ h) d u s t =
        let q : b.number ≡ c.number = ap (λ z. z.number) (u b (inl refl) ∙ sym (u c (inr (inl refl)))) in
        absurd (apart (b.number ∷ []) (numbers (c ∷ h)) b.number d (rw (eq-eqb b.number b.number refl) refl) (rw (q) (has_number (c ∷ h) c (inl refl))))

-- all but one trait alone are linear
part_linear : (part : Cap) → ((a : Alt) → part ≡ (a ∷ []) ∷ [] → linear_mode a.mode ≡ true) → linear_mode (mode_of part) ≡ true
part_linear [] h = refl
part_linear ((a ∷ []) ∷ []) h = h a refl
part_linear ([] ∷ []) h = refl
part_linear ((a ∷ b ∷ g) ∷ []) h = refl
part_linear ([] ∷ k ∷ gs) h = refl
part_linear ((a ∷ []) ∷ k ∷ gs) h = refl
part_linear ((a ∷ b ∷ g) ∷ k ∷ gs) h = refl

-- one group is there at least
first_there : (gs : Cap) → some_group gs ≡ true → (g : Group) × In g gs
first_there [] s = absurd (false≢true s)
first_there (g ∷ gs) s = (g, inl refl)

all_join_at : (gs : Cap) (g : Group) → all_join gs ≡ true → In g gs → can_join g ≡ true
all_join_at gs g h i = all_at can_join gs g (all_join_is gs ∙ h) i

-- numbers that overlap share one
overlap_there : (ms ns : List ℕ) → overlap ms ns ≡ true → (n : ℕ) × (contains ms n ≡ true) × (contains ns n ≡ true)
overlap_there [] ns h = absurd (false≢true h)
overlap_there (m ∷ ms) ns h = go (contains ns m) refl h (overlap_there ms ns)
  where
    later : (c : Bool) → (c || true) ≡ true
    later true = refl
    later false = refl

    go : (b : Bool) → contains ns m ≡ b → (b || overlap ms ns) ≡ true → (overlap ms ns ≡ true → (n : ℕ) × (contains ms n ≡ true) × (contains ns n ≡ true)) → (n : ℕ) × (contains (m ∷ ms) n ≡ true) × (contains ns n ≡ true)
    go true e q r = (m, rw (eq-eqb m m refl) refl, e)
    go false e q r = let t = r q in (t.0, rw (t.1) (later (m == t.0)), t.2)

module _ (whole left right : Cap) (distinct_all : distinct (traits_of whole) ≡ true) (joined : joins whole ≡ true) (named : list_all some_trait whole ≡ true) (balance : (g : Group) → In g (whole ++ (left ++ right)) → times alike g whole ≡ times alike g left + times alike g right) (some_left : some_group left ≡ true) (some_right : some_group right ≡ true) where
  -- no group of the left part is like one of the right
  not_both : (g h : Group) → In g left → In h right → alike g h ≡ true → ⊥
  not_both g h i j e =
      let b = balance g (in_right whole (left ++ right) g (in_left left right g i)) in
      let l = counted alike g g (alike_own g) left i in
      let r = counted alike g h e right j in
      let o = once whole distinct_all named g in
      omega arith

  -- each group of a part has one like it in the whole
  left_whole : (g : Group) → In g left → (k : Group) × In k whole × (alike g k ≡ true)
  left_whole g i = elim (some_passes (alike g) whole) [
    | inl t ↦ t
    | inr n ↦ absurd (
        let z = ap length n in
        let b = balance g (in_right whole (left ++ right) g (in_left left right g i)) in
        let l = counted alike g g (alike_own g) left i in
        omega arith)
  ]

  right_whole : (g : Group) → In g right → (k : Group) × In k whole × (alike g k ≡ true)
  right_whole g i = elim (some_passes (alike g) whole) [
    | inl t ↦ t
    | inr n ↦ absurd (
        let z = ap length n in
        let b = balance g (in_right whole (left ++ right) g (in_right left right g i)) in
        let l = counted alike g g (alike_own g) right i in
        omega arith)
  ]

  -- the whole has more than one group, so that each of them can stand beside others
  can_join_at : (k : Group) → In k whole → can_join k ≡ true
  can_join_at k i =
      let g = first_there left some_left in
      let h = first_there right some_right in
      go whole joined k i g.0 h.0 (left_whole g.0 g.1) (right_whole h.0 h.1) (not_both g.0 h.0 g.1 h.1)
    where
      go : (gs : Cap) → joins gs ≡ true → (x : Group) → In x gs → (g h : Group) → (l : Group) × In l gs × (alike g l ≡ true) → (r : Group) × In r gs × (alike h r ≡ true) → (alike g h ≡ true → ⊥) → can_join x ≡ true
      go [] w x i g h l r n = absurd i
      go (k ∷ []) w x i g h l r n = absurd (
          let p : l.0 ≡ k = elim (l.1) [ inl q ↦ sym q | inr j ↦ absurd j ] in
          let q : r.0 ≡ k = elim (r.1) [ inl q ↦ sym q | inr j ↦ absurd j ] in
          n (alike_join g h k (subst (λ z. alike g z ≡ true) p l.2) (subst (λ z. alike h z ≡ true) q r.2)))
      go (k ∷ m ∷ gs) w x i g h l r n = all_join_at (k ∷ m ∷ gs) x w i

  -- a trait alone is linear
  lone_linear : (a : Alt) → (k : Group) × In k whole × (alike (a ∷ []) k ≡ true) → linear_mode a.mode ≡ true
  lone_linear a t =
      let e : t.0 ≡ a ∷ [] = alike_one a t.0 (distinct_in whole t.0 distinct_all t.1) t.2 in
      subst (λ z. can_join z ≡ true) e (can_join_at t.0 t.1)

  -- so the parts can be packed
  parts_pack : can_pack left right ≡ true
  parts_pack = and_true (linear_mode (mode_of left)) (linear_mode (mode_of right) && not (overlap (traits_of left) (traits_of right)))
      (part_linear left (λ a e. lone_linear a (left_whole (a ∷ []) (rw e (inl refl)))))
      (and_true (linear_mode (mode_of right)) (not (overlap (traits_of left) (traits_of right)))
      (part_linear right (λ a e. lone_linear a (right_whole (a ∷ []) (rw e (inl refl)))))
      (go (overlap (traits_of left) (traits_of right)) refl))
    where
      go : (b : Bool) → overlap (traits_of left) (traits_of right) ≡ b → not b ≡ true
      go false e = refl
      go true e = absurd (
          let t = overlap_there (traits_of left) (traits_of right) e in
          let g = trait_there left t.0 t.1 in
          let h = trait_there right t.0 t.2 in
          let k = left_whole g.0 g.1 in
          let l = right_whole h.0 h.1 in
          let q : k.0 ≡ l.0 = trait_unique whole distinct_all k.0 l.0 t.0 k.1 l.1 (alike_number g.0 k.0 t.0 k.2 g.2) (alike_number h.0 l.0 t.0 l.2 h.2) in
          not_both g.0 h.0 g.1 h.1 (alike_join g.0 h.0 l.0 (subst (λ z. alike g.0 z ≡ true) q k.2) l.2))

-- the second of four tests
and_second : (a b c d : Bool) → (a && (b && (c && d))) ≡ true → b ≡ true
and_second a b c d h = and_left b (c && d) (and_right a (b && (c && d)) h)

-- the third
and_third : (a b c d : Bool) → (a && (b && (c && d))) ≡ true → c ≡ true
and_third a b c d h = and_left c d (and_right b (c && d) (and_right a (b && (c && d)) h))

-- the last
and_last : (a b c d : Bool) → (a && (b && (c && d))) ≡ true → d ≡ true
and_last a b c d h = and_right c d (and_right b (c && d) (and_right a (b && (c && d)) h))

-- the whole of a split is, in order, what its parts pack to
pub split_is_packed : (whole left right : Cap) → IsTrue (composes whole) → IsTrue (list_all some_trait whole) → IsTrue (split_of whole left right) → pack_of left right ≡ Some (in_order whole)
unfolding composes split_of pack_of
split_is_packed whole left right c s h =
    let d : distinct (traits_of whole) ≡ true = and_left (distinct (traits_of whole)) (joins whole) c in
    let j : joins whole ≡ true = and_right (distinct (traits_of whole)) (joins whole) c in
    let q : parted whole left right ≡ true = and_last (linear_mode (mode_of whole)) (some_group left) (some_group right) (parted whole left right) h in
    let balance : (g : Group) → In g (whole ++ (left ++ right)) → times alike g whole ≡ times alike g left + times alike g right = λ g i. (Decides-eqb (times alike g whole) (times alike g left + times alike g right)).0 (all_at (balanced whole left right) (whole ++ (left ++ right)) g q i) in
    let p : can_pack left right ≡ true = parts_pack whole left right d j s balance (and_second (linear_mode (mode_of whole)) (some_group left) (some_group right) (parted whole left right) h) (and_third (linear_mode (mode_of whole)) (some_group left) (some_group right) (parted whole left right) h) in
    rw (p) (ap Some (sym (parted_order whole left right d s q)))
