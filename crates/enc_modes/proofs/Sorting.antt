-- A stable sort by numbers is `sorted`.
use Rattle.std.specs.Prelude.{◌≡◌, ◌==◌, ℕ, suc, ◌<◌, ◌≤◌, true, false, nat_lt, cond, List, [], ◌∷◌, length, filter, slice_index_or, ◌⊎◌}
use Rattle.std.proofs.Common.{refl, arith, ap, sym, ◌∙◌, inl, inr}
use Rattle.std.proofs.lemmas.Bool.Decides.{nat_tests, eqb_tells}
use Rattle.std.specs.List.Sorted.{ties, IsSortedByKey, IsStableByKey, IsNonDecreasingBy}
use Rattle.std.proofs.lemmas.List.Sorted.{IsNonDecreasingBy-from_sort}
use Rattle.std.specs.Ordering.{is_lt, nat_cmp}
use Rattle.enc_modes.specs.Order.{insert, sorted}

-- what a test tells
pub lt_tells : (a b : ℕ) → ((nat_lt a b ≡ true) × (a < b)) ⊎ ((nat_lt a b ≡ false) × (b ≤ a))
lt_tells a b = grind (arith, nat_tests)

module _ {A : Type 0} (key : A → ℕ) where
  -- they ascend from n on
  abbrev pub Ascends : ℕ → List A → Type 0
  Ascends n [] = Unit {0}
  Ascends n (y ∷ ys) = (n ≤ key y) × Ascends (key y) ys

  -- those with the key k
  abbrev pub of_key : ℕ → List A → List A
  of_key k [] = []
  of_key k (y ∷ ys) = cond (key y == k) (y ∷ of_key k ys) (of_key k ys)

  -- an insertion keeps them ascending
  ascends_insert : (n : ℕ) (x : A) (ys : List A) → n ≤ key x → Ascends n ys → Ascends n (insert key x ys)
  ascends_insert n x [] h a = (h, tt)
  ascends_insert n x (y ∷ ys) h a = elim (lt_tells (key y) (key x)) [
    | inl w ↦ rw (w.0) (a.0, ascends_insert (key y) x ys (let l = w.1 in omega arith) a.1)
    | inr w ↦ rw (w.0) (h, (w.1, a.1))
  ]

  -- what is sorted ascends
  pub ascends_sorted : (xs : List A) → Ascends 0 (sorted key xs)
  ascends_sorted [] = tt
  ascends_sorted (x ∷ xs) = ascends_insert 0 x (sorted key xs) (omega arith) (ascends_sorted xs)

  -- one more in front
  of_key_cons : (k : ℕ) (x : A) (xs ys : List A) → of_key k xs ≡ of_key k ys → of_key k (x ∷ xs) ≡ of_key k (x ∷ ys)
  of_key_cons k x xs ys e = ap (λ z. cond (key x == k) (x ∷ z) z) e

  -- two with different keys, the other way round
  of_key_swap : (k : ℕ) (x y : A) (ys : List A) → key y < key x → of_key k (y ∷ x ∷ ys) ≡ of_key k (x ∷ y ∷ ys)
  of_key_swap k x y ys h = elim (eqb_tells (key x) k) [
    | inl u ↦ elim (eqb_tells (key y) k) [ inl v ↦ absurd (omega arith) | inr v ↦ rw (u.0, v.0) refl ]
    | inr u ↦ rw (u.0) refl
  ]

  -- an insertion changes no order within a key
  of_key_insert : (k : ℕ) (x : A) (ys : List A) → of_key k (insert key x ys) ≡ of_key k (x ∷ ys)
  of_key_insert k x [] = refl
  of_key_insert k x (y ∷ ys) = elim (lt_tells (key y) (key x)) [
    | inl w ↦ rw (w.0) (of_key_cons k y (insert key x ys) (x ∷ ys) (of_key_insert k x ys) ∙ of_key_swap k x y ys w.1)
    | inr w ↦ rw (w.0) refl
  ]

  -- nor does a sort
  pub of_key_sorted : (k : ℕ) (xs : List A) → of_key k (sorted key xs) ≡ of_key k xs
  of_key_sorted k [] = refl
  of_key_sorted k (x ∷ xs) = of_key_insert k x (sorted key xs) ∙ of_key_cons k x (sorted key xs) xs (of_key_sorted k xs)

  -- none has a key lower than the least
  none_below : (k n : ℕ) (ys : List A) → k < n → Ascends n ys → of_key k ys ≡ []
  none_below k n [] h a = refl
  none_below k n (y ∷ ys) h a =
      let l : n ≤ key y = a.0 in
      elim (eqb_tells (key y) k) [
        | inl w ↦ absurd (omega arith)
        | inr w ↦ rw (w.0) (none_below k (key y) ys (omega arith) a.1)
      ]

  -- an element has its own key
  of_own_key : (x : A) (xs : List A) → of_key (key x) (x ∷ xs) ≡ x ∷ of_key (key x) xs
  of_own_key x xs = elim (eqb_tells (key x) (key x)) [ inl w ↦ rw (w.0) refl | inr w ↦ absurd (w.1 refl) ]

  -- the first of them has a key that stands in both
  first_not_lower : (x y : A) (xs ys : List A) → Ascends (key y) ys → of_key (key x) (x ∷ xs) ≡ of_key (key x) (y ∷ ys) → key x < key y → ⊥
  first_not_lower x y xs ys a e h =
      let f = of_own_key x xs in
      let g = none_below (key x) (suc (key x)) (y ∷ ys) (omega arith) (omega arith, a) in
      cc

  -- and it is the first of both
  first_same : (x y : A) (xs ys : List A) → key x ≡ key y → of_key (key x) (x ∷ xs) ≡ of_key (key x) (y ∷ ys) → x ≡ y
  first_same x y xs ys h e =
      let f = of_own_key x xs in
      let g : of_key (key x) (y ∷ ys) ≡ y ∷ of_key (key x) ys = elim (eqb_tells (key y) (key x)) [ inl w ↦ rw (w.0) refl | inr w ↦ absurd (w.1 (sym h)) ] in
      cc

  -- the same of each key without the first
  rest_same : (x : A) (xs ys : List A) (k : ℕ) → of_key k (x ∷ xs) ≡ of_key k (x ∷ ys) → of_key k xs ≡ of_key k ys
  rest_same x xs ys k e = elim (eqb_tells (key x) k) [
    | inl w ↦ let f = rw (w.0) at e in cc
    | inr w ↦ rw (w.0) at e
  ]

  -- those that ascend are known by what they have of each key
  pub same_ascending : (m n : ℕ) (xs ys : List A) → Ascends m xs → Ascends n ys → ((k : ℕ) → of_key k xs ≡ of_key k ys) → xs ≡ ys
  same_ascending m n [] [] a b e = refl
  same_ascending m n [] (y ∷ ys) a b e = let f = of_own_key y ys in let g = e (key y) in cc
  same_ascending m n (x ∷ xs) [] a b e = let f = of_own_key x xs in let g = e (key x) in cc
  same_ascending m n (x ∷ xs) (y ∷ ys) a b e = elim (lt_tells (key x) (key y)) [
    | inl v ↦ absurd (first_not_lower x y xs ys b.1 (e (key x)) v.1)
    | inr v ↦ elim (lt_tells (key y) (key x)) [
      | inl w ↦ absurd (first_not_lower y x ys xs a.1 (sym (e (key y))) w.1)
      | inr w ↦
          let i : x ≡ y = first_same x y xs ys (omega arith) (e (key x)) in
          let r : (k : ℕ) → of_key k xs ≡ of_key k ys = λ k. rest_same x xs ys k (rw (← i) at (e k)) in
          let t : xs ≡ ys = same_ascending (key x) (key y) xs ys a.1 b.1 r in
          cc
    ]
  ]

  -- what ascends and has the same of each key as xs is xs sorted
  pub sorted_is : (xs ys : List A) → Ascends 0 ys → ((k : ℕ) → of_key k ys ≡ of_key k xs) → ys ≡ sorted key xs
  sorted_is xs ys a e = same_ascending 0 0 ys (sorted key xs) a (ascends_sorted xs) (λ k. e k ∙ sym (of_key_sorted k xs))

-- the key of a tie
ties_of_key : {A : Type 0} (key : A → ℕ) (x y : A) → ties (λ a b. is_lt (nat_cmp (key a) (key b))) x y ≡ (key y == key x)
ties_of_key key x y = grind (arith, nat_tests)

-- Those that tie with x are those with its key.
filter_ties : {A : Type 0} (key : A → ℕ) (x : A) (xs : List A) → filter (ties (λ a b. is_lt (nat_cmp (key a) (key b))) x) xs ≡ of_key key (key x) xs
filter_ties key x [] = refl
filter_ties key x (y ∷ xs) = rw (ties_of_key key x y) (ap (λ z. cond (key y == key x) (y ∷ z) z) (filter_ties key x xs))

-- there is none with the key, or there is one
some_of_key : {A : Type 0} (key : A → ℕ) (k : ℕ) (xs : List A) → (of_key key k xs ≡ []) ⊎ ((z : A) × (key z ≡ k))
some_of_key key k [] = inl refl
some_of_key key k (x ∷ xs) = elim (eqb_tells (key x) k) [ inl w ↦ inr (x, w.1) | inr w ↦ rw (w.0) (some_of_key key k xs) ]

-- A sort that keeps ties in order keeps what there is of each key.
stable_of_key : {A : Type 0} (key : A → ℕ) (xs ys : List A) → IsStableByKey key nat_cmp xs ys → (k : ℕ) → of_key key k ys ≡ of_key key k xs
stable_of_key {A} key xs ys s k =
    let at : (z : A) → key z ≡ k → of_key key k ys ≡ of_key key k xs = λ z e. rw e at (sym (filter_ties key z ys) ∙ s z ∙ filter_ties key z xs) in
    elim (some_of_key key k ys) [
      | inl u ↦ elim (some_of_key key k xs) [ inl v ↦ u ∙ sym v | inr v ↦ at v.0 v.1 ]
      | inr u ↦ at u.0 u.1
    ]

-- They ascend where no key is below one before it.
ascends_from : {A : Type 0} (key : A → ℕ) (n : ℕ) (ys : List A) → ((j : ℕ) (d : A) → j < length ys → n ≤ key (slice_index_or ys j d)) → IsNonDecreasingBy key ys → Ascends key n ys
ascends_from key n [] low up = tt
ascends_from key n (y ∷ ys) low up =
    (low 0 y (omega arith), ascends_from key (key y) ys (λ j d h. up 0 (suc j) d (omega arith) (omega arith)) (λ i j d h l. up (suc i) (suc j) d (omega arith) (omega arith)))

-- what a stable sort by a key gives
pub sort_is_sorted : {A : Type 0} (key : A → ℕ) (xs ys : List A) → IsSortedByKey key nat_cmp ys → IsStableByKey key nat_cmp xs ys → ys ≡ sorted key xs
sort_is_sorted key xs ys up stable = sorted_is key xs ys (ascends_from key 0 ys (λ j d h. omega arith) (IsNonDecreasingBy-from_sort key ys up)) (stable_of_key key xs ys stable)
