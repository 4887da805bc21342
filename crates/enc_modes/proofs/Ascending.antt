-- Keys that ascend.
use Rattle.std.specs.Prelude.{◌≡◌, ◌⊎◌, ℕ, zero, suc, ◌<◌, ◌≤◌, Bool, true, false, nat_lt, ◌&&◌, List, [], ◌∷◌, length, slice_index_or}
use Rattle.std.specs.List.{list_all, IsAllAdjacentAnswer}
use Rattle.std.proofs.Common.{refl, arith, ap, sym, subst, ◌∙◌, inl, inr, add-one}
use Rattle.std.proofs.lemmas.Bool.{false≢true}
use Rattle.enc_modes.specs.Parting.{times, ascends}
use Rattle.enc_modes.proofs.Sorting.{lt_tells}
use Rattle.enc_modes.proofs.Tells.{and_left, and_right, and_true}
use Rattle.enc_modes.proofs.Times.{In, all_at, some_passes, times_cons, counted}

module _ {A : Type 0} (key : A → ℕ) where
  -- each is below the next
  all_ascend : (xs : List A) → ((k : ℕ) (d : A) → suc k < length xs → true ≡ nat_lt (key (slice_index_or xs k d)) (key (slice_index_or xs (suc k) d))) → true ≡ ascends key xs
  all_ascend [] h = refl
  all_ascend (x ∷ []) h = refl
  all_ascend (x ∷ y ∷ ys) h = rw (sym (h 0 x (omega arith))) (all_ascend (y ∷ ys) (λ k d l. h (suc k) d (omega arith)))

  -- some isn't
  some_falls : (xs : List A) (k : ℕ) → suc k < length xs → ((d : A) → false ≡ nat_lt (key (slice_index_or xs k d)) (key (slice_index_or xs (suc k) d))) → false ≡ ascends key xs
  some_falls [] k l h = absurd (omega arith)
  some_falls (x ∷ []) k l h = absurd (omega arith)
  some_falls (x ∷ y ∷ ys) zero l h = rw (sym (h x)) refl
  some_falls (x ∷ y ∷ ys) (suc k) l h = rw (sym (some_falls (y ∷ ys) k (omega arith) (λ d. h d))) (go (nat_lt (key x) (key y)))
    where
      go : (b : Bool) → false ≡ (b && false)
      go true = refl
      go false = refl

  -- what a test of neighbours tells
  pub ascends_is : (xs : List A) (r : Bool) → IsAllAdjacentAnswer (λ x y b. b ≡ nat_lt (key x) (key y)) xs r → r ≡ ascends key xs
  ascends_is xs true h = all_ascend xs (λ k d l. rw add-one at (h k d (omega arith)))
  ascends_is xs false h = some_falls xs h.0 (omega arith) (λ d. rw add-one at (h.2 d))

-- the first is below each of the others
lower : {A : Type 0} (key : A → ℕ) (x : A) (ys : List A) → ascends key (x ∷ ys) ≡ true → (y : A) → In y ys → key x < key y
lower key x [] a y i = absurd i
lower key x (z ∷ ys) a y i =
    let h : key x < key z = above (lt_tells (key x) (key z)) (and_left (nat_lt (key x) (key z)) (ascends key (z ∷ ys)) a) in
    elim i [
      | inl e ↦ subst (λ w. key x < key w) e h
      | inr j ↦ let l = lower key z ys (and_right (nat_lt (key x) (key z)) (ascends key (z ∷ ys)) a) y j in omega arith
    ]
  where
    above : {m n : ℕ} → ((nat_lt m n ≡ true) × (m < n)) ⊎ ((nat_lt m n ≡ false) × (n ≤ m)) → nat_lt m n ≡ true → m < n
    above (inl w) e = w.1
    above (inr w) e = absurd (false≢true (sym w.0 ∙ e))

-- what stands behind the first ascends
pub ascends_rest : {A : Type 0} (key : A → ℕ) (x : A) (ys : List A) → ascends key (x ∷ ys) ≡ true → ascends key ys ≡ true
ascends_rest key x [] a = refl
ascends_rest key x (y ∷ ys) a = and_right (nat_lt (key x) (key y)) (ascends key (y ∷ ys)) a

module _ {A : Type 0} (key : A → ℕ) (good : A → Bool) (like : A → A → Bool) (own : (x : A) → like x x ≡ true) (equal : (x y : A) → good x ≡ true → good y ≡ true → like x y ≡ true → x ≡ y) where
  -- good elements that ascend
  abbrev pub Ordered : List A → Type 0
  Ordered xs = (ascends key xs && list_all good xs) ≡ true

  ordered_ascends : (xs : List A) → Ordered xs → ascends key xs ≡ true
  ordered_ascends xs o = and_left (ascends key xs) (list_all good xs) o

  ordered_good : (xs : List A) → Ordered xs → (x : A) → In x xs → good x ≡ true
  ordered_good xs o x i = all_at good xs x (and_right (ascends key xs) (list_all good xs) o) i

  pub ordered_rest : (x : A) (ys : List A) → Ordered (x ∷ ys) → Ordered ys
  ordered_rest x ys o = and_true (ascends key ys) (list_all good ys) (ascends_rest key x ys (ordered_ascends (x ∷ ys) o)) (and_right (good x) (list_all good ys) (and_right (ascends key (x ∷ ys)) (list_all good (x ∷ ys)) o))

  -- where the others hold nothing more often, one like the first is their first
  pub found_first : (x : A) (ws ys : List A) → Ordered (x ∷ ws) → Ordered ys → ((k : A) → times like k ys ≤ times like k (x ∷ ws)) → (t : A) → In t ys → like x t ≡ true → (rest : List A) × (ys ≡ x ∷ rest)
  found_first x ws [] o p h t i l = absurd i
  found_first x ws (y ∷ ys) o p h t i l =
      let e : x ≡ t = equal x t (ordered_good (x ∷ ws) o x (inl refl)) (ordered_good (y ∷ ys) p t i) l in
      elim i [
        | inl q ↦ (ys, ap (λ z. z ∷ ys) (q ∙ sym e))
        | inr j ↦ absurd (
            let u : key y < key x = subst (λ z. key y < key z) (sym e) (lower key y ys (ordered_ascends (y ∷ ys) p) t j) in
            let c = counted like y y (own y) (y ∷ ys) (inl refl) in
            elim (some_passes (like y) (x ∷ ws)) [
              | inl v ↦
                  let f : y ≡ v.0 = equal y v.0 (ordered_good (y ∷ ys) p y (inl refl)) (ordered_good (x ∷ ws) o v.0 v.1) v.2 in
                  elim (v.1) [
                    | inl r ↦ let s : key x ≡ key y = ap key (r ∙ sym f) in omega arith
                    | inr k ↦ let s = subst (λ z. key x < key z) (sym f) (lower key x ws (ordered_ascends (x ∷ ws) o) v.0 k) in omega arith
                  ]
              | inr n ↦ let z = ap length n in let m = h y in omega arith
            ])
      ]

  -- lists that hold each equally often are equal
  pub same_ordered : (xs ys : List A) → Ordered xs → Ordered ys → ((k : A) → times like k xs ≡ times like k ys) → xs ≡ ys
  same_ordered [] [] o p h = refl
  same_ordered [] (y ∷ ys) o p h = absurd (let c = counted like y y (own y) (y ∷ ys) (inl refl) in let m = h y in omega arith)
  same_ordered (x ∷ xs) ys o p h =
      let c = counted like x x (own x) (x ∷ xs) (inl refl) in
      elim (some_passes (like x) ys) [
        | inl t ↦
            let f = found_first x xs ys o p (λ k. let m = h k in omega arith) t.0 t.1 t.2 in
            let r : xs ≡ f.0 = same_ordered xs f.0 (ordered_rest x xs o) (ordered_rest x f.0 (rw (f.1) at p)) (λ k.
            let a = times_cons like k x xs in
            let b = times_cons like k x f.0 in
            let m = rw (f.1) at (h k) in
            omega arith) in
            ap (λ z. x ∷ z) r ∙ sym f.1
        | inr n ↦ absurd (let z = ap length n in let m = h x in omega arith)
      ]
