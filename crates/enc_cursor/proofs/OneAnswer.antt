-- No two answers are true of one list of tokens.
use Rattle.std.proofs.Common.{◌≡◌, ℕ, zero, suc, ◌+◌, ◌<◌, ◌≤◌, [], ◌∷◌, ◌++◌, length, take, Some, None, refl, sym, ap, subst, ◌∙◌, append_assoc, inl, inr, ◌⊎◌, arith}
use Rattle.std.proofs.lemmas.List.{append-nil}
use Rattle.enc_cursor.specs.Limits.{Limits, passed}
use Rattle.enc_cursor.specs.Place.{Tokens}
use Rattle.enc_cursor.specs.Stretch.{Stretch}
use Rattle.enc_cursor.specs.Answers.{Spells, IsViable, Fits, IsBefore, FirstFailure, FirstOver}

-- a longer front goes on from a shorter one
longer_take : (n m : ℕ) (l : Tokens) → n ≤ m → (r : Tokens) × (take m l ≡ take n l ++ r)
longer_take zero m l le = (take m l, refl)
longer_take (suc n) zero l le = absurd (omega arith)
longer_take (suc n) (suc m) [] le = ([], refl)
longer_take (suc n) (suc m) (t ∷ l) le = let less : n ≤ m = omega arith in let h = longer_take n m l less in (h.0, ap (λ (w : Tokens). t ∷ w) h.1)

some_is : (i j : ℕ) → Some i ≡ Some j → i ≡ j
some_is i j e = cc

none_some : (n : ℕ) → None ≡ Some n → ⊥
none_some n e = cc

below_or : (i j : ℕ) → (i < j) ⊎ ((j < i) ⊎ (i ≡ j))
below_or zero zero = inr (inr refl)
below_or zero (suc j) = inl (omega arith)
below_or (suc i) zero = inr (inl (omega arith))
below_or (suc i) (suc j) = go (below_or i j)
  where
    go : (i < j) ⊎ ((j < i) ⊎ (i ≡ j)) → (suc i < suc j) ⊎ ((suc j < suc i) ⊎ (suc i ≡ suc j))
    go (inl h) = inl (omega (arith, h))
    go (inr (inl h)) = inr (inl (omega (arith, h)))
    go (inr (inr h)) = inr (inr (ap suc h))

take_all : (l : Tokens) → take (length l) l ≡ l
take_all [] = refl
take_all (t ∷ l) = ap (λ (w : Tokens). t ∷ w) (take_all l)

module _ {A : Type 0} {S : A → Stretch} where
  shorter_viable : (n m : ℕ) (l : Tokens) → n ≤ m → IsViable S (take m l) → IsViable S (take n l)
  shorter_viable n m l le v = let h = longer_take n m l le in
      (h.0 ++ v.0, v.1, subst (λ (w : Tokens). Spells S w v.1) (ap (λ (w : Tokens). w ++ v.0) h.1 ∙ append_assoc (take n l) h.0 v.0) v.2)

  -- what a front passes, a longer one passes
  module _ (L : Limits) (tokens : Tokens) (j : ℕ) (over : FirstOver L S tokens j) where
    passes : (m : ℕ) → j + 1 ≤ m → (more : Tokens) (y : A) (s : Spells S (take m tokens ++ more) y) → passed L s.end.log ≡ Some j
    passes m le more y s = let h = longer_take (j + 1) m tokens le in go (take m tokens ++ more) (ap (λ (w : Tokens). w ++ more) h.1 ∙ append_assoc (take (j + 1) tokens) h.0 more) s
      where
        go : (w : Tokens) → w ≡ take (j + 1) tokens ++ ((longer_take (j + 1) m tokens le).0 ++ more) → (s : Spells S w y) → passed L s.end.log ≡ Some j
        go w e = subst (λ (w : Tokens). (s : Spells S w y) → passed L s.end.log ≡ Some j) (sym e) (over.over ((longer_take (j + 1) m tokens le).0 ++ more) y)

  over_before : (L : Limits) (tokens : Tokens) (i j : ℕ) → FirstOver L S tokens i → FirstOver L S tokens j → i < j → ⊥
  over_before L tokens i j a b lt =
      let v = b.viable in
      let le : i + 1 ≤ j + 1 = omega (arith, lt) in
      let one : passed L v.2.end.log ≡ Some i = passes L tokens i a (j + 1) le v.0 v.1 v.2 in
      let two : passed L v.2.end.log ≡ Some j = b.over v.0 v.1 v.2 in
      let same = some_is i j (sym one ∙ two) in absurd (omega (arith, lt, same))

  -- a limit is first passed by one token
  pub one_over : (L : Limits) (tokens : Tokens) (i j : ℕ) → FirstOver L S tokens i → FirstOver L S tokens j → i ≡ j
  one_over L tokens i j a b = elim (below_or i j) [
    | inl h ↦ absurd (over_before L tokens i j a b h)
    | inr h ↦ elim h [
      | inl g ↦ absurd (over_before L tokens j i b a g)
      | inr g ↦ g
    ]
  ]

  -- of a limit and a wrong token the earlier counts, and at one token the wrong one
  pub one_failure : (L : Limits) (tokens : Tokens) (i j : ℕ) → FirstFailure L S tokens i → FirstOver L S tokens j → ⊥
  one_failure L tokens i j a b = elim (below_or i j) [
    | inl h ↦ late h
    | inr h ↦ elim h [
      | inl g ↦ early g
      | inr g ↦ at_one g
    ]
  ]
    where
      not_later : i ≤ j → ⊥
      not_later h =
          let le : i + 1 ≤ j + 1 = omega (arith, h) in
          let less : i < length tokens = omega (arith, h, b.within) in
          a.exact less (shorter_viable (i + 1) (j + 1) tokens le b.viable)

      late : i < j → ⊥
      late h = let le : i ≤ j = omega (arith, h) in not_later le

      at_one : i ≡ j → ⊥
      at_one h = let le : i ≤ j = omega (arith, h) in not_later le

      early : j < i → ⊥
      early h =
          let v = a.viable in
          let le : j + 1 ≤ i = omega (arith, h) in
          let one : passed L v.2.end.log ≡ Some j = passes L tokens j b i le v.0 v.1 v.2 in
          a.fine v.0 v.1 v.2 (subst (IsBefore i) (sym one) h)

  failure_before : (L : Limits) (tokens : Tokens) (i j : ℕ) → FirstFailure L S tokens i → FirstFailure L S tokens j → i < j → ⊥
  failure_before L tokens i j a b h =
      let le : i + 1 ≤ j = omega (arith, h) in
      let less : i < length tokens = omega (arith, h, b.within) in
      a.exact less (shorter_viable (i + 1) j tokens le b.viable)

  -- there is one first failure
  pub one_wrong : (L : Limits) (tokens : Tokens) (i j : ℕ) → FirstFailure L S tokens i → FirstFailure L S tokens j → i ≡ j
  one_wrong L tokens i j a b = elim (below_or i j) [
    | inl h ↦ absurd (failure_before L tokens i j a b h)
    | inr h ↦ elim h [
      | inl g ↦ absurd (failure_before L tokens j i b a g)
      | inr g ↦ g
    ]
  ]

  -- what is within the limits passes none
  pub fits_not_over : (L : Limits) (tokens : Tokens) (y : A) (j : ℕ) → Fits L S tokens y → FirstOver L S tokens j → ⊥
  fits_not_over L tokens y j a b = go tokens (append-nil (take (length tokens) tokens) ∙ take_all tokens) a
    where
      go : (w : Tokens) → take (length tokens) tokens ++ [] ≡ w → Fits L S w y → ⊥
      go w e = subst (λ (w : Tokens). Fits L S w y → ⊥) e (λ f.
          let le : j + 1 ≤ length tokens = omega (arith, b.within) in
          none_some j (sym f.fine ∙ passes L tokens j b (length tokens) le [] y f.spells))
