-- Groups are parted where those of both parts, one by one, are those of the whole.
use Rattle.std.specs.Prelude.{◌≡◌, ◌==◌, ℕ, ◌+◌, ◌<◌, ◌≤◌, Bool, true, false, ◌&&◌, List, [], ◌∷◌, ◌++◌, length, drop, slice_index_or}
use Rattle.std.specs.List.{list_all, IsFirstAndRest}
use Rattle.std.proofs.Common.{refl, arith, ap, sym, subst, ◌∙◌, inl, inr, eq-eqb}
use Rattle.std.proofs.lemmas.Bool.{false≢true}
use Rattle.std.proofs.lemmas.Bool.Decides.{Decides-eqb, nat_tests}
use Rattle.enc_modes.specs.Order.{Group, Cap, place_of}
use Rattle.enc_modes.specs.Equality.{same_alt, same_group}
use Rattle.enc_modes.specs.Parting.{times, alike, balanced, parted, ascends, ordered}
use Rattle.enc_modes.proofs.Agree.{drop_at, drop_all}
use Rattle.enc_modes.proofs.Ascending.{ordered_rest, found_first, same_ordered}
use Rattle.enc_modes.proofs.Tells.{alt_tells, group_tells, and_true}
use Rattle.enc_modes.proofs.Times.{all_at, all_true, filter_same, some_passes, times_cons, times_append, counted, both_ways, alike_all, alike_own, alike_join}

-- groups in order that are alike are equal
alike_equal : (g h : Group) → ascends (λ a. a.number) g ≡ true → ascends (λ a. a.number) h ≡ true → alike g h ≡ true → g ≡ h
alike_equal g h a b e = same_ordered (λ x. x.number) (λ x. true) same_alt alt_tells.itself (λ x y p q r. alt_tells.equal x y r) g h (every g a) (every h b) (alike_all g h e)
  where
    every : (k : Group) → ascends (λ x. x.number) k ≡ true → (ascends (λ x. x.number) k && list_all (λ x. true) k) ≡ true
    every k e = and_true (ascends (λ x. x.number) k) (list_all (λ x. true) k) e (all_true (λ x. true) (λ x. refl) k)

-- groups that are alike stand in a list equally often
alike_times : (g h : Group) → alike g h ≡ true → (gs : Cap) → times alike g gs ≡ times alike h gs
alike_times g h e gs = ap length (filter_same (alike g) (alike h) gs (λ k i. both_ways (alike g k) (alike h k)
    (λ l. alike_join h k g (alike_join h g h (alike_own h) e) (alike_join k g k (alike_own k) l))
    (λ l. alike_join g k h e (alike_join k h k (alike_own k) l))))

-- what is parted balances for each group
parted_at : (whole left right : Cap) → parted whole left right ≡ true → (g : Group) → times alike g whole ≡ times alike g left + times alike g right
parted_at whole left right p g = elim (some_passes (alike g) (whole ++ (left ++ right))) [
  | inl t ↦
      let e : times alike t.0 whole ≡ times alike t.0 left + times alike t.0 right = (Decides-eqb (times alike t.0 whole) (times alike t.0 left + times alike t.0 right)).0 (all_at (balanced whole left right) (whole ++ (left ++ right)) t.0 p t.1) in
      let w = alike_times g t.0 t.2 whole in
      let l = alike_times g t.0 t.2 left in
      let r = alike_times g t.0 t.2 right in
      omega arith
  | inr n ↦
      let z = ap length n in
      let a = times_append alike g whole (left ++ right) in
      let b = times_append alike g left right in
      omega arith
]

-- What is left of the three stands in order and balances as they do, up to this place of the whole.
pub record Walked (whole left right lefts rights : Cap) (i : ℕ) : Type 0 where
  pub balance : (g : Group) → times alike g whole + (times alike g lefts + times alike g rights) ≡ times alike g (drop i whole) + (times alike g left + times alike g right)
  pub whole_stands : ordered (drop i whole) ≡ true
  pub left_stands : ordered lefts ≡ true
  pub right_stands : ordered rights ≡ true

-- behind the first of groups in order
rest_ordered : (gs rest : Cap) (x : Group) → gs ≡ x ∷ rest → ordered gs ≡ true → ordered rest ≡ true
rest_ordered gs rest x e o = ordered_rest place_of (ascends (λ a. a.number)) alike alike_own alike_equal x rest (rw e at o)

-- at the start
pub walk_start : (whole left right : Cap) → ordered whole ≡ true → ordered left ≡ true → ordered right ≡ true → Walked whole left right left right 0
walk_start whole left right o p q = record {
  balance = λ g. refl;
  whole_stands = o;
  left_stands = p;
  right_stands = q;
}

-- a group of the left part
pub walk_left : (whole left right lefts rights rest : Cap) (i : ℕ) (x : Group) → i < length whole → x ≡ slice_index_or whole i x → Walked whole left right lefts rights i → lefts ≡ x ∷ rest → Walked whole left right rest rights (i + 1)
walk_left whole left right lefts rights rest i x h e w l =
    let n : drop i whole ≡ x ∷ drop (i + 1) whole = drop_at whole i x h e in record {
      balance = λ g.
          let c = times_cons alike g x rest in
          let d = times_cons alike g x (drop (i + 1) whole) in
          let q = rw (l, n) at (w.balance g) in
          omega arith;
      whole_stands = rest_ordered (drop i whole) (drop (i + 1) whole) x n w.whole_stands;
      left_stands = rest_ordered lefts rest x l w.left_stands;
      right_stands = w.right_stands;
    }

-- a group of the right part
pub walk_right : (whole left right lefts rights rest : Cap) (i : ℕ) (x : Group) → i < length whole → x ≡ slice_index_or whole i x → Walked whole left right lefts rights i → rights ≡ x ∷ rest → Walked whole left right lefts rest (i + 1)
walk_right whole left right lefts rights rest i x h e w r =
    let n : drop i whole ≡ x ∷ drop (i + 1) whole = drop_at whole i x h e in record {
      balance = λ g.
          let c = times_cons alike g x rest in
          let d = times_cons alike g x (drop (i + 1) whole) in
          let q = rw (r, n) at (w.balance g) in
          omega arith;
      whole_stands = rest_ordered (drop i whole) (drop (i + 1) whole) x n w.whole_stands;
      left_stands = w.left_stands;
      right_stands = rest_ordered rights rest x r w.right_stands;
    }

-- what can't be is false
not_parted : (whole left right : Cap) → (parted whole left right ≡ true → ⊥) → false ≡ parted whole left right
not_parted whole left right n = go (parted whole left right) n
  where
    go : (b : Bool) → (b ≡ true → ⊥) → false ≡ b
    go true f = absurd (f refl)
    go false f = refl

-- where a group is the next of neither part, they aren't parted
pub walk_stuck : (whole left right lefts rights : Cap) (i : ℕ) (x : Group) → i < length whole → x ≡ slice_index_or whole i x → Walked whole left right lefts rights i → ((rest : Cap) → lefts ≡ x ∷ rest → ⊥) → ((rest : Cap) → rights ≡ x ∷ rest → ⊥) → false ≡ parted whole left right
walk_stuck whole left right lefts rights i x h e w l r = not_parted whole left right (λ p.
    let n : drop i whole ≡ x ∷ drop (i + 1) whole = drop_at whole i x h e in
    let o : ordered (x ∷ drop (i + 1) whole) ≡ true = rw n at (w.whole_stands) in
    let balance : (g : Group) → times alike g (x ∷ drop (i + 1) whole) ≡ times alike g lefts + times alike g rights = λ g. let q = rw n at (w.balance g) in let b = parted_at whole left right p g in omega arith in
    let c = counted alike x x (alike_own x) (x ∷ drop (i + 1) whole) (inl refl) in
    let b = balance x in
    elim (some_passes (alike x) lefts) [
      | inl t ↦ let f = found_first place_of (ascends (λ a. a.number)) alike alike_own alike_equal x (drop (i + 1) whole) lefts o w.left_stands (λ g. let q = balance g in omega arith) t.0 t.1 t.2 in l f.0 f.1
      | inr m ↦ elim (some_passes (alike x) rights) [
        | inl t ↦ let f = found_first place_of (ascends (λ a. a.number)) alike alike_own alike_equal x (drop (i + 1) whole) rights o w.right_stands (λ g. let q = balance g in omega arith) t.0 t.1 t.2 in r f.0 f.1
        | inr k ↦ absurd (let y = ap length m in let z = ap length k in omega arith)
      ]
    ])

-- none is left
none_left : {A : Type 0} (xs : List A) → (length xs == 0) ≡ true → xs ≡ []
none_left [] e = refl
none_left (x ∷ xs) e = let n : length (x ∷ xs) ≡ 0 = (Decides-eqb (length (x ∷ xs)) 0).0 e in absurd (omega arith)

-- one is left
some_left : {A : Type 0} (x : A) (xs : List A) → (length (x ∷ xs) == 0) ≡ false
some_left x xs = grind (arith, nat_tests)

-- at the end what is parted has nothing left
nothing_left : (whole left right lefts rights : Cap) (i : ℕ) → length whole ≤ i → Walked whole left right lefts rights i → parted whole left right ≡ true → (g : Group) → times alike g lefts + times alike g rights ≡ 0
nothing_left whole left right lefts rights i h w p g =
    let q = rw (drop_all whole i h) at (w.balance g) in
    let b = parted_at whole left right p g in
    omega arith

-- of the left part
pub walk_over : (whole left right lefts rights : Cap) (i : ℕ) → length whole ≤ i → Walked whole left right lefts rights i → (length lefts == 0) ≡ false → false ≡ parted whole left right
walk_over whole left right [] rights i h w l = absurd (false≢true (sym l))
walk_over whole left right (y ∷ lefts) rights i h w l = not_parted whole left right (λ p.
    let c = counted alike y y (alike_own y) (y ∷ lefts) (inl refl) in
    let n = nothing_left whole left right (y ∷ lefts) rights i h w p y in
    absurd (omega arith))

-- nor of the right part
pub walk_end : (whole left right lefts rights : Cap) (i : ℕ) → length whole ≤ i → Walked whole left right lefts rights i → (length lefts == 0) ≡ true → (length rights == 0) ≡ parted whole left right
walk_end whole left right lefts [] i h w l = sym (all_true (balanced whole left right) (λ g. eq-eqb _ _ (let q = rw (none_left lefts l, drop_all whole i h) at (w.balance g) in omega arith)) (whole ++ (left ++ right)))
walk_end whole left right lefts (y ∷ rights) i h w l = some_left y rights ∙ not_parted whole left right (λ p.
    let c = counted alike y y (alike_own y) (y ∷ rights) (inl refl) in
    let n = nothing_left whole left right lefts (y ∷ rights) i h w p y in
    absurd (omega arith))

pub ruleset walk = (walk_start, walk_left, walk_right, walk_stuck, walk_over, walk_end)

-- the first group and those behind it
pub first_is : (gs rest : Cap) (x g : Group) → IsFirstAndRest gs x rest → same_group x g ≡ true → gs ≡ g ∷ rest
first_is gs rest x g e s = e.0 ∙ ap (λ z. z ∷ rest) (group_tells.equal x g s)

-- another first group
pub first_not : (gs rest : Cap) (x g : Group) → IsFirstAndRest gs x rest → same_group x g ≡ false → (others : Cap) → gs ≡ g ∷ others → ⊥
first_not gs rest x g e s others q = false≢true (sym s ∙ subst (λ z. same_group z g ≡ true) (ap (λ l. slice_index_or l 0 x) (sym q ∙ e.0)) (group_tells.itself g))

pub ruleset first = (first_is, first_not)
