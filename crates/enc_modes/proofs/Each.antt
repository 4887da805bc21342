-- Each element of a list changed in turn.
use Rattle.std.specs.Prelude.{◌≡◌, ℕ, zero, suc, ◌+◌, ◌<◌, ◌≤◌, List, [], ◌∷◌, map, length, slice_index_or, slice_set, take, ◌++◌}
use Rattle.std.proofs.Common.{refl, arith, ap, add-one}
use Rattle.std.proofs.lemmas.Grind.{common_steps}

-- the first i of them changed
pub changed : {A : Type 0} → (A → A) → ℕ → List A → List A
changed f zero xs = xs
changed f (suc i) [] = []
changed f (suc i) (x ∷ xs) = f x ∷ changed f i xs

-- none changed
pub changed_start : {A : Type 0} (f : A → A) (xs : List A) → changed f 0 xs ≡ xs
unfolding changed
changed_start f xs = refl

-- all changed
pub changed_end : {A : Type 0} (f : A → A) (i : ℕ) (xs : List A) → length xs ≤ i → changed f i xs ≡ map f xs
unfolding changed
changed_end f zero [] h = refl
changed_end f zero (x ∷ xs) h = absurd (omega arith)
changed_end f (suc i) [] h = refl
changed_end f (suc i) (x ∷ xs) h = ap (λ z. f x ∷ z) (changed_end f i xs (omega arith))

-- one changed more
pub changed_more : {A : Type 0} (f : A → A) (i : ℕ) (xs : List A) (x : A) → i < length xs → x ≡ slice_index_or (changed f i xs) i x → slice_set (changed f i xs) i (f x) ≡ changed f (i + 1) xs
unfolding changed
changed_more f zero [] x h e = absurd (omega arith)
changed_more f zero (y ∷ xs) x h e = rw e refl
changed_more f (suc i) [] x h e = absurd (omega arith)
changed_more f (suc i) (y ∷ xs) x h e = let r = rw add-one at (changed_more f i xs x (omega arith) e) in rw add-one (ap (λ z. f y ∷ z) r)

-- the same for a list that is known by an equation
pub changed_step : {A : Type 0} (f : A → A) (i : ℕ) (xs ys : List A) (x y : A) → ys ≡ changed f i xs → i < length xs → x ≡ slice_index_or ys i x → y ≡ f x → slice_set ys i y ≡ changed f (i + 1) xs
changed_step f i xs ys x y is h e v = rw (is, v) (changed_more f i xs x h (rw is at e))

-- the front of two lists joined
pub take_whole : {A : Type 0} (n : ℕ) (xs ys : List A) → n ≡ length xs → take n (xs ++ ys) ≡ xs
take_whole n xs ys h = rw h (grind (arith, common_steps))
