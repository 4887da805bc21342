-- Writes that change nothing.
use Rattle.std.proofs.Common.{◌≡◌, ℕ, zero, suc, List, [], ◌∷◌, Some, None, refl, ap, arith}
use Rattle.std.specs.Prelude.{slice_get, slice_set}

-- what stands in the place is put there again
pub slice_set-same : {A : Type 0} (xs : List A) (i : ℕ) (x y : A) → slice_get xs i ≡ Some y → x ≡ y → slice_set xs i x ≡ xs
slice_set-same [] i x y g e = refl
slice_set-same (z ∷ zs) zero x y g e = grind arith
slice_set-same (z ∷ zs) (suc i) x y g e = ap (λ ws. z ∷ ws) (slice_set-same zs i x y g e)

-- there is no such place
pub slice_set-past : {A : Type 0} (xs : List A) (i : ℕ) (x : A) → slice_get xs i ≡ None → slice_set xs i x ≡ xs
slice_set-past [] i x g = refl
slice_set-past (z ∷ zs) zero x g = absurd (cc)
slice_set-past (z ∷ zs) (suc i) x g = ap (λ ws. z ∷ ws) (slice_set-past zs i x g)

pub ruleset unchanged = (slice_set-same, slice_set-past)
