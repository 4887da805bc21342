-- Loops that gather what is there for each of a row.
use Rattle.std.proofs.Common.{◌≡◌, ◌∙◌, ℕ, ◌+◌, ◌<◌, ◌≤◌, List, [], ◌∷◌, ◌++◌, length, drop, Option, Some, None, option_map, slice_index_or, refl, sym, ap, append_assoc, append-nil}
use Rattle.enc_premises.proofs.Loops.{drop_at, drop_all}
use Rattle.enc_types.specs.Words.{all_there, add_one}

-- what is gathered, before what is there for those from the i-th on
abbrev pub Gathered : {A B : Type 0} → (A → Option B) → List A → ℕ → List B → Type 0
Gathered f xs i ys = option_map (λ rest. ys ++ rest) (all_there f (drop i xs)) ≡ all_there f xs

-- at first nothing is gathered
pub gathered_start : {A B : Type 0} (f : A → Option B) (xs : List A) → Gathered f xs 0 []
gathered_start {B = B} f xs = go (all_there f xs)
  where
    go : (o : Option (List B)) → option_map (λ rest. [] ++ rest) o ≡ o
    go None = refl
    go (Some ys) = refl

-- one more is gathered
pub gathered_more : {A B : Type 0} (f : A → Option B) (xs : List A) (i : ℕ) (x : A) (y : B) (ys : List B) → i < length xs → x ≡ slice_index_or xs i x → f x ≡ Some y → Gathered f xs i ys → Gathered f xs (i + 1) (ys ++ y ∷ [])
gathered_more {B = B} f xs i x y ys h e there g = go (all_there f (drop (i + 1) xs)) ∙ (ap (λ z. option_map (λ rest. ys ++ rest) (add_one z (all_there f (drop (i + 1) xs)))) (sym there) ∙ (ap (λ z. option_map (λ rest. ys ++ rest) (all_there f z)) (sym (drop_at xs i x h e)) ∙ g))
  where
    go : (o : Option (List B)) → option_map (λ rest. (ys ++ y ∷ []) ++ rest) o ≡ option_map (λ rest. ys ++ rest) (add_one (Some y) o)
    go None = refl
    go (Some rest) = ap Some (append_assoc ys (y ∷ []) rest)

-- where nothing is there for one, not all are there
pub gathered_none : {A B : Type 0} (f : A → Option B) (xs : List A) (i : ℕ) (x : A) (ys : List B) → i < length xs → x ≡ slice_index_or xs i x → f x ≡ None → Gathered f xs i ys → None ≡ all_there f xs
gathered_none f xs i x ys h e missing g = ap (λ z. option_map (λ rest. ys ++ rest) (add_one z (all_there f (drop (i + 1) xs)))) (sym missing) ∙ (ap (λ z. option_map (λ rest. ys ++ rest) (all_there f z)) (sym (drop_at xs i x h e)) ∙ g)

-- at the end all are gathered
pub gathered_end : {A B : Type 0} (f : A → Option B) (xs : List A) (i : ℕ) (ys : List B) → length xs ≤ i → Gathered f xs i ys → Some ys ≡ all_there f xs
gathered_end f xs i ys h g = ap Some (sym (append-nil ys)) ∙ (ap (λ z. option_map (λ rest. ys ++ rest) (all_there f z)) (sym (drop_all xs i h)) ∙ g)
