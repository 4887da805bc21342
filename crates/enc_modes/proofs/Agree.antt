-- Two lists compared place by place.
use Rattle.std.specs.Prelude.{◌≡◌, ℕ, zero, suc, ◌+◌, ◌<◌, ◌≤◌, Bool, true, false, ◌&&◌, List, [], ◌∷◌, length, drop, slice_index_or, ◌≢◌}
use Rattle.std.proofs.Common.{refl, arith, ap, ◌∙◌, add-one}
use Rattle.enc_modes.specs.Order.{Group, Cap}
use Rattle.enc_modes.specs.Equality.{same_alt, same_group, same_cap}

-- they have the same length, and agree at each place
abbrev pub agree : {A : Type 0} → (A → A → Bool) → List A → List A → Bool
agree f [] [] = true
agree f (x ∷ xs) (y ∷ ys) = f x y && agree f xs ys
agree f _ _ = false

-- groups are compared place by place
pub group_agrees : (g h : Group) → same_group g h ≡ agree same_alt g h
group_agrees [] [] = refl
group_agrees (a ∷ g) (b ∷ h) = ap (λ z. same_alt a b && z) (group_agrees g h)
group_agrees [] (b ∷ h) = refl
group_agrees (a ∷ g) [] = refl

-- and so are capability types
pub cap_agrees : (gs hs : Cap) → same_cap gs hs ≡ agree same_group gs hs
cap_agrees [] [] = refl
cap_agrees (g ∷ gs) (h ∷ hs) = ap (λ z. same_group g h && z) (cap_agrees gs hs)
cap_agrees [] (h ∷ hs) = refl
cap_agrees (g ∷ gs) [] = refl

-- what is left begins with the element there
pub drop_at : {A : Type 0} (xs : List A) (i : ℕ) (x : A) → i < length xs → x ≡ slice_index_or xs i x → drop i xs ≡ x ∷ drop (i + 1) xs
drop_at [] i x h e = absurd (omega arith)
drop_at (y ∷ xs) zero x h e = rw e refl
drop_at (y ∷ xs) (suc i) x h e = rw add-one (rw add-one at (drop_at xs i x (omega arith) e))

-- nothing is left past the end
pub drop_all : {A : Type 0} (xs : List A) (i : ℕ) → length xs ≤ i → drop i xs ≡ []
drop_all [] zero h = refl
drop_all [] (suc i) h = refl
drop_all (y ∷ xs) zero h = absurd (omega arith)
drop_all (y ∷ xs) (suc i) h = drop_all xs i (omega arith)

-- before the i-th place they agree
abbrev pub AgreesTo : {A : Type 0} → (A → A → Bool) → List A → List A → ℕ → Type 0
AgreesTo f xs ys i = agree f xs ys ≡ agree f (drop i xs) (drop i ys)

-- lists of two lengths don't agree
pub agree_length : {A : Type 0} (f : A → A → Bool) (xs ys : List A) → length xs ≢ length ys → agree f xs ys ≡ false
agree_length f [] [] h = absurd (h refl)
agree_length f (x ∷ xs) (y ∷ ys) h = rw (agree_length f xs ys (λ e. h (ap suc e))) (elim (f x y) as (λ b. (b && false) ≡ false) [ true ↦ refl | false ↦ refl ])
agree_length f [] (y ∷ ys) h = refl
agree_length f (x ∷ xs) [] h = refl

-- so groups of two lengths aren't the same
pub group_length : (g h : Group) → length g ≢ length h → same_group g h ≡ false
group_length g h n = group_agrees g h ∙ agree_length same_alt g h n

-- nor are capability types of two lengths
pub cap_length : (gs hs : Cap) → length gs ≢ length hs → same_cap gs hs ≡ false
cap_length gs hs n = cap_agrees gs hs ∙ agree_length same_group gs hs n
