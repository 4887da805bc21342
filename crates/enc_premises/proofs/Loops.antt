-- Loops over the parts of a node: what is left to judge.
use Rattle.std.proofs.Common.{◌≡◌, ℕ, zero, suc, ◌+◌, ◌<◌, ◌≤◌, List, [], ◌∷◌, length, drop, Option, Some, None, refl, arith, add-one, slice_index_or}
use Rattle.enc_ast.specs.declared.rules.Fail.{Fail}
use Rattle.enc_premises.specs.Premises.{Premises, each}
use Rattle.enc_premises.specs.Passing.{Agrees}
use Rattle.enc_premises.proofs.Passing.{over, here, nothing}

pub drop_at : {A : Type 0} (xs : List A) (i : ℕ) (x : A) → i < length xs → x ≡ slice_index_or xs i x → drop i xs ≡ x ∷ drop (i + 1) xs
drop_at [] i x h e = absurd (omega arith)
drop_at (y ∷ xs) zero x h e = rw e refl
drop_at (y ∷ xs) (suc i) x h e = rw add-one (rw add-one at (drop_at xs i x (omega arith) e))

pub drop_all : {A : Type 0} (xs : List A) (i : ℕ) → length xs ≤ i → drop i xs ≡ []
drop_all [] zero h = refl
drop_all [] (suc i) h = refl
drop_all (y ∷ xs) zero h = absurd (omega arith)
drop_all (y ∷ xs) (suc i) h = drop_all xs i (omega arith)

-- What comes of those from the i-th on comes of all.
abbrev pub Rest : {A : Type 0} → (A → Premises) → List A → ℕ → Type 0
Rest f xs i = (o : Option Fail) → Agrees o (each f (drop i xs)) → Agrees o (each f xs)

pub rest_start : {A : Type 0} (f : A → Premises) (xs : List A) → Rest f xs 0
rest_start f [] o p = p
rest_start f (x ∷ xs) o p = p

pub rest_more : {A : Type 0} (f : A → Premises) (xs : List A) (i : ℕ) (x : A) → i < length xs → x ≡ slice_index_or xs i x → Rest f xs i → Agrees None (f x) → Rest f xs (i + 1)
rest_more f xs i x h e r p o q = r o (rw (drop_at xs i x h e) (over _ _ p o q))

pub rest_err : {A : Type 0} (f : A → Premises) (xs : List A) (i : ℕ) (x : A) → i < length xs → x ≡ slice_index_or xs i x → Rest f xs i → (fail : Fail) → Agrees (Some fail) (f x) → Agrees (Some fail) (each f xs)
rest_err f xs i x h e r fail p = r (Some fail) (rw (drop_at xs i x h e) (here fail _ _ p))

pub rest_end : {A : Type 0} (f : A → Premises) (xs : List A) (i : ℕ) → length xs ≤ i → Rest f xs i → Agrees None (each f xs)
rest_end f xs i h r = r None (rw (drop_all xs i h) nothing)
