-- The longest front whose items pass a test.
use Rattle.std.proofs.Common.{◌≡◌, ℕ, ◌+◌, Bool, true, false, not, cond, List, [], ◌∷◌, ◌++◌, length, take, drop, refl, arith, one-add, take_at, take_while}
use Rattle.std.specs.List.{prefix_len, list_all}
use Rattle.std.proofs.lemmas.Bool.{not-true, and_parts}
use Rattle.enc_lex.specs.Bytes.{begins_with}

-- items that pass, before one that does not, are the longest front
pub prefix_len_front : (p : ℕ → Bool) (xs ys : List ℕ) → list_all p xs ≡ true → not (begins_with p ys) ≡ true → prefix_len p (xs ++ ys) ≡ length xs
prefix_len_front p [] [] all ends = refl
prefix_len_front p [] (y ∷ ys) all ends = rw (not-true (p y) ends)
prefix_len_front p (x ∷ xs) ys all ends =
    let both = and_parts (p x) (list_all p xs) all in
    let more = prefix_len_front p xs ys both.1 ends in
    rw both.0 (omega arith)

pub take_while_front : (p : ℕ → Bool) (xs ys : List ℕ) → list_all p xs ≡ true → not (begins_with p ys) ≡ true → take_while p (xs ++ ys) ≡ xs
take_while_front p xs ys all ends = rw (prefix_len_front p xs ys all ends) (take_at xs ys (length xs) refl)

front_all_by : (p : ℕ → Bool) (x : ℕ) (xs : List ℕ) (b : Bool) → p x ≡ b → list_all p (take (prefix_len p xs) xs) ≡ true → list_all p (take (cond b (1 + prefix_len p xs) 0) (x ∷ xs)) ≡ true
front_all_by p x xs true e more = rw (one-add, e) more
front_all_by p x xs false e more = refl

-- what is taken passes
pub front_all : (p : ℕ → Bool) (xs : List ℕ) → list_all p (take (prefix_len p xs) xs) ≡ true
front_all p [] = refl
front_all p (x ∷ xs) = front_all_by p x xs (p x) refl (front_all p xs)

front_ends_by : (p : ℕ → Bool) (x : ℕ) (xs : List ℕ) (b : Bool) → p x ≡ b → not (begins_with p (drop (prefix_len p xs) xs)) ≡ true → not (begins_with p (drop (cond b (1 + prefix_len p xs) 0) (x ∷ xs))) ≡ true
front_ends_by p x xs true e more = rw one-add more
front_ends_by p x xs false e more = rw e refl

-- what follows it does not
pub front_ends : (p : ℕ → Bool) (xs : List ℕ) → not (begins_with p (drop (prefix_len p xs) xs)) ≡ true
front_ends p [] = refl
front_ends p (x ∷ xs) = front_ends_by p x xs (p x) refl (front_ends p xs)
