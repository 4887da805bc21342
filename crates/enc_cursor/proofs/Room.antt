-- Whether there is room for one more.
use Rattle.std.proofs.Common.{◌+◌, add-one, ◌≡◌, ℕ, zero, suc, ◌<◌, ◌≤◌, true, false, refl, arith}
use Rattle.enc_cursor.specs.Limits.{at_most}

more : (n m : ℕ) → n < m → at_most (suc n) m ≡ true
more zero zero lt = absurd (omega arith)
more zero (suc m) lt = refl
more (suc n) zero lt = absurd (omega arith)
more (suc n) (suc m) lt = let less : n < m = omega arith in more n m less

none : (n m : ℕ) → m ≤ n → at_most (suc n) m ≡ false
none zero zero le = refl
none zero (suc m) le = absurd (omega arith)
none (suc n) zero le = refl
none (suc n) (suc m) le = let less : m ≤ n = omega arith in none n m less

-- there is room for one more
pub one_more : (n m : ℕ) → n < m → at_most (n + 1) m ≡ true
one_more n m lt = rw (add-one n) (more n m lt)

-- there is no room
pub no_more : (n m : ℕ) → m ≤ n → at_most (n + 1) m ≡ false
no_more n m le = rw (add-one n) (none n m le)

pub is_at_most : (n m : ℕ) → n ≤ m → at_most n m ≡ true
is_at_most zero m le = refl
is_at_most (suc n) zero le = absurd (omega arith)
is_at_most (suc n) (suc m) le = let less : n ≤ m = omega arith in is_at_most n m less

pub is_more : (n m : ℕ) → m < n → at_most n m ≡ false
is_more zero m lt = absurd (omega arith)
is_more (suc n) zero lt = refl
is_more (suc n) (suc m) lt = let less : m < n = omega arith in is_more n m less
