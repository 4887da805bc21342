-- Limits so wide that a log passes none.
use Rattle.std.proofs.Common.{◌≡◌, ℕ, ◌+◌, ◌≤◌, Bool, true, List, [], ◌∷◌, length, Option, None, refl, ap, ◌∙◌, arith}
use Rattle.std.specs.Prelude.{◌&&◌}
use Rattle.enc_cursor.specs.Counts.{Mark, Bracket, Operator, Variable, Declared, Group, Trait, Letters}
use Rattle.enc_cursor.specs.Limits.{Limits, mark_fits, fits, Log, earlier, unless, passed}
use Rattle.enc_cursor.proofs.Room.{is_at_most}

-- the number of a mark
size : Mark → ℕ
size (Bracket n) = n
size (Operator n) = n
size (Variable n) = n
size (Declared n) = n
size (Group n) = n
size (Trait n) = n
size (Letters n) = n

-- the sum of the marks of one token
sizes : List Mark → ℕ
sizes [] = 0
sizes (m ∷ ms) = size m + sizes ms

-- the sum of all marks
pub total_size : Log → ℕ
total_size [] = 0
total_size (m ∷ l) = sizes m + total_size l

-- limits that are all the same
pub wide_limits : ℕ → Limits
wide_limits n = record { brackets = n; counts = record { letters = n; variables = n; operators = n; names = n; groups = n; traits = n } }

pub wide_brackets : (n : ℕ) → (wide_limits n).brackets ≡ n
unfolding wide_limits
wide_brackets n = refl

within_wide : (n : ℕ) (m : Mark) → size m ≤ n → mark_fits (wide_limits n) m ≡ true
unfolding size wide_limits
within_wide n (Bracket k) le = is_at_most k n le
within_wide n (Operator k) le = is_at_most k n le
within_wide n (Variable k) le = is_at_most k n le
within_wide n (Declared k) le = is_at_most k n le
within_wide n (Group k) le = is_at_most k n le
within_wide n (Trait k) le = is_at_most k n le
within_wide n (Letters k) le = is_at_most k n le

fits_wide : (n : ℕ) (ms : List Mark) → sizes ms ≤ n → fits (wide_limits n) ms ≡ true
unfolding sizes
fits_wide n [] le = refl
fits_wide n (m ∷ ms) le =
    let rest : sizes ms ≤ n = omega arith in
    let one : size m ≤ n = omega arith in
    ap (λ (b : Bool). b && mark_fits (wide_limits n) m) (fits_wide n ms rest) ∙ within_wide n m one

-- the limits are as wide as the log is large
pub none_passed : (n : ℕ) (l : Log) → total_size l ≤ n → passed (wide_limits n) l ≡ None
unfolding total_size
none_passed n [] le = refl
none_passed n (m ∷ l) le =
    let rest : total_size l ≤ n = omega arith in
    let one : sizes m ≤ n = omega arith in
    ap (λ (o : Option ℕ). earlier o (unless (fits (wide_limits n) m) (length l))) (none_passed n l rest) ∙ ap (λ (b : Bool). unless b (length l)) (fits_wide n m one)
