-- One more variable of a list of variables.
use Rattle.std.proofs.Common.{◌≡◌, ℕ, zero, suc, ◌<◌, ◌≤◌, ◌+◌, ◌-◌, List, [], ◌∷◌, ◌++◌, length, take, drop, Some, None, refl, ap, sym, ◌∙◌, arith, slice_set, slice_index_or, cond, Bool, true, false, ◌||◌, ◌&&◌, not, min, add-one}
use Rattle.std.specs.Str.{bytes_eq}
use Rattle.enc_flow.specs.Vars.{Var}
use Rattle.enc_flow.specs.Env.{Env, or_else, number_from, merged, same_moves}

-- ---- the newest one of a name

-- the newest one of a name, with i before it, counted from k on
found_at : (vs : Env) (i k : ℕ) (v : Var) (x : List ℕ) → i < length vs → v ≡ slice_index_or vs i v → number_from (suc (i + k)) (drop (suc i) vs) x ≡ None → bytes_eq v.word x ≡ true → number_from k vs x ≡ Some (i + k)
found_at [] i k v x h e n b = absurd (omega arith)
found_at (w ∷ vs) zero k v x h e n b =
    let q : bytes_eq w.word x ≡ true = ap (λ z. bytes_eq z.word x) (sym e) ∙ b in
    let m : number_from (suc k) vs x ≡ None = ap (λ z. number_from z vs x) (omega arith) ∙ n in
    ap (λ z. or_else z (cond (bytes_eq w.word x) (Some k) None)) m ∙ (ap (λ z. cond z (Some k) None) q ∙ ap Some (omega arith))
found_at (w ∷ vs) (suc i) k v x h e n b =
    let q : suc (i + suc k) ≡ suc (suc i + k) = omega arith in
    let r = found_at vs i (suc k) v x (omega arith) e (ap (λ z. number_from z (drop (suc i) vs) x) q ∙ n) b in
    ap (λ z. or_else z (cond (bytes_eq w.word x) (Some k) None)) r ∙ ap Some (omega arith)

-- one more that hasn't the name
missed_at : (vs : Env) (i k : ℕ) (v : Var) (x : List ℕ) → i < length vs → v ≡ slice_index_or vs i v → number_from (suc k) (drop (suc i) vs) x ≡ None → bytes_eq v.word x ≡ false → number_from k (drop i vs) x ≡ None
missed_at [] i k v x h e n b = absurd (omega arith)
missed_at (w ∷ vs) zero k v x h e n b =
    let q : bytes_eq w.word x ≡ false = ap (λ z. bytes_eq z.word x) (sym e) ∙ b in
    ap (λ z. or_else z (cond (bytes_eq w.word x) (Some k) None)) n ∙ ap (λ z. cond z (Some k) None) q
missed_at (w ∷ vs) (suc i) k v x h e n b = missed_at vs i k v x (omega arith) e n b

-- where none of those from at on has the name, and the one before them has it, that is the newest one
pub found : (vs : Env) (at : ℕ) (v : Var) (x : List ℕ) → 0 < at → at ≤ length vs → v ≡ slice_index_or vs (at - 1) v → number_from at (drop at vs) x ≡ None → bytes_eq v.word x ≡ true → number_from 0 vs x ≡ Some (at - 1)
found vs at v x p h e n b =
    let s : suc (at - 1) ≡ at = omega arith in
    let m : number_from (suc (at - 1 + 0)) (drop (suc (at - 1)) vs) x ≡ None = ap (λ z. number_from z (drop (suc (at - 1)) vs) x) (omega arith) ∙ (ap (λ z. number_from at (drop z vs) x) s ∙ n) in
    found_at vs (at - 1) 0 v x (omega arith) e m b ∙ ap Some (omega arith)

-- where none of those from at on has the name, nor the one before them, none from there on has it
pub missed : (vs : Env) (at : ℕ) (v : Var) (x : List ℕ) → 0 < at → at ≤ length vs → v ≡ slice_index_or vs (at - 1) v → number_from at (drop at vs) x ≡ None → bytes_eq v.word x ≡ false → number_from (at - 1) (drop (at - 1) vs) x ≡ None
missed vs at v x p h e n b =
    let s : suc (at - 1) ≡ at = omega arith in
    missed_at vs (at - 1) (at - 1) v x (omega arith) e (ap (λ z. number_from z (drop z vs) x) s ∙ n) b

-- ---- one more variable that is moved in one of both

-- one more that is moved in one of both
merged_at : (vs ws : Env) (i : ℕ) (v w : Var) (b : Bool) → i < length vs → i < length ws → v ≡ slice_index_or vs i v → w ≡ slice_index_or ws i w → b ≡ (v.moved || w.moved) →
    take i vs ++ merged (drop i vs) (drop i ws) ≡ take (suc i) (slice_set vs i (record v { moved = b })) ++ merged (drop (suc i) (slice_set vs i (record v { moved = b }))) (drop (suc i) ws)
merged_at [] ws i v w b h k e f is = absurd (omega arith)
merged_at (x ∷ vs) [] i v w b h k e f is = absurd (omega arith)
merged_at (x ∷ vs) (y ∷ ws) zero v w b h k e f is = rw (is, sym e, sym f) refl
merged_at (x ∷ vs) (y ∷ ws) (suc i) v w b h k e f is = ap (λ z. x ∷ z) (merged_at vs ws i v w b (omega arith) (omega arith) e f is)

-- The variable is moved in one of both.
pub merged_step : (vs ws : Env) (i : ℕ) (v w : Var) (b : Bool) → i < length vs → i < length ws → v ≡ slice_index_or vs i v → w ≡ slice_index_or ws i w → b ≡ (v.moved || w.moved) →
    take (i + 1) (slice_set vs i (record v { moved = b })) ++ merged (drop (i + 1) (slice_set vs i (record v { moved = b }))) (drop (i + 1) ws) ≡ take i vs ++ merged (drop i vs) (drop i ws)
merged_step vs ws i v w b h k e f is = rw add-one (sym (merged_at vs ws i v w b h k e f is))

-- nothing to take
take_none : (i : ℕ) → take {A = Var} i [] ≡ []
take_none zero = refl
take_none (suc i) = refl

-- nothing to drop
drop_none : (i : ℕ) → drop {A = Var} i [] ≡ []
drop_none zero = refl
drop_none (suc i) = refl

-- Past the end of one of both, nothing is merged any more.
pub merged_end : (vs ws : Env) (i : ℕ) → min (length vs) (length ws) ≤ i → take i vs ++ merged (drop i vs) (drop i ws) ≡ vs
merged_end [] ws i h = rw (take_none i, drop_none i) refl
merged_end (v ∷ vs) [] zero h = refl
merged_end (v ∷ vs) (w ∷ ws) zero h = absurd (omega arith)
merged_end (v ∷ vs) [] (suc i) h = ap (λ z. v ∷ z) (ap (λ z. take i vs ++ merged (drop i vs) z) (sym (drop_none i)) ∙ merged_end vs [] i (omega arith))
merged_end (v ∷ vs) (w ∷ ws) (suc i) h = ap (λ z. v ∷ z) (merged_end vs ws i (omega arith))

-- ---- the same ones are moved

-- There must be as many.
pub same_moves_long : (vs ws : Env) → (length vs ≡ length ws → ⊥) → same_moves vs ws ≡ false
same_moves_long [] [] h = absurd (h refl)
same_moves_long [] (w ∷ ws) h = refl
same_moves_long (v ∷ vs) [] h = refl
same_moves_long (v ∷ vs) (w ∷ ws) h = grind (arith, same_moves_long vs ws (λ e. h (omega arith)))

-- two bits that differ
differ_bits : (a b r : Bool) → (a ≡ b → ⊥) → (cond a b (not b) && r) ≡ false
differ_bits true true r d = absurd (d refl)
differ_bits true false r d = refl
differ_bits false true r d = refl
differ_bits false false r d = absurd (d refl)

-- One of them is moved in one of both alone.
pub same_moves_differ : (vs ws : Env) (i : ℕ) (v w : Var) → i < length vs → i < length ws → v ≡ slice_index_or vs i v → w ≡ slice_index_or ws i w → (v.moved ≡ w.moved → ⊥) → same_moves vs ws ≡ false
same_moves_differ [] ws i v w h k e f d = absurd (omega arith)
same_moves_differ (x ∷ vs) [] i v w h k e f d = absurd (omega arith)
same_moves_differ (x ∷ vs) (y ∷ ws) zero v w h k e f d = differ_bits x.moved y.moved (same_moves vs ws) (λ q. d (ap (λ z. z.moved) e ∙ (q ∙ ap (λ z. z.moved) (sym f))))
same_moves_differ (x ∷ vs) (y ∷ ws) (suc i) v w h k e f d = grind (arith, same_moves_differ vs ws i v w (omega arith) (omega arith) e f d)

-- two bits that are the same
same_bits : (a b r : Bool) → a ≡ b → r ≡ (cond a b (not b) && r)
same_bits true true r e = refl
same_bits true false r e = absurd (grind arith)
same_bits false true r e = absurd (grind arith)
same_bits false false r e = refl

-- one more that is moved in both or in none
same_moves_at : (vs ws : Env) (i : ℕ) (v w : Var) → i < length vs → i < length ws → v ≡ slice_index_or vs i v → w ≡ slice_index_or ws i w → v.moved ≡ w.moved → same_moves (drop (suc i) vs) (drop (suc i) ws) ≡ same_moves (drop i vs) (drop i ws)
same_moves_at [] ws i v w h k e f q = absurd (omega arith)
same_moves_at (x ∷ vs) [] i v w h k e f q = absurd (omega arith)
same_moves_at (x ∷ vs) (y ∷ ws) zero v w h k e f q = same_bits x.moved y.moved (same_moves vs ws) (ap (λ z. z.moved) (sym e) ∙ (q ∙ ap (λ z. z.moved) f))
same_moves_at (x ∷ vs) (y ∷ ws) (suc i) v w h k e f q = same_moves_at vs ws i v w (omega arith) (omega arith) e f q

-- The next one is moved in both or in none.
pub same_moves_step : (vs ws : Env) (i : ℕ) (v w : Var) → i < length vs → i < length ws → v ≡ slice_index_or vs i v → w ≡ slice_index_or ws i w → v.moved ≡ w.moved → same_moves (drop (i + 1) vs) (drop (i + 1) ws) ≡ same_moves (drop i vs) (drop i ws)
same_moves_step vs ws i v w h k e f q = rw add-one (same_moves_at vs ws i v w h k e f q)

-- All were seen.
pub same_moves_end : (vs ws : Env) (i : ℕ) → length vs ≡ length ws → length vs ≤ i → same_moves (drop i vs) (drop i ws) ≡ true
same_moves_end [] [] i e h = rw (drop_none i) refl
same_moves_end [] (w ∷ ws) i e h = absurd (omega arith)
same_moves_end (v ∷ vs) [] i e h = absurd (omega arith)
same_moves_end (v ∷ vs) (w ∷ ws) zero e h = absurd (omega arith)
same_moves_end (v ∷ vs) (w ∷ ws) (suc i) e h = same_moves_end vs ws i (omega arith) (omega arith)

-- what looks for the newest one of a name
pub ruleset newest = (found, missed)

-- what merges
pub ruleset merging = (merged_step, merged_end)

-- what compares moves
pub ruleset comparing = (same_moves_long, same_moves_differ, same_moves_step, same_moves_end)
