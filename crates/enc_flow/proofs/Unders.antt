-- What the order of environments follows from.
use Rattle.std.proofs.Common.{◌≡◌, ◌||◌, ◌&&◌, not, ℕ, zero, suc, ◌+◌, Bool, true, false, cond, List, [], ◌∷◌, ◌++◌, length, drop, Option, Some, None, refl, sym, ap, ◌∙◌, arith, slice_get, slice_set, subst}
use Rattle.std.specs.Str.{bytes_eq}
use Rattle.std.proofs.lemmas.List.{take-append-drop}
use Rattle.std.proofs.lemmas.Slice.Eq.{bytes_eq-Decides}
use Rattle.enc_modes.specs.declared.ty.Ty.{Ty}
use Rattle.enc_flow.specs.Vars.{Var}
use Rattle.enc_flow.specs.Env.{Env, or_else, number_from, number_of, at_number, find, ty_of, usable_of, linear, marked_var, marked_at, takes, declares, merged, cut, same_moves}
use Rattle.enc_flow.specs.Under.{Under, Alike, Grown, AreNew, GrownByNew}

-- one by one, what can be used in the first can be used in the second
data Less : Env → Env → Type 0 where
  less_end : Less [] []
  less_more : {v w : Var} {vs ws : Env} → v.word ≡ w.word → ((t : Ty) → usable_of (Some v) ≡ Some t → usable_of (Some w) ≡ Some t) → Less vs ws → Less (v ∷ vs) (w ∷ ws)

-- the same variable has the name
less_number : {vs ws : Env} → Less vs ws → (k : ℕ) (x : List ℕ) → number_from k vs x ≡ number_from k ws x
less_number less_end k x = refl
less_number (less_more {v} {w} {vs} {ws} n u l) k x = ap (λ z. or_else z (cond (bytes_eq v.word x) (Some k) None)) (less_number l (suc k) x) ∙ ap (λ z. or_else (number_from (suc k) ws x) (cond (bytes_eq z x) (Some k) None)) n

-- a variable by its number
less_at : {vs ws : Env} → Less vs ws → (n : Option ℕ) (t : Ty) → usable_of (at_number vs n) ≡ Some t → usable_of (at_number ws n) ≡ Some t
less_at l None t e = absurd (grind arith)
less_at less_end (Some i) t e = absurd (grind arith)
less_at (less_more n u l) (Some zero) t e = u t e
less_at (less_more n u l) (Some (suc i)) t e = less_at l (Some i) t e

-- One by one is enough, since the names are the same.
less_under : {vs ws : Env} → Less vs ws → Under vs ws
unfolding find number_of
less_under {vs} {ws} l x t e = ap (λ n. usable_of (at_number ws n)) (sym (less_number l 0 x)) ∙ less_at l (number_from 0 vs x) t e

-- ---- two branches

-- moved in neither, so not in the first
moved_left : (v : Var) (b : Bool) (t : Ty) → cond (v.moved || b) None v.ty ≡ Some t → cond v.moved None v.ty ≡ Some t
moved_left v b t e = go v.moved b e
  where
    go : (m b : Bool) → cond (m || b) None v.ty ≡ Some t → cond m None v.ty ≡ Some t
    go true b e = absurd (grind arith)
    go false true e = absurd (grind arith)
    go false false e = e

-- moved in neither, so not in the second
moved_right : (v w : Var) (t : Ty) → v.ty ≡ w.ty → cond (v.moved || w.moved) None v.ty ≡ Some t → cond w.moved None w.ty ≡ Some t
moved_right v w t s e = go v.moved w.moved e
  where
    go : (m b : Bool) → cond (m || b) None v.ty ≡ Some t → cond b None w.ty ≡ Some t
    go true b e = absurd (grind arith)
    go false true e = absurd (grind arith)
    go false false e = sym s ∙ e

-- one by one, for the first branch
merged_left : {vs ws : Env} → Alike vs ws → Less (merged vs ws) vs
merged_left Alike.alike_end = less_end
merged_left (Alike.alike_more {v} {w} n s l) = less_more refl (λ t e. moved_left v w.moved t e) (merged_left l)

-- one by one, for the second branch
merged_right : {vs ws : Env} → Alike vs ws → Less (merged vs ws) ws
merged_right Alike.alike_end = less_end
merged_right (Alike.alike_more {v} {w} n s l) = less_more n (λ t e. moved_right v w t s e) (merged_right l)

-- What is moved in one of both is moved in their union, so that is under both.
pub merged_under_left : (vs ws : Env) → Alike vs ws → Under (merged vs ws) vs
merged_under_left vs ws a = less_under (merged_left a)

-- the same for the other one
pub merged_under_right : (vs ws : Env) → Alike vs ws → Under (merged vs ws) ws
merged_under_right vs ws a = less_under (merged_right a)

-- ---- a loop

-- one variable that is moved in both or in none
same_bit : (v w : Var) (t : Ty) → v.ty ≡ w.ty → v.moved ≡ w.moved → cond v.moved None v.ty ≡ Some t → cond w.moved None w.ty ≡ Some t
same_bit v w t s m e = sym (ap (λ z. cond z None w.ty) m) ∙ (ap (λ z. cond v.moved None z) (sym s) ∙ e)

-- the first bit and the others
bits : (a b c : Bool) → (cond a b (not b) && c) ≡ true → (a ≡ b) × (c ≡ true)
bits true true c e = (refl, e)
bits true false c e = absurd (grind arith)
bits false true c e = absurd (grind arith)
bits false false c e = (refl, e)

-- one by one, from the first to the second
same_less : {vs ws : Env} → Alike vs ws → same_moves vs ws ≡ true → Less vs ws
same_less Alike.alike_end m = less_end
same_less (Alike.alike_more {v} {w} {vs} {ws} n s l) m =
    let p = bits v.moved w.moved (same_moves vs ws) m in
    less_more n (λ t e. same_bit v w t s p.0 e) (same_less l p.1)

-- one by one, from the second to the first
same_more : {vs ws : Env} → Alike vs ws → same_moves vs ws ≡ true → Less ws vs
same_more Alike.alike_end m = less_end
same_more (Alike.alike_more {v} {w} {vs} {ws} n s l) m =
    let p = bits v.moved w.moved (same_moves vs ws) m in
    less_more (sym n) (λ t e. same_bit w v t (sym s) (sym p.0) e) (same_more l p.1)

-- Where the same ones are moved, each is under the other.
pub same_under : (vs ws : Env) → Alike vs ws → same_moves vs ws ≡ true → Under vs ws
same_under vs ws a m = less_under (same_less a m)

-- the same the other way
pub same_over : (vs ws : Env) → Alike vs ws → same_moves vs ws ≡ true → Under ws vs
same_over vs ws a m = less_under (same_more a m)

-- ---- the end of a block

-- the first of three that is there
or_else_assoc : {A : Type 0} (x y z : Option A) → or_else (or_else x y) z ≡ or_else x (or_else y z)
or_else_assoc None y z = refl
or_else_assoc (Some x) y z = refl

-- nothing after it
or_else_none : {A : Type 0} (x : Option A) → or_else x None ≡ x
or_else_none None = refl
or_else_none (Some x) = refl

-- The newest of a name is looked for in the further ones first.
number_more : (vs ws : Env) (k : ℕ) (x : List ℕ) → number_from k (vs ++ ws) x ≡ or_else (number_from (k + length vs) ws x) (number_from k vs x)
number_more [] ws k x = sym (or_else_none (number_from (k + 0) ws x) ∙ ap (λ z. number_from z ws x) (omega arith))
number_more (v ∷ vs) ws k x =
    let c = cond (bytes_eq v.word x) (Some k) None in
    ap (λ z. or_else z c) (number_more vs ws (suc k) x) ∙
    (or_else_assoc (number_from (suc k + length vs) ws x) (number_from (suc k) vs x) c ∙
    ap (λ z. or_else (number_from z ws x) (or_else (number_from (suc k) vs x) c)) (omega arith))

-- those before the further ones keep their numbers
get_more : (vs ws : Env) (i : ℕ) (v : Var) → slice_get vs i ≡ Some v → slice_get (vs ++ ws) i ≡ Some v
get_more [] ws i v e = absurd (grind arith)
get_more (w ∷ vs) ws zero v e = e
get_more (w ∷ vs) ws (suc i) v e = get_more vs ws i v e

-- a name of the first isn't one of the new ones
not_new : (vs ws : Env) (k i : ℕ) (x : List ℕ) → AreNew vs ws → number_from 0 vs x ≡ Some i → number_from k ws x ≡ None
unfolding number_of
not_new vs [] k i x a e = refl
not_new vs (w ∷ ws) k i x a e = go (not_new vs ws (suc k) i x a.1 e) (bytes_eq w.word x) refl
  where
    go : number_from (suc k) ws x ≡ None → (b : Bool) → bytes_eq w.word x ≡ b → or_else (number_from (suc k) ws x) (cond b (Some k) None) ≡ None
    go r true q =
        let p : w.word ≡ x = grind (arith, bytes_eq-Decides) in
        absurd (grind (arith, sym (ap (λ z. number_from 0 vs z) p) ∙ a.0, e))
    go r false q = ap (λ z. or_else z None) r

-- Further variables with other names hide none.
under_more : (vs ws : Env) → AreNew vs ws → Under vs (vs ++ ws)
unfolding find number_of
under_more vs ws a x t e = go (number_from 0 vs x) refl e
  where
    at : (i : ℕ) (o : Option Var) → slice_get vs i ≡ o → usable_of o ≡ Some t → usable_of (slice_get (vs ++ ws) i) ≡ Some t
    at i None q u = absurd (grind arith)
    at i (Some v) q u = ap usable_of (get_more vs ws i v q) ∙ u

    go : (n : Option ℕ) → number_from 0 vs x ≡ n → usable_of (at_number vs n) ≡ Some t → usable_of (at_number (vs ++ ws) (number_from 0 (vs ++ ws) x)) ≡ Some t
    go None q u = absurd (grind arith)
    go (Some i) q u =
        let r : number_from 0 (vs ++ ws) x ≡ Some i = number_more vs ws 0 x ∙ (ap (λ z. or_else z (number_from 0 vs x)) (not_new vs ws (0 + length vs) i x a q) ∙ q) in
        ap (λ z. usable_of (at_number (vs ++ ws) z)) r ∙ at i (slice_get vs i) refl u

-- the same names, so the same numbers
alike_number : {vs ws : Env} → Alike vs ws → (k : ℕ) (x : List ℕ) → number_from k vs x ≡ number_from k ws x
alike_number Alike.alike_end k x = refl
alike_number (Alike.alike_more {v} {w} {vs} {ws} n s l) k x = ap (λ z. or_else z (cond (bytes_eq v.word x) (Some k) None)) (alike_number l (suc k) x) ∙ ap (λ z. or_else (number_from (suc k) ws x) (cond (bytes_eq z x) (Some k) None)) n

-- what is new beside one of both is new beside the other
alike_new : {us vs : Env} → Alike us vs → (ws : Env) → AreNew us ws → AreNew vs ws
unfolding number_of
alike_new a [] n = tt
alike_new a (w ∷ ws) n = (sym (alike_number a 0 w.word) ∙ n.0, alike_new a ws n.1)

-- The first ones of an environment that has grown are the same as before.
pub grown_cut : {vs ws : Env} → Grown vs ws → Alike vs (cut vs ws)
grown_cut Grown.grown_end = Alike.alike_end
grown_cut (Grown.grown_more n s g) = Alike.alike_more n s (grown_cut g)

-- Where no name was hidden, what can be used after a block could be used at its end.
pub cut_under : (env grown : Env) → GrownByNew env grown → Under (cut env grown) grown
cut_under env grown g = subst (λ z. Under (cut env grown) z) (take-append-drop (length env) grown) (under_more (cut env grown) (drop (length env) grown) (alike_new (grown_cut g.first) (drop (length env) grown) g.further))

-- ---- what grows

-- two that are the same as a third
pub alike_both : {us vs ws : Env} → Alike us vs → Alike us ws → Alike vs ws
alike_both Alike.alike_end Alike.alike_end = Alike.alike_end
alike_both (Alike.alike_more n s a) (Alike.alike_more m t b) = Alike.alike_more (sym n ∙ m) (sym s ∙ t) (alike_both a b)

-- nothing was added
pub grown_self : (vs : Env) → Grown vs vs
grown_self [] = Grown.grown_end
grown_self (v ∷ vs) = Grown.grown_more refl refl (grown_self vs)

-- added in two steps
pub grown_then : {us vs ws : Env} → Grown us vs → Grown vs ws → Grown us ws
grown_then Grown.grown_end h = Grown.grown_end
grown_then (Grown.grown_more n s g) (Grown.grown_more m t h) = Grown.grown_more (n ∙ m) (s ∙ t) (grown_then g h)

-- One was declared.
pub grown_declares : (env : Env) (x : List ℕ) (t : Option Ty) → Grown env (declares env x t)
grown_declares [] x t = Grown.grown_end
grown_declares (v ∷ env) x t = Grown.grown_more refl refl (grown_declares env x t)

-- one was marked in a place that is there
grown_set : (vs : Env) (i : ℕ) (v : Var) (b : Bool) → slice_get vs i ≡ Some v → Grown vs (slice_set vs i (record v { moved = b }))
grown_set [] i v b e = Grown.grown_end
grown_set (x ∷ vs) zero v b e = let q : x ≡ v = grind arith in Grown.grown_more (ap (λ z. z.word) q) (ap (λ z. z.ty) q) (grown_self vs)
grown_set (x ∷ vs) (suc i) v b e = Grown.grown_more refl refl (grown_set vs i v b e)

-- One was marked.
pub grown_marked : (env : Env) (i : ℕ) (b : Bool) → Grown env (marked_at env i b)
unfolding marked_at
grown_marked env i b = go (slice_get env i) refl
  where
    go : (o : Option Var) → slice_get env i ≡ o → Grown env (marked_var env i o b)
    go None e = grown_self env
    go (Some v) e = grown_set env i v b e

-- One was taken.
pub grown_takes : (env : Env) (i : ℕ) → Grown env (takes env i)
grown_takes env i = go (linear (ty_of (slice_get env i)))
  where
    go : (c : Bool) → Grown env (cond c (marked_at env i true) env)
    go true = grown_marked env i true
    go false = grown_self env

-- a branch was merged in
pub grown_merged : {vs ws : Env} → Grown vs ws → (us : Env) → Grown vs (merged ws us)
grown_merged Grown.grown_end us = Grown.grown_end
grown_merged (Grown.grown_more n s g) [] = Grown.grown_more n s g
grown_merged (Grown.grown_more n s g) (u ∷ us) = Grown.grown_more n s (grown_merged g us)
