-- Variables keep their types, moved or not.
use Rattle.std.proofs.Common.{◌≡◌, ℕ, zero, suc, Bool, true, false, cond, List, [], ◌∷◌, Option, Some, None, refl, sym, ap, ◌∙◌, arith, slice_get, slice_set}
use Rattle.std.specs.Prelude.{bytes_eq}
use Rattle.enc_flow.specs.Vars.{Var}
use Rattle.enc_flow.specs.Env.{Env, or_else, number_from, number_of, at_number, find, ty_of, linear, marked_var, marked_at}
use Rattle.enc_exprs.specs.Uses.{lends, taken_at}

-- a variable of the same name in place of another
number_set : (vs : Env) (i : ℕ) (v w : Var) (k : ℕ) (y : List ℕ) → slice_get vs i ≡ Some v → w.word ≡ v.word → number_from k (slice_set vs i w) y ≡ number_from k vs y
number_set [] i v w k y e n = absurd (grind arith)
number_set (x ∷ vs) zero v w k y e n =
    let q : x ≡ v = grind arith in
    let p : w.word ≡ x.word = n ∙ ap (λ z. z.word) (sym q) in
    ap (λ z. or_else (number_from (suc k) vs y) (cond (bytes_eq z y) (Some k) None)) p
number_set (x ∷ vs) (suc i) v w k y e n = ap (λ z. or_else z (cond (bytes_eq x.word y) (Some k) None)) (number_set vs i v w (suc k) y e n)

-- a variable of the same type in place of another
ty_set : (vs : Env) (i : ℕ) (v w : Var) (n : ℕ) → slice_get vs i ≡ Some v → w.ty ≡ v.ty → ty_of (slice_get (slice_set vs i w) n) ≡ ty_of (slice_get vs n)
ty_set [] i v w n e t = absurd (grind arith)
ty_set (x ∷ vs) zero v w zero e t = let q : x ≡ v = grind arith in t ∙ ap (λ z. z.ty) (sym q)
ty_set (x ∷ vs) zero v w (suc n) e t = refl
ty_set (x ∷ vs) (suc i) v w zero e t = refl
ty_set (x ∷ vs) (suc i) v w (suc n) e t = ty_set vs i v w n e t

-- a variable marked as moved or not
ty_marked : (env : Env) (i : ℕ) (b : Bool) (y : List ℕ) → ty_of (find (marked_at env i b) y) ≡ ty_of (find env y)
unfolding marked_at find number_of
ty_marked env i b y = go (slice_get env i) refl
  where
    last : (n : Option ℕ) (v : Var) → slice_get env i ≡ Some v → ty_of (at_number (slice_set env i (record v { moved = b })) n) ≡ ty_of (at_number env n)
    last None v e = refl
    last (Some n) v e = ty_set env i v (record v { moved = b }) n e refl

    go : (o : Option Var) → slice_get env i ≡ o → ty_of (at_number (marked_var env i o b) (number_from 0 (marked_var env i o b) y)) ≡ ty_of (at_number env (number_from 0 env y))
    go None e = refl
    go (Some v) e = ap (λ z. ty_of (at_number (slice_set env i (record v { moved = b })) z)) (number_set env i v (record v { moved = b }) 0 y e refl) ∙ last (number_from 0 env y) v e

-- a variable taken
ty_taken : (env : Env) (n : Option ℕ) (y : List ℕ) → ty_of (find (taken_at env n) y) ≡ ty_of (find env y)
ty_taken env None y = refl
ty_taken env (Some i) y = go (linear (ty_of (slice_get env i)))
  where
    go : (c : Bool) → ty_of (find (cond c (marked_at env i true) env) y) ≡ ty_of (find env y)
    go true = ty_marked env i true y
    go false = refl

-- the type of a variable, after another one was moved
pub ty_lends : (env : Env) (x y : List ℕ) → ty_of (find (lends env x) y) ≡ ty_of (find env y)
unfolding lends
ty_lends env x y = ty_taken env (number_of env x) y
