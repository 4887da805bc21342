-- The types of variables stay known.
use Rattle.std.proofs.Common.{◌≡◌, ◌<◌, ℕ, zero, suc, Bool, true, false, cond, List, [], ◌∷◌, length, take, Option, Some, None, refl, sym, ap, ◌∙◌, arith, slice_get, slice_set, Bor}
use Rattle.std.specs.Option.{IsSome, option_copied}
use Rattle.enc_modes.specs.declared.ty.Ty.{Ty}
use Rattle.enc_flow.specs.Vars.{Var}
use Rattle.enc_flow.specs.Env.{Env, number_of, at_number, find, ty_of, linear, marked_var, marked_at, takes, declares, merged}
use Rattle.enc_flow.specs.Known.{Knows, end, more}

-- the type of the variable with this number
knows_get : {env : Env} → Knows env → (i : ℕ) (v : Var) → slice_get env i ≡ Some v → (t : Ty) × (v.ty ≡ Some t)
knows_get end i v e = absurd (grind arith)
knows_get (more {v = w} t p k) zero v e = let q : w ≡ v = grind arith in (t, ap (λ z. z.ty) (sym q) ∙ p)
knows_get (more {v = w} t p k) (suc i) v e = knows_get k i v e

-- the type of the variable of this name
pub knows_find : {env : Env} → Knows env → (x : List ℕ) (v : Var) → find env x ≡ Some v → (t : Ty) × (v.ty ≡ Some t)
unfolding find
knows_find {env} k x v e = go (number_of env x) e
  where
    go : (n : Option ℕ) → at_number env n ≡ Some v → (t : Ty) × (v.ty ≡ Some t)
    go None e = absurd (grind arith)
    go (Some i) e = knows_get k i v e

-- a variable that is there has a type
pub knows_ty : (env : Env) (i : ℕ) → Knows env → i < length env → IsSome (ty_of (slice_get env i))
knows_ty [] i end h = absurd (omega arith)
knows_ty (v ∷ vs) zero (more t p k) h = rw p refl
knows_ty (v ∷ vs) (suc i) (more t p k) h = knows_ty vs i k (omega arith)

-- so it is told
pub knows_known : (env : Env) (i : ℕ) (o : Option (Bor Ty)) → Knows env → i < length env → option_copied o ≡ ty_of (slice_get env i) → IsSome o
knows_known env i None k h e = absurd (grind (arith, knows_ty env i k h, e))
knows_known env i (Some x) k h e = refl

-- one variable in place of another
knows_set : {env : Env} → Knows env → (i : ℕ) (v : Var) (t : Ty) → v.ty ≡ Some t → Knows (slice_set env i v)
knows_set end i v t e = end
knows_set (more u p k) zero v t e = more t e k
knows_set (more u p k) (suc i) v t e = more u p (knows_set k i v t e)

-- one variable moved or not
pub knows_marked : {env : Env} → Knows env → (i : ℕ) (b : Bool) → Knows (marked_at env i b)
unfolding marked_at
knows_marked {env} k i b = go (slice_get env i) (λ v e. knows_get k i v e)
  where
    go : (o : Option Var) → ((v : Var) → o ≡ Some v → (t : Ty) × (v.ty ≡ Some t)) → Knows (marked_var env i o b)
    go None f = k
    go (Some v) f = let p = f v refl in knows_set k i (record v { moved = b }) p.0 p.1

-- one of two environments
knows_one : {a b : Env} (c : Bool) → Knows a → Knows b → Knows (cond c a b)
knows_one true k l = k
knows_one false k l = l

-- one variable taken
pub knows_takes : {env : Env} → Knows env → (i : ℕ) → Knows (takes env i)
knows_takes {env} k i = knows_one (linear (ty_of (slice_get env i))) (knows_marked k i true) k

-- after one of a known type is declared
pub knows_declares : {env : Env} → Knows env → (x : List ℕ) (t : Ty) → Knows (declares env x (Some t))
knows_declares end x t = more t refl end
knows_declares (more u p k) x t = more u p (knows_declares k x t)

-- after two branches
pub knows_merged : {vs : Env} → Knows vs → (ws : Env) → Knows (merged vs ws)
knows_merged end ws = end
knows_merged (more t p k) [] = more t p k
knows_merged (more t p k) (w ∷ ws) = more t p (knows_merged k ws)

-- after a block
pub knows_take : {vs : Env} → Knows vs → (n : ℕ) → Knows (take n vs)
knows_take end zero = end
knows_take end (suc n) = end
knows_take (more t p k) zero = end
knows_take (more t p k) (suc n) = more t p (knows_take k n)

-- ---- what an environment's calls ask for

-- there is no variable
pub none_known : (env : Env) → env ≡ [] → Knows env
none_known env e = rw e end

-- nothing changed
pub same_known : (env new : Env) → Knows env → new ≡ env → Knows new
same_known env new k e = rw e k

-- one was declared
pub declared_known : (env new : Env) (x : List ℕ) (t : Ty) → Knows env → new ≡ declares env x (Some t) → Knows new
declared_known env new x t k e = rw e (knows_declares k x t)

-- one was taken
pub taken_known : (env new : Env) (i : ℕ) → Knows env → new ≡ takes env i → Knows new
taken_known env new i k e = rw e (knows_takes k i)

-- one was marked
pub marked_known : (env new : Env) (i : ℕ) (b : Bool) → Knows env → new ≡ marked_at env i b → Knows new
marked_known env new i b k e = rw e (knows_marked k i b)

-- a branch was merged in
pub merged_known : (env other new : Env) → Knows env → new ≡ merged env other → Knows new
merged_known env other new k e = rw e (knows_merged k other)

-- the last ones were dropped
pub cut_known : (env new : Env) (n : ℕ) → Knows env → new ≡ take n env → Knows new
cut_known env new n k e = rw e (knows_take k n)

-- what keeps the types known
pub ruleset knowing = (none_known, same_known, declared_known, taken_known, marked_known, merged_known, cut_known, knows_known)
