-- Loops over statements, and over the bodies of declarations.
use Rattle.std.proofs.Common.{◌≡◌, ℕ, zero, suc, ◌+◌, ◌<◌, ◌≤◌, false, List, [], ◌∷◌, length, drop, Option, Some, None, refl, ap, subst, arith, add-one, slice_index_or}
use Rattle.enc_ast.specs.declared.rules.Fail.{Fail}
use Rattle.enc_ast.specs.declared.decls.Decl.{Decl}
use Rattle.enc_ast.specs.declared.Stmt.{Stmt}
use Rattle.enc_premises.specs.Passing.{Agrees}
use Rattle.enc_premises.proofs.Passing.{over, here, nothing}
use Rattle.enc_premises.proofs.Loops.{drop_at, drop_all}
use Rattle.enc_flow.specs.Env.{Env}
use Rattle.enc_names.specs.Members.{Tables}
use Rattle.enc_rules.specs.Context.{Context}
use Rattle.enc_rules.specs.Stmts.{act, acts, all_premises, all_after, last_returns}
use Rattle.enc_rules.specs.Programs.{decl_bodies, bodies_from}

-- What comes of the statements from the i-th on, with these variables, comes of all.
pub record Rest (ctx : Context) (start : Env) (xs : List Stmt) (env : Env) (i : ℕ) : Type 0 where
  pub premises : (o : Option Fail) → Agrees o (all_premises ctx env (acts (drop i xs))) → Agrees o (all_premises ctx start (acts xs))
  pub after : all_after ctx env (acts (drop i xs)) ≡ all_after ctx start (acts xs)

-- a statement that keeps its rules
pub more : (ctx : Context) (start : Env) (xs : List Stmt) (env : Env) (i : ℕ) (x : Stmt) → i < length xs → x ≡ slice_index_or xs i x → Rest ctx start xs env i → Agrees None ((act x).premises ctx env) → Rest ctx start xs ((act x).after ctx env) (i + 1)
more ctx start xs env i x h e r p = record {
  premises = λ o q. r.premises o (rw (drop_at xs i x h e) (over _ _ p o q));
  after = rw (drop_at xs i x h e) at r.after;
}

-- What is answered for a statement is answered for all.
pub err : (ctx : Context) (start : Env) (xs : List Stmt) (env : Env) (i : ℕ) (x : Stmt) → i < length xs → x ≡ slice_index_or xs i x → Rest ctx start xs env i → (f : Fail) → Agrees (Some f) ((act x).premises ctx env) → Agrees (Some f) (all_premises ctx start (acts xs))
err ctx start xs env i x h e r f p = r.premises (Some f) (rw (drop_at xs i x h e) (here f _ _ p))

-- Behind the last statement all is judged.
pub ended : (ctx : Context) (start : Env) (xs : List Stmt) (env : Env) (i : ℕ) → length xs ≤ i → Rest ctx start xs env i → Agrees None (all_premises ctx start (acts xs)) × (env ≡ all_after ctx start (acts xs))
ended ctx start xs env i h r = (r.premises None (rw (drop_all xs i h) nothing), rw (drop_all xs i h) at r.after)

-- ---- the last statement

-- The last statement tells whether the block returns.
pub last_at : (xs : List Stmt) (i : ℕ) (x : Stmt) → suc i ≡ length xs → x ≡ slice_index_or xs i x → last_returns (acts xs) ≡ (act x).returns
last_at [] i x h e = absurd (omega arith)
last_at (y ∷ []) zero x h e = rw e refl
last_at (y ∷ []) (suc i) x h e = absurd (omega arith)
last_at (y ∷ z ∷ xs) zero x h e = absurd (omega arith)
last_at (y ∷ z ∷ xs) (suc i) x h e = last_at (z ∷ xs) i x (omega arith) e

-- No statement returns where there is none.
pub last_none : (xs : List Stmt) → xs ≡ [] → last_returns (acts xs) ≡ false
last_none xs e = ap (λ z. last_returns (acts z)) e

pub ruleset lasts = (last_none, last_at)

-- ---- declarations

-- What comes of the bodies of the declarations from the i-th on comes of all.
abbrev pub BodiesRest : Tables → List Decl → ℕ → Type 0
BodiesRest t ds i = (o : Option Fail) → Agrees o (bodies_from t i (drop i ds)) → Agrees o (bodies_from t 0 ds)

-- at the first declaration
pub bodies_start : (t : Tables) (ds : List Decl) → BodiesRest t ds 0
bodies_start t [] o p = p
bodies_start t (d ∷ ds) o p = p

-- a declaration whose bodies keep their rules
pub bodies_more : (t : Tables) (ds : List Decl) (i : ℕ) (d : Decl) → i < length ds → d ≡ slice_index_or ds i d → BodiesRest t ds i → Agrees None (decl_bodies t i d) → BodiesRest t ds (i + 1)
bodies_more t ds i d h e r p o q = r o (rw (drop_at ds i d h e) (over _ _ p o (subst (λ n. Agrees o (bodies_from t n (drop (i + 1) ds))) (add-one i) q)))

-- What is answered for the bodies of a declaration is answered for all.
pub bodies_err : (t : Tables) (ds : List Decl) (i : ℕ) (d : Decl) → i < length ds → d ≡ slice_index_or ds i d → BodiesRest t ds i → (f : Fail) → Agrees (Some f) (decl_bodies t i d) → Agrees (Some f) (bodies_from t 0 ds)
bodies_err t ds i d h e r f p = r (Some f) (rw (drop_at ds i d h e) (here f _ _ p))

-- Behind the last declaration all is judged.
pub bodies_end : (t : Tables) (ds : List Decl) (i : ℕ) → length ds ≤ i → BodiesRest t ds i → Agrees None (bodies_from t 0 ds)
bodies_end t ds i h r = r None (rw (drop_all ds i h) nothing)
