-- Statements keep the variables around them, and new ones have other names.
use Rattle.std.proofs.Common.{◌≡◌, ℕ, zero, suc, ◌<◌, ◌+◌, Bool, true, false, not, ◌&&◌, cond, List, [], ◌∷◌, ◌++◌, length, drop, Option, Some, None, IfSome, refl, sym, ap, ◌∙◌, subst, arith, true≢false, slice_get, slice_set}
use Rattle.std.specs.Prelude.{bytes_eq, is_some}
use Rattle.enc_ast.specs.declared.Expr.{Expr}
use Rattle.enc_ast.specs.declared.decls.Name.{Name}
use Rattle.enc_ast.specs.declared.stmts.Receiver.{Receiver}
use Rattle.enc_ast.specs.declared.sources.SourceForm.{SourceForm}
use Rattle.enc_ast.specs.declared.Stmt.{Stmt}
use Rattle.enc_modes.specs.declared.ty.Ty.{Ty}
use Rattle.enc_flow.specs.Vars.{Var}
use Rattle.enc_flow.specs.Env.{Env, or_else, number_from, number_of, at_number, find, ty_of, linear, marked_var, marked_at, takes, declares, merged, cut, same_moves}
use Rattle.enc_flow.specs.Under.{Under, Alike, Grown, AreNew, GrownByNew}
use Rattle.enc_flow.proofs.Unders.{grown_then, grown_declares, grown_cut, alike_both, merged_under_left, merged_under_right, same_under, same_over}
use Rattle.enc_types.specs.Names.{Names}
use Rattle.enc_names.specs.declared.members.Slot.{Slot}
use Rattle.enc_exprs.specs.declared.uses.Use.{Use}
use Rattle.enc_exprs.specs.declared.uses.Use.TheVariants.{Copies, Consumes, Looks}
use Rattle.enc_exprs.specs.Uses.{lends, regains, taken_at, given_at}
use Rattle.enc_exprs.specs.Exprs.{judged, after}
use Rattle.enc_exprs.specs.Typing.{IsTyped}
use Rattle.enc_exprs.proofs.ExprFine.{expr_fine}
use Rattle.enc_exprs.proofs.Variables.{found}
use Rattle.enc_rules.specs.Context.{Context}
use Rattle.enc_rules.specs.Calls.{receiver_word}
use Rattle.enc_rules.specs.Stmts.{fresh, both_fresh}
use Rattle.enc_rules.specs.Branches.{UnderBoth}
use Rattle.enc_rules.specs.Typing.{Layer, AreArguments, Invokes, Gives, Types, TypesAll}
use Rattle.enc_rules.specs.Typing as t
use Rattle.enc_rules.proofs.SourcesSound.{both_true}

-- ---- the same variables, moved or not

-- each as it was
alike_self : (vs : Env) → Alike vs vs
alike_self [] = Alike.alike_end
alike_self (v ∷ vs) = Alike.alike_more refl refl (alike_self vs)

-- in two steps
alike_then : {us vs ws : Env} → Alike us vs → Alike vs ws → Alike us ws
alike_then Alike.alike_end Alike.alike_end = Alike.alike_end
alike_then (Alike.alike_more n s a) (Alike.alike_more m t b) = Alike.alike_more (n ∙ m) (s ∙ t) (alike_then a b)

-- one was marked in a place that is there
alike_set : (vs : Env) (i : ℕ) (v : Var) (b : Bool) → slice_get vs i ≡ Some v → Alike vs (slice_set vs i (record v { moved = b }))
alike_set [] i v b e = Alike.alike_end
alike_set (x ∷ vs) zero v b e = let q : x ≡ v = grind arith in Alike.alike_more (ap (λ z. z.word) q) (ap (λ z. z.ty) q) (alike_self vs)
alike_set (x ∷ vs) (suc i) v b e = Alike.alike_more refl refl (alike_set vs i v b e)

-- one was marked
alike_marked : (env : Env) (i : ℕ) (b : Bool) → Alike env (marked_at env i b)
unfolding marked_at
alike_marked env i b = go (slice_get env i) refl
  where
    go : (o : Option Var) → slice_get env i ≡ o → Alike env (marked_var env i o b)
    go None e = alike_self env
    go (Some v) e = alike_set env i v b e

-- one was taken
alike_takes : (env : Env) (i : ℕ) → Alike env (takes env i)
alike_takes env i = go (linear (ty_of (slice_get env i)))
  where
    go : (c : Bool) → Alike env (cond c (marked_at env i true) env)
    go true = alike_marked env i true
    go false = alike_self env

-- one of a name was moved
alike_lends : (env : Env) (x : List ℕ) → Alike env (lends env x)
unfolding lends
alike_lends env x = go (number_of env x)
  where
    go : (n : Option ℕ) → Alike env (taken_at env n)
    go None = alike_self env
    go (Some i) = alike_takes env i

-- one of a name can be used again
alike_regains : (env : Env) (x : List ℕ) → Alike env (regains env x)
unfolding regains
alike_regains env x = go (number_of env x)
  where
    go : (n : Option ℕ) → Alike env (given_at env n)
    go None = alike_self env
    go (Some i) = alike_marked env i false

-- a branch was merged in
alike_merged : (vs ws : Env) → Alike vs (merged vs ws)
alike_merged [] ws = Alike.alike_end
alike_merged (v ∷ vs) [] = alike_self (v ∷ vs)
alike_merged (v ∷ vs) (w ∷ ws) = Alike.alike_more refl refl (alike_merged vs ws)

-- ---- new variables

-- neither of both is there
neither : (o p : Option ℕ) → or_else o p ≡ None → (o ≡ None) × (p ≡ None)
neither None p e = (refl, e)
neither (Some i) p e = absurd (grind arith)

-- A name that isn't visible wasn't visible before.
absent_before : {vs ws : Env} → Grown vs ws → (k : ℕ) (x : List ℕ) → number_from k ws x ≡ None → number_from k vs x ≡ None
absent_before Grown.grown_end k x e = refl
absent_before (Grown.grown_more {v} {w} {vs} {ws} n s g) k x e =
    let p = neither (number_from (suc k) ws x) (cond (bytes_eq w.word x) (Some k) None) e in
    ap (λ z. or_else z (cond (bytes_eq v.word x) (Some k) None)) (absent_before g (suc k) x p.0) ∙ (ap (λ z. cond (bytes_eq z x) (Some k) None) n ∙ p.1)

-- what is new beside an environment is new beside what that has grown from
new_before : {vs ws : Env} → Grown vs ws → (us : Env) → AreNew ws us → AreNew vs us
unfolding number_of
new_before g [] n = tt
new_before g (u ∷ us) n = (absent_before g 0 u.word n.0, new_before g us n.1)

-- What is added in two steps is new where it is so in both.
new_end : (env : Env) {vs ws : Env} → Grown vs ws → AreNew env vs → AreNew env (drop (length vs) ws) → AreNew env ws
new_end env Grown.grown_end n m = m
new_end env (Grown.grown_more w s g) n m = (ap (λ z. number_of env z) (sym w) ∙ n.0, new_end env g n.1 m)

-- the same behind the first ones
new_then : (env : Env) {us vs ws : Env} → Grown us vs → Grown vs ws → AreNew env (drop (length us) vs) → AreNew env (drop (length vs) ws) → AreNew env (drop (length us) ws)
new_then env Grown.grown_end h n m = new_end env h n m
new_then env (Grown.grown_more w s g) (Grown.grown_more x r h) n m = new_then env g h n m

-- in two steps
by_new_then : {us vs ws : Env} → GrownByNew us vs → GrownByNew vs ws → GrownByNew us ws
by_new_then {us} {vs} {ws} g h = record { first = grown_then g.first h.first; further = new_then us g.first h.first g.further (new_before g.first (drop (length vs) ws) h.further) }

-- marks make none new
alike_grown : {vs ws : Env} → Alike vs ws → Grown vs ws
alike_grown Alike.alike_end = Grown.grown_end
alike_grown (Alike.alike_more n s a) = Grown.grown_more n s (alike_grown a)

-- none is behind the first ones
alike_new : (env : Env) {vs ws : Env} → Alike vs ws → AreNew env (drop (length vs) ws)
alike_new env Alike.alike_end = tt
alike_new env (Alike.alike_more n s a) = alike_new env a

-- nothing was declared
by_alike : {vs ws : Env} → Alike vs ws → GrownByNew vs ws
by_alike {vs} a = record { first = alike_grown a; further = alike_new vs a }

-- each number that is found is a variable's
within : (vs : Env) (k : ℕ) (x : List ℕ) → IfSome (number_from k vs x) (λ i. i < k + length vs)
within [] k x = tt
within (v ∷ vs) k x = go (number_from (suc k) vs x) (bytes_eq v.word x) (within vs (suc k) x)
  where
    go : (n : Option ℕ) (b : Bool) → IfSome n (λ i. i < suc k + length vs) → IfSome (or_else n (cond b (Some k) None)) (λ i. i < k + suc (length vs))
    go (Some i) b h = omega (arith, h)
    go None true h = omega arith
    go None false h = tt

-- what isn't visible has no number
absent : (env : Env) (x : List ℕ) → is_some (find env x) ≡ false → number_of env x ≡ None
unfolding find number_of
absent env x h = go (number_from 0 env x) (within env 0 x) h
  where
    go : (n : Option ℕ) → IfSome n (λ i. i < 0 + length env) → is_some (at_number env n) ≡ false → n ≡ None
    go None w e = refl
    go (Some i) w e = absurd (true≢false (sym (found env (Some i) (omega (arith, w))) ∙ e))

-- one more at the end is new too
new_one : (env vs : Env) (v : Var) → AreNew env vs → number_of env v.word ≡ None → AreNew env (vs ++ v ∷ [])
new_one env [] v n e = (e, tt)
new_one env (w ∷ vs) v n e = (n.0, new_one env vs v n.1 e)

-- the same behind the first ones
new_more : (env : Env) {vs ws : Env} (v : Var) → Grown vs ws → AreNew env (drop (length vs) ws) → number_of env v.word ≡ None → AreNew env (drop (length vs) (ws ++ v ∷ []))
new_more env {ws = ws} v Grown.grown_end n e = new_one env ws v n e
new_more env v (Grown.grown_more w s g) n e = new_more env v g n e

-- one of a name that wasn't visible was declared
by_declared : {env grown : Env} (x : List ℕ) (t : Option Ty) → GrownByNew env grown → is_some (find env x) ≡ false → GrownByNew env (declares grown x t)
by_declared {env} {grown} x t g h = record {
  first = grown_then g.first (grown_declares grown x t);
  further = new_more env (record { word = x; ty = t; moved = false }) g.first g.further (absent env x h);
}

-- ---- expressions and sources declare nothing

-- an expression, by what it moves
kept_after : (u : Use) (env : Env) (x : Option (List ℕ)) → Alike env (after u env x)
kept_after Copies env x = alike_self env
kept_after Consumes env None = alike_self env
kept_after Consumes env (Some x) = alike_lends env x
kept_after Looks env x = alike_self env

-- an expression
kept_expr : {names : Names} {env last : Env} {u : Use} {t : Ty} (x : Expr) → IsTyped names env x u t last → Alike env last
kept_expr {names} {env} {last} {u} {t} x d = subst (λ z. Alike env z) (sym (expr_fine names env last x u t d).after) (kept_after u env (judged names x).name)

-- arguments
kept_args : {names : Names} {env last : Env} {ps : List Slot} {xs : List Expr} → AreArguments names env ps xs last → Alike env last
kept_args {env = env} t.end = alike_self env
kept_args (t.more {a = a} mid d r) = alike_then (kept_expr a d) (kept_args r)

-- a receiver with its arguments
kept_invoked : {names : Names} {env last : Env} {to : Receiver} {t : Ty} {ps : List Slot} {xs : List Expr} → Invokes names env to t ps xs last → Alike env last
kept_invoked {env = env} {to = to} i =
    let word = receiver_word to in
    subst (λ z. Alike env z) (sym i.after) (alike_then (alike_lends env word) (alike_then (kept_args i.arguments) (alike_regains i.end word)))

-- a source
kept_source : {ctx : Context} {env last : Env} {src : SourceForm} {t : Ty} → Gives ctx env src t last → Alike env last
kept_source (t.value {x = x} d) = kept_expr x d
kept_source {env = env} (t.new h) = alike_self env
kept_source {env = env} (t.field v h l) = alike_self env
kept_source {env = env} (t.take v h l) = alike_self env
kept_source (t.call t' d i c k n) = kept_invoked i
kept_source (t.send t' d i c k n o) = kept_invoked i
kept_source {env = env} (t.get d) = alike_self env
kept_source {env = env} (t.await d) = alike_self env
kept_source (t.chain t' d a) = kept_args a.arguments
kept_source {env = env} (t.lift d h) = alike_self env
kept_source {env = env} (t.lift_future t' d) = alike_self env
kept_source {env = env} (t.each t' d) = alike_self env
kept_source {env = env} (t.both t' d c) = alike_self env
kept_source {env = env} (t.otherwise t' d c) = alike_self env
kept_source (t.seq t' d a) = kept_args a.arguments
kept_source {env = env} (t.join t' d) = alike_self env
kept_source {env = env} (t.prune t' d) = alike_self env
kept_source {env = env} (t.extract t' d) = alike_self env
kept_source {env = env} (t.bestow t' d h) = alike_self env

-- ---- statements

-- a name that is fresh isn't visible
unseen : (env : Env) (x : Name) → fresh env x ≡ true → is_some (find env x.word) ≡ false
unseen env x h = go (is_some (find env x.word)) h
  where
    go : (b : Bool) → not b ≡ true → b ≡ false
    go true e = absurd (grind arith)
    go false e = refl

-- two new names
both_unseen : (env : Env) (y z : Name) → both_fresh env y z ≡ true → (is_some (find env y.word) ≡ false) × (is_some (find env z.word) ≡ false)
both_unseen env y z h =
    let p = both_true (fresh env y) (fresh env z && not (bytes_eq y.word z.word)) h in
    (unseen env y p.0, unseen env z (both_true (fresh env z) (not (bytes_eq y.word z.word)) p.1).0)

-- the start of a pack's first block
pack_started : (env : Env) (x y z : List ℕ) (t : Option Ty) → is_some (find env z) ≡ false → GrownByNew env (declares (lends (lends env x) y) z t)
pack_started env x y z t h = by_declared z t (by_alike (alike_then (alike_lends env x) (alike_lends (lends env x) y))) h

-- the variables around a block, with another one merged in
by_branches : {env left : Env} → GrownByNew env left → (right : Env) → GrownByNew env (merged (cut env left) right)
by_branches {env} {left} g right = by_alike (alike_then (grown_cut g.first) (alike_merged (cut env left) right))

mutual
  -- each statement
  pub types_grown : {ctx : Context} {env last : Env} {l : Layer} → Types ctx env l last → GrownByNew env last
  types_grown (t.binds {x = x} t' g h a) = by_declared x.word (Some t') (by_alike (kept_source g)) h
  types_grown (t.assigns {last = last} {x = x} {y = y} t' e d) = by_alike (alike_then (kept_expr y d) (alike_regains last x.word))
  types_grown (t.stores {y = y} t' e h d r) = by_alike (kept_expr y d)
  types_grown (t.calls t' g a) = by_alike (kept_source g)
  types_grown (t.sends t' g) = by_alike (kept_source g)
  types_grown {env = env} (t.tests left right c d e) = by_branches (all_grown d) (cut env right)
  types_grown {env = env} (t.tests_once left c d) = by_branches (all_grown d) env
  types_grown {env = env} (t.loops last c d m) = by_alike (alike_self env)
  types_grown (t.groups t' last c d h a) = by_alike (grown_cut (all_grown d).first)
  types_grown {env = env} (t.splits_up {x = x} {y = y} {z = z} t' u v h k m f ok) =
      let p = both_unseen env y z f in
      by_declared z.word (Some v) (by_declared y.word (Some u) (by_alike (alike_lends env x.word)) p.0) p.1
  types_grown {env = env} (t.packs {x = x} {y = y} {z = z} t' u v left right h k f ok d e) = by_branches (by_new_then (pack_started env x.word y.word z.word (Some v) f) (all_grown d)) (cut env right)
  types_grown {env = env} (t.chooses {x = x} {z = z} t' u h f ok) = by_declared z.word (Some u) (by_alike (alike_lends env x.word)) f
  types_grown (t.returns {x = x} a d) = by_alike (kept_expr x d)
  types_grown {env = env} (t.prints d) = by_alike (alike_self env)
  types_grown {env = env} (t.suspends a) = by_alike (alike_self env)

  -- statements one after another
  pub all_grown : {ctx : Context} {env last : Env} {xs : List Stmt} → TypesAll ctx env xs last → GrownByNew env last
  all_grown {env = env} t.none = by_alike (alike_self env)
  all_grown (t.some mid d r) = by_new_then (types_grown d) (all_grown r)

-- the first block of a pack
pub pack_grown : {ctx : Context} {env last : Env} {xs : List Stmt} (x y z : List ℕ) (v : Ty) → is_some (find env z) ≡ false → TypesAll ctx (declares (lends (lends env x) y) z (Some v)) xs last → GrownByNew env last
pack_grown {env = env} x y z v h d = by_new_then (pack_started env x y z (Some v) h) (all_grown d)

-- ---- what can be used

-- where two branches meet
both_under : {left right : Env} → Alike left right → UnderBoth left right
both_under {left} {right} a = (merged_under_left left right a, merged_under_right left right a)

-- after two branches
pub branches_under : {env left right : Env} → GrownByNew env left → GrownByNew env right → UnderBoth (cut env left) (cut env right)
branches_under g h = both_under (alike_both (grown_cut g.first) (grown_cut h.first))

-- after one that may be left out
pub branch_under : {env left : Env} → GrownByNew env left → UnderBoth (cut env left) env
branch_under {env} g = both_under (alike_both (grown_cut g.first) (alike_self env))

-- around a loop
pub loop_under : {env last : Env} → GrownByNew env last → same_moves env (cut env last) ≡ true → Under env (cut env last) × Under (cut env last) env
loop_under {env} {last} g m = (same_under env (cut env last) (grown_cut g.first) m, same_over env (cut env last) (grown_cut g.first) m)
