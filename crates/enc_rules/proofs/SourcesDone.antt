-- A source that is well typed has no premise that fails.
use Rattle.std.proofs.Common.{◌≡◌, ◌==◌, ℕ, suc, Bool, true, not, ◌&&◌, cond, List, [], length, map, Option, Some, refl, sym, ap, ◌∙◌, subst, arith}
use Rattle.std.specs.Prelude.{is_some, option_map}
use Rattle.std.proofs.lemmas.Bool.Decides.{nat_tests}
use Rattle.enc_ast.specs.declared.rules.Rule.{Rule}
use Rattle.enc_ast.specs.declared.rules.Rule.TheVariants as rule
use Rattle.enc_ast.specs.declared.rules.Span.{Span}
use Rattle.enc_ast.specs.declared.decls.Name.{Name}
use Rattle.enc_ast.specs.declared.Expr.{Expr}
use Rattle.enc_ast.specs.declared.stmts.Receiver.{Receiver}
use Rattle.enc_ast.specs.declared.sources.SourceForm.{SourceForm}
use Rattle.enc_ast.specs.declared.sources.SourceForm.TheVariants as s
use Rattle.enc_modes.specs.declared.ty.Ty.{Ty}
use Rattle.enc_modes.specs.declared.ty.Ty.TheVariants as ty
use Rattle.enc_modes.specs.Equality.{same}
use Rattle.enc_premises.specs.First.{AllHold, nothing, one, join}
use Rattle.enc_flow.specs.Env.{Env, find}
use Rattle.enc_types.specs.Names.{Names}
use Rattle.enc_names.specs.declared.members.Slot.{Slot}
use Rattle.enc_exprs.specs.declared.uses.Use.TheVariants.{Copies, Consumes, Looks}
use Rattle.enc_exprs.specs.Uses.{this_word, visible, regains}
use Rattle.enc_exprs.specs.Types.{item_of}
use Rattle.enc_exprs.specs.Exprs.{judged}
use Rattle.enc_exprs.specs.Typing.{IsTyped, Copied}
use Rattle.enc_exprs.specs.Typing as e
use Rattle.enc_exprs.proofs.ExprFine.{Fine, expr_fine}
use Rattle.enc_exprs.proofs.Variables.{usable_at, variable_fine}
use Rattle.enc_exprs.proofs.Sorts.{list_of}
use Rattle.enc_exprs.proofs.Same.{same_self}
use Rattle.enc_rules.specs.Context.{Context}
use Rattle.enc_rules.specs.Parts.{future_of, tree_of, tree_of_trees}
use Rattle.enc_rules.specs.Calls.{receiver_type, receiver_word, receiver_span, is_this, called, sent, arguments, arguments_of, after_args, invoked, after_invoked, may_call, may_enter, may_send, applies, further}
use Rattle.enc_rules.specs.Sources.{Outcome, outcome, part, trees, applied_by, applied, shared, bestowed, call, call_of, send, send_of}
use Rattle.enc_rules.specs.Typing.{names_of, AreArguments, Invokes, Applies, Gives}
use Rattle.enc_rules.specs.Typing as t
use Rattle.enc_rules.proofs.Parts.{future_has, tree_has, trees_have}

-- ---- small facts

-- `&&`, put together
pub and_true : (a b : Bool) → a ≡ true → b ≡ true → (a && b) ≡ true
and_true a b p q = rw (p, q) refl

-- equal numbers are found equal
pub found_equal : (m n : ℕ) → m ≡ n → (m == n) ≡ true
found_equal m n e = grind (arith, nat_tests)

-- equal types are found equal
pub found_same : (t u : Ty) → t ≡ u → same t u ≡ true
found_same t u e = subst (λ z. same t z ≡ true) e (same_self t)

-- a name that is visible
pub visible_fine : (env : Env) (x : List ℕ) (s : Span) → is_some (find env x) ≡ true → AllHold (visible env x s)
unfolding visible
visible_fine env x s h = one h

-- an operand in a copying place
pub copied_fine : {names : Names} {env : Env} {x : Expr} {t : Ty} → Copied names env x t → Fine env (judged names x) Copies t env
copied_fine {names = names} {env = env} (e.copied {a = a} {t = t} d) = expr_fine names env env a Copies t d

-- ---- arguments

-- What arguments have that are well typed.
pub record Args (names : Names) (env : Env) (ps : List Slot) (xs : List Expr) (last : Env) : Type 0 where
  pub hold : AllHold (arguments env ps (map (judged names) xs))
  pub after : last ≡ after_args names env xs
  pub long : length ps ≡ length xs

-- arguments one after another
pub args_done : {names : Names} {env last : Env} {ps : List Slot} {xs : List Expr} → AreArguments names env ps xs last → Args names env ps xs last
args_done t.end = record { hold = nothing; after = refl; long = refl }
args_done {names = names} {env = env} (t.more {last = last} {p = p} {ps = ps} {a = a} {as_ = as_} mid d r) =
    let f = expr_fine names env mid a Consumes p.ty d in
    let g = args_done r in
    record {
      hold = join (join f.hold (one (rw f.ty (same_self p.ty)))) (subst (λ z. AllHold (arguments z ps (map (judged names) as_))) f.after g.hold);
      after = g.after ∙ ap (λ z. after_args names z as_) f.after;
      long = ap suc g.long;
    }

-- as many arguments as parameters
pub asked_fine : {names : Names} {env last : Env} {ps : List Slot} {xs : List Expr} → Args names env ps xs last → AllHold (arguments_of names env (Some ps) xs)
asked_fine {names} {env} {last} {ps} {xs} a = subst (λ b. AllHold (arguments env (cond b ps []) (map (judged names) xs))) (sym (found_equal (length ps) (length xs) a.long)) a.hold

-- What a receiver and its arguments have that are well typed.
pub record Invoked (names : Names) (env : Env) (to : Receiver) (t : Ty) (ps : List Slot) (xs : List Expr) (last : Env) : Type 0 where
  pub hold : AllHold (invoked names env to (Some ps) xs)
  pub ty : receiver_type env to ≡ Some t
  pub long : (length ps == length xs) ≡ true
  pub after : last ≡ after_invoked names env to xs

-- a receiver and its arguments
invoked_done : {names : Names} {env last : Env} {to : Receiver} {t : Ty} {ps : List Slot} {xs : List Expr} → Invokes names env to t ps xs last → Invoked names env to t ps xs last
unfolding invoked after_invoked
invoked_done {names} {env} {last} {to} {t} {ps} {xs} i =
    let a = args_done i.arguments in
    let u = usable_at (find env (receiver_word to)) t i.e-var_moved in
    record {
      hold = join (variable_fine env Looks (is_this to) (receiver_word to) (receiver_span to) t i.e-var_moved refl) (asked_fine a);
      ty = u.ty;
      long = found_equal (length ps) (length xs) a.long;
      after = i.after ∙ ap (λ z. regains z (receiver_word to)) a.after;
    }

-- ---- shapes of sources

-- What the rules see of a source that is well typed.
pub record Done (env : Env) (o : Outcome) (t : Ty) (last : Env) : Type 0 where
  pub parts : AllHold o.parts
  pub own : o.own.1 ≡ true
  pub more : o.more.1 ≡ true
  pub ty : o.ty ≡ Some t
  pub after : last ≡ o.after

-- a part of the type of an operand
part_done : (ctx : Context) (env : Env) {x : Expr} {t : Ty} (r : Rule) (of : Ty → Option Ty) (make : Ty → Ty) (u : Ty) → Copied (names_of ctx) env x t → of t ≡ Some u → Done env (part ctx env r of make x) (make u) env
part_done ctx env r of make u d h =
    let f = copied_fine d in
    record { parts = f.hold; own = rw (f.ty, h) refl; more = refl; ty = rw (f.ty, h) refl; after = refl }

-- two trees of one type
trees_done : (ctx : Context) (env : Env) {x y : Expr} (t : Ty) → Copied (names_of ctx) env x (ty.Par t) → Copied (names_of ctx) env y (ty.Par t) → Done env (trees ctx env x y) (ty.Par t) env
trees_done ctx env t d c =
    let f = copied_fine d in
    let g = copied_fine c in
    record { parts = join f.hold g.hold; own = rw (f.ty, g.ty, tree_has t) (same_self (ty.Par t)); more = refl; ty = rw f.ty refl; after = refl }

-- a function for a part of the type of an operand
applied_done : (ctx : Context) (env : Env) {last : Env} {x : Expr} {f : Name} {xs : List Expr} {v t u : Ty} (r : Rule) (of : Ty → Option Ty) (make : Ty → Ty) → Copied (names_of ctx) env x v → of v ≡ Some t → Applies ctx env f t xs u last → Done env (applied ctx env r of make x f xs) (make u) last
applied_done ctx env {last} {x} {f} {xs} {v} {t} {u} r of make d h a =
    let g = copied_fine d in
    let b = args_done a.arguments in
    let few : (length a.further == length xs) ≡ true = found_equal (length a.further) (length xs) b.long in
    let fits : same a.first.ty t ≡ true = found_same a.first.ty t a.takes in
    let hold : AllHold (arguments_of ctx.tables.names env (further (Some a.function)) xs) = rw a.params (asked_fine b) in
    let own : applies (Some a.function) (length xs) (Some t) ≡ true = rw a.params (and_true (same a.first.ty t) (length a.further == length xs) fits few) in
    subst (λ z. Done env (applied_by ctx env z r of make x xs) (make u) last) (sym a.is) (record {
      parts = join g.hold hold;
      own = rw (g.ty, h) own;
      more = refl;
      ty = ap (λ z. Some (make z)) a.gives;
      after = b.after;
    })

-- a call
pub call_done : {ctx : Context} {env last : Env} {to : Receiver} {m : Name} {xs : List Expr} {t : Ty} → Gives ctx env (s.Call to m xs) t last → Done env (call ctx env to m xs) t last
call_done {ctx} {env} (t.call {to = to} {m = m} {xs = xs} {last = last} t' d i c k n) =
    let v = invoked_done i in
    let is : called ctx.tables (receiver_type env to) m.word ≡ Some d = ap (λ z. called ctx.tables z m.word) v.ty ∙ k in
    let own : may_call to (Some d) (length xs) (Some t') ≡ true = and_true _ _ c v.long in
    subst (λ z. Done env (call_of ctx env z to xs) d.result last) (sym is) (record {
      parts = v.hold;
      own = subst (λ z. may_call to (Some d) (length xs) z ≡ true) (sym v.ty) own;
      more = subst (λ z. may_enter to (Some d) z ≡ true) (sym v.ty) n;
      ty = refl;
      after = v.after;
    })

-- a send
pub send_done : {ctx : Context} {env last : Env} {to : Receiver} {m : Name} {xs : List Expr} {t : Ty} → Gives ctx env (s.Send to m xs) t last → Done env (send ctx env to m xs) t last
send_done {ctx} {env} (t.send {to = to} {m = m} {xs = xs} {last = last} t' d i c k n o) =
    let v = invoked_done i in
    let is : sent ctx.tables (receiver_type env to) m.word ≡ Some d = ap (λ z. sent ctx.tables z m.word) v.ty ∙ k in
    let own : may_send (Some d) (length xs) (Some t') ≡ true = and_true _ _ c v.long in
    subst (λ z. Done env (send_of ctx env z to xs) (ty.Fut d.result) last) (sym is) (record {
      parts = v.hold;
      own = subst (λ z. may_send (Some d) (length xs) z ≡ true) (sym v.ty) own;
      more = and_true _ _ n o;
      ty = refl;
      after = v.after;
    })

-- ---- each source

-- each source, by its shape
pub source_done : {ctx : Context} {env last : Env} {src : SourceForm} {t : Ty} → Gives ctx env src t last → Done env (outcome ctx env src) t last
unfolding outcome
source_done {ctx = ctx} {env = env} (t.value {x = x} {t = t'} {last = last} d) =
    let f = expr_fine (names_of ctx) env last x Consumes t' d in
    record { parts = f.hold; own = refl; more = refl; ty = f.ty; after = f.after }
source_done (t.new h) = record { parts = nothing; own = rw h refl; more = refl; ty = h; after = refl }
source_done {env = env} (t.field {v = v} v' h l) = record { parts = visible_fine env this_word v v'; own = rw h (ap not l); more = refl; ty = h; after = refl }
source_done {env = env} (t.take {v = v} v' h l) = record { parts = visible_fine env this_word v v'; own = rw h l; more = refl; ty = h; after = refl }
source_done {ctx = ctx} (t.call {m = m} t' d i c k n) = call_done {ctx = ctx} (t.call {m = m} t' d i c k n)
source_done {ctx = ctx} (t.send {m = m} t' d i c k n o) = send_done {ctx = ctx} (t.send {m = m} t' d i c k n o)
source_done {ctx = ctx} {env = env} (t.get {t = t'} d) = part_done ctx env rule.SGet future_of (λ z. z) t' d (future_has t')
source_done {ctx = ctx} {env = env} (t.await {t = t'} d) = part_done ctx env rule.SAwait future_of (λ z. z) t' d (future_has t')
source_done {ctx = ctx} {env = env} (t.chain t' d a) = applied_done ctx env rule.SChain future_of ty.Fut d (future_has t') a
source_done {ctx = ctx} {env = env} (t.lift {t = t'} d h) = part_done ctx env rule.SPart (shared ctx env) ty.Par t' d (rw h refl)
source_done {ctx = ctx} {env = env} (t.lift_future t' d) = part_done ctx env rule.SPart future_of ty.Par t' d (future_has t')
source_done {ctx = ctx} {env = env} (t.each t' d) = part_done ctx env rule.SPart item_of ty.Par t' d (list_of t')
source_done {ctx = ctx} {env = env} (t.both t' d c) = trees_done ctx env t' d c
source_done {ctx = ctx} {env = env} (t.otherwise t' d c) = trees_done ctx env t' d c
source_done {ctx = ctx} {env = env} (t.seq t' d a) = applied_done ctx env rule.SPart tree_of ty.Par d (tree_has t') a
source_done {ctx = ctx} {env = env} (t.join t' d) = part_done ctx env rule.SPart tree_of_trees ty.Par t' d (trees_have t')
source_done {ctx = ctx} {env = env} (t.prune t' d) = part_done ctx env rule.SPart tree_of ty.Par t' d (tree_has t')
source_done {ctx = ctx} {env = env} (t.extract t' d) = part_done ctx env rule.SPart tree_of ty.List t' d (tree_has t')
source_done {ctx = ctx} {env = env} (t.bestow {a = a} t' d h) = part_done ctx env rule.SBestow (bestowed ctx env) (λ z. z) (ty.Bestowed a) d (ap (option_map ty.Bestowed) h)
