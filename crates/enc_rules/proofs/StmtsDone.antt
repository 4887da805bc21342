-- A statement that is well typed has no premise that fails.
use Rattle.std.proofs.Common.{◌≡◌, true, false, not, List, Option, Some, None, refl, sym, ap, ◌∙◌, subst, arith}
use Rattle.std.specs.Prelude.{is_some}
use Rattle.enc_ast.specs.declared.rules.Rule.{Rule}
use Rattle.enc_ast.specs.declared.rules.Rule.TheVariants as rule
use Rattle.enc_ast.specs.declared.rules.Span.{Span}
use Rattle.enc_ast.specs.declared.Expr.{Expr}
use Rattle.enc_ast.specs.declared.Stmt.{Stmt}
use Rattle.enc_ast.specs.declared.StmtForm.{out-StmtForm}
use Rattle.enc_modes.specs.declared.ty.Ty.{Ty}
use Rattle.enc_modes.specs.declared.ty.Ty.TheVariants as ty
use Rattle.enc_premises.specs.Premises.{each}
use Rattle.enc_premises.specs.First.{AllHold, nothing, one, join}
use Rattle.enc_flow.specs.Vars.{Var}
use Rattle.enc_flow.specs.Env.{Env, find, ty_of, declares, merged, cut, same_moves}
use Rattle.enc_types.specs.Words.{every}
use Rattle.enc_exprs.specs.declared.uses.Use.TheVariants.{Copies, Consumes}
use Rattle.enc_exprs.specs.Uses.{this_word, lends, regains}
use Rattle.enc_exprs.specs.Exprs.{expr_premises}
use Rattle.enc_exprs.specs.Typing.{Copied}
use Rattle.enc_exprs.proofs.ExprFine.{expr_fine}
use Rattle.enc_exprs.proofs.Variables.{usable_at, variable_fine}
use Rattle.enc_exprs.proofs.Sorts.{bool_of}
use Rattle.enc_exprs.proofs.Same.{same_self}
use Rattle.enc_rules.specs.Context.{Context}
use Rattle.enc_rules.specs.Sources.{outcome}
use Rattle.enc_rules.specs.Stmts.{Act, act, acts, act_form, all_premises, all_after, condition, prints, var_type, pack_known, pack_start}
use Rattle.enc_rules.specs.Typing.{Layer, names_of, AllPrint, Types, TypesAll}
use Rattle.enc_rules.specs.Typing as t
use Rattle.enc_rules.proofs.Acts.{seen, act_layer}
use Rattle.enc_rules.proofs.Marks.{ty_lends}
use Rattle.enc_rules.proofs.SourcesDone.{and_true, visible_fine, copied_fine, source_done, call_done, send_done}

-- What the rules see of a statement that is well typed.
pub record Done (ctx : Context) (env : Env) (a : Act) (last : Env) : Type 0 where
  pub hold : AllHold (a.premises ctx env)
  pub after : last ≡ a.after ctx env

-- What they see of statements one after another.
pub record AllDone (ctx : Context) (env : Env) (as_ : List Act) (last : Env) : Type 0 where
  pub hold : AllHold (all_premises ctx env as_)
  pub after : last ≡ all_after ctx env as_

-- what has a type is there
there : (o : Option Var) (t : Ty) → ty_of o ≡ Some t → is_some o ≡ true
there None t e = absurd (grind arith)
there (Some v) t e = refl

-- a statement by its layer
done_at : (ctx : Context) (env last : Env) (x : Stmt) → ((s : Span) → Done ctx env (act_form (seen (out-StmtForm x.form)) s) last) → Done ctx env (act x) last
done_at ctx env last x f = subst (λ a. Done ctx env a last) (sym (act_layer x)) (f x.span)

-- a condition
condition_done : (ctx : Context) (env : Env) (x : Expr) (r : Rule) → Copied (names_of ctx) env x ty.Bool → AllHold (condition ctx env r x)
condition_done ctx env x r d =
    let f = copied_fine d in
    join f.hold (one (rw f.ty bool_of))

-- two blocks, after which both are as they are
merged_ends : (env : Env) {a b c d : Env} → a ≡ b → c ≡ d → merged (cut env a) (cut env c) ≡ merged (cut env b) (cut env d)
merged_ends env {a} {b} {c} {d} p q = ap (λ z. merged (cut env z) (cut env c)) p ∙ ap (λ z. merged (cut env b) (cut env z)) q

-- What the rules see of values that can be printed.
record Printed (ctx : Context) (env : Env) (xs : List Expr) : Type 0 where
  hold : AllHold (each (expr_premises (names_of ctx) env Copies) xs)
  plain : every (prints ctx env) xs ≡ true

-- values that can be printed
prints_done : (ctx : Context) (env : Env) {xs : List Expr} → AllPrint (names_of ctx) env xs → Printed ctx env xs
prints_done ctx env t.end = record { hold = nothing; plain = refl }
prints_done ctx env (t.more {x = x} {xs = xs} t' d p r) =
    let f = copied_fine d in
    let g = prints_done ctx env r in
    record { hold = join f.hold g.hold; plain = and_true (prints ctx env x) (every (prints ctx env) xs) (rw f.ty p) g.plain }

mutual
  -- each statement
  pub done : {ctx : Context} {env last : Env} {l : Layer} → Types ctx env l last → (s : Span) → Done ctx env (act_form (seen l) s) last
  done {ctx = ctx} {env = env} (t.binds {x = x} {src = src} t' g fresh wait) s =
      let f = source_done g in
      record {
        hold = join f.parts (join (one (ap not fresh)) (join (one f.own) (join (one f.more) (one (ap not wait)))));
        after = ap (λ z. declares z x.word (Some t')) f.after ∙ ap (λ z. declares (outcome ctx env src.form).after x.word z) (sym f.ty);
      }
  done {ctx = ctx} {env = env} (t.assigns {last = last} {x = x} {y = y} t' e d) s =
      let f = expr_fine (names_of ctx) env last y Consumes t' d in
      record { hold = join (visible_fine env x.word x.span (there (find env x.word) t' e)) (join f.hold (one (rw (e, f.ty) (same_self t')))); after = ap (λ z. regains z x.word) f.after }
  done {ctx = ctx} {env = env} (t.stores {last = last} {v = v} {y = y} t' e h d r) s =
      let f = expr_fine (names_of ctx) env last y Consumes t' d in
      record { hold = join (visible_fine env this_word v e) (join f.hold (join (one (rw (h, f.ty) (same_self t'))) (one (ap not r)))); after = f.after }
  done {ctx = ctx} {env = env} (t.calls t' g a) s =
      let f = call_done g in
      record { hold = join f.parts (join (one f.own) (join (one f.more) (one (ap not a)))); after = f.after }
  done {ctx = ctx} {env = env} (t.sends t' g) s =
      let f = send_done g in
      record { hold = join f.parts (join (one f.own) (one f.more)); after = f.after }
  done {ctx = ctx} {env = env} (t.tests {x = x} left right c d e) s =
      let f = all_done d in
      let g = all_done e in
      record { hold = join (condition_done ctx env x rule.SIf c) (join f.hold g.hold); after = merged_ends env f.after g.after }
  done {ctx = ctx} {env = env} (t.tests_once {x = x} left c d) s =
      let f = all_done d in
      record { hold = join (condition_done ctx env x rule.SIf c) (join f.hold nothing); after = ap (λ z. merged (cut env z) env) f.after }
  done {ctx = ctx} {env = env} (t.loops {x = x} last c d m) s =
      let f = all_done d in
      record { hold = join (condition_done ctx env x rule.SLoop c) (join f.hold (one (subst (λ z. same_moves env (cut env z) ≡ true) f.after m))); after = refl }
  done {ctx = ctx} {env = env} (t.groups {x = x} t' last c d h a) s =
      let k = copied_fine c in
      let f = all_done d in
      record { hold = join k.hold (join f.hold (one (rw k.ty (and_true _ _ h (ap not a))))); after = ap (cut env) f.after }
  done {ctx = ctx} {env = env} (t.splits_up {x = x} t' u v h k m fresh ok) s =
      let f = usable_at (find env x.word) t' h in
      record { hold = join (variable_fine env Consumes false x.word x.span t' h refl) (join (one fresh) (one (rw (f.ty, k, m) ok))); after = rw (k, m) refl }
  done {ctx = ctx} {env = env} (t.packs {x = x} {y = y} {z = z} {a = a} {b = b} t' u v left right h k fresh ok d e) s =
      let f = usable_at (find env x.word) t' h in
      let g = usable_at (find (lends env x.word) y.word) u k in
      let w : var_type env y ≡ Some u = sym (ty_lends env x.word y.word) ∙ g.ty in
      let new : pack_known (var_type env x) (var_type env y) ≡ Some v = rw (f.ty, w) ok in
      let start : declares (lends (lends env x.word) y.word) z.word (Some v) ≡ pack_start env x y z = ap (declares (lends (lends env x.word) y.word) z.word) (sym new) in
      let i = all_done d in
      let j = all_done e in
      record {
        hold = join (variable_fine env Consumes false x.word x.span t' h refl) (join (variable_fine (lends env x.word) Consumes false y.word y.span u k refl) (join (subst (λ z. AllHold (all_premises ctx z (acts a))) start i.hold) (join j.hold (join (one (ap not fresh)) (one (rw (f.ty, w, ok) refl))))));
        after = merged_ends env (i.after ∙ ap (λ z. all_after ctx z (acts a)) start) j.after;
      }
  done {ctx = ctx} {env = env} (t.chooses {x = x} {y = y} {z = z} t' u h fresh ok) s =
      let f = usable_at (find env x.word) t' h in
      record { hold = join (variable_fine env Consumes false x.word x.span t' h refl) (join (one (ap not fresh)) (one (rw (f.ty, ok) refl))); after = rw (f.ty, ok) refl }
  done {ctx = ctx} {env = env} (t.returns {last = last} {x = x} a d) s =
      let f = expr_fine (names_of ctx) env last x Consumes ctx.result d in
      record { hold = join f.hold (join (one (ap not a)) (one (rw f.ty (same_self ctx.result)))); after = f.after }
  done {ctx = ctx} {env = env} (t.prints d) s =
      let f = prints_done ctx env d in
      record { hold = join f.hold (one f.plain); after = refl }
  done (t.suspends a) s = record { hold = one (ap not a); after = refl }

  -- statements one after another
  pub all_done : {ctx : Context} {env last : Env} {xs : List Stmt} → TypesAll ctx env xs last → AllDone ctx env (acts xs) last
  all_done t.none = record { hold = nothing; after = refl }
  all_done {ctx = ctx} {env = env} (t.some {x = x} {xs = xs} mid d r) =
      let f = done_at ctx env mid x (done d) in
      let g = all_done r in
      record { hold = join f.hold (subst (λ z. AllHold (all_premises ctx z (acts xs))) f.after g.hold); after = g.after ∙ ap (λ z. all_after ctx z (acts xs)) f.after }
