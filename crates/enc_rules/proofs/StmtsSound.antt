-- A statement that has no premise that fails is well typed.
use Rattle.std.proofs.Common.{◌≡◌, ℕ, true, false, not, ◌&&◌, List, [], ◌∷◌, map, length, Option, Some, sym, ap, ◌∙◌, subst}
use Rattle.std.specs.Prelude.{is_some}
use Rattle.enc_ast.specs.declared.rules.Rule.{Rule}
use Rattle.enc_ast.specs.declared.rules.Rule.TheVariants as rule
use Rattle.enc_ast.specs.declared.rules.Span.{Span}
use Rattle.enc_ast.specs.declared.Expr.{Expr}
use Rattle.enc_ast.specs.declared.Stmt.{Stmt}
use Rattle.enc_ast.specs.declared.StmtForm.{out-StmtForm}
use Rattle.enc_ast.specs.declared.StmtForm.TheOpen.{StmtForm-F}
use Rattle.enc_modes.specs.declared.ty.Ty.{Ty}
use Rattle.enc_modes.specs.declared.ty.Ty.TheVariants as ty
use Rattle.enc_modes.specs.Equality.{same}
use Rattle.enc_premises.specs.Premises.{each, if_known}
use Rattle.enc_premises.specs.First.{AllHold, one, join}
use Rattle.enc_flow.specs.Env.{Env, find, ty_of, declares, merged, cut}
use Rattle.enc_types.specs.Words.{every}
use Rattle.enc_types.specs.Names.{trait_named}
use Rattle.enc_types.specs.Written.{type_of}
use Rattle.enc_types.specs.Bodies.{in_row, stmt_form, stmt_types}
use Rattle.enc_exprs.specs.declared.uses.Use.TheVariants.{Copies, Consumes}
use Rattle.enc_exprs.specs.Uses.{this_word, lends}
use Rattle.enc_exprs.specs.Types.{is_plain}
use Rattle.enc_exprs.specs.Exprs.{judged, expr_type, expr_premises}
use Rattle.enc_exprs.specs.Typing.{IsTyped, Copied}
use Rattle.enc_flow.specs.Known.{Knows}
use Rattle.enc_flow.proofs.Knowing.{knows_find, knows_declares, knows_merged, knows_take}
use Rattle.enc_exprs.proofs.Knowing.{knows_lends, knows_regains, knows_consumes}
use Rattle.enc_rules.proofs.TypesKnown.{AreKnown}
use Rattle.enc_exprs.proofs.Variables.{variable_known}
use Rattle.enc_exprs.proofs.Sorts.{bool_is}
use Rattle.enc_exprs.proofs.Same.{same_is}
use Rattle.enc_rules.specs.Context.{Context, field_type}
use Rattle.enc_rules.specs.Parts.{chosen, choice_of, packed, is_target}
use Rattle.enc_rules.specs.Sources.{outcome}
use Rattle.enc_rules.specs.Stmts.{Act, act, acts, act_form, all_premises, all_after, condition, consumed, prints, within, var_type, split_ok, pack_ok, pack_known, pack_start, choice}
use Rattle.enc_rules.specs.Typing.{Layer, names_of, AllPrint, Types, TypesAll}
use Rattle.enc_rules.specs.Typing as t
use Rattle.enc_rules.proofs.Acts.{seen, act_layer}
use Rattle.enc_rules.proofs.Bodies.{Built, BuiltAll, asks, asks_layer, binds, assigns, stores, calls, sends, tests, tests_once, loops, groups, splits_up, packs, chooses, returns, writes, suspends, end, more}
use Rattle.enc_rules.proofs.Marks.{ty_lends}
use Rattle.enc_rules.proofs.SourcesSound.{both_true, flip, some_there, visible_there, expr_typed, operand_typed, as_type, field_there, source_sound, call_sound, send_sound}

-- What a statement is whose premises hold.
pub record Sound (ctx : Context) (env : Env) (l : Layer) (a : Act) : Type 0 where
  pub typed : Types ctx env l (a.after ctx env)
  pub knows : Knows (a.after ctx env)

-- What statements are whose premises hold.
pub record AllSound (ctx : Context) (env : Env) (xs : List Stmt) : Type 0 where
  pub typed : TypesAll ctx env xs (all_after ctx env (acts xs))
  pub knows : Knows (all_after ctx env (acts xs))

-- the type of a variable that is visible
ty_known : (env : Env) (x : List ℕ) → Knows env → is_some (find env x) ≡ true → (t : Ty) × (ty_of (find env x) ≡ Some t)
ty_known env x k h =
    let p = some_there (find env x) h in
    let q = knows_find k x p.0 p.1 in
    (q.0, ap ty_of p.1 ∙ q.1)

-- a condition
cond_sound : (ctx : Context) (env : Env) (x : Expr) (r : Rule) → Knows env → AllHold (condition ctx env r x) → Copied (names_of ctx) env x ty.Bool
cond_sound ctx env x r k (join h (one m)) =
    let p = operand_typed ctx.tables.names env x k h in
    as_type p ty.Bool (bool_is p.t (rw p.ty at m))

-- values that can be printed
prints_sound : (ctx : Context) (env : Env) (xs : List Expr) → Knows env → AllHold (each (expr_premises ctx.tables.names env Copies) xs) → every (prints ctx env) xs ≡ true → AllPrint (names_of ctx) env xs
prints_sound ctx env [] k h m = t.end
prints_sound ctx env (x ∷ xs) k (join h i) m =
    let p = operand_typed ctx.tables.names env x k h in
    let b = both_true (prints ctx env x) (every (prints ctx env) xs) m in
    t.more p.t p.typed (subst (λ z. if_known is_plain z ≡ true) p.ty b.0) (prints_sound ctx env xs k i b.1)

-- the types of both parts are known
split_known : (w l r : Option Ty) (t u v : Ty) → w ≡ Some t → l ≡ Some u → r ≡ Some v → split_ok w l r ≡ true → split_ok (Some t) (Some u) (Some v) ≡ true
split_known w l r t u v p q s h = subst (λ z. split_ok (Some t) (Some u) z ≡ true) s (subst (λ z. split_ok (Some t) z r ≡ true) q (subst (λ z. split_ok z l r ≡ true) p h))

-- the variables of both parts
split_ends : (env : Env) (y z : List ℕ) (l r : Option Ty) (u v : Ty) → l ≡ Some u → r ≡ Some v → declares (declares env y (Some u)) z (Some v) ≡ declares (declares env y l) z r
split_ends env y z l r u v p q = ap (λ o. declares (declares env y o) z (Some v)) (sym p) ∙ ap (λ o. declares (declares env y l) z o) (sym q)

-- the type of what is packed
packs_there : (o q : Option Ty) (t u : Ty) → o ≡ Some t → q ≡ Some u → pack_ok o q ≡ true → (v : Ty) × (packed t u ≡ Some v) × (pack_known o q ≡ Some v)
packs_there o q t u e f h =
    let p = some_there (packed t u) (subst (λ z. pack_ok (Some t) z ≡ true) f (subst (λ z. pack_ok z q ≡ true) e h)) in
    (p.0, p.1, ap (λ z. pack_known z q) e ∙ (ap (pack_known (Some t)) f ∙ p.1))

-- how a layer is told to be well typed
abbrev Tells : Context → Env → Layer → Type 0
Tells ctx env l = AllHold (stmt_form ctx.tables.names (asks ctx.tables.names l)) → (s : Span) → AllHold ((act_form (seen l) s).premises ctx env) → Sound ctx env l (act_form (seen l) s)

mutual
  -- each statement
  pub sound : {l : Layer} → Built l → (ctx : Context) (env : Env) → AreKnown ctx.tables.names → Knows env → Tells ctx env l
  sound (binds {x} {src}) ctx env w k v s (join h (join (one n) (join (one o) (join (one m) (one a))))) =
      let f = source_sound ctx env k src.form h o m in
      record { typed = subst (λ z. Types ctx env (StmtForm-F.Let x src) (declares (outcome ctx env src.form).after x.word z)) (sym f.ty) (t.binds f.t f.typed (flip _ n) (flip _ a)); knows = subst (λ z. Knows (declares (outcome ctx env src.form).after x.word z)) (sym f.ty) (knows_declares f.knows x.word f.t) }
  sound (assigns {x} {y}) ctx env w k v s (join n (join h (one m))) =
      let p = ty_known env x.word k (visible_there env x.word x.span n) in
      let f = expr_typed ctx.tables.names env Consumes y k h in
      let is : p.0 ≡ f.t = same_is p.0 f.t (rw (p.1, f.ty) at m) in
      record { typed = t.assigns p.0 p.1 (subst (λ z. IsTyped ctx.tables.names env y Consumes z (consumed ctx env y)) (sym is) f.typed); knows = knows_regains (knows_consumes k (judged ctx.tables.names y).name) x.word }
  sound (stores {v = z} {x} {y}) ctx env w k v s (join n (join h (join (one m) (one r)))) =
      let p = field_there (λ t. if_known (same t) (expr_type ctx.tables.names env y)) (field_type ctx x.word) m in
      let f = expr_typed ctx.tables.names env Consumes y k h in
      let is : p.0 ≡ f.t = same_is p.0 f.t (subst (λ o. if_known (same p.0) o ≡ true) f.ty p.2) in
      record { typed = t.stores p.0 (visible_there env this_word z n) p.1 (subst (λ z. IsTyped ctx.tables.names env y Consumes z (consumed ctx env y)) (sym is) f.typed) (flip _ r); knows = knows_consumes k (judged ctx.tables.names y).name }
  sound (calls {to} {m} {xs}) ctx env w k v s (join h (join (one o) (join (one i) (one a)))) =
      let f = call_sound ctx env k to m xs h o i in
      record { typed = t.calls f.t f.typed (flip _ a); knows = f.knows }
  sound (sends {to} {m} {xs}) ctx env w k v s (join h (join (one o) (one i))) =
      let f = send_sound ctx env k to m xs h o i in
      record { typed = t.sends f.t f.typed; knows = f.knows }
  sound (tests {x} {a} {b} d e) ctx env w k (join v (join va vb)) s (join i (join h g)) =
      let f = sound_all d ctx env w k va h in
      let q = sound_all e ctx env w k vb g in
      record { typed = t.tests _ _ (cond_sound ctx env x rule.SIf k i) f.typed q.typed; knows = knows_merged (knows_take f.knows (length env)) _ }
  sound (tests_once {x} {a} d) ctx env w k (join v (join va n)) s (join i (join h g)) =
      let f = sound_all d ctx env w k va h in
      record { typed = t.tests_once _ (cond_sound ctx env x rule.SIf k i) f.typed; knows = knows_merged (knows_take f.knows (length env)) _ }
  sound (loops {x} {a} d) ctx env w k (join v va) s (join i (join h (one m))) =
      let f = sound_all d ctx env w k va h in
      record { typed = t.loops _ (cond_sound ctx env x rule.SLoop k i) f.typed m; knows = k }
  sound (groups {x} {a} d) ctx env w k (join v va) s (join h (join i (one m))) =
      let p = operand_typed ctx.tables.names env x k h in
      let f = sound_all d (within ctx) env w k va i in
      let b = both_true (is_target p.t) (not ctx.inside) (subst (λ z. (if_known is_target z && not ctx.inside) ≡ true) p.ty m) in
      record { typed = t.groups p.t _ p.typed f.typed b.0 (flip _ b.1); knows = knows_take f.knows (length env) }
  sound (splits_up {x} {y} {z} {l} {r}) ctx env w k (join v v') s (join h (join (one n) (one m))) =
      let p = variable_known env Consumes false x.word x.span k h in
      let a = some_there (type_of ctx.tables.names l) (w l v) in
      let b = some_there (type_of ctx.tables.names r) (w r v') in
      let ends : declares (declares (lends env x.word) y.word (Some a.0)) z.word (Some b.0) ≡ declares (declares (lends env x.word) y.word (type_of ctx.tables.names l)) z.word (type_of ctx.tables.names r) = split_ends (lends env x.word) y.word z.word _ _ a.0 b.0 a.1 b.1 in
      record {
        typed = subst (Types ctx env (StmtForm-F.Split x y l z r)) ends (t.splits_up p.t a.0 b.0 p.usable a.1 b.1 n (split_known _ _ _ p.t a.0 b.0 p.ty a.1 b.1 m));
        knows = subst Knows ends (knows_declares (knows_declares (knows_lends k x.word) y.word a.0) z.word b.0);
      }
  sound (packs {x} {y} {z} {a} {b} d e) ctx env w k (join va vb) s (join hx (join hy (join h (join g (join (one n) (one m)))))) =
      let p = variable_known env Consumes false x.word x.span k hx in
      let q = variable_known (lends env x.word) Consumes false y.word y.span (knows_lends k x.word) hy in
      let u : var_type env y ≡ Some q.t = sym (ty_lends env x.word y.word) ∙ q.ty in
      let c = packs_there (var_type env x) (var_type env y) p.t q.t p.ty u m in
      let from : Env = declares (lends (lends env x.word) y.word) z.word (Some c.0) in
      let start : from ≡ pack_start env x y z = ap (declares (lends (lends env x.word) y.word) z.word) (sym c.2) in
      let f = sound_all d ctx from w (knows_declares (knows_lends (knows_lends k x.word) y.word) z.word c.0) va (subst (λ o. AllHold (all_premises ctx o (acts a))) (sym start) h) in
      let i = sound_all e ctx env w k vb g in
      record {
        typed = subst (λ o. Types ctx env (StmtForm-F.Pack x y z a b) (merged (cut env (all_after ctx o (acts a))) (cut env (all_after ctx env (acts b))))) start (t.packs p.t q.t c.0 _ _ p.usable q.usable (flip _ n) c.1 f.typed i.typed);
        knows = knows_merged (knows_take (subst (λ o. Knows (all_after ctx o (acts a))) start f.knows) (length env)) _;
      }
  sound (chooses {x} {y} {z}) ctx env w k v s (join h (join (one n) (one m))) =
      let p = variable_known env Consumes false x.word x.span k h in
      let c = some_there (chosen p.t (trait_named ctx.tables.names y.word)) (subst (λ o. if_known (λ u. is_some (chosen u (trait_named ctx.tables.names y.word))) o ≡ true) p.ty m) in
      let new : choice ctx env x y ≡ Some c.0 = ap (λ o. choice_of o (trait_named ctx.tables.names y.word)) p.ty ∙ c.1 in
      record {
        typed = subst (λ o. Types ctx env (StmtForm-F.Choose x y z) (declares (lends env x.word) z.word o)) (sym new) (t.chooses p.t c.0 p.usable (flip _ n) c.1);
        knows = subst (λ o. Knows (declares (lends env x.word) z.word o)) (sym new) (knows_declares (knows_lends k x.word) z.word c.0);
      }
  sound (returns {x}) ctx env w k v s (join h (join (one a) (one m))) =
      let f = expr_typed ctx.tables.names env Consumes x k h in
      let is : ctx.result ≡ f.t = same_is ctx.result f.t (rw f.ty at m) in
      record { typed = t.returns (flip _ a) (subst (λ z. IsTyped ctx.tables.names env x Consumes z (consumed ctx env x)) (sym is) f.typed); knows = knows_consumes k (judged ctx.tables.names x).name }
  sound (writes {xs}) ctx env w k v s (join h (one m)) = record { typed = t.prints (prints_sound ctx env xs k h m); knows = k }
  sound suspends ctx env w k v s (one a) = record { typed = t.suspends (flip _ a); knows = k }

  -- statements one after another
  pub sound_all : {xs : List Stmt} → BuiltAll xs → (ctx : Context) (env : Env) → AreKnown ctx.tables.names → Knows env → AllHold (in_row (map (stmt_types ctx.tables.names) xs)) → AllHold (all_premises ctx env (acts xs)) → AllSound ctx env xs
  sound_all end ctx env w k v h = record { typed = t.none; knows = k }
  sound_all (more {x} {xs} d r) ctx env w k (join v vs) (join h i) =
      let f = sound d ctx env w k (subst AllHold (asks_layer ctx.tables.names x) v) x.span (subst (λ a. AllHold (a.premises ctx env)) (act_layer x) h) in
      let mid : Types ctx env (out-StmtForm x.form) ((act x).after ctx env) = subst (λ a. Types ctx env (out-StmtForm x.form) (a.after ctx env)) (sym (act_layer x)) f.typed in
      let n : Knows ((act x).after ctx env) = subst (λ a. Knows (a.after ctx env)) (sym (act_layer x)) f.knows in
      let g = sound_all r ctx ((act x).after ctx env) w n vs i in
      record { typed = t.some ((act x).after ctx env) mid g.typed; knows = g.knows }
