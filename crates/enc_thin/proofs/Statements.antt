-- The statements of the thin form are well typed.
use Rattle.std.proofs.Common.{◌≡◌, ℕ, true, false, ◌&&◌, List, [], ◌∷◌, Some, codes, refl, sym, subst, arith}
use Rattle.enc_ast.specs.declared.Expr.{Expr}
use Rattle.enc_ast.specs.declared.sources.SourceForm.{SourceForm}
use Rattle.enc_ast.specs.declared.sources.SourceForm.TheVariants as s
use Rattle.enc_ast.specs.declared.Stmt.{Stmt}
use Rattle.enc_ast.specs.declared.StmtForm.{out-StmtForm}
use Rattle.enc_ast.specs.declared.StmtForm.TheOpen.{StmtForm-F}
use Rattle.enc_ast.specs.Thin.{is_sum_source, is_free, is_some_items, is_line, is_line_layer, bound_after, bound_after_layer, is_body}
use Rattle.enc_modes.specs.declared.ty.Ty.TheVariants as ty
use Rattle.enc_premises.specs.First.{AllHold, nothing, join}
use Rattle.enc_flow.specs.Vars.{Var}
use Rattle.enc_flow.specs.Env.{Env, declares}
use Rattle.enc_types.specs.Bodies.{stmt_form, source_types, exprs_types, body_types}
use Rattle.enc_exprs.specs.declared.uses.Use.TheVariants.{Consumes}
use Rattle.enc_exprs.specs.Uses.{this_word}
use Rattle.enc_rules.specs.Context.{Context}
use Rattle.enc_rules.specs.Sources.{waits}
use Rattle.enc_rules.specs.Typing.{Layer, AllPrint, Gives, Types, TypesAll}
use Rattle.enc_rules.specs.Typing as t
use Rattle.enc_rules.proofs.Bodies.{asks, asks_layer}
use Rattle.enc_thin.proofs.Variables.{both, variables, usable_among, find_free, variables_more}
use Rattle.enc_thin.proofs.Expressions.{sum_fine, items_fine}

module _ (ctx : Context) (this args : Var) (outside : ctx.inside ≡ false) (is_this : this.word ≡ this_word) (is_args : args.word ≡ codes "args") where
  -- the variables where these names are bound
  abbrev bound : List (List ℕ) → Env
  bound = variables this args

  -- a sum gives an integer, and never waits
  source_fine : (names : List (List ℕ)) (src : SourceForm) → is_sum_source names src ≡ true → Gives ctx (bound names) src ty.Int (bound names) × ((ctx.inside && waits src) ≡ false) × AllHold (source_types ctx.tables.names src)
  source_fine names (s.Expr x) h =
      let p = sum_fine ctx.tables.names (bound names) names (usable_among this args names) x h in
      (t.value (p.0 Consumes), rw outside refl, p.1)
  source_fine names _ h = absurd (grind arith)

  -- some items are printed
  prints_fine : (names : List (List ℕ)) (xs : List Expr) → is_some_items names xs ≡ true → AllPrint ctx.tables.names (bound names) xs × AllHold (exprs_types ctx.tables.names xs)
  prints_fine names [] h = absurd (grind arith)
  prints_fine names (x ∷ xs) h = items_fine ctx.tables.names (bound names) names (usable_among this args names) (x ∷ xs) h

  -- a binding or a print
  line_fine : (names : List (List ℕ)) (l : Layer) → is_line_layer names l ≡ true → Types ctx (bound names) l (bound (bound_after_layer names l)) × AllHold (stmt_form ctx.tables.names (asks ctx.tables.names l))
  line_fine names (StmtForm-F.Let x src) h =
      let b = both (is_free names x.word) (is_sum_source names src.form) h in
      let p = source_fine names src.form b.1 in
      let typed : Types ctx (bound names) (StmtForm-F.Let x src) (declares (bound names) x.word (Some ty.Int)) = t.binds ty.Int p.0 (find_free this args names x.word is_this is_args b.0) p.1 in
      (subst (Types ctx (bound names) (StmtForm-F.Let x src)) (variables_more this args names x.word) typed, p.2)
  line_fine names (StmtForm-F.Print xs) h = let p = prints_fine names xs h in (t.prints p.0, p.1)
  line_fine names _ h = absurd (grind arith)

  -- the statements of a body
  pub body_fine : (names : List (List ℕ)) (xs : List Stmt) → is_body names xs ≡ true → (last : Env) × TypesAll ctx (bound names) xs last × AllHold (body_types ctx.tables.names xs)
  body_fine names [] h = (bound names, t.none, nothing)
  body_fine names (x ∷ xs) h =
      let b = both (is_line names x.form) (is_body (bound_after names x.form) xs) h in
      let p = line_fine names (out-StmtForm x.form) b.0 in
      let q = body_fine (bound_after names x.form) xs b.1 in
      (q.0, t.some (bound (bound_after names x.form)) p.0 q.1, join (subst AllHold (sym (asks_layer ctx.tables.names x)) p.1) q.2)
