-- The expressions of the thin form are integers, or texts.
use Rattle.std.proofs.Common.{◌≡◌, ◌∙◌, ℕ, Bool, true, false, ◌||◌, List, [], ◌∷◌, Some, refl, sym, subst, arith}
use Rattle.std.specs.Prelude.{if◌then◌else◌}
use Rattle.std.specs.List.{list_all}
use Rattle.enc_ast.specs.declared.Operator.{Operator}
use Rattle.enc_ast.specs.declared.Operator.TheVariants as op
use Rattle.enc_ast.specs.declared.Expr.{Expr}
use Rattle.enc_ast.specs.declared.ExprForm.{ExprForm}
use Rattle.enc_ast.specs.declared.ExprForm.TheOpen.{ExprForm-F}
use Rattle.enc_ast.specs.declared.ExprForm.TheFolds.{map-ExprForm, fold-ExprForm, fold_out-ExprForm, fold_out-Expr}
use Rattle.enc_ast.specs.Thin.{Shape, Part, Sum, Other, is_among, is_arithmetic, between, layer_shape, shape_of, is_number, is_sum, is_text_layer, is_item}
use Rattle.enc_modes.specs.declared.ty.Ty.{Ty}
use Rattle.enc_modes.specs.declared.ty.Ty.TheVariants as ty
use Rattle.enc_modes.specs.Modes.{is_linear}
use Rattle.enc_premises.specs.Premises.{Premises}
use Rattle.enc_premises.specs.First.{AllHold, nothing, join}
use Rattle.enc_flow.specs.Env.{Env, usable}
use Rattle.enc_types.specs.Names.{Names}
use Rattle.enc_types.specs.Bodies.{expr_form, expr_node, expr_types, exprs_types}
use Rattle.enc_exprs.specs.declared.uses.Use.{Use}
use Rattle.enc_exprs.specs.declared.uses.Use.TheVariants.{Copies}
use Rattle.enc_exprs.specs.Types.{is_plain, is_arithmetic as is_computed}
use Rattle.enc_exprs.specs.Typing.{Layer, layer, TypeOf, Copied, IsTyped}
use Rattle.enc_exprs.specs.Typing as t
use Rattle.enc_exprs.proofs.Parts.{Built, operator, int, name, parens, built_form}
use Rattle.enc_rules.specs.Typing.{AllPrint}
use Rattle.enc_rules.specs.Typing as r
use Rattle.enc_thin.proofs.Variables.{both}

-- ---- types

-- integers have other references beside them
pub int_not_linear : is_linear ty.Int ≡ false
unfolding is_linear
int_not_linear = rw ty.outs-Int refl

-- integers can be printed
pub int_plain : is_plain ty.Int ≡ true
unfolding is_plain
int_plain = rw ty.outs-Int refl

-- texts can be printed
pub text_plain : is_plain ty.Text ≡ true
unfolding is_plain
text_plain = rw ty.outs-Text refl

-- ---- one level of an expression

-- a level, with the shapes of its parts
abbrev shapes : List (List ℕ) → Layer → ExprForm-F Shape Shape
shapes names l = map-ExprForm ExprForm Expr Shape Shape (fold-ExprForm Shape Shape (layer_shape names) (λ node. node.form)) (shape_of names) l

-- the shape of an expression by its outer level
shape_layer : (names : List (List ℕ)) (x : Expr) → shape_of names x ≡ layer_shape names (shapes names (layer x))
unfolding shape_of
shape_layer names x = fold_out-Expr Shape Shape (layer_shape names) (λ node. node.form) x ∙ fold_out-ExprForm Shape Shape (layer_shape names) (λ node. node.form) x.form

-- a level, with what is asked of the types in its parts
abbrev asks : Names → Layer → ExprForm-F Premises Premises
asks tables l = map-ExprForm ExprForm Expr Premises Premises (fold-ExprForm Premises Premises (expr_form tables) expr_node) (expr_types tables) l

-- what is asked of the types in an expression, by its outer level
asks_layer : (tables : Names) (x : Expr) → expr_types tables x ≡ expr_form tables (asks tables (layer x))
unfolding expr_types
asks_layer tables x = fold_out-Expr Premises Premises (expr_form tables) expr_node x ∙ fold_out-ExprForm Premises Premises (expr_form tables) expr_node x.form

-- the operands of a sum are parts
parts_of : (o : Operator) (a b : Shape) → is_number (between o a b) ≡ true → (is_arithmetic o ≡ true) × (is_number a ≡ true) × (is_number b ≡ true)
parts_of o Part Part h = (go (is_arithmetic o) h, refl, refl)
  where
    go : (b : Bool) → is_number (if b then Sum else Other) ≡ true → b ≡ true
    go true h = refl
    go false h = absurd (grind arith)
parts_of o Part Sum h = absurd (grind arith)
parts_of o Part Other h = absurd (grind arith)
parts_of o Sum b h = absurd (grind arith)
parts_of o Other b h = absurd (grind arith)

-- `+`, `-` and `*` compute numbers
computes : (o : Operator) → is_arithmetic o ≡ true → is_computed o ≡ true
computes op.Add h = refl
computes op.Subtract h = refl
computes op.Multiply h = refl
computes _ h = absurd (grind arith)

-- a name is a part where it is there
name_among : (b : Bool) → is_number (if b then Part else Other) ≡ true → b ≡ true
name_among true h = refl
name_among false h = absurd (grind arith)

module _ (tables : Names) (env : Env) (names : List (List ℕ)) (ints : (x : List ℕ) → is_among names x ≡ true → usable env x ≡ Some ty.Int) where
  -- It is an integer in each place, and writes no type that may not be written.
  abbrev IsInt : Layer → Type 0
  IsInt l = ((u : Use) → TypeOf tables env l u ty.Int env) × AllHold (expr_form tables (asks tables l))

  -- an expression that is a sum by its shape
  sum_at : (x : Expr) → (is_number (layer_shape names (shapes names (layer x))) ≡ true → IsInt (layer x)) → is_number (shape_of names x) ≡ true → IsInt (layer x)
  sum_at x f h = f (subst (λ s. is_number s ≡ true) (shape_layer names x) h)

  -- what is asked of its types
  types_at : (x : Expr) → IsInt (layer x) → AllHold (expr_types tables x)
  types_at x h = subst AllHold (sym (asks_layer tables x)) h.1

  -- a level that is a sum
  sum_int : {l : Layer} → Built l → is_number (layer_shape names (shapes names l)) ≡ true → IsInt l
  sum_int (operator {o} {a} {b} d e) h =
      let p = parts_of o (shape_of names a) (shape_of names b) h in
      let x = sum_at a (sum_int d) p.1 in
      let y = sum_at b (sum_int e) p.2 in
      (λ u. t.arithmetic (computes o p.0) (t.copied (x.0 Copies)) (t.copied (y.0 Copies)), join (types_at a x) (types_at b y))
  sum_int int h = (λ u. t.int, nothing)
  sum_int (name {x}) h = (λ u. t.copy (ints x (name_among (is_among names x) h)) int_not_linear, nothing)
  sum_int (parens {a} d) h =
      let x = sum_at a (sum_int d) h in
      (λ u. t.parens (t.copied (x.0 Copies)), types_at a x)
  sum_int _ h = absurd (grind arith)

  -- a sum
  pub sum_fine : (x : Expr) → is_sum names x ≡ true → ((u : Use) → IsTyped tables env x u ty.Int env) × AllHold (expr_types tables x)
  sum_fine x h = let p = sum_at x (sum_int (built_form x.form)) h in (p.0, types_at x p)

  -- a text
  text_fine : (l : Layer) → is_text_layer l ≡ true → TypeOf tables env l Copies ty.Text env × AllHold (expr_form tables (asks tables l))
  text_fine (ExprForm-F.Text bytes) h = (t.text, nothing)
  text_fine _ h = absurd (grind arith)

  -- a text, or a sum
  item_by : (b : Bool) (x : Expr) → is_text_layer (layer x) ≡ b → (b || is_sum names x) ≡ true → (type : Ty) × Copied tables env x type × (is_plain type ≡ true) × AllHold (expr_types tables x)
  item_by true x e h =
      let p = text_fine (layer x) e in
      (ty.Text, t.copied p.0, text_plain, subst AllHold (sym (asks_layer tables x)) p.1)
  item_by false x e h =
      let p = sum_fine x h in
      (ty.Int, t.copied (p.0 Copies), int_plain, p.1)

  -- what is printed
  pub items_fine : (xs : List Expr) → list_all (is_item names) xs ≡ true → AllPrint tables env xs × AllHold (exprs_types tables xs)
  items_fine [] h = (r.end, nothing)
  items_fine (x ∷ xs) h =
      let b = both (is_item names x) (list_all (is_item names) xs) h in
      let p = item_by (is_text_layer (layer x)) x refl b.0 in
      let q = items_fine xs b.1 in
      (r.more p.0 p.1 p.2 q.0, join p.3 q.1)
