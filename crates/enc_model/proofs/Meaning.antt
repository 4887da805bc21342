-- What an expression gives, a case for each form.
use Rattle.std.proofs.Common.{◌≡◌, ◌∙◌, ℕ, ℤ, List, refl, ap}
use Rattle.enc_ast.specs.declared.Operator.{Operator}
use Rattle.enc_ast.specs.declared.Expr.{Expr}
use Rattle.enc_ast.specs.declared.exprs.ExprForm.{ExprForm, out-ExprForm}
use Rattle.enc_ast.specs.declared.ExprForm.TheOpen.{ExprForm-F}
use Rattle.enc_ast.specs.declared.exprs.ExprForm.TheFolds.{map-ExprForm, fold-ExprForm, fold-Expr, fold_out-ExprForm, fold_out-Expr}
use Rattle.enc_ast.specs.declared.ExprForm.TheVariants as forms
use Rattle.enc_ast.specs.declared.ExprForm.TheVariants.{outs-Int, outs-Text, outs-Name, outs-Binary, outs-Parens}
use Rattle.enc_ast.specs.Thin.{Layer}
use Rattle.enc_model.specs.declared.values.TrapKind.{TrapKind}
use Rattle.enc_model.specs.declared.values.Value.{Value}
use Rattle.enc_model.specs.declared.values.Value.TheVariants as values
use Rattle.enc_model.specs.declared.moves.Got.{Got}
use Rattle.enc_model.specs.declared.moves.Got.TheVariants.{Gives, Traps, Nothing}
use Rattle.enc_model.proofs.Forms.{form-int, form-text, form-name, form-binary, form-parens}
use Rattle.enc_model.specs.Eval.{Local, found, binary, operated, layer_gives, eval}

-- what a layer gives
abbrev pub gives_at : List Local → Layer → Got
gives_at locals (ExprForm-F.Int z) = Gives (values.Int z)
gives_at locals (ExprForm-F.Text bytes) = Gives (values.Text bytes)
gives_at locals (ExprForm-F.Name name) = found name locals
gives_at locals (ExprForm-F.Binary operator left right) = binary operator (eval left locals) (eval right locals)
gives_at locals (ExprForm-F.Parens inside) = eval inside locals
gives_at locals _ = Nothing

-- what a layer gives from what stands inside gives, as the fold has it
layered : (layer : Layer) (locals : List Local) → layer_gives (map-ExprForm ExprForm Expr (List Local → Got) (List Local → Got) (fold-ExprForm (List Local → Got) (List Local → Got) layer_gives (λ node. node.form)) (fold-Expr (List Local → Got) (List Local → Got) layer_gives (λ node. node.form)) layer) locals ≡ gives_at locals layer
unfolding eval
layered (ExprForm-F.Int z) locals = refl
layered (ExprForm-F.Text bytes) locals = refl
layered (ExprForm-F.Name name) locals = refl
layered (ExprForm-F.Binary operator left right) locals = refl
layered (ExprForm-F.Parens inside) locals = refl
layered _ locals = refl

pub eval-layer : (e : Expr) (locals : List Local) → eval e locals ≡ gives_at locals (out-ExprForm e.form)
unfolding eval
eval-layer e locals =
    ap (λ g. g locals) (fold_out-Expr (List Local → Got) (List Local → Got) layer_gives (λ node. node.form) e)
    ∙ (ap (λ g. g locals) (fold_out-ExprForm (List Local → Got) (List Local → Got) layer_gives (λ node. node.form) e.form)
    ∙ layered (out-ExprForm e.form) locals)

eval-form : (e : Expr) (form : ExprForm) (layer : Layer) (locals : List Local) → e.form ≡ form → out-ExprForm form ≡ layer → eval e locals ≡ gives_at locals layer
eval-form e form layer locals is out = eval-layer e locals ∙ ap (gives_at locals) (ap out-ExprForm is ∙ out)

pub eval-int : (e : Expr) (z : ℤ) (locals : List Local) → e.form ≡ forms.Int z → eval e locals ≡ Gives (values.Int z)
eval-int e z locals is = eval-form e (forms.Int z) (ExprForm-F.Int z) locals is (outs-Int z)

pub eval-text : (e : Expr) (bytes : List ℕ) (locals : List Local) → e.form ≡ forms.Text bytes → eval e locals ≡ Gives (values.Text bytes)
eval-text e bytes locals is = eval-form e (forms.Text bytes) (ExprForm-F.Text bytes) locals is (outs-Text bytes)

pub eval-name : (e : Expr) (name : List ℕ) (locals : List Local) → e.form ≡ forms.Name name → eval e locals ≡ found name locals
eval-name e name locals is = eval-form e (forms.Name name) (ExprForm-F.Name name) locals is (outs-Name name)

pub eval-parens : (e inside : Expr) (locals : List Local) → e.form ≡ forms.Parens inside → eval e locals ≡ eval inside locals
eval-parens e inside locals is = eval-form e (forms.Parens inside) (ExprForm-F.Parens inside) locals is (outs-Parens inside)

pub eval-binary : (e : Expr) (operator : Operator) (left right : Expr) (locals : List Local) → e.form ≡ forms.Binary operator left right → eval e locals ≡ binary operator (eval left locals) (eval right locals)
eval-binary e operator left right locals is = eval-form e (forms.Binary operator left right) (ExprForm-F.Binary operator left right) locals is (outs-Binary operator left right)

-- an operator's operands, from left to right
pub eval-both : (e : Expr) (operator : Operator) (left right : Expr) (locals : List Local) (x y : Value) → e.form ≡ forms.Binary operator left right → eval left locals ≡ Gives x → eval right locals ≡ Gives y → eval e locals ≡ operated operator x y
eval-both e operator left right locals x y is l r = eval-binary e operator left right locals is ∙ rw (l, r) refl

pub eval-right_traps : (e : Expr) (operator : Operator) (left right : Expr) (locals : List Local) (x : Value) (kind : TrapKind) → e.form ≡ forms.Binary operator left right → eval left locals ≡ Gives x → eval right locals ≡ Traps kind → eval e locals ≡ Traps kind
eval-right_traps e operator left right locals x kind is l r = eval-binary e operator left right locals is ∙ rw (l, r) refl

pub eval-right_nothing : (e : Expr) (operator : Operator) (left right : Expr) (locals : List Local) (x : Value) → e.form ≡ forms.Binary operator left right → eval left locals ≡ Gives x → eval right locals ≡ Nothing → eval e locals ≡ Nothing
eval-right_nothing e operator left right locals x is l r = eval-binary e operator left right locals is ∙ rw (l, r) refl

pub eval-left_traps : (e : Expr) (operator : Operator) (left right : Expr) (locals : List Local) (kind : TrapKind) → e.form ≡ forms.Binary operator left right → eval left locals ≡ Traps kind → eval e locals ≡ Traps kind
eval-left_traps e operator left right locals kind is l = eval-binary e operator left right locals is ∙ rw l refl

pub eval-left_nothing : (e : Expr) (operator : Operator) (left right : Expr) (locals : List Local) → e.form ≡ forms.Binary operator left right → eval left locals ≡ Nothing → eval e locals ≡ Nothing
eval-left_nothing e operator left right locals is l = eval-binary e operator left right locals is ∙ rw l refl

-- ---- the forms that have no meaning so far

gives-other : (form : ExprForm) (locals : List Local) (layer : Layer) →
    ((z : ℤ) → form ≡ forms.Int z → ⊥) → ((bytes : List ℕ) → form ≡ forms.Text bytes → ⊥) → ((name : List ℕ) → form ≡ forms.Name name → ⊥) →
    ((operator : Operator) (left right : Expr) → form ≡ forms.Binary operator left right → ⊥) → ((inside : Expr) → form ≡ forms.Parens inside → ⊥) →
    out-ExprForm form ≡ layer → gives_at locals layer ≡ Nothing
gives-other form locals (ExprForm-F.Int z) i t n b p out = absurd (i z (form-int form z out))
gives-other form locals (ExprForm-F.Text bytes) i t n b p out = absurd (t bytes (form-text form bytes out))
gives-other form locals (ExprForm-F.Name name) i t n b p out = absurd (n name (form-name form name out))
gives-other form locals (ExprForm-F.Binary operator left right) i t n b p out = absurd (b operator left right (form-binary form operator left right out))
gives-other form locals (ExprForm-F.Parens inside) i t n b p out = absurd (p inside (form-parens form inside out))
gives-other form locals _ i t n b p out = refl

pub eval-other : (e : Expr) (locals : List Local) →
    ((z : ℤ) → e.form ≡ forms.Int z → ⊥) → ((bytes : List ℕ) → e.form ≡ forms.Text bytes → ⊥) → ((name : List ℕ) → e.form ≡ forms.Name name → ⊥) →
    ((operator : Operator) (left right : Expr) → e.form ≡ forms.Binary operator left right → ⊥) → ((inside : Expr) → e.form ≡ forms.Parens inside → ⊥) →
    eval e locals ≡ Nothing
eval-other e locals i t n b p = eval-layer e locals ∙ gives-other e.form locals (out-ExprForm e.form) i t n b p refl

pub ruleset meaning = (eval-int, eval-text, eval-name, eval-parens, eval-both, eval-right_traps, eval-right_nothing, eval-left_traps, eval-left_nothing, eval-other)
