-- Which form an expression has whose outer level is known.
use Rattle.std.proofs.Common.{◌≡◌, ◌∙◌, ℕ, ℤ, List, ap, sym}
use Rattle.enc_ast.specs.declared.Operator.{Operator}
use Rattle.enc_ast.specs.declared.Expr.{Expr}
use Rattle.enc_ast.specs.declared.exprs.ExprForm.{ExprForm, out-ExprForm, roll-ExprForm, roll-out-ExprForm}
use Rattle.enc_ast.specs.declared.ExprForm.TheOpen.{ExprForm-F}
use Rattle.enc_ast.specs.declared.ExprForm.TheVariants as forms
use Rattle.enc_ast.specs.declared.ExprForm.TheVariants.{rolls-Int, rolls-Text, rolls-Name, rolls-Binary, rolls-Parens}
use Rattle.enc_ast.specs.Thin.{Layer}

rolled : (form : ExprForm) (layer : Layer) (same : ExprForm) → roll-ExprForm layer ≡ same → out-ExprForm form ≡ layer → form ≡ same
rolled form layer same rolls out = sym (roll-out-ExprForm form) ∙ (ap roll-ExprForm out ∙ rolls)

pub form-int : (form : ExprForm) (z : ℤ) → out-ExprForm form ≡ ExprForm-F.Int z → form ≡ forms.Int z
form-int form z out = rolled form (ExprForm-F.Int z) (forms.Int z) (rolls-Int z) out

pub form-text : (form : ExprForm) (bytes : List ℕ) → out-ExprForm form ≡ ExprForm-F.Text bytes → form ≡ forms.Text bytes
form-text form bytes out = rolled form (ExprForm-F.Text bytes) (forms.Text bytes) (rolls-Text bytes) out

pub form-name : (form : ExprForm) (name : List ℕ) → out-ExprForm form ≡ ExprForm-F.Name name → form ≡ forms.Name name
form-name form name out = rolled form (ExprForm-F.Name name) (forms.Name name) (rolls-Name name) out

pub form-binary : (form : ExprForm) (operator : Operator) (left right : Expr) → out-ExprForm form ≡ ExprForm-F.Binary operator left right → form ≡ forms.Binary operator left right
form-binary form operator left right out = rolled form (ExprForm-F.Binary operator left right) (forms.Binary operator left right) (rolls-Binary operator left right) out

pub form-parens : (form : ExprForm) (inside : Expr) → out-ExprForm form ≡ ExprForm-F.Parens inside → form ≡ forms.Parens inside
form-parens form inside out = rolled form (ExprForm-F.Parens inside) (forms.Parens inside) (rolls-Parens inside) out
