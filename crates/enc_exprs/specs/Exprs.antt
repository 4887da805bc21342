-- The rules of expressions.
use Rattle.std.specs.Prelude.{ℕ, Bool, true, false, List, [], ◌∷◌, Option, Some, None, option_map}
use Rattle.enc_ast.specs.declared.rules.Span.{Span}
use Rattle.enc_ast.specs.declared.rules.Rule.TheVariants as rule
use Rattle.enc_ast.specs.declared.Operator.{Operator}
use Rattle.enc_ast.specs.declared.Operator.TheVariants as op
use Rattle.enc_ast.specs.declared.Expr.{Expr}
use Rattle.enc_ast.specs.declared.ExprForm.TheOpen.{ExprForm-F, Expr-F}
use Rattle.enc_ast.specs.declared.ExprForm.TheFolds.{fold-Expr}
use Rattle.enc_modes.specs.declared.ty.Ty.{Ty}
use Rattle.enc_modes.specs.declared.ty.Ty.TheVariants as ty
use Rattle.enc_modes.specs.Modes.{is_shareable}
use Rattle.enc_premises.specs.Premises.{Premises, none, ◌⨾◌, node, each, if_known}
use Rattle.enc_flow.specs.Env.{Env, find, ty_of}
use Rattle.enc_types.specs.Names.{Names}
use Rattle.enc_types.specs.Written.{type_of}
use Rattle.enc_exprs.specs.declared.uses.Use.{Use}
use Rattle.enc_exprs.specs.declared.uses.Use.TheVariants.{Copies, Consumes, Looks}
use Rattle.enc_exprs.specs.Uses.{this_word, variable, lends}
use Rattle.enc_exprs.specs.Types.{is_int, is_bool, is_plain, can_be_null, is_list, is_known_as, items, like}

-- An expression, as the rules see it.
pub record Judged : Type 0 where
  pub span : Span
  -- the variable that it is
  pub name : Option (List ℕ)
  -- its type, where it is known
  pub ty : Env → Option Ty
  -- the premises of its nodes
  pub premises : Env → Use → Premises

-- an operand, of whose type this is asked
abbrev pub operand : Env → Use → (Ty → Bool) → Judged → Premises
operand env u want a = a.premises env u ⨾ node a.span ((rule.EType, if_known want (a.ty env)) ∷ [])

-- an operand in a copying place
abbrev pub copied : Env → (Ty → Bool) → Judged → Premises
copied env = operand env Copies

-- two operands of whose types the same is asked
abbrev pub two : Env → (Ty → Bool) → Judged → Judged → Premises
two env want a b = copied env want a ⨾ copied env want b

-- two operands of one type, which the first fixes
abbrev pub alike : Env → (Ty → Bool) → Judged → Judged → Premises
alike env want a b = copied env want a ⨾ copied env (like (a.ty env)) b

-- what an operator asks of its operands
abbrev pub binary : Operator → Env → Judged → Judged → Premises
binary op.Or env a b = two env is_bool a b
binary op.And env a b = two env is_bool a b
binary op.Equal env a b = alike env is_plain a b
binary op.NotEqual env a b = alike env is_plain a b
binary op.Less env a b = two env is_int a b
binary op.LessEqual env a b = two env is_int a b
binary op.Greater env a b = two env is_int a b
binary op.GreaterEqual env a b = two env is_int a b
binary op.Add env a b = two env is_int a b
binary op.Subtract env a b = two env is_int a b
binary op.Multiply env a b = two env is_int a b
binary op.Divide env a b = two env is_int a b
binary op.Remainder env a b = two env is_int a b

-- the type of what an operator gives
abbrev pub binary_type : Operator → Ty
binary_type op.Or = ty.Bool
binary_type op.And = ty.Bool
binary_type op.Equal = ty.Bool
binary_type op.NotEqual = ty.Bool
binary_type op.Less = ty.Bool
binary_type op.LessEqual = ty.Bool
binary_type op.Greater = ty.Bool
binary_type op.GreaterEqual = ty.Bool
binary_type op.Add = ty.Int
binary_type op.Subtract = ty.Int
binary_type op.Multiply = ty.Int
binary_type op.Divide = ty.Int
binary_type op.Remainder = ty.Int

-- elements of one type that may be shared, which the first fixes
abbrev pub elements : Env → List Judged → Premises
elements env [] = none
elements env (a ∷ as_) = copied env is_shareable a ⨾ each (copied env (like (a.ty env))) as_

-- the type of a list of these elements; without elements it is one of units
abbrev pub elements_type : Env → List Judged → Option Ty
elements_type env [] = Some (ty.List ty.Unit)
elements_type env (a ∷ as_) = option_map ty.List (a.ty env)

-- a written type of which something is asked, where it stands for one
abbrev pub typed : Names → (Ty → Bool) → (Ty → Ty) → Option Ty → Span → Judged
typed names want make t s = record { span = s; name = None; ty = λ env. option_map make t; premises = λ env u. node s ((rule.EType, is_known_as want t) ∷ []) }

-- a form that asks something and has this type
abbrev form : Span → (Env → Option Ty) → (Env → Premises) → Judged
form s t ps = record { span = s; name = None; ty = t; premises = λ env u. ps env }

-- a form that asks nothing and has this type
abbrev fixed : Span → Ty → Judged
fixed s t = form s (λ env. Some t) (λ env. none)

-- One form, with its parts as the rules see them.
abbrev pub judge_form : Names → ExprForm-F (Span → Judged) Judged → Span → Judged
judge_form names (ExprForm-F.Binary o a b) s = form s (λ env. Some (binary_type o)) (λ env. binary o env a b)
judge_form names (ExprForm-F.Negative a) s = form s (λ env. Some ty.Int) (λ env. copied env is_int a)
judge_form names (ExprForm-F.Not a) s = form s (λ env. Some ty.Bool) (λ env. copied env is_bool a)
judge_form names (ExprForm-F.Int n) s = fixed s ty.Int
judge_form names (ExprForm-F.Text t) s = fixed s ty.Text
judge_form names ExprForm-F.True s = fixed s ty.Bool
judge_form names ExprForm-F.False s = fixed s ty.Bool
judge_form names ExprForm-F.Unit s = fixed s ty.Unit
judge_form names ExprForm-F.This s = record { span = s; name = Some this_word; ty = λ env. ty_of (find env this_word); premises = λ env u. variable env u true this_word s }
judge_form names (ExprForm-F.Name x) s = record { span = s; name = Some x; ty = λ env. ty_of (find env x); premises = λ env u. variable env u false x s }
judge_form names (ExprForm-F.Parens a) s = form s a.ty (λ env. a.premises env Copies)
judge_form names (ExprForm-F.List as_) s = form s (λ env. elements_type env as_) (λ env. elements env as_)
judge_form names (ExprForm-F.Null t) s = typed names can_be_null (λ u. u) (type_of names t) s
judge_form names (ExprForm-F.Empty t) s = typed names is_shareable ty.Par (type_of names t) s
judge_form names (ExprForm-F.Nil t) s = typed names is_shareable ty.List (type_of names t) s
judge_form names (ExprForm-F.Len a) s = form s (λ env. Some ty.Int) (λ env. copied env is_list a)
judge_form names (ExprForm-F.IsNull a) s = form s (λ env. Some ty.Bool) (λ env. operand env Looks can_be_null a)
judge_form names (ExprForm-F.At a b) s = form s (λ env. items (a.ty env)) (λ env. copied env is_list a ⨾ copied env is_int b)
judge_form names (ExprForm-F.Append a b) s = form s a.ty (λ env. copied env is_list a ⨾ copied env (like (items (a.ty env))) b)

-- an expression, which stands at its span
abbrev pub judge_node : Expr-F (Span → Judged) Judged → Judged
judge_node x = record (x.form x.span) { span = x.span }

-- An expression, with its parts as the rules see them.
unfoldable pub judged : Names → Expr → Judged
judged names = fold-Expr (Span → Judged) Judged (judge_form names) judge_node

-- the type of an expression, where it is known
abbrev pub expr_type : Names → Env → Expr → Option Ty
expr_type names env x = (judged names x).ty env

-- what the rules ask of an expression in a place
abbrev pub expr_premises : Names → Env → Use → Expr → Premises
expr_premises names env u x = (judged names x).premises env u

-- the variables after an expression in a consuming place
abbrev pub consumes : Env → Option (List ℕ) → Env
consumes env None = env
consumes env (Some x) = lends env x

-- the variables after an expression in a place
abbrev pub after : Use → Env → Option (List ℕ) → Env
after Copies env x = env
after Consumes env x = consumes env x
after Looks env x = env
