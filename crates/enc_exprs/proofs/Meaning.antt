-- The equations of `judged`.
use Rattle.std.proofs.Common.{◌≡◌, ℕ, ℤ, true, false, List, [], ◌∷◌, map, Option, Some, None, refl, sym, ap, ◌∙◌}
use Rattle.std.specs.Prelude.{option_map}
use Rattle.enc_ast.specs.declared.rules.Span.{Span}
use Rattle.enc_ast.specs.declared.rules.Rule.TheVariants as rule
use Rattle.enc_ast.specs.declared.Operator.{Operator}
use Rattle.enc_ast.specs.declared.TypeText.{TypeText}
use Rattle.enc_ast.specs.declared.Expr.{Expr}
use Rattle.enc_ast.specs.declared.ExprForm.{ExprForm, out-ExprForm, roll-ExprForm, roll-out-ExprForm}
use Rattle.enc_ast.specs.declared.ExprForm.TheOpen.{ExprForm-F}
use Rattle.enc_ast.specs.declared.ExprForm.TheVariants as e
use Rattle.enc_ast.specs.declared.ExprForm.TheFolds.{map-ExprForm, fold-ExprForm, fold_out-ExprForm, fold_out-Expr}
use Rattle.enc_modes.specs.declared.ty.Ty.{Ty}
use Rattle.enc_modes.specs.declared.ty.Ty.TheVariants as ty
use Rattle.enc_modes.specs.Modes.{is_shareable}
use Rattle.enc_premises.specs.Premises.{none, ◌⨾◌, node}
use Rattle.enc_premises.proofs.Passing.{nothing}
use Rattle.enc_flow.specs.Env.{Env, find, ty_of}
use Rattle.enc_types.specs.Names.{Names}
use Rattle.enc_types.specs.Written.{type_of}
use Rattle.enc_exprs.specs.declared.uses.Use.{Use}
use Rattle.enc_exprs.specs.declared.uses.Use.TheVariants.{Copies, Looks}
use Rattle.enc_exprs.specs.Uses.{this_word, variable}
use Rattle.enc_exprs.specs.Types.{is_int, is_bool, can_be_null, is_list, is_known_as, items, like}
use Rattle.enc_exprs.specs.Exprs.{Judged, judged, judge_form, judge_node, operand, copied, binary, binary_type, elements, elements_type, expr_type, expr_premises}
use Rattle.enc_exprs.specs.Typing.{Layer}

-- a layer, with its parts as the rules see them
abbrev pub seen : Names → Layer → ExprForm-F (Span → Judged) Judged
seen names l = map-ExprForm ExprForm Expr (Span → Judged) Judged (fold-ExprForm (Span → Judged) Judged (judge_form names) judge_node) (judged names) l

-- an expression by its layer
pub judged_layer : (names : Names) (x : Expr) → judged names x ≡ record (judge_form names (seen names (out-ExprForm x.form)) x.span) { span = x.span }
unfolding judged
judged_layer names x =
    fold_out-Expr (Span → Judged) Judged (judge_form names) judge_node x ∙
    ap {A = Judged} {B = Judged} (λ (z : Judged). record z { span = x.span })
    (ap (λ z. z x.span) (fold_out-ExprForm (Span → Judged) Judged (judge_form names) judge_node x.form))

-- the span of an expression is that of its text
pub judged-span : (names : Names) (x : Expr) → (judged names x).span ≡ x.span
judged-span names x = ap (λ z. z.span) (judged_layer names x)

-- an expression of a form
of_form : (names : Names) (x : Expr) (f : ExprForm) (l : Layer) → x.form ≡ f → out-ExprForm f ≡ l → judged names x ≡ record (judge_form names (seen names l) x.span) { span = x.span }
of_form names x f l is out = judged_layer names x ∙ ap {A = Layer} {B = Judged} (λ z. record (judge_form names (seen names z) x.span) { span = x.span }) (ap out-ExprForm is ∙ out)

-- what is there stays as it is
same_option : (t : Option Ty) → option_map (λ u. u) t ≡ t
same_option None = refl
same_option (Some t) = refl

-- an operator between two operands: what is asked
pub premises-binary : (names : Names) (x : Expr) (o : Operator) (a b : Expr) → x.form ≡ e.Binary o a b → (env : Env) (u : Use) → expr_premises names env u x ≡ binary o env (judged names a) (judged names b)
premises-binary names x o a b is env u = ap (λ z. z.premises env u) (of_form names x (e.Binary o a b) (ExprForm-F.Binary o a b) is (e.outs-Binary o a b))

-- an operator between two operands: the type
pub ty-binary : (names : Names) (x : Expr) (o : Operator) (a b : Expr) → x.form ≡ e.Binary o a b → (env : Env) → expr_type names env x ≡ Some (binary_type o)
ty-binary names x o a b is env = ap (λ z. z.ty env) (of_form names x (e.Binary o a b) (ExprForm-F.Binary o a b) is (e.outs-Binary o a b))

-- a number with its sign turned: what is asked
pub premises-negative : (names : Names) (x : Expr) (a : Expr) → x.form ≡ e.Negative a → (env : Env) (u : Use) → expr_premises names env u x ≡ copied env is_int (judged names a)
premises-negative names x a is env u = ap (λ z. z.premises env u) (of_form names x (e.Negative a) (ExprForm-F.Negative a) is (e.outs-Negative a))

-- a number with its sign turned: the type
pub ty-negative : (names : Names) (x : Expr) (a : Expr) → x.form ≡ e.Negative a → (env : Env) → expr_type names env x ≡ Some ty.Int
ty-negative names x a is env = ap (λ z. z.ty env) (of_form names x (e.Negative a) (ExprForm-F.Negative a) is (e.outs-Negative a))

-- a truth value turned: what is asked
pub premises-not : (names : Names) (x : Expr) (a : Expr) → x.form ≡ e.Not a → (env : Env) (u : Use) → expr_premises names env u x ≡ copied env is_bool (judged names a)
premises-not names x a is env u = ap (λ z. z.premises env u) (of_form names x (e.Not a) (ExprForm-F.Not a) is (e.outs-Not a))

-- a truth value turned: the type
pub ty-not : (names : Names) (x : Expr) (a : Expr) → x.form ≡ e.Not a → (env : Env) → expr_type names env x ≡ Some ty.Bool
ty-not names x a is env = ap (λ z. z.ty env) (of_form names x (e.Not a) (ExprForm-F.Not a) is (e.outs-Not a))

-- an integer: what is asked
pub premises-int : (names : Names) (x : Expr) (n : ℤ) → x.form ≡ e.Int n → (env : Env) (u : Use) → expr_premises names env u x ≡ none
premises-int names x n is env u = ap (λ z. z.premises env u) (of_form names x (e.Int n) (ExprForm-F.Int n) is (e.outs-Int n))

-- an integer: the type
pub ty-int : (names : Names) (x : Expr) (n : ℤ) → x.form ≡ e.Int n → (env : Env) → expr_type names env x ≡ Some ty.Int
ty-int names x n is env = ap (λ z. z.ty env) (of_form names x (e.Int n) (ExprForm-F.Int n) is (e.outs-Int n))

-- a text: what is asked
pub premises-text : (names : Names) (x : Expr) (t : List ℕ) → x.form ≡ e.Text t → (env : Env) (u : Use) → expr_premises names env u x ≡ none
premises-text names x t is env u = ap (λ z. z.premises env u) (of_form names x (e.Text t) (ExprForm-F.Text t) is (e.outs-Text t))

-- a text: the type
pub ty-text : (names : Names) (x : Expr) (t : List ℕ) → x.form ≡ e.Text t → (env : Env) → expr_type names env x ≡ Some ty.Text
ty-text names x t is env = ap (λ z. z.ty env) (of_form names x (e.Text t) (ExprForm-F.Text t) is (e.outs-Text t))

-- what is true: what is asked
pub premises-true : (names : Names) (x : Expr) → x.form ≡ e.True → (env : Env) (u : Use) → expr_premises names env u x ≡ none
premises-true names x is env u = ap (λ z. z.premises env u) (of_form names x e.True ExprForm-F.True is e.outs-True)

-- what is true: the type
pub ty-true : (names : Names) (x : Expr) → x.form ≡ e.True → (env : Env) → expr_type names env x ≡ Some ty.Bool
ty-true names x is env = ap (λ z. z.ty env) (of_form names x e.True ExprForm-F.True is e.outs-True)

-- what is false: what is asked
pub premises-false : (names : Names) (x : Expr) → x.form ≡ e.False → (env : Env) (u : Use) → expr_premises names env u x ≡ none
premises-false names x is env u = ap (λ z. z.premises env u) (of_form names x e.False ExprForm-F.False is e.outs-False)

-- what is false: the type
pub ty-false : (names : Names) (x : Expr) → x.form ≡ e.False → (env : Env) → expr_type names env x ≡ Some ty.Bool
ty-false names x is env = ap (λ z. z.ty env) (of_form names x e.False ExprForm-F.False is e.outs-False)

-- the value that says nothing: what is asked
pub premises-unit : (names : Names) (x : Expr) → x.form ≡ e.Unit → (env : Env) (u : Use) → expr_premises names env u x ≡ none
premises-unit names x is env u = ap (λ z. z.premises env u) (of_form names x e.Unit ExprForm-F.Unit is e.outs-Unit)

-- the value that says nothing: the type
pub ty-unit : (names : Names) (x : Expr) → x.form ≡ e.Unit → (env : Env) → expr_type names env x ≡ Some ty.Unit
ty-unit names x is env = ap (λ z. z.ty env) (of_form names x e.Unit ExprForm-F.Unit is e.outs-Unit)

-- the object itself: what is asked
pub premises-this : (names : Names) (x : Expr) → x.form ≡ e.This → (env : Env) (u : Use) → expr_premises names env u x ≡ variable env u true this_word x.span
premises-this names x is env u = ap (λ z. z.premises env u) (of_form names x e.This ExprForm-F.This is e.outs-This)

-- the object itself: the type
pub ty-this : (names : Names) (x : Expr) → x.form ≡ e.This → (env : Env) → expr_type names env x ≡ ty_of (find env this_word)
ty-this names x is env = ap (λ z. z.ty env) (of_form names x e.This ExprForm-F.This is e.outs-This)

-- the object itself: the name
pub name-this : (names : Names) (x : Expr) → x.form ≡ e.This → (judged names x).name ≡ Some this_word
name-this names x is = ap (λ z. z.name) (of_form names x e.This ExprForm-F.This is e.outs-This)

-- a variable: what is asked
pub premises-name : (names : Names) (x : Expr) (y : List ℕ) → x.form ≡ e.Name y → (env : Env) (u : Use) → expr_premises names env u x ≡ variable env u false y x.span
premises-name names x y is env u = ap (λ z. z.premises env u) (of_form names x (e.Name y) (ExprForm-F.Name y) is (e.outs-Name y))

-- a variable: the type
pub ty-name : (names : Names) (x : Expr) (y : List ℕ) → x.form ≡ e.Name y → (env : Env) → expr_type names env x ≡ ty_of (find env y)
ty-name names x y is env = ap (λ z. z.ty env) (of_form names x (e.Name y) (ExprForm-F.Name y) is (e.outs-Name y))

-- a variable: the name
pub name-name : (names : Names) (x : Expr) (y : List ℕ) → x.form ≡ e.Name y → (judged names x).name ≡ Some y
name-name names x y is = ap (λ z. z.name) (of_form names x (e.Name y) (ExprForm-F.Name y) is (e.outs-Name y))

-- an expression in brackets: what is asked
pub premises-parens : (names : Names) (x : Expr) (a : Expr) → x.form ≡ e.Parens a → (env : Env) (u : Use) → expr_premises names env u x ≡ expr_premises names env Copies a
premises-parens names x a is env u = ap (λ z. z.premises env u) (of_form names x (e.Parens a) (ExprForm-F.Parens a) is (e.outs-Parens a))

-- an expression in brackets: the type
pub ty-parens : (names : Names) (x : Expr) (a : Expr) → x.form ≡ e.Parens a → (env : Env) → expr_type names env x ≡ expr_type names env a
ty-parens names x a is env = ap (λ z. z.ty env) (of_form names x (e.Parens a) (ExprForm-F.Parens a) is (e.outs-Parens a))

-- a list of values: what is asked
pub premises-list : (names : Names) (x : Expr) (xs : List Expr) → x.form ≡ e.List xs → (env : Env) (u : Use) → expr_premises names env u x ≡ elements env (map (judged names) xs)
premises-list names x xs is env u = ap (λ z. z.premises env u) (of_form names x (e.List xs) (ExprForm-F.List xs) is (e.outs-List xs))

-- a list of values: the type
pub ty-list : (names : Names) (x : Expr) (xs : List Expr) → x.form ≡ e.List xs → (env : Env) → expr_type names env x ≡ elements_type env (map (judged names) xs)
ty-list names x xs is env = ap (λ z. z.ty env) (of_form names x (e.List xs) (ExprForm-F.List xs) is (e.outs-List xs))

-- what refers to nothing: what is asked
pub premises-null : (names : Names) (x : Expr) (t : TypeText) → x.form ≡ e.Null t → (env : Env) (u : Use) → expr_premises names env u x ≡ node x.span ((rule.EType, is_known_as can_be_null (type_of names t)) ∷ [])
premises-null names x t is env u = ap (λ z. z.premises env u) (of_form names x (e.Null t) (ExprForm-F.Null t) is (e.outs-Null t))

-- what refers to nothing: the type
pub ty-null : (names : Names) (x : Expr) (t : TypeText) → x.form ≡ e.Null t → (env : Env) → expr_type names env x ≡ type_of names t
ty-null names x t is env = ap (λ z. z.ty env) (of_form names x (e.Null t) (ExprForm-F.Null t) is (e.outs-Null t)) ∙ same_option (type_of names t)

-- the tree without values: what is asked
pub premises-empty : (names : Names) (x : Expr) (t : TypeText) → x.form ≡ e.Empty t → (env : Env) (u : Use) → expr_premises names env u x ≡ node x.span ((rule.EType, is_known_as is_shareable (type_of names t)) ∷ [])
premises-empty names x t is env u = ap (λ z. z.premises env u) (of_form names x (e.Empty t) (ExprForm-F.Empty t) is (e.outs-Empty t))

-- the tree without values: the type
pub ty-empty : (names : Names) (x : Expr) (t : TypeText) → x.form ≡ e.Empty t → (env : Env) → expr_type names env x ≡ option_map ty.Par (type_of names t)
ty-empty names x t is env = ap (λ z. z.ty env) (of_form names x (e.Empty t) (ExprForm-F.Empty t) is (e.outs-Empty t))

-- the list without elements: what is asked
pub premises-nil : (names : Names) (x : Expr) (t : TypeText) → x.form ≡ e.Nil t → (env : Env) (u : Use) → expr_premises names env u x ≡ node x.span ((rule.EType, is_known_as is_shareable (type_of names t)) ∷ [])
premises-nil names x t is env u = ap (λ z. z.premises env u) (of_form names x (e.Nil t) (ExprForm-F.Nil t) is (e.outs-Nil t))

-- the list without elements: the type
pub ty-nil : (names : Names) (x : Expr) (t : TypeText) → x.form ≡ e.Nil t → (env : Env) → expr_type names env x ≡ option_map ty.List (type_of names t)
ty-nil names x t is env = ap (λ z. z.ty env) (of_form names x (e.Nil t) (ExprForm-F.Nil t) is (e.outs-Nil t))

-- the length of a list: what is asked
pub premises-len : (names : Names) (x : Expr) (a : Expr) → x.form ≡ e.Len a → (env : Env) (u : Use) → expr_premises names env u x ≡ copied env is_list (judged names a)
premises-len names x a is env u = ap (λ z. z.premises env u) (of_form names x (e.Len a) (ExprForm-F.Len a) is (e.outs-Len a))

-- the length of a list: the type
pub ty-len : (names : Names) (x : Expr) (a : Expr) → x.form ≡ e.Len a → (env : Env) → expr_type names env x ≡ Some ty.Int
ty-len names x a is env = ap (λ z. z.ty env) (of_form names x (e.Len a) (ExprForm-F.Len a) is (e.outs-Len a))

-- whether something refers to nothing: what is asked
pub premises-is_null : (names : Names) (x : Expr) (a : Expr) → x.form ≡ e.IsNull a → (env : Env) (u : Use) → expr_premises names env u x ≡ operand env Looks can_be_null (judged names a)
premises-is_null names x a is env u = ap (λ z. z.premises env u) (of_form names x (e.IsNull a) (ExprForm-F.IsNull a) is (e.outs-IsNull a))

-- whether something refers to nothing: the type
pub ty-is_null : (names : Names) (x : Expr) (a : Expr) → x.form ≡ e.IsNull a → (env : Env) → expr_type names env x ≡ Some ty.Bool
ty-is_null names x a is env = ap (λ z. z.ty env) (of_form names x (e.IsNull a) (ExprForm-F.IsNull a) is (e.outs-IsNull a))

-- an element of a list: what is asked
pub premises-at : (names : Names) (x : Expr) (a b : Expr) → x.form ≡ e.At a b → (env : Env) (u : Use) → expr_premises names env u x ≡ copied env is_list (judged names a) ⨾ copied env is_int (judged names b)
premises-at names x a b is env u = ap (λ z. z.premises env u) (of_form names x (e.At a b) (ExprForm-F.At a b) is (e.outs-At a b))

-- an element of a list: the type
pub ty-at : (names : Names) (x : Expr) (a b : Expr) → x.form ≡ e.At a b → (env : Env) → expr_type names env x ≡ items (expr_type names env a)
ty-at names x a b is env = ap (λ z. z.ty env) (of_form names x (e.At a b) (ExprForm-F.At a b) is (e.outs-At a b))

-- a list with one more value: what is asked
pub premises-append : (names : Names) (x : Expr) (a b : Expr) → x.form ≡ e.Append a b → (env : Env) (u : Use) → expr_premises names env u x ≡ copied env is_list (judged names a) ⨾ copied env (like (items (expr_type names env a))) (judged names b)
premises-append names x a b is env u = ap (λ z. z.premises env u) (of_form names x (e.Append a b) (ExprForm-F.Append a b) is (e.outs-Append a b))

-- a list with one more value: the type
pub ty-append : (names : Names) (x : Expr) (a b : Expr) → x.form ≡ e.Append a b → (env : Env) → expr_type names env x ≡ expr_type names env a
ty-append names x a b is env = ap (λ z. z.ty env) (of_form names x (e.Append a b) (ExprForm-F.Append a b) is (e.outs-Append a b))

-- a form by its outer level
rolled : (form : ExprForm) (l : Layer) (same : ExprForm) → roll-ExprForm l ≡ same → out-ExprForm form ≡ l → form ≡ same
rolled form l same rolls out = sym (roll-out-ExprForm form) ∙ (ap roll-ExprForm out ∙ rolls)

-- a layer that is neither a variable nor "this" has no name
name_at : (names : Names) (x : Expr) (l : Layer) → out-ExprForm x.form ≡ l → (x.form ≡ e.This → ⊥) → ((y : List ℕ) → x.form ≡ e.Name y → ⊥) → (judge_form names (seen names l) x.span).name ≡ None
name_at names x ExprForm-F.This out this name = absurd (this (rolled x.form ExprForm-F.This e.This e.rolls-This out))
name_at names x (ExprForm-F.Name y) out this name = absurd (name y (rolled x.form (ExprForm-F.Name y) (e.Name y) (e.rolls-Name y) out))
name_at names x _ out this name = refl

-- what is neither a variable nor "this"
pub name-other : (names : Names) (x : Expr) → (x.form ≡ e.This → ⊥) → ((y : List ℕ) → x.form ≡ e.Name y → ⊥) → (judged names x).name ≡ None
name-other names x this name = ap (λ z. z.name) (judged_layer names x) ∙ name_at names x (out-ExprForm x.form) refl this name

-- where expressions stand
pub ruleset spans = (judged-span)

-- what is asked of each form, and its type
pub ruleset exprs = (nothing, premises-binary, ty-binary, premises-negative, ty-negative, premises-not, ty-not, premises-int, ty-int, premises-text, ty-text, premises-true, ty-true, premises-false, ty-false, premises-unit, ty-unit, premises-this, ty-this, premises-name, ty-name, premises-parens, ty-parens, premises-list, ty-list, premises-null, ty-null, premises-empty, ty-empty, premises-nil, ty-nil, premises-len, ty-len, premises-is_null, ty-is_null, premises-at, ty-at, premises-append, ty-append)

-- the names of variables
pub ruleset names = (name-this, name-name)
