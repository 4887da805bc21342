-- Every expression is built from its parts.
use Rattle.std.proofs.Common.{ℕ, ℤ, List, [], ◌∷◌, map, sym, ◌∙◌, subst}
use Rattle.enc_ast.specs.declared.Operator.{Operator}
use Rattle.enc_ast.specs.declared.TypeText.{TypeText}
use Rattle.enc_ast.specs.declared.Expr.{Expr}
use Rattle.enc_ast.specs.declared.ExprForm.{ExprForm, out-ExprForm}
use Rattle.enc_ast.specs.declared.ExprForm.TheOpen.{ExprForm-F}
use Rattle.enc_ast.specs.declared.ExprForm.TheViews.{out-roll-ExprForm}
use Rattle.enc_ast.specs.declared.ExprForm.TheFolds.{map-ExprForm, ind-ExprForm}
use Rattle.enc_exprs.specs.Typing.{Layer, layer}

mutual
  -- A layer is built from its parts.
  pub data Built : Layer → Type 0 where
    operator : {o : Operator} {a b : Expr} → Built (layer a) → Built (layer b) → Built (ExprForm-F.Binary o a b)
    negative : {a : Expr} → Built (layer a) → Built (ExprForm-F.Negative a)
    negated : {a : Expr} → Built (layer a) → Built (ExprForm-F.Not a)
    int : {n : ℤ} → Built (ExprForm-F.Int n)
    text : {t : List ℕ} → Built (ExprForm-F.Text t)
    yes : Built ExprForm-F.True
    no : Built ExprForm-F.False
    unit : Built ExprForm-F.Unit
    this : Built ExprForm-F.This
    name : {x : List ℕ} → Built (ExprForm-F.Name x)
    parens : {a : Expr} → Built (layer a) → Built (ExprForm-F.Parens a)
    list : {as_ : List Expr} → BuiltAll as_ → Built (ExprForm-F.List as_)
    null : {t : TypeText} → Built (ExprForm-F.Null t)
    empty : {t : TypeText} → Built (ExprForm-F.Empty t)
    nil : {t : TypeText} → Built (ExprForm-F.Nil t)
    len : {a : Expr} → Built (layer a) → Built (ExprForm-F.Len a)
    is_null : {a : Expr} → Built (layer a) → Built (ExprForm-F.IsNull a)
    at : {a b : Expr} → Built (layer a) → Built (layer b) → Built (ExprForm-F.At a b)
    append : {a b : Expr} → Built (layer a) → Built (layer b) → Built (ExprForm-F.Append a b)

  -- So is each of these.
  pub data BuiltAll : List Expr → Type 0 where
    end : BuiltAll []
    more : {a : Expr} {as_ : List Expr} → Built (layer a) → BuiltAll as_ → BuiltAll (a ∷ as_)

-- forms that are built from their parts
abbrev F : Type 0
F = (f : ExprForm) × Built (out-ExprForm f)

-- expressions that are built
-- expressions that are built from their parts
abbrev E : Type 0
E = (x : Expr) × Built (layer x)

-- expressions that are built
built_all : (es : List E) → BuiltAll (map (λ z. z.0) es)
built_all [] = end
built_all (a ∷ es) = more a.1 (built_all es)

-- a layer of what is built
built_layer : (y : ExprForm-F F E) → Built (map-ExprForm F E ExprForm Expr (λ z. z.0) (λ z. z.0) y)
built_layer (ExprForm-F.Binary o a b) = operator a.1 b.1
built_layer (ExprForm-F.Negative a) = negative a.1
built_layer (ExprForm-F.Not a) = negated a.1
built_layer (ExprForm-F.Int n) = int
built_layer (ExprForm-F.Text t) = text
built_layer ExprForm-F.True = yes
built_layer ExprForm-F.False = no
built_layer ExprForm-F.Unit = unit
built_layer ExprForm-F.This = this
built_layer (ExprForm-F.Name x) = name
built_layer (ExprForm-F.Parens a) = parens a.1
built_layer (ExprForm-F.List es) = list (built_all es)
built_layer (ExprForm-F.Null t) = null
built_layer (ExprForm-F.Empty t) = empty
built_layer (ExprForm-F.Nil t) = nil
built_layer (ExprForm-F.Len a) = len a.1
built_layer (ExprForm-F.IsNull a) = is_null a.1
built_layer (ExprForm-F.At a b) = at a.1 b.1
built_layer (ExprForm-F.Append a b) = append a.1 b.1

-- each form is built
pub built_form : (f : ExprForm) → Built (out-ExprForm f)
built_form = ind-ExprForm (λ f. Built (out-ExprForm f)) (λ e. Built (out-ExprForm e.form))
    (λ x y is. subst Built (is ∙ sym (out-roll-ExprForm x)) (built_layer y))
    (λ x y is. subst (λ z. Built (out-ExprForm z.form)) is y.form.1)
