-- Expressions within the limits, where so many brackets are open around them.
use Rattle.std.specs.Prelude.{◌&&◌, ℕ, suc, ◌+◌, Bool, true, List, [], ◌∷◌, nat_le}
use Rattle.enc_ast.specs.declared.Expr.{Expr}
use Rattle.enc_ast.specs.declared.ExprForm.TheOpen.{ExprForm-F, Expr-F}
use Rattle.enc_ast.specs.declared.ExprForm.TheFolds.{fold-Expr}
use Rattle.enc_limits.specs.Numbers.{max_operators, every, is_name}
use Rattle.enc_limits.specs.Types.{inside, type_fits}

-- An expression, as the limits see it.
pub record Measure : Type 0 where
  -- how many operators it has, those in brackets among them
  pub operators : ℕ
  -- whether its names and brackets pass no limit, where so many brackets are open around it
  pub fits : ℕ → Bool

-- nothing but what fits or not
abbrev pub leaf : (ℕ → Bool) → Measure
leaf fits = record { operators = 0; fits = fits }

abbrev pub one_more : Measure → Measure
one_more a = record { operators = suc a.operators; fits = a.fits }

abbrev pub both : Measure → Measure → Measure
both a b = record { operators = a.operators + b.operators; fits = λ n. a.fits n && b.fits n }

abbrev pub all_of : List Measure → Measure
all_of [] = leaf (λ n. true)
all_of (a ∷ as_) = both a (all_of as_)

abbrev pub in_brackets : Measure → Measure
in_brackets a = record { operators = a.operators; fits = inside a.fits }

abbrev pub expr_form : ExprForm-F Measure Measure → Measure
expr_form (ExprForm-F.Binary o a b) = one_more (both a b)
expr_form (ExprForm-F.Negative a) = one_more a
expr_form (ExprForm-F.Not a) = one_more a
expr_form (ExprForm-F.Int i) = leaf (λ n. true)
expr_form (ExprForm-F.Text t) = leaf (λ n. true)
expr_form ExprForm-F.True = leaf (λ n. true)
expr_form ExprForm-F.False = leaf (λ n. true)
expr_form ExprForm-F.Unit = leaf (λ n. true)
expr_form ExprForm-F.This = leaf (λ n. true)
expr_form (ExprForm-F.Name x) = leaf (λ n. is_name x)
expr_form (ExprForm-F.Parens a) = in_brackets a
expr_form (ExprForm-F.List as_) = in_brackets (all_of as_)
expr_form (ExprForm-F.Null t) = in_brackets (leaf (type_fits t))
expr_form (ExprForm-F.Empty t) = in_brackets (leaf (type_fits t))
expr_form (ExprForm-F.Nil t) = in_brackets (leaf (type_fits t))
expr_form (ExprForm-F.Len a) = in_brackets a
expr_form (ExprForm-F.IsNull a) = in_brackets a
expr_form (ExprForm-F.At a b) = in_brackets (both a b)
expr_form (ExprForm-F.Append a b) = in_brackets (both a b)

abbrev pub expr_node : Expr-F Measure Measure → Measure
expr_node x = x.form

unfoldable pub measured : Expr → Measure
measured = fold-Expr Measure Measure expr_form expr_node

-- an expression that stands in no other one
abbrev pub whole_fits : ℕ → Expr → Bool
whole_fits n x = (measured x).fits n && nat_le (measured x).operators max_operators

-- whole expressions in brackets of their own
abbrev pub arguments_fit : ℕ → List Expr → Bool
arguments_fit n xs = inside (λ m. every (whole_fits m) xs) n
