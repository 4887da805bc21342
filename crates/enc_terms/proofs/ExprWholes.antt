-- The parsers of whole expressions and of arguments are lawful.
use Rattle.std.proofs.Common.{◌≡◌, ℕ, zero, suc, ◌+◌, List, Some, None, refl, sym, subst, arith}
use Rattle.enc_ast.specs.declared.Expr.{Expr}
use Rattle.enc_lex.specs.declared.kinds.Kind.TheVariants as k
use Rattle.enc_cursor.specs.Counts.{finish}
use Rattle.enc_cursor.specs.Limits.{Limits, with_brackets}
use Rattle.enc_cursor.specs.Place.{Place, is}
use Rattle.enc_cursor.specs.Stretch.{Stretch, IsToken, Before, Maybe, Opened}
use Rattle.enc_cursor.specs.Steps.{Set, but}
use Rattle.enc_cursor.proofs.Lawful.{Later, Lawful, none_of, or, same_sentences}
use Rattle.enc_cursor.proofs.Endings.{closed_lawful, closed_later}
use Rattle.enc_cursor.proofs.Words.{Image, separated_lawful}
use Rattle.enc_cursor.proofs.Openings.{Inside, opened_lawful}
use Rattle.enc_cursor.proofs.Inside.{inside_of, inside_before, inside_image, inside_optional}
use Rattle.enc_cursor.proofs.Sets.{clear, within}
use Rattle.enc_terms.specs.Sets.{begins_expr, extends_expr}
use Rattle.enc_terms.specs.Exprs as gr
use Rattle.enc_terms.specs.Exprs.{IsExpr, IsWhole, IsWholes, IsArgs}
use Rattle.enc_terms.specs.ExprReading.{any_of, whole, wholes, wholes_inside, any_wholes, args}
use Rattle.enc_terms.proofs.ExprLater.{expr_later}
use Rattle.enc_terms.proofs.ExprLevels.{expr_law, expr_inside_law}

pub whole_later : (text : List ℕ) (n : ℕ) (a b : Place) (x : Expr) → IsWhole text n x a b → Later a b
whole_later text n a b x s = closed_later {S = IsExpr text n} (λ a b x s. expr_later s) finish a b x s

pub whole_law : (L : Limits) (text : List ℕ) (n room : ℕ) → n + room ≡ L.brackets → Lawful L (IsWhole text n) begins_expr extends_expr (whole text L.counts room)
unfolding whole
whole_law L text n room fits = closed_lawful finish (expr_law L text n room fits (expr_inside_law L text n room fits))

abbrev pub extends_wholes : Set
extends_wholes = or (is k.Comma) extends_expr

pub wholes_law : (L : Limits) (text : List ℕ) (n room : ℕ) → n + room ≡ L.brackets → Lawful L (IsWholes text n) begins_expr extends_wholes (wholes text L.counts room)
unfolding wholes
wholes_law L text n room fits = separated_lawful k.Comma (whole_law L text n room fits) refl (clear _ _ refl)

-- inside brackets
pub wholes_inside_law : (L : Limits) (text : List ℕ) (n room : ℕ) → n + room ≡ L.brackets → Inside L room (IsWholes text (suc n)) begins_expr extends_wholes (wholes_inside text L.counts room)
unfolding wholes_inside
wholes_inside_law L text n zero fits = let law = wholes_law (with_brackets (suc n) L.counts) text (suc n) 0 (omega arith) in record { law = λ r e. absurd (omega arith); later = law.later; sample = law.sample }
wholes_inside_law L text n (suc m) fits = inside_of (suc m) (let h : suc n + m ≡ L.brackets = omega arith in wholes_law L text (suc n) m h)

-- ---- arguments

abbrev ArgsOf : List ℕ → ℕ → List Expr → Stretch
ArgsOf text n = Opened n k.OpenParen (Before k.CloseParen (Image any_of (Maybe (IsWholes text (suc n)))))

args_made : (text : List ℕ) (n : ℕ) (xs : List Expr) (a d : Place) → ArgsOf text n xs a d → IsArgs text n xs a d
args_made text n xs a d (b, t, (c, (None, e, m), u)) = subst (λ (xs : List Expr). IsArgs text n xs a d) e (gr.none t (subst (λ (c : Place). IsToken k.CloseParen c d) (sym m) u))
args_made text n xs a d (b, t, (c, (Some ys, e, m), u)) = subst (λ (xs : List Expr). IsArgs text n xs a d) e (gr.some c t m u)

args_cases : {text : List ℕ} {n : ℕ} {xs : List Expr} {a d : Place} → IsArgs text n xs a d → ArgsOf text n xs a d
args_cases (gr.none {n} {a} {b} {c} t u) = (b, t, (b, (None, refl, refl), u))
args_cases (gr.some {n} {xs} {a} {b} c {d} t s u) = (b, t, (c, (Some xs, refl, s), u))

pub args_law : (L : Limits) (text : List ℕ) (n room : ℕ) → n + room ≡ L.brackets → Lawful L (IsArgs text n) (is k.OpenParen) none_of (args text L.counts room)
unfolding args any_wholes
args_law L text n room fits = same_sentences (IsArgs text n) (args_made text n) (λ x a b s. args_cases s)
    (opened_lawful n room k.OpenParen fits (inside_before k.CloseParen (inside_image any_of (inside_optional (but k.CloseParen) (within _ _ refl) (wholes_inside_law L text n room fits))) (clear _ _ refl)))
