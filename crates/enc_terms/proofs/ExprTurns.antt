-- How the loops of the code over expressions turn.
use Rattle.std.proofs.Common.{ℕ, ◌<◌, ◌-◌, List, refl}
use Rattle.enc_ast.specs.declared.Operator.TheVariants as op
use Rattle.enc_lex.specs.declared.kinds.Kind.TheVariants as k
use Rattle.enc_cursor.specs.Limits.{Limits, allowed, with_brackets}
use Rattle.enc_cursor.specs.Place.{is}
use Rattle.enc_cursor.specs.Steps.{◌▹◌, ◌⊗◌, spanned, can}
use Rattle.enc_cursor.specs.Counted.{operator_of}
use Rattle.enc_cursor.proofs.Lawful.{Lawful}
use Rattle.enc_cursor.proofs.Many.{TurnsSo}
use Rattle.enc_cursor.proofs.Levels.{operator_turns}
use Rattle.enc_cursor.proofs.Openings.{Inside, zero_fits}
use Rattle.enc_cursor.proofs.Turns.{one_less, separated_turns, inside_turns}
use Rattle.enc_cursor.proofs.Sets.{clear}
use Rattle.enc_terms.specs.Words.{or_word, and_word, sign, factor}
use Rattle.enc_terms.specs.Sets.{begins_expr, extends_expr}
use Rattle.enc_terms.specs.Exprs.{IsExpr, IsConj, IsComp, IsTerm, IsUnary, IsWhole}
use Rattle.enc_terms.specs.ExprReading.{unary, term, comp, conj, expr_inside, whole}
use Rattle.enc_terms.proofs.ExprLevels.{leads, extends_term, extends_comp, extends_conj, operand_law, term_law, comp_law, conj_law, expr_inside_law}
use Rattle.enc_terms.proofs.ExprWholes.{whole_law}

-- limits with room for so many brackets
abbrev pub roomy : ℕ → Limits
roomy n = with_brackets n allowed

module _ (text : List ℕ) (n : ℕ) where
  inner_at : Inside (roomy n) n (IsExpr text 1) begins_expr extends_expr (expr_inside text allowed n)
  inner_at = expr_inside_law (roomy n) text 0 n (zero_fits n)

  pub operand_at : Lawful (roomy n) (IsUnary text 0) begins_expr leads (unary text allowed n (expr_inside text allowed n))
  operand_at = operand_law (roomy n) text 0 n (zero_fits n) inner_at

  pub term_at : Lawful (roomy n) (IsTerm text 0) begins_expr extends_term (term text allowed n (expr_inside text allowed n))
  term_at = term_law (roomy n) text 0 n (zero_fits n) inner_at

  pub comp_at : Lawful (roomy n) (IsComp text 0) begins_expr extends_comp (comp text allowed n (expr_inside text allowed n))
  comp_at = comp_law (roomy n) text 0 n (zero_fits n) inner_at

  pub conj_at : Lawful (roomy n) (IsConj text 0) begins_expr extends_conj (conj text allowed n (expr_inside text allowed n))
  conj_at = conj_law (roomy n) text 0 n (zero_fits n) inner_at

  pub whole_at : Lawful (roomy n) (IsWhole text 0) begins_expr extends_expr (whole text allowed n)
  whole_at = whole_law (roomy n) text 0 n (zero_fits n)

  pub inside_at : 0 < n → Lawful (roomy n) (IsExpr text 1) begins_expr extends_expr (expr_inside text allowed n)
  inside_at h = inner_at.law (n - 1) (one_less n h)

  pub factor_turns : TurnsSo (can factor) (spanned (operator_of allowed factor ⊗ unary text allowed n (expr_inside text allowed n)))
  factor_turns = operator_turns factor k.Star op.Multiply refl operand_at refl (clear _ _ refl)

  pub sign_turns : TurnsSo (can sign) (spanned (operator_of allowed sign ⊗ term text allowed n (expr_inside text allowed n)))
  sign_turns = operator_turns sign k.Plus op.Add refl term_at refl (clear _ _ refl)

  pub and_turns : TurnsSo (can and_word) (spanned (operator_of allowed and_word ⊗ comp text allowed n (expr_inside text allowed n)))
  and_turns = operator_turns and_word k.And op.And refl comp_at refl (clear _ _ refl)

  pub or_turns : TurnsSo (can or_word) (spanned (operator_of allowed or_word ⊗ conj text allowed n (expr_inside text allowed n)))
  or_turns = operator_turns or_word k.Or op.Or refl conj_at refl (clear _ _ refl)

  pub element_turns : 0 < n → TurnsSo (is k.Comma) (k.Comma ▹ expr_inside text allowed n)
  element_turns h = inside_turns k.Comma inner_at refl (clear _ _ refl) h

  pub whole_turns : TurnsSo (is k.Comma) (k.Comma ▹ whole text allowed n)
  whole_turns = separated_turns k.Comma whole_at refl (clear _ _ refl)
