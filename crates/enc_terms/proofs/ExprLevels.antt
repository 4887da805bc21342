-- The parsers of the levels of operators are lawful.
use Rattle.std.proofs.Common.{◌≡◌, ℕ, zero, suc, ◌+◌, List, [], Option, Some, None, refl, sym, subst, arith}
use Rattle.std.specs.Prelude.{◌||◌}
use Rattle.enc_ast.specs.declared.rules.Span.{Span}
use Rattle.enc_ast.specs.declared.Expr.{Expr}
use Rattle.enc_ast.specs.declared.Operator.{Operator}
use Rattle.enc_ast.specs.declared.Operator.TheVariants as op
use Rattle.enc_lex.specs.declared.kinds.Kind.TheVariants as k
use Rattle.enc_cursor.specs.Limits.{Limits}
use Rattle.enc_cursor.specs.Place.{Spot, Place, is, start, extent}
use Rattle.enc_cursor.specs.Stretch.{Maybe}
use Rattle.enc_cursor.specs.Steps.{Parser, Set, Item, join_any, ◌<$>◌, ◌⊗◌, optional, spanned, can}
use Rattle.enc_cursor.specs.Counted.{operator_of}
use Rattle.enc_cursor.proofs.Lawful.{Lawful, with_sets, law_of_same}
use Rattle.enc_cursor.proofs.Sequence.{as_lawful}
use Rattle.enc_cursor.proofs.Words.{pair_lawful, optional_law, spanned_law}
use Rattle.enc_cursor.proofs.Same.{spanned_pair}
use Rattle.enc_cursor.proofs.Openings.{Inside}
use Rattle.enc_cursor.proofs.Inside.{inside_of}
use Rattle.enc_cursor.proofs.Levels.{ItemOf, Parts, parts_more, item_lawful, level_lawful}
use Rattle.enc_cursor.proofs.Sets.{clear, within}
use Rattle.enc_terms.specs.Words.{or_word, and_word, comparison, sign, factor}
use Rattle.enc_terms.specs.Sets.{begins_expr, extends_expr}
use Rattle.enc_terms.specs.Exprs as gr
use Rattle.enc_terms.specs.Exprs.{IsExpr, IsConj, IsComp, IsSum, IsTerm, IsUnary}
use Rattle.enc_terms.specs.ExprReading.{join, unary, term_after, term, signs_after, sum, compared_after, comp, ands_after, conj, ors_after, expr, expr_inside}
use Rattle.enc_terms.proofs.ExprLater.{expr_later, expr_sample}
use Rattle.enc_terms.proofs.ExprAtoms.{unary_law}

-- ---- what may go on with each level

-- what goes on with a name or "this" that is no expression
abbrev pub leads : Set
leads l = is k.Dot l || is k.Bang l

abbrev pub extends_term : Set
extends_term l = can factor l || leads l

abbrev pub extends_sum : Set
extends_sum l = can sign l || extends_term l

abbrev pub extends_comp : Set
extends_comp l = can comparison l || extends_sum l

abbrev pub extends_conj : Set
extends_conj l = can and_word l || extends_comp l

-- ---- the first operand of a level, and the operators behind it

module _ (text : List ℕ) where
  pub term_parts : {n : ℕ} {x : Expr} {a b : Place} → IsTerm text n x a b → Parts join factor (IsUnary text n) x a b
  term_parts (gr.unary {n} {x} {a} {b} s) = (x, [], b, refl, s, refl)
  term_parts (gr.multiplied {n} {o} {x} {y} {a} {b} {c} {d} s t u) = parts_more join factor (IsUnary text n) x y o a b c d (term_parts s) t u

  pub sum_parts : {n : ℕ} {x : Expr} {a b : Place} → IsSum text n x a b → Parts join sign (IsTerm text n) x a b
  sum_parts (gr.term {n} {x} {a} {b} s) = (x, [], b, refl, s, refl)
  sum_parts (gr.added {n} {o} {x} {y} {a} {b} {c} {d} s t u) = parts_more join sign (IsTerm text n) x y o a b c d (sum_parts s) t u

  pub conj_parts : {n : ℕ} {x : Expr} {a b : Place} → IsConj text n x a b → Parts join and_word (IsComp text n) x a b
  conj_parts (gr.comp {n} {x} {a} {b} s) = (x, [], b, refl, s, refl)
  conj_parts (gr.also {n} {o} {x} {y} {a} {b} {c} {d} s t u) = parts_more join and_word (IsComp text n) x y o a b c d (conj_parts s) t u

  pub expr_parts : {n : ℕ} {x : Expr} {a b : Place} → IsExpr text n x a b → Parts join or_word (IsConj text n) x a b
  expr_parts (gr.conj {n} {x} {a} {b} s) = (x, [], b, refl, s, refl)
  expr_parts (gr.either {n} {o} {x} {y} {a} {b} {c} {d} s t u) = parts_more join or_word (IsConj text n) x y o a b c d (expr_parts s) t u

  -- a comparison or none
  pub comp_made : (n : ℕ) (x : Expr) (o : Option (Item Operator Expr)) (a b c : Place) → IsSum text n x a b → Maybe (ItemOf comparison (IsSum text n)) o b c → IsComp text n (join_any join (start a.spot) x o) a c
  comp_made n x None a b c s t = subst (λ (c : Place). IsComp text n x a c) t (gr.sum s)
  comp_made n x (Some i) a b c s t = subst (λ (v : Span). IsComp text n (join (start a.spot) x (i.0, v)) a c) (sym t.1) (gr.compared s t.0.1 t.0.2)

  pub comp_parts : {n : ℕ} {x : Expr} {a d : Place} → IsComp text n x a d → (y : Expr) × (o : Option (Item Operator Expr)) × (c : Place) × (join_any join (start a.spot) y o ≡ x) × IsSum text n y a c × Maybe (ItemOf comparison (IsSum text n)) o c d
  comp_parts (gr.sum {n} {x} {a} {b} s) = (x, None, b, refl, s, refl)
  comp_parts (gr.compared {n} {o} {x} {y} {a} {b} {c} {d} s t u) = (x, Some ((o, y), extent b d), b, refl, s, ((c, t, u), refl))

-- ---- the laws, from that of the parser inside brackets

module _ (L : Limits) (text : List ℕ) (n room : ℕ) (fits : n + room ≡ L.brackets) {inner : Parser Expr} (law : Inside L room (IsExpr text (suc n)) begins_expr extends_expr inner) where
  pub operand_law : Lawful L (IsUnary text n) begins_expr leads (unary text L.counts room inner)
  operand_law = with_sets (unary_law L text n room fits law) (within _ _ refl) (clear _ _ refl)

  pub term_law : Lawful L (IsTerm text n) begins_expr extends_term (term text L.counts room inner)
  unfolding term term_after
  term_law = level_lawful join factor k.Star op.Multiply refl (λ x a b s. gr.unary s) (λ x y o a b c d s t u. gr.multiplied s t u) (λ x a d s. term_parts text s) operand_law refl refl (clear _ _ refl)

  pub sum_law : Lawful L (IsSum text n) begins_expr extends_sum (sum text L.counts room inner)
  unfolding sum signs_after
  sum_law = level_lawful join sign k.Plus op.Add refl (λ x a b s. gr.term s) (λ x y o a b c d s t u. gr.added s t u) (λ x a d s. sum_parts text s) term_law refl refl (clear _ _ refl)

  comp_is : (a : Spot) → ((λ x. join_any join x.1.start x.0.0 x.0.1) <$> spanned (sum text L.counts room inner ⊗ optional (can comparison) (spanned (operator_of L.counts comparison ⊗ sum text L.counts room inner)))) a ≡ comp text L.counts room inner a
  unfolding comp compared_after
  comp_is a = spanned_pair (λ x. join_any join x.1.start x.0.0 x.0.1) (sum text L.counts room inner) (optional (can comparison) (spanned (operator_of L.counts comparison ⊗ sum text L.counts room inner))) a

  pub compared_law : Lawful L (ItemOf comparison (IsSum text n)) (can comparison) extends_sum (spanned (operator_of L.counts comparison ⊗ sum text L.counts room inner))
  compared_law = item_lawful comparison k.Equal op.Equal refl sum_law refl

  pub comp_law : Lawful L (IsComp text n) begins_expr extends_comp (comp text L.counts room inner)
  comp_law = law_of_same (comp text L.counts room inner) comp_is (as_lawful (λ x. join_any join x.1.start x.0.0 x.0.1) (IsComp text n)
      (λ x a b s. subst (λ (v : Span). IsComp text n (join_any join v.start x.0.0 x.0.1) a b) (sym s.1) (comp_made text n x.0.0 x.0.1 a s.0.0 b s.0.1 s.0.2))
      (λ x a b s. let p = comp_parts text s in (((p.0, p.1), extent a b), p.3, ((p.2, p.4, p.5), refl)))
      (spanned_law (pair_lawful sum_law (optional_law (can comparison) compared_law (within _ _ refl)) (clear _ _ refl)) refl refl))

  pub conj_law : Lawful L (IsConj text n) begins_expr extends_conj (conj text L.counts room inner)
  unfolding conj ands_after
  conj_law = level_lawful join and_word k.And op.And refl (λ x a b s. gr.comp s) (λ x y o a b c d s t u. gr.also s t u) (λ x a d s. conj_parts text s) comp_law refl refl (clear _ _ refl)

  pub expr_law : Lawful L (IsExpr text n) begins_expr extends_expr (expr text L.counts room inner)
  unfolding expr ors_after
  expr_law = with_sets (level_lawful join or_word k.Or op.Or refl (λ x a b s. gr.conj s) (λ x y o a b c d s t u. gr.either s t u) (λ x a d s. expr_parts text s) conj_law refl refl (clear _ _ refl)) (within _ _ refl) (clear _ _ refl)

-- inside brackets
pub expr_inside_law : (L : Limits) (text : List ℕ) (n room : ℕ) → n + room ≡ L.brackets → Inside L room (IsExpr text (suc n)) begins_expr extends_expr (expr_inside text L.counts room)
unfolding expr_inside
expr_inside_law L text n zero fits = record { law = λ r e. absurd (omega arith); later = λ a b x s. expr_later s; sample = expr_sample text (suc n) }
expr_inside_law L text n (suc m) fits = inside_of (suc m) (let h : suc n + m ≡ L.brackets = omega arith in expr_law L text (suc n) m h (expr_inside_law L text (suc n) m h))
