-- All that may stand behind the first operand of an expression, and the parser of it.
use Rattle.std.proofs.Common.{◌≡◌, ℕ, suc, ◌+◌, List, refl, ap, ◌∙◌}
use Rattle.enc_ast.specs.declared.Expr.{Expr}
use Rattle.enc_ast.specs.declared.Operator.TheVariants as op
use Rattle.enc_lex.specs.declared.kinds.Kind.TheVariants as k
use Rattle.enc_cursor.specs.Limits.{Limits}
use Rattle.enc_cursor.specs.Place.{Spot, Place, start}
use Rattle.enc_cursor.specs.Stretch.{Stretch, Each, Maybe}
use Rattle.enc_cursor.specs.Steps.{Outcome, Parser, Set, and_then, joined, join_any, ◌<$>◌, ◌⊗◌, optional, many, spanned, can}
use Rattle.enc_cursor.specs.Counted.{operator_of}
use Rattle.enc_cursor.proofs.Lawful.{Lawful, or, with_sets}
use Rattle.enc_cursor.proofs.Choice.{or_past}
use Rattle.enc_cursor.proofs.Words.{Pair, pair_lawful, many_law, optional_law}
use Rattle.enc_cursor.proofs.Same.{chained}
use Rattle.enc_cursor.proofs.Openings.{Inside}
use Rattle.enc_cursor.proofs.Levels.{ItemOf, grown, item_lawful}
use Rattle.enc_cursor.proofs.Sets.{clear, within}
use Rattle.enc_terms.specs.Words.{or_word, and_word, comparison, sign, factor}
use Rattle.enc_terms.specs.Sets.{begins_expr, extends_expr}
use Rattle.enc_terms.specs.Exprs as gr
use Rattle.enc_terms.specs.Exprs.{IsExpr, IsConj, IsComp, IsSum, IsTerm, IsUnary}
use Rattle.enc_terms.specs.ExprReading.{join, SumRest, CompRest, ConjRest, Rest, sum_of, comp_of, conj_of, whole_of, unary, term_after, term, signs_after, sum, compared_after, comp, ands_after, conj, ors_after, expr_after, sum_rest, comp_rest, conj_rest, rest}
use Rattle.enc_terms.proofs.ExprLevels.{leads, extends_sum, extends_comp, extends_conj, term_parts, sum_parts, comp_made, comp_parts, conj_parts, expr_parts, operand_law, term_law, compared_law, comp_law, conj_law}

-- ---- the relation

abbrev pub SumRestOf : List ℕ → ℕ → SumRest → Stretch
SumRestOf text n = Pair (Each (ItemOf factor (IsUnary text n))) (Each (ItemOf sign (IsTerm text n)))

abbrev pub CompRestOf : List ℕ → ℕ → CompRest → Stretch
CompRestOf text n = Pair (SumRestOf text n) (Maybe (ItemOf comparison (IsSum text n)))

abbrev pub ConjRestOf : List ℕ → ℕ → ConjRest → Stretch
ConjRestOf text n = Pair (CompRestOf text n) (Each (ItemOf and_word (IsComp text n)))

abbrev pub RestOf : List ℕ → ℕ → Rest → Stretch
RestOf text n = Pair (ConjRestOf text n) (Each (ItemOf or_word (IsConj text n)))

-- ---- an operand and a rest are an expression

module _ (text : List ℕ) (n : ℕ) where
  sum_made : (x : Expr) (r : SumRest) (a b c : Place) → IsUnary text n x a b → SumRestOf text n r b c → IsSum text n (sum_of (start a.spot) x r) a c
  sum_made x r a b c s t =
      let one = grown join factor (IsUnary text n) (IsTerm text n) (λ x y o a b c d s t u. gr.multiplied s t u) r.0 x a b t.0 (gr.unary s) t.1 in
      grown join sign (IsTerm text n) (IsSum text n) (λ x y o a b c d s t u. gr.added s t u) r.1 (joined join (start a.spot) x r.0) a t.0 c (gr.term one) t.2

  conj_made : (x : Expr) (r : ConjRest) (a b c : Place) → IsUnary text n x a b → ConjRestOf text n r b c → IsConj text n (conj_of (start a.spot) x r) a c
  conj_made x r a b c s t =
      let one = sum_made x r.0.0 a b t.1.0 s t.1.1 in
      let two = comp_made text n (sum_of (start a.spot) x r.0.0) r.0.1 a t.1.0 t.0 one t.1.2 in
      grown join and_word (IsComp text n) (IsConj text n) (λ x y o a b c d s t u. gr.also s t u) r.1 (comp_of (start a.spot) x r.0) a t.0 c (gr.comp two) t.2

  pub expr_made : (x : Expr) (r : Rest) (a b c : Place) → IsUnary text n x a b → RestOf text n r b c → IsExpr text n (whole_of (start a.spot) x r) a c
  expr_made x r a b c s t =
      let one = conj_made x r.0 a b t.0 s t.1 in
      grown join or_word (IsConj text n) (IsExpr text n) (λ x y o a b c d s t u. gr.either s t u) r.1 (conj_of (start a.spot) x r.0) a t.0 c (gr.conj one) t.2

  -- ---- and each expression has them

  sum_cases : {x : Expr} {a d : Place} → IsSum text n x a d → (y : Expr) × (r : SumRest) × (c : Place) × (sum_of (start a.spot) y r ≡ x) × IsUnary text n y a c × SumRestOf text n r c d
  sum_cases {x} {a} {d} s = let p = sum_parts text s in let q = term_parts text p.4 in
      (q.0, (q.1, p.1), q.2, ap (λ (z : Expr). joined join (start a.spot) z p.1) q.3 ∙ p.3, q.4, (p.2, q.5, p.5))

  conj_cases : {x : Expr} {a d : Place} → IsConj text n x a d → (y : Expr) × (r : ConjRest) × (c : Place) × (conj_of (start a.spot) y r ≡ x) × IsUnary text n y a c × ConjRestOf text n r c d
  conj_cases {x} {a} {d} s = let p = conj_parts text s in let u = comp_parts text p.4 in let q = sum_cases u.4 in
      let compared : comp_of (start a.spot) q.0 (q.1, u.1) ≡ p.0 = ap (λ (z : Expr). join_any join (start a.spot) z u.1) q.3 ∙ u.3 in
      (q.0, ((q.1, u.1), p.1), q.2, ap (λ (z : Expr). joined join (start a.spot) z p.1) compared ∙ p.3, q.4, (p.2, (u.2, q.5, u.5), p.5))

  -- the first operand, and what stands behind it
  pub expr_cases : {x : Expr} {a d : Place} → IsExpr text n x a d → (y : Expr) × (r : Rest) × (c : Place) × (whole_of (start a.spot) y r ≡ x) × IsUnary text n y a c × RestOf text n r c d
  expr_cases {x} {a} {d} s = let p = expr_parts text s in let q = conj_cases p.4 in
      (q.0, (q.1, p.1), q.2, ap (λ (z : Expr). joined join (start a.spot) z p.1) q.3 ∙ p.3, q.4, (p.2, q.5, p.5))

-- ---- the steps of the code are those of the parts

module _ (L : Limits) (text : List ℕ) (room : ℕ) (inner : Parser Expr) where
  sum_steps : (from : ℕ) (x : Expr) (a : Spot) → and_then (term_after text L.counts room inner from x a) (signs_after text L.counts room inner from) ≡ (sum_of from x <$> sum_rest text L.counts room inner) a
  unfolding term_after signs_after sum_rest
  sum_steps from x a = chained (joined join from x) (joined join from) (many (can factor) (spanned (operator_of L.counts factor ⊗ unary text L.counts room inner))) (many (can sign) (spanned (operator_of L.counts sign ⊗ term text L.counts room inner))) a

  comp_steps : (from : ℕ) (x : Expr) (a : Spot) → and_then ((sum_of from x <$> sum_rest text L.counts room inner) a) (compared_after text L.counts room inner from) ≡ (comp_of from x <$> comp_rest text L.counts room inner) a
  unfolding compared_after comp_rest
  comp_steps from x a = chained (sum_of from x) (join_any join from) (sum_rest text L.counts room inner) (optional (can comparison) (spanned (operator_of L.counts comparison ⊗ sum text L.counts room inner))) a

  conj_steps : (from : ℕ) (x : Expr) (a : Spot) → and_then ((comp_of from x <$> comp_rest text L.counts room inner) a) (ands_after text L.counts room inner from) ≡ (conj_of from x <$> conj_rest text L.counts room inner) a
  unfolding ands_after conj_rest
  conj_steps from x a = chained (comp_of from x) (joined join from) (comp_rest text L.counts room inner) (many (can and_word) (spanned (operator_of L.counts and_word ⊗ comp text L.counts room inner))) a

  expr_steps : (from : ℕ) (x : Expr) (a : Spot) → and_then ((conj_of from x <$> conj_rest text L.counts room inner) a) (ors_after text L.counts room inner from) ≡ (whole_of from x <$> rest text L.counts room inner) a
  unfolding ors_after rest
  expr_steps from x a = chained (conj_of from x) (joined join from) (conj_rest text L.counts room inner) (many (can or_word) (spanned (operator_of L.counts or_word ⊗ conj text L.counts room inner))) a

  pub expr_after_is : (from : ℕ) (x : Expr) (a : Spot) → expr_after text L.counts room inner from x a ≡ (whole_of from x <$> rest text L.counts room inner) a
  unfolding expr_after
  expr_after_is from x a =
      ap (λ (o : Outcome Expr). and_then (and_then (and_then o (compared_after text L.counts room inner from)) (ands_after text L.counts room inner from)) (ors_after text L.counts room inner from)) (sum_steps from x a)
      ∙ ap (λ (o : Outcome Expr). and_then (and_then o (ands_after text L.counts room inner from)) (ors_after text L.counts room inner from)) (comp_steps from x a)
      ∙ ap (λ (o : Outcome Expr). and_then o (ors_after text L.counts room inner from)) (conj_steps from x a)
      ∙ expr_steps from x a

-- ---- the law

-- what a rest begins with, or what may come where it is empty
abbrev pub begins_rest : Set
begins_rest = or_past (can factor) (or (can factor) leads)

module _ (L : Limits) (text : List ℕ) (n room : ℕ) (fits : n + room ≡ L.brackets) {inner : Parser Expr} (law : Inside L room (IsExpr text (suc n)) begins_expr extends_expr inner) where
  sum_rest_law : Lawful L (SumRestOf text n) begins_rest extends_sum (sum_rest text L.counts room inner)
  unfolding sum_rest
  sum_rest_law = with_sets (pair_lawful (many_law (can factor) (item_lawful factor k.Star op.Multiply refl (operand_law L text n room fits law) refl) refl refl (within _ _ refl) (clear _ _ refl))
      (many_law (can sign) (item_lawful sign k.Plus op.Add refl (term_law L text n room fits law) refl) refl refl (within _ _ refl) (clear _ _ refl)) (clear _ _ refl)) (within _ _ refl) (clear _ _ refl)

  comp_rest_law : Lawful L (CompRestOf text n) begins_rest extends_comp (comp_rest text L.counts room inner)
  unfolding comp_rest
  comp_rest_law = with_sets (pair_lawful sum_rest_law (optional_law (can comparison) (compared_law L text n room fits law) (within _ _ refl)) (clear _ _ refl)) (within _ _ refl) (clear _ _ refl)

  conj_rest_law : Lawful L (ConjRestOf text n) begins_rest extends_conj (conj_rest text L.counts room inner)
  unfolding conj_rest
  conj_rest_law = with_sets (pair_lawful comp_rest_law (many_law (can and_word) (item_lawful and_word k.And op.And refl (comp_law L text n room fits law) refl) refl refl (within _ _ refl) (clear _ _ refl)) (clear _ _ refl)) (within _ _ refl) (clear _ _ refl)

  pub rest_law : Lawful L (RestOf text n) begins_rest extends_expr (rest text L.counts room inner)
  unfolding rest
  rest_law = with_sets (pair_lawful conj_rest_law (many_law (can or_word) (item_lawful or_word k.Or op.Or refl (conj_law L text n room fits law) refl) refl refl (within _ _ refl) (clear _ _ refl)) (clear _ _ refl)) (within _ _ refl) (clear _ _ refl)
