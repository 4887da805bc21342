-- The loops over operators and over the elements of a list, and what stands inside brackets.
use Rattle.std.proofs.Common.{◌≡◌, ℕ, suc, ◌-◌, sym, ap, subst, ◌∙◌, arith}
use Rattle.std.proofs.lemmas.Result.{err_from_is_err_and}
use Rattle.enc_lex.specs.declared.kinds.Kind.TheVariants as k
use Rattle.enc_cursor.specs.Cursor.{Reads}
use Rattle.enc_cursor.specs.Limits.{allowed}
use Rattle.enc_cursor.specs.Steps.{stands_for}
use Rattle.enc_cursor.proofs.Loops.{sep_kept, sep_failed, sep_done, kind_shorter}
use Rattle.enc_cursor.proofs.Operators.{kept, failed, stopped, done, once_kept, once_failed, once_stopped, word_shorter}
use Rattle.enc_terms.specs.Words.{or_word, and_word, comparison, sign, factor}
use Rattle.enc_terms.specs.ExprReading.{join, expr_inside, unary, term, sum, comp, conj, term_after, signs_after, compared_after, ands_after, ors_after}
use Rattle.enc_terms.proofs.ExprTurns.{operand_at, term_at, comp_at, conj_at, inside_at, factor_turns, sign_turns, and_turns, or_turns, element_turns}
use Rattle.enc_terms.proofs.+expr.Goals as goal

pub exprs::expr_inside-returns : goal.exprs::expr_inside-returns
unfolding expr_inside
exprs::expr_inside-returns t c =
    let e : suc (c.args.depth - 1) ≡ c.args.depth = omega (arith, c.requires) in
    subst (λ (n : ℕ). Reads (expr_inside c.args.text.now allowed n c.args.cursor.now) c.expr.result c.expr.new.cursor) e c.expr.ensures

pub exprs::compared_after-returns-in_err-operator : goal.exprs::compared_after-returns-in_err-operator
unfolding compared_after
exprs::compared_after-returns-in_err-operator t c =
    let p = err_from_is_err_and c.from_residual.result c.from_residual.ensures.1 in
    rw (p.1, p.2) (once_stopped join allowed comparison (sum c.args.text.now allowed c.args.depth (expr_inside c.args.text.now allowed c.args.depth)) c.args.start c.args.left c.args.cursor.now c.operator.new.self c.in-Some.operator c.in_err-operator.field-0.0 (c.in-Some.ensures ∙ ap (stands_for comparison) c.peek.ensures) c.in_err-operator.ensures)

pub exprs::compared_after-returns-in_err-right : goal.exprs::compared_after-returns-in_err-right
unfolding compared_after
exprs::compared_after-returns-in_err-right t c =
    let p = err_from_is_err_and c.from_residual-in_err-right.result c.from_residual-in_err-right.ensures.1 in
    rw (p.1, p.2) (once_failed join allowed comparison (sum c.args.text.now allowed c.args.depth (expr_inside c.args.text.now allowed c.args.depth)) c.args.start c.args.left c.args.cursor.now c.operator.new.self c.sum.new.cursor c.in-Some.operator c.in_err-right.field-0.0 (c.in-Some.ensures ∙ ap (stands_for comparison) c.peek.ensures) c.in_ok-operator.ensures c.in_err-right.ensures)

pub exprs::compared_after-returns : goal.exprs::compared_after-returns
unfolding compared_after
exprs::compared_after-returns t c =
    let e = once_kept join allowed comparison (sum c.args.text.now allowed c.args.depth (expr_inside c.args.text.now allowed c.args.depth)) c.args.start c.args.left c.in_ok-right.right c.args.cursor.now c.operator.new.self c.sum.new.cursor c.in-Some.operator (c.in-Some.ensures ∙ ap (stands_for comparison) c.peek.ensures) c.in_ok-operator.ensures c.in_ok-right.ensures in
    rw (c.in_ok-binary.ensures, c.since.ensures) e

pub exprs::term_after-returns-in_err-operator : goal.exprs::term_after-returns-in_err-operator
unfolding term_after
exprs::term_after-returns-in_err-operator t c =
    let p = err_from_is_err_and c.from_residual.result c.from_residual.ensures.1 in
    rw (p.1, p.2) (stopped join allowed factor (unary c.args.text.now allowed c.args.depth (expr_inside c.args.text.now allowed c.args.depth)) (factor_turns c.args.text.now c.args.depth) c.args.start c.loop-operator.left c.loop-operator.cursor c.operator.new.self c.in-Some.operator _ c.in_err-operator.field-0.0 (c.in-Some.ensures ∙ ap (stands_for factor) c.peek.ensures) c.in_err-operator.ensures c.loop-operator.invariant)

pub exprs::term_after-returns-in_err-right : goal.exprs::term_after-returns-in_err-right
unfolding term_after
exprs::term_after-returns-in_err-right t c =
    let p = err_from_is_err_and c.from_residual-in_err-right.result c.from_residual-in_err-right.ensures.1 in
    rw (p.1, p.2) (failed join allowed factor (unary c.args.text.now allowed c.args.depth (expr_inside c.args.text.now allowed c.args.depth)) (factor_turns c.args.text.now c.args.depth) c.args.start c.loop-operator.left c.loop-operator.cursor c.operator.new.self c.unary.new.cursor c.in-Some.operator _ c.in_err-right.field-0.0 (c.in-Some.ensures ∙ ap (stands_for factor) c.peek.ensures) c.in_ok-operator.ensures c.in_err-right.ensures c.loop-operator.invariant)

pub exprs::term_after-loop-operator-smaller : goal.exprs::term_after-loop-operator-smaller
exprs::term_after-loop-operator-smaller t c = word_shorter (operand_at c.args.text.now c.args.depth) allowed factor c.loop-operator.cursor c.operator.new.self c.unary.new.cursor c.in_ok-right.right c.in-Some.operator (c.in-Some.ensures ∙ ap (stands_for factor) c.peek.ensures) c.in_ok-operator.ensures c.in_ok-right.ensures

pub exprs::term_after-loop-operator-preserved : goal.exprs::term_after-loop-operator-preserved
unfolding term_after
exprs::term_after-loop-operator-preserved t c =
    let e = kept join allowed factor (unary c.args.text.now allowed c.args.depth (expr_inside c.args.text.now allowed c.args.depth)) (factor_turns c.args.text.now c.args.depth) c.args.start c.loop-operator.left c.in_ok-right.right c.loop-operator.cursor c.operator.new.self c.unary.new.cursor c.in-Some.operator _ (c.in-Some.ensures ∙ ap (stands_for factor) c.peek.ensures) c.in_ok-operator.ensures c.in_ok-right.ensures c.loop-operator.invariant in
    rw (c.in_ok-left.ensures, c.since.ensures) e

pub exprs::term_after-returns : goal.exprs::term_after-returns
unfolding term_after
exprs::term_after-returns t c = done join allowed factor (unary c.args.text.now allowed c.args.depth (expr_inside c.args.text.now allowed c.args.depth)) (factor_turns c.args.text.now c.args.depth) c.args.start c.loop-operator.left c.loop-operator.cursor _ (c.in_default.ensures ∙ ap (stands_for factor) c.peek.ensures) c.loop-operator.invariant

pub exprs::signs_after-returns-in_err-operator : goal.exprs::signs_after-returns-in_err-operator
unfolding signs_after
exprs::signs_after-returns-in_err-operator t c =
    let p = err_from_is_err_and c.from_residual.result c.from_residual.ensures.1 in
    rw (p.1, p.2) (stopped join allowed sign (term c.args.text.now allowed c.args.depth (expr_inside c.args.text.now allowed c.args.depth)) (sign_turns c.args.text.now c.args.depth) c.args.start c.loop-operator.left c.loop-operator.cursor c.operator.new.self c.in-Some.operator _ c.in_err-operator.field-0.0 (c.in-Some.ensures ∙ ap (stands_for sign) c.peek.ensures) c.in_err-operator.ensures c.loop-operator.invariant)

pub exprs::signs_after-returns-in_err-right : goal.exprs::signs_after-returns-in_err-right
unfolding signs_after
exprs::signs_after-returns-in_err-right t c =
    let p = err_from_is_err_and c.from_residual-in_err-right.result c.from_residual-in_err-right.ensures.1 in
    rw (p.1, p.2) (failed join allowed sign (term c.args.text.now allowed c.args.depth (expr_inside c.args.text.now allowed c.args.depth)) (sign_turns c.args.text.now c.args.depth) c.args.start c.loop-operator.left c.loop-operator.cursor c.operator.new.self c.term.new.cursor c.in-Some.operator _ c.in_err-right.field-0.0 (c.in-Some.ensures ∙ ap (stands_for sign) c.peek.ensures) c.in_ok-operator.ensures c.in_err-right.ensures c.loop-operator.invariant)

pub exprs::signs_after-loop-operator-smaller : goal.exprs::signs_after-loop-operator-smaller
exprs::signs_after-loop-operator-smaller t c = word_shorter (term_at c.args.text.now c.args.depth) allowed sign c.loop-operator.cursor c.operator.new.self c.term.new.cursor c.in_ok-right.right c.in-Some.operator (c.in-Some.ensures ∙ ap (stands_for sign) c.peek.ensures) c.in_ok-operator.ensures c.in_ok-right.ensures

pub exprs::signs_after-loop-operator-preserved : goal.exprs::signs_after-loop-operator-preserved
unfolding signs_after
exprs::signs_after-loop-operator-preserved t c =
    let e = kept join allowed sign (term c.args.text.now allowed c.args.depth (expr_inside c.args.text.now allowed c.args.depth)) (sign_turns c.args.text.now c.args.depth) c.args.start c.loop-operator.left c.in_ok-right.right c.loop-operator.cursor c.operator.new.self c.term.new.cursor c.in-Some.operator _ (c.in-Some.ensures ∙ ap (stands_for sign) c.peek.ensures) c.in_ok-operator.ensures c.in_ok-right.ensures c.loop-operator.invariant in
    rw (c.in_ok-left.ensures, c.since.ensures) e

pub exprs::signs_after-returns : goal.exprs::signs_after-returns
unfolding signs_after
exprs::signs_after-returns t c = done join allowed sign (term c.args.text.now allowed c.args.depth (expr_inside c.args.text.now allowed c.args.depth)) (sign_turns c.args.text.now c.args.depth) c.args.start c.loop-operator.left c.loop-operator.cursor _ (c.in_default.ensures ∙ ap (stands_for sign) c.peek.ensures) c.loop-operator.invariant

pub exprs::ands_after-returns-in_err-operator : goal.exprs::ands_after-returns-in_err-operator
unfolding ands_after
exprs::ands_after-returns-in_err-operator t c =
    let p = err_from_is_err_and c.from_residual.result c.from_residual.ensures.1 in
    rw (p.1, p.2) (stopped join allowed and_word (comp c.args.text.now allowed c.args.depth (expr_inside c.args.text.now allowed c.args.depth)) (and_turns c.args.text.now c.args.depth) c.args.start c.loop-operator.left c.loop-operator.cursor c.operator.new.self c.in-Some.operator _ c.in_err-operator.field-0.0 (c.in-Some.ensures ∙ ap (stands_for and_word) c.peek.ensures) c.in_err-operator.ensures c.loop-operator.invariant)

pub exprs::ands_after-returns-in_err-right : goal.exprs::ands_after-returns-in_err-right
unfolding ands_after
exprs::ands_after-returns-in_err-right t c =
    let p = err_from_is_err_and c.from_residual-in_err-right.result c.from_residual-in_err-right.ensures.1 in
    rw (p.1, p.2) (failed join allowed and_word (comp c.args.text.now allowed c.args.depth (expr_inside c.args.text.now allowed c.args.depth)) (and_turns c.args.text.now c.args.depth) c.args.start c.loop-operator.left c.loop-operator.cursor c.operator.new.self c.comp.new.cursor c.in-Some.operator _ c.in_err-right.field-0.0 (c.in-Some.ensures ∙ ap (stands_for and_word) c.peek.ensures) c.in_ok-operator.ensures c.in_err-right.ensures c.loop-operator.invariant)

pub exprs::ands_after-loop-operator-smaller : goal.exprs::ands_after-loop-operator-smaller
exprs::ands_after-loop-operator-smaller t c = word_shorter (comp_at c.args.text.now c.args.depth) allowed and_word c.loop-operator.cursor c.operator.new.self c.comp.new.cursor c.in_ok-right.right c.in-Some.operator (c.in-Some.ensures ∙ ap (stands_for and_word) c.peek.ensures) c.in_ok-operator.ensures c.in_ok-right.ensures

pub exprs::ands_after-loop-operator-preserved : goal.exprs::ands_after-loop-operator-preserved
unfolding ands_after
exprs::ands_after-loop-operator-preserved t c =
    let e = kept join allowed and_word (comp c.args.text.now allowed c.args.depth (expr_inside c.args.text.now allowed c.args.depth)) (and_turns c.args.text.now c.args.depth) c.args.start c.loop-operator.left c.in_ok-right.right c.loop-operator.cursor c.operator.new.self c.comp.new.cursor c.in-Some.operator _ (c.in-Some.ensures ∙ ap (stands_for and_word) c.peek.ensures) c.in_ok-operator.ensures c.in_ok-right.ensures c.loop-operator.invariant in
    rw (c.in_ok-left.ensures, c.since.ensures) e

pub exprs::ands_after-returns : goal.exprs::ands_after-returns
unfolding ands_after
exprs::ands_after-returns t c = done join allowed and_word (comp c.args.text.now allowed c.args.depth (expr_inside c.args.text.now allowed c.args.depth)) (and_turns c.args.text.now c.args.depth) c.args.start c.loop-operator.left c.loop-operator.cursor _ (c.in_default.ensures ∙ ap (stands_for and_word) c.peek.ensures) c.loop-operator.invariant

pub exprs::ors_after-returns-in_err-operator : goal.exprs::ors_after-returns-in_err-operator
unfolding ors_after
exprs::ors_after-returns-in_err-operator t c =
    let p = err_from_is_err_and c.from_residual.result c.from_residual.ensures.1 in
    rw (p.1, p.2) (stopped join allowed or_word (conj c.args.text.now allowed c.args.depth (expr_inside c.args.text.now allowed c.args.depth)) (or_turns c.args.text.now c.args.depth) c.args.start c.loop-operator.left c.loop-operator.cursor c.operator.new.self c.in-Some.operator _ c.in_err-operator.field-0.0 (c.in-Some.ensures ∙ ap (stands_for or_word) c.peek.ensures) c.in_err-operator.ensures c.loop-operator.invariant)

pub exprs::ors_after-returns-in_err-right : goal.exprs::ors_after-returns-in_err-right
unfolding ors_after
exprs::ors_after-returns-in_err-right t c =
    let p = err_from_is_err_and c.from_residual-in_err-right.result c.from_residual-in_err-right.ensures.1 in
    rw (p.1, p.2) (failed join allowed or_word (conj c.args.text.now allowed c.args.depth (expr_inside c.args.text.now allowed c.args.depth)) (or_turns c.args.text.now c.args.depth) c.args.start c.loop-operator.left c.loop-operator.cursor c.operator.new.self c.conj.new.cursor c.in-Some.operator _ c.in_err-right.field-0.0 (c.in-Some.ensures ∙ ap (stands_for or_word) c.peek.ensures) c.in_ok-operator.ensures c.in_err-right.ensures c.loop-operator.invariant)

pub exprs::ors_after-loop-operator-smaller : goal.exprs::ors_after-loop-operator-smaller
exprs::ors_after-loop-operator-smaller t c = word_shorter (conj_at c.args.text.now c.args.depth) allowed or_word c.loop-operator.cursor c.operator.new.self c.conj.new.cursor c.in_ok-right.right c.in-Some.operator (c.in-Some.ensures ∙ ap (stands_for or_word) c.peek.ensures) c.in_ok-operator.ensures c.in_ok-right.ensures

pub exprs::ors_after-loop-operator-preserved : goal.exprs::ors_after-loop-operator-preserved
unfolding ors_after
exprs::ors_after-loop-operator-preserved t c =
    let e = kept join allowed or_word (conj c.args.text.now allowed c.args.depth (expr_inside c.args.text.now allowed c.args.depth)) (or_turns c.args.text.now c.args.depth) c.args.start c.loop-operator.left c.in_ok-right.right c.loop-operator.cursor c.operator.new.self c.conj.new.cursor c.in-Some.operator _ (c.in-Some.ensures ∙ ap (stands_for or_word) c.peek.ensures) c.in_ok-operator.ensures c.in_ok-right.ensures c.loop-operator.invariant in
    rw (c.in_ok-left.ensures, c.since.ensures) e

pub exprs::ors_after-returns : goal.exprs::ors_after-returns
unfolding ors_after
exprs::ors_after-returns t c = done join allowed or_word (conj c.args.text.now allowed c.args.depth (expr_inside c.args.text.now allowed c.args.depth)) (or_turns c.args.text.now c.args.depth) c.args.start c.loop-operator.left c.loop-operator.cursor _ (c.in_default.ensures ∙ ap (stands_for or_word) c.peek.ensures) c.loop-operator.invariant

pub atoms::exprs-returns-in_err-expr_inside-2 : goal.atoms::exprs-returns-in_err-expr_inside-2
atoms::exprs-returns-in_err-expr_inside-2 t c =
    let p = err_from_is_err_and c.from_residual-in_err-expr_inside-2.result c.from_residual-in_err-expr_inside-2.ensures.1 in
    rw (p.1, p.2) (sep_failed k.Comma (expr_inside c.args.text.now allowed c.args.depth) (element_turns c.args.text.now c.args.depth c.requires) c.loop-alloc.items c.loop-alloc.cursor c.take.new.self c.expr_inside-in-loop-alloc.new.cursor _ c.in_err-expr_inside-2.field-0.0 (sym c.sees.ensures ∙ c.loop-alloc-test.true) c.take.ensures c.in_err-expr_inside-2.ensures c.loop-alloc.invariant)

pub atoms::exprs-loop-alloc-smaller : goal.atoms::exprs-loop-alloc-smaller
atoms::exprs-loop-alloc-smaller t c = kind_shorter (inside_at c.args.text.now c.args.depth c.requires) k.Comma c.loop-alloc.cursor c.take.new.self c.expr_inside-in-loop-alloc.new.cursor _ (sym c.sees.ensures ∙ c.loop-alloc-test.true) c.take.ensures c.in_ok-expr_inside-2.ensures

pub atoms::exprs-loop-alloc-preserved : goal.atoms::exprs-loop-alloc-preserved
atoms::exprs-loop-alloc-preserved t c =
    let e = sep_kept k.Comma (expr_inside c.args.text.now allowed c.args.depth) (element_turns c.args.text.now c.args.depth c.requires) c.loop-alloc.items c.in_ok-expr_inside-2.field-0 c.loop-alloc.cursor c.take.new.self c.expr_inside-in-loop-alloc.new.cursor _ (sym c.sees.ensures ∙ c.loop-alloc-test.true) c.take.ensures c.in_ok-expr_inside-2.ensures c.loop-alloc.invariant in
    rw c.in_ok-push-2.ensures.ok e

pub atoms::exprs-returns : goal.atoms::exprs-returns
atoms::exprs-returns t c = sep_done k.Comma (expr_inside c.args.text.now allowed c.args.depth) (element_turns c.args.text.now c.args.depth c.requires) c.loop-alloc.items c.loop-alloc.cursor _ (sym c.sees.ensures ∙ c.loop-alloc-test.false) c.loop-alloc.invariant
