-- The operator is seen, then counted.
use Rattle.std.proofs.Common.{Option, sym, ap, ◌∙◌}
use Rattle.std.proofs.lemmas.Result.{err_from_is_err_and}
use Rattle.enc_cursor.specs.Counts.{operator}
use Rattle.enc_cursor.specs.Limits.{allowed}
use Rattle.enc_cursor.specs.Place.{head}
use Rattle.enc_cursor.specs.Steps.{Outcome, Got, and_then, stands_for}
use Rattle.enc_cursor.specs.Counted.{room_for, marked_if, marked, operator_of, counted_operator}
use Rattle.enc_cursor.proofs.Names.{by_kind_is}
use Rattle.enc_cursor.proofs.Loops.{fails_as, fails_so}
use Rattle.enc_cursor.proofs.Operators.{accepts_at}
use Rattle.enc_terms.specs.declared.words.Prefix.{Prefix}
use Rattle.enc_terms.specs.Words.{prefix}
use Rattle.enc_terms.proofs.exprs.prefix_word.Goals as goal

pub returns-in_default : goal.returns-in_default
unfolding operator_of marked
returns-in_default c =
    let a = c.args.cursor.now in
    let e = ap (stands_for prefix) (sym c.peek.ensures) ∙ sym c.prefix_of.ensures ∙ c.in_default.is in
    ap (λ (m : Option Prefix). marked_if operator (room_for allowed operator) m a) (by_kind_is prefix (head a.ahead) ∙ e)

pub returns-in_err-operator : goal.returns-in_err-operator
returns-in_err-operator c =
    let a = c.args.cursor.now in
    let e = ap (stands_for prefix) (sym c.peek.ensures) ∙ sym c.in-Some.ensures in
    let p = err_from_is_err_and c.from_residual.result c.from_residual.ensures.1 in
    rw (p.1, p.2) (fails_so _ _ c.in_err-operator.field-0.0 c.operator.new.self (sym (accepts_at allowed prefix a c.in-Some.prefix e))
    (fails_as (counted_operator allowed a) (λ u b. Got c.in-Some.prefix b) c.in_err-operator.field-0.0 c.operator.new.self c.in_err-operator.ensures))

pub returns : goal.returns
returns c =
    let a = c.args.cursor.now in
    let e = ap (stands_for prefix) (sym c.peek.ensures) ∙ sym c.in-Some.ensures in
    accepts_at allowed prefix a c.in-Some.prefix e ∙ ap (λ (o : Outcome (Unit {0})). and_then o (λ u b. Got c.in-Some.prefix b)) c.in_ok-operator.ensures
