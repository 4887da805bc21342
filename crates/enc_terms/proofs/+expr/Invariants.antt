-- Each call has fewer brackets to open or is of a lower level, and what a loop has still to read gives the whole.
use Rattle.std.proofs.Common.{◌≡◌, ◌+◌, ◌*◌, length}
use Rattle.enc_cursor.specs.Limits.{allowed}
use Rattle.enc_cursor.proofs.Loops.{list_after}
use Rattle.enc_terms.specs.ExprReading as spec
use Rattle.enc_terms.proofs.+expr.Given as goal

abbrev pub decreases-exprs::expr_inside : goal.decreases-exprs::expr_inside
decreases-exprs::expr_inside l = 23 * l.depth + 0

abbrev pub decreases-atoms::exprs : goal.decreases-atoms::exprs
decreases-atoms::exprs l = 23 * l.depth + 1

abbrev pub decreases-atoms::parens_form : goal.decreases-atoms::parens_form
decreases-atoms::parens_form l = 23 * l.depth + 2

abbrev pub decreases-atoms::list_form : goal.decreases-atoms::list_form
decreases-atoms::list_form l = 23 * l.depth + 3

abbrev pub decreases-atoms::single_form : goal.decreases-atoms::single_form
decreases-atoms::single_form l = 23 * l.depth + 4

abbrev pub decreases-atoms::double_form : goal.decreases-atoms::double_form
decreases-atoms::double_form l = 23 * l.depth + 5

abbrev pub decreases-atoms::word_form : goal.decreases-atoms::word_form
decreases-atoms::word_form l = 23 * l.depth + 6

abbrev pub decreases-atoms::other_atom_form : goal.decreases-atoms::other_atom_form
decreases-atoms::other_atom_form l = 23 * l.depth + 7

abbrev pub decreases-atoms::other_atom : goal.decreases-atoms::other_atom
decreases-atoms::other_atom l = 23 * l.depth + 8

abbrev pub decreases-atoms::atom : goal.decreases-atoms::atom
decreases-atoms::atom l = 23 * l.depth + 9

abbrev pub decreases-exprs::prefixed_form : goal.decreases-exprs::prefixed_form
decreases-exprs::prefixed_form l = 23 * l.depth + 10

abbrev pub decreases-exprs::prefixed_atom : goal.decreases-exprs::prefixed_atom
decreases-exprs::prefixed_atom l = 23 * l.depth + 11

abbrev pub decreases-exprs::unary : goal.decreases-exprs::unary
decreases-exprs::unary l = 23 * l.depth + 12

abbrev pub decreases-exprs::term_after : goal.decreases-exprs::term_after
decreases-exprs::term_after l = 23 * l.depth + 13

abbrev pub decreases-exprs::term : goal.decreases-exprs::term
decreases-exprs::term l = 23 * l.depth + 14

abbrev pub decreases-exprs::signs_after : goal.decreases-exprs::signs_after
decreases-exprs::signs_after l = 23 * l.depth + 15

abbrev pub decreases-exprs::sum : goal.decreases-exprs::sum
decreases-exprs::sum l = 23 * l.depth + 16

abbrev pub decreases-exprs::compared_after : goal.decreases-exprs::compared_after
decreases-exprs::compared_after l = 23 * l.depth + 17

abbrev pub decreases-exprs::comp : goal.decreases-exprs::comp
decreases-exprs::comp l = 23 * l.depth + 18

abbrev pub decreases-exprs::ands_after : goal.decreases-exprs::ands_after
decreases-exprs::ands_after l = 23 * l.depth + 19

abbrev pub decreases-exprs::conj : goal.decreases-exprs::conj
decreases-exprs::conj l = 23 * l.depth + 20

abbrev pub decreases-exprs::ors_after : goal.decreases-exprs::ors_after
decreases-exprs::ors_after l = 23 * l.depth + 21

abbrev pub decreases-exprs::expr : goal.decreases-exprs::expr
decreases-exprs::expr l = 23 * l.depth + 22

abbrev pub invariant-exprs::term_after-loop-operator : goal.invariant-exprs::term_after-loop-operator
invariant-exprs::term_after-loop-operator l = spec.term_after l.text allowed l.depth (spec.expr_inside l.text allowed l.depth) l.start l.left l.cursor ≡ spec.term_after l.fn.text allowed l.fn.depth (spec.expr_inside l.fn.text allowed l.fn.depth) l.fn.start l.fn.first l.fn.cursor

abbrev pub decreases-exprs::term_after-loop-operator : goal.decreases-exprs::term_after-loop-operator
decreases-exprs::term_after-loop-operator l = length l.cursor.ahead

abbrev pub invariant-exprs::signs_after-loop-operator : goal.invariant-exprs::signs_after-loop-operator
invariant-exprs::signs_after-loop-operator l = spec.signs_after l.text allowed l.depth (spec.expr_inside l.text allowed l.depth) l.start l.left l.cursor ≡ spec.signs_after l.fn.text allowed l.fn.depth (spec.expr_inside l.fn.text allowed l.fn.depth) l.fn.start l.fn.first l.fn.cursor

abbrev pub decreases-exprs::signs_after-loop-operator : goal.decreases-exprs::signs_after-loop-operator
decreases-exprs::signs_after-loop-operator l = length l.cursor.ahead

abbrev pub invariant-exprs::ands_after-loop-operator : goal.invariant-exprs::ands_after-loop-operator
invariant-exprs::ands_after-loop-operator l = spec.ands_after l.text allowed l.depth (spec.expr_inside l.text allowed l.depth) l.start l.left l.cursor ≡ spec.ands_after l.fn.text allowed l.fn.depth (spec.expr_inside l.fn.text allowed l.fn.depth) l.fn.start l.fn.first l.fn.cursor

abbrev pub decreases-exprs::ands_after-loop-operator : goal.decreases-exprs::ands_after-loop-operator
decreases-exprs::ands_after-loop-operator l = length l.cursor.ahead

abbrev pub invariant-exprs::ors_after-loop-operator : goal.invariant-exprs::ors_after-loop-operator
invariant-exprs::ors_after-loop-operator l = spec.ors_after l.text allowed l.depth (spec.expr_inside l.text allowed l.depth) l.start l.left l.cursor ≡ spec.ors_after l.fn.text allowed l.fn.depth (spec.expr_inside l.fn.text allowed l.fn.depth) l.fn.start l.fn.first l.fn.cursor

abbrev pub decreases-exprs::ors_after-loop-operator : goal.decreases-exprs::ors_after-loop-operator
decreases-exprs::ors_after-loop-operator l = length l.cursor.ahead

abbrev pub invariant-atoms::exprs-loop-alloc : goal.invariant-atoms::exprs-loop-alloc
invariant-atoms::exprs-loop-alloc l = list_after l.items (spec.expr_inside l.text allowed l.depth) l.cursor ≡ spec.exprs (spec.expr_inside l.fn.text allowed l.fn.depth) l.fn.cursor

abbrev pub decreases-atoms::exprs-loop-alloc : goal.decreases-atoms::exprs-loop-alloc
decreases-atoms::exprs-loop-alloc l = length l.cursor.ahead
