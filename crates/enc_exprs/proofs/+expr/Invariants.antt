-- Each call judges a smaller expression or is nearer to one that does, and what a loop has still to judge gives the whole.
use Rattle.std.proofs.Common.{◌+◌, ◌*◌, max}
use Rattle.std.specs.Option.{option_copied}
use Rattle.enc_ast.specs.declared.Expr.{size-Expr}
use Rattle.enc_premises.proofs.Loops.{Rest}
use Rattle.enc_exprs.proofs.Elements.{element}
use Rattle.enc_exprs.proofs.+expr.Given as goal

abbrev pub invariant-lists::all_match-loop-element : goal.invariant-lists::all_match-loop-element
invariant-lists::all_match-loop-element l = Rest (element l.names l.env (option_copied l.first)) l.elements l.element-index

abbrev pub decreases-exprs::expr_type : goal.decreases-exprs::expr_type
decreases-exprs::expr_type l = size-Expr l.expr.now * 8

abbrev pub decreases-operands::operand : goal.decreases-operands::operand
decreases-operands::operand l = size-Expr l.expr.now * 8 + 1

abbrev pub decreases-operands::matching : goal.decreases-operands::matching
decreases-operands::matching l = size-Expr l.expr.now * 8 + 1

abbrev pub decreases-exprs::negative : goal.decreases-exprs::negative
decreases-exprs::negative l = size-Expr l.inner.now * 8 + 2

abbrev pub decreases-exprs::not : goal.decreases-exprs::not
decreases-exprs::not l = size-Expr l.inner.now * 8 + 2

abbrev pub decreases-exprs::length : goal.decreases-exprs::length
decreases-exprs::length l = size-Expr l.inner.now * 8 + 2

abbrev pub decreases-exprs::is_null : goal.decreases-exprs::is_null
decreases-exprs::is_null l = size-Expr l.inner.now * 8 + 2

abbrev pub decreases-operands::two : goal.decreases-operands::two
decreases-operands::two l = max (size-Expr l.left.now) (size-Expr l.right.now) * 8 + 2

abbrev pub decreases-operands::alike : goal.decreases-operands::alike
decreases-operands::alike l = max (size-Expr l.left.now) (size-Expr l.right.now) * 8 + 2

abbrev pub decreases-operands::binary : goal.decreases-operands::binary
decreases-operands::binary l = max (size-Expr l.left.now) (size-Expr l.right.now) * 8 + 3

abbrev pub decreases-lists::at : goal.decreases-lists::at
decreases-lists::at l = max (size-Expr l.list.now) (size-Expr l.number.now) * 8 + 2

abbrev pub decreases-lists::append : goal.decreases-lists::append
decreases-lists::append l = max (size-Expr l.list.now) (size-Expr l.element.now) * 8 + 2

abbrev pub decreases-lists::all_match : goal.decreases-lists::all_match
decreases-lists::all_match l = goal.size-lists::all_match l * 8 + 5

abbrev pub decreases-lists::list : goal.decreases-lists::list
decreases-lists::list l = goal.size-lists::list l * 8 + 6
