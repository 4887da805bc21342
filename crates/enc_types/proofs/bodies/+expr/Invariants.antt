use Rattle.std.proofs.Common.{◌+◌, ◌*◌, max}
use Rattle.enc_ast.specs.declared.Expr.{size-Expr}
use Rattle.enc_premises.proofs.Loops.{Rest}
use Rattle.enc_types.specs.Bodies.{expr_types}
use Rattle.enc_types.proofs.bodies.+expr.Given as goal

abbrev pub invariant-exprs_types-loop-expr : goal.invariant-exprs_types-loop-expr
invariant-exprs_types-loop-expr l = Rest (expr_types l.names) l.exprs l.expr-index

abbrev pub decreases-expr_types : goal.decreases-expr_types
decreases-expr_types l = size-Expr l.expr.now * 8

abbrev pub decreases-exprs_types : goal.decreases-exprs_types
decreases-exprs_types l = goal.size-exprs_types l * 8 + 5

abbrev pub decreases-two_exprs : goal.decreases-two_exprs
decreases-two_exprs l = max (size-Expr l.left.now) (size-Expr l.right.now) * 8 + 6
