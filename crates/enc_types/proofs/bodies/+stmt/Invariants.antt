use Rattle.std.proofs.Common.{ℕ, ◌+◌, ◌*◌, max, Option, Some, None, List}
use Rattle.std.specs.Option.{option_copied}
use denote.Param.Weighed.{most}
use Rattle.enc_ast.proofs.Stmt.TheLaws.{the_size}
use Rattle.enc_ast.specs.declared.Stmt.{Stmt}
use Rattle.enc_premises.proofs.Loops.{Rest}
use Rattle.enc_types.specs.Bodies.{stmt_types}
use Rattle.enc_types.proofs.bodies.+stmt.Given as goal

abbrev most_of : Option (List Stmt) → ℕ
most_of None = 0
most_of (Some xs) = most the_size xs

abbrev pub invariant-body_types-loop-stmt : goal.invariant-body_types-loop-stmt
invariant-body_types-loop-stmt l = Rest (stmt_types l.names) l.body l.stmt-index

abbrev pub decreases-body_types : goal.decreases-body_types
decreases-body_types l = most the_size l.body.now * 8 + 1

abbrev pub decreases-else_types : goal.decreases-else_types
decreases-else_types l = most_of (option_copied l.block) * 8 + 3

abbrev pub decreases-if_types : goal.decreases-if_types
decreases-if_types l = max (most the_size l.block.now) (most_of (option_copied l.other)) * 8 + 4

abbrev pub decreases-block_types : goal.decreases-block_types
decreases-block_types l = most the_size l.block.now * 8 + 4

abbrev pub decreases-two_blocks : goal.decreases-two_blocks
decreases-two_blocks l = max (most the_size l.block.now) (most the_size l.other.now) * 8 + 4

abbrev pub decreases-stmt_types : goal.decreases-stmt_types
decreases-stmt_types l = the_size l.stmt.now * 8
