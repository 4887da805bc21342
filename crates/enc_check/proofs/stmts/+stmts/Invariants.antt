-- Each call judges smaller statements or is nearer to one that does, and what a loop has still to judge gives the whole.
use Rattle.std.proofs.Common.{ℕ, ◌+◌, ◌*◌, max, Option, Some, None, List}
use Rattle.std.specs.Option.{option_copied}
use denote.Param.Weighed.{most}
use Rattle.enc_ast.proofs.Stmt.TheLaws.{the_size}
use Rattle.enc_ast.specs.declared.Stmt.{Stmt}
use Rattle.enc_check.proofs.Blocks.{Rest}
use Rattle.enc_check.proofs.stmts.+stmts.Given as goal

abbrev most_of : Option (List Stmt) → ℕ
most_of None = 0
most_of (Some xs) = most the_size xs

abbrev pub invariant-in_order-loop-judged : goal.invariant-in_order-loop-judged
invariant-in_order-loop-judged l = Rest l.context l.fn.env l.stmts l.env l.judged-index

abbrev pub decreases-in_order : goal.decreases-in_order
decreases-in_order l = most the_size l.stmts.now * 8 + 1

abbrev pub decreases-block : goal.decreases-block
decreases-block l = most the_size l.stmts.now * 8 + 2

abbrev pub decreases-other_block : goal.decreases-other_block
decreases-other_block l = most_of (option_copied l.stmts) * 8 + 3

abbrev pub decreases-branch : goal.decreases-branch
decreases-branch l = max (most the_size l.then.now) (most_of (option_copied l.other)) * 8 + 4

abbrev pub decreases-repeat : goal.decreases-repeat
decreases-repeat l = most the_size l.body.now * 8 + 4

abbrev pub decreases-together : goal.decreases-together
decreases-together l = most the_size l.body.now * 8 + 4

abbrev pub decreases-both : goal.decreases-both
decreases-both l = max (most the_size l.one.now) (most the_size l.two.now) * 8 + 4

abbrev pub decreases-stmt : goal.decreases-stmt
decreases-stmt l = the_size l.judged.now * 8
