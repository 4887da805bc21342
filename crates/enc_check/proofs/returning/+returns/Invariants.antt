-- Each call looks at smaller statements or is nearer to one that does.
use Rattle.std.proofs.Common.{ℕ, ◌+◌, ◌*◌, max, Option, Some, None, List}
use Rattle.std.specs.Option.{option_copied}
use denote.Param.Weighed.{most}
use Rattle.enc_ast.proofs.Stmt.TheLaws.{the_size}
use Rattle.enc_ast.specs.declared.Stmt.{Stmt}
use Rattle.enc_check.proofs.returning.+returns.Given as goal

abbrev most_of : Option (List Stmt) → ℕ
most_of None = 0
most_of (Some xs) = most the_size xs

abbrev pub decreases-last_returns : goal.decreases-last_returns
decreases-last_returns l = most the_size l.stmts.now * 8 + 1

abbrev pub decreases-other_returns : goal.decreases-other_returns
decreases-other_returns l = most_of (option_copied l.stmts) * 8 + 3

abbrev pub decreases-if_returns : goal.decreases-if_returns
decreases-if_returns l = max (most the_size l.then.now) (most_of (option_copied l.other)) * 8 + 4

abbrev pub decreases-both_return : goal.decreases-both_return
decreases-both_return l = max (most the_size l.one.now) (most the_size l.two.now) * 8 + 4

abbrev pub decreases-returns : goal.decreases-returns
decreases-returns l = the_size l.stmt.now * 8
