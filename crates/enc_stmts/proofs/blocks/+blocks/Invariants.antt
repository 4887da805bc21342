use Rattle.std.proofs.Common.{◌≡◌, ◌+◌, ◌*◌, length}
use Rattle.enc_cursor.specs.Limits.{allowed}
use Rattle.enc_cursor.proofs.Loops.{front_of}
use Rattle.enc_stmts.specs.StmtReading as spec
use Rattle.enc_stmts.proofs.blocks.+blocks.Given as goal

abbrev pub decreases-stmts_inside : goal.decreases-stmts_inside
decreases-stmts_inside l = 11 * l.depth

abbrev pub decreases-block : goal.decreases-block
decreases-block l = 11 * l.depth + 1

abbrev pub decreases-inner_block : goal.decreases-inner_block
decreases-inner_block l = 11 * l.depth + 2

abbrev pub decreases-else_part : goal.decreases-else_part
decreases-else_part l = 11 * l.depth + 3

abbrev pub decreases-packed : goal.decreases-packed
decreases-packed l = 11 * l.depth + 4

abbrev pub decreases-if_form : goal.decreases-if_form
decreases-if_form l = 11 * l.depth + 5

abbrev pub decreases-while_form : goal.decreases-while_form
decreases-while_form l = 11 * l.depth + 5

abbrev pub decreases-atomic_form : goal.decreases-atomic_form
decreases-atomic_form l = 11 * l.depth + 5

abbrev pub decreases-pack_form : goal.decreases-pack_form
decreases-pack_form l = 11 * l.depth + 5

abbrev pub decreases-stmt_form : goal.decreases-stmt_form
decreases-stmt_form l = 11 * l.depth + 6

abbrev pub decreases-stmt : goal.decreases-stmt
decreases-stmt l = 11 * l.depth + 7

abbrev pub decreases-stmts : goal.decreases-stmts
decreases-stmts l = 11 * l.depth + 8

abbrev pub invariant-stmts-loop-alloc : goal.invariant-stmts-loop-alloc
invariant-stmts-loop-alloc l = front_of l.items (spec.stmts l.text allowed l.depth l.cursor) ≡ spec.stmts l.text allowed l.depth l.fn.cursor

abbrev pub decreases-stmts-loop-alloc : goal.decreases-stmts-loop-alloc
decreases-stmts-loop-alloc l = length l.cursor.ahead
