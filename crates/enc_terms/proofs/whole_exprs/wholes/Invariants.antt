-- What the loop has still to read gives the whole.
use Rattle.std.proofs.Common.{◌≡◌, length}
use Rattle.enc_cursor.specs.Limits.{allowed}
use Rattle.enc_cursor.proofs.Loops.{list_after}
use Rattle.enc_terms.specs.ExprReading as spec
use Rattle.enc_terms.proofs.whole_exprs.wholes.Given as goal

abbrev pub invariant-loop-alloc : goal.invariant-loop-alloc
invariant-loop-alloc l = list_after l.items (spec.whole l.text allowed l.depth) l.cursor ≡ spec.wholes l.fn.text allowed l.fn.depth l.fn.cursor

abbrev pub decreases-loop-alloc : goal.decreases-loop-alloc
decreases-loop-alloc l = length l.cursor.ahead
