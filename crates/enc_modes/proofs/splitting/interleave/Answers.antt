use Rattle.std.proofs.Common.{arith, sym, ◌∙◌}
use Rattle.enc_modes.proofs.Parting.{walk_left, walk_right, walk_stuck, walk_end}
use Rattle.enc_modes.proofs.splitting.interleave.Goals as goal
use Rattle.enc_modes.proofs.splitting.interleave.Goals.{in-Some, in_default+in-Some-behind}

pub returns-in_default-behind : goal.returns-in_default-behind
returns-in_default-behind c = walk_stuck c.args.whole.now c.args.left.now c.args.right.now c.loop-group.lefts.now c.loop-group.rights.now c.loop-group.group-index c.group-item.result (omega arith) c.group-item.is c.loop-group.invariant c.in_default.ensures c.in_default-behind.ensures

pub loop-group-preserved : goal.loop-group-preserved
loop-group-preserved c = elim c.match-behind.branch [
  | in-Some w ↦ rw (w.lefts-is, w.rights-is) (walk_left c.args.whole.now c.args.left.now c.args.right.now c.loop-group.lefts.now c.loop-group.rights.now w.in-Some.rest.now c.loop-group.group-index c.group-item.result (omega arith) c.group-item.is c.loop-group.invariant w.in-Some.ensures)
  | in_default+in-Some-behind w ↦ rw (w.lefts-is, w.rights-is) (walk_right c.args.whole.now c.args.left.now c.args.right.now c.loop-group.lefts.now c.loop-group.rights.now w.in-Some-behind.rest.now c.loop-group.group-index c.group-item.result (omega arith) c.group-item.is c.loop-group.invariant w.in-Some-behind.ensures)
]

pub returns-then-is_empty : goal.returns-then-is_empty
returns-then-is_empty c = c.is_empty-then-is_empty.ensures ∙ walk_end c.args.whole.now c.args.left.now c.args.right.now c.loop-group.lefts.now c.loop-group.rights.now c.loop-group.group-index (omega arith) c.loop-group.invariant (sym c.is_empty.ensures ∙ c.if-is_empty.true)
