use Rattle.std.proofs.Common.{sym, arith}
use Rattle.enc_modes.proofs.Distinct.{fresh_more, fresh_twice, read_at}
use Rattle.enc_modes.proofs.composing.are_distinct.Goals as goal

pub returns-then-not-new : goal.returns-then-not-new
returns-then-not-new c =
    let ns = c.args.numbers.now in
    let i = c.loop-number.number-index in
    sym (fresh_twice c.loop-number.seen.keys ns i _ (omega arith) (read_at ns i (omega arith)) c.loop-number.invariant _ c.in_ok-new.ensures.added c.if-not-new.true)

pub loop-number-preserved : goal.loop-number-preserved
loop-number-preserved c =
    let ns = c.args.numbers.now in
    let i = c.loop-number.number-index in
    fresh_more c.loop-number.seen.keys _ ns i _ (omega arith) (read_at ns i (omega arith)) c.loop-number.invariant _ c.in_ok-new.ensures.added c.if-not-new.false c.in_ok-new.ensures.keys
