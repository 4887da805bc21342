use Rattle.std.proofs.Common.{length, ap, arith, length-append, length-take}
use Rattle.enc_io.proofs.Known.{IsReading-more, IsReading-end, IsReading-full}
use Rattle.enc_io.proofs.whole.read_all.Goals as goal

pub loop-piece-preserved : goal.loop-piece-preserved
loop-piece-preserved g c =
    let piece = c.in_ok-read_more.ensures.more in
    record {
      texts = cc (c.read_more.ensures.texts, c.loop-piece.invariant.texts);
      begun = cc (c.in_ok-read_more.ensures.begun, c.loop-piece.invariant.begun);
      counted = cc (c.in_ok-read_more.ensures.cause.ok, c.loop-piece.invariant.counted);
      within = omega (arith, simp length-append at (ap length piece.appended), simp length-take at piece.few);
      kept = cc (c.read_more.ensures.kept c.in_ok-read_more.ensures.cause.ok, c.loop-piece.invariant.kept);
      read = IsReading-more _ _ _ _ _ _ _ _ c.loop-piece.invariant.read piece;
    }

pub returns-clause-bytes : goal.returns-clause-bytes
returns-clause-bytes g c = IsReading-full _ _ _ _ _ c.loop-piece.invariant.read (omega arith)

pub returns-then-not-branch-clause-bytes : goal.returns-then-not-branch-clause-bytes
returns-then-not-branch-clause-bytes g c =
    IsReading-end _ _ _ _ _ _ _ _ _ c.loop-piece.invariant.read c.in_ok-read_more.ensures.more c.if-not-branch.true (omega arith)
