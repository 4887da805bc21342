use Rattle.enc_sources.proofs.Loops.{Rest}
use Rattle.enc_sources.proofs.calls.each_argument.Given as goal

abbrev pub invariant-loop-at : goal.invariant-loop-at
invariant-loop-at l = Rest l.names l.fn.env l.params l.args l.env l.at
