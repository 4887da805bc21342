use Rattle.enc_modes.proofs.Distinct.{FreshFrom}
use Rattle.enc_modes.proofs.composing.are_distinct.Given as goal

abbrev pub invariant-loop-number : goal.invariant-loop-number
invariant-loop-number l = FreshFrom l.seen.keys l.numbers l.number-index
