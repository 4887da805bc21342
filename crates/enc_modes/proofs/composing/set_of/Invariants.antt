use Rattle.enc_modes.proofs.Distinct.{KeyedFrom}
use Rattle.enc_modes.proofs.composing.set_of.Given as goal

abbrev pub invariant-loop-number : goal.invariant-loop-number
invariant-loop-number l = KeyedFrom l.set.keys l.numbers l.number-index
