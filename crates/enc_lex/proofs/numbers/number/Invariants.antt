-- The value of the digits so far.
use Rattle.std.proofs.Common.{◌≡◌, min, take}
use Rattle.enc_lex.specs.Values.{value_of}
use Rattle.enc_lex.proofs.numbers.number.Given as goal

abbrev pub invariant-loop-digit : goal.invariant-loop-digit
invariant-loop-digit l = l.value ≡ min (value_of (take l.digit-index l.digits)) 18446744073709551615
