use Rattle.std.proofs.Common.{◌≡◌, ◌++◌, take, map}
use Rattle.enc_modes.proofs.composing.add_numbers.Given as goal

abbrev pub invariant-loop-alt : goal.invariant-loop-alt
invariant-loop-alt l = l.numbers.items ≡ l.initial.numbers.items ++ map (λ alt. alt.number) (take l.alt-index l.group)
