use Rattle.std.proofs.Common.{◌≡◌, map, take}
use Rattle.enc_names.proofs.members.slot_words.Given as goal

abbrev pub invariant-loop-slot : goal.invariant-loop-slot
invariant-loop-slot l = l.words ≡ map (λ s. s.word) (take l.slot-index l.slots)
