use Rattle.std.proofs.Common.{◌≡◌, map, take}
use Rattle.enc_names.proofs.members.signature_words.Given as goal

abbrev pub invariant-loop-signature : goal.invariant-loop-signature
invariant-loop-signature l = l.words ≡ map (λ s. s.word) (take l.signature-index l.signatures)
