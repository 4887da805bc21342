-- What is left to read ends where the whole does.
use Rattle.std.proofs.Common.{◌≡◌, ◌+◌, false, drop}
use Rattle.enc_lex.specs.Reading.{text_end}
use Rattle.enc_lex.proofs.texts.text_len.Given as goal

abbrev pub invariant-loop-at : goal.invariant-loop-at
invariant-loop-at l = text_end (l.at + 1) l.is_escaped (drop l.at l.bytes) ≡ text_end 1 false l.bytes
