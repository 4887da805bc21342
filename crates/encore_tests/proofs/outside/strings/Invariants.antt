use Rattle.std.proofs.Common.{◌≡◌, map, string_bytes, take}
use Rattle.encore_tests.specs.Outside.{words_in}
use Rattle.encore_tests.proofs.outside.strings.Given as goal

abbrev pub invariant-loop-word : goal.invariant-loop-word
invariant-loop-word l = map string_bytes l.strings.items ≡ words_in (take l.word-index l.words)
