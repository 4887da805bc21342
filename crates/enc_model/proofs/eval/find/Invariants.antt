use Rattle.std.proofs.Common.{◌≡◌, drop}
use Rattle.enc_model.specs.Eval.{found}
use Rattle.enc_model.proofs.eval.find.Given as goal

abbrev pub invariant-loop-word : goal.invariant-loop-word
invariant-loop-word l = found l.name (drop l.word-index l.word-items) ≡ found l.name l.locals.pairs
