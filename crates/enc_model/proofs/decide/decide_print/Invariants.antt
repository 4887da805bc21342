use Rattle.std.proofs.Common.{◌≡◌, [], drop}
use Rattle.enc_model.specs.Step.{decide_items}
use Rattle.enc_model.proofs.decide.decide_print.Given as goal

abbrev pub invariant-loop-item : goal.invariant-loop-item
invariant-loop-item l = decide_items l.span l.locals.pairs l.items [] ≡ decide_items l.span l.locals.pairs (drop l.item-index l.items) l.line
