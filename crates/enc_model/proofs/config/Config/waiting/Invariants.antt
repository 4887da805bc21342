use Rattle.std.proofs.Common.{◌≡◌, take}
use Rattle.std.specs.Prelude.{count_by}
use Rattle.enc_model.specs.Phase.{waits}
use Rattle.enc_model.proofs.config.Config.waiting.Given as goal

abbrev pub invariant-loop-actor : goal.invariant-loop-actor
invariant-loop-actor l = l.count ≡ count_by waits (take l.actor-index l.actor-items)
