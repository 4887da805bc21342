use Rattle.std.proofs.Common.{◌≡◌, ◌-◌, length}
use Rattle.enc_model.specs.Phase.{least_ready, first_ready}
use Rattle.enc_model.proofs.plain.Plain.least.Given as goal

abbrev pub invariant-loop-number : goal.invariant-loop-number
invariant-loop-number l = least_ready l.self-inside.program l.self-inside.config ≡ first_ready l.self-inside.program l.self-inside.config l.number (length l.self-inside.config.actors - l.number)
