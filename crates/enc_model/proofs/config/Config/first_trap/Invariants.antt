use Rattle.std.proofs.Common.{◌≡◌, drop}
use Rattle.enc_model.specs.Phase.{first_trap, first_trap_from}
use Rattle.enc_model.proofs.config.Config.first_trap.Given as goal

abbrev pub invariant-loop-number : goal.invariant-loop-number
invariant-loop-number l = first_trap l.self ≡ first_trap_from l.number (drop l.number l.actor-items)
