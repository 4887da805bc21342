use Rattle.std.proofs.Common.{◌≡◌, map, take}
use Rattle.enc_names.specs.Members.{param_slot}
use Rattle.enc_names.proofs.members.param_slots.Given as goal

abbrev pub invariant-loop-param : goal.invariant-loop-param
invariant-loop-param l = l.slots ≡ map (param_slot l.names) (take l.param-index l.params)
