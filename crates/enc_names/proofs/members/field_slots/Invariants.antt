use Rattle.std.proofs.Common.{◌≡◌, map, take}
use Rattle.enc_names.specs.Members.{field_slot}
use Rattle.enc_names.proofs.members.field_slots.Given as goal

abbrev pub invariant-loop-field : goal.invariant-loop-field
invariant-loop-field l = l.slots ≡ map (field_slot l.names) (take l.field-index l.fields)
