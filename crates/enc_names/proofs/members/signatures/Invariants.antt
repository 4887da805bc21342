use Rattle.std.proofs.Common.{◌≡◌, map, take}
use Rattle.enc_names.specs.Members.{signature}
use Rattle.enc_names.proofs.members.signatures.Given as goal

abbrev pub invariant-loop-method : goal.invariant-loop-method
invariant-loop-method l = l.list ≡ map (signature l.names) (take l.method-index l.methods)
