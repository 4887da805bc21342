use Rattle.std.proofs.Common.{◌≡◌, map, take}
use Rattle.enc_names.specs.Members.{members_of}
use Rattle.enc_names.proofs.lookups.Tables.of.Given as goal

abbrev pub invariant-loop-decl : goal.invariant-loop-decl
invariant-loop-decl l = l.members ≡ map (members_of l.names) (take l.decl-index l.decls)
