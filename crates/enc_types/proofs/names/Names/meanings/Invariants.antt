use Rattle.std.proofs.Common.{◌≡◌, map, take}
use Rattle.enc_types.specs.Names.{trait_named}
use Rattle.enc_types.specs.Plain.{named_by}
use Rattle.enc_types.proofs.names.Names.meanings.Given as goal

abbrev pub invariant-loop-decl : goal.invariant-loop-decl
invariant-loop-decl l = l.rows ≡ map (named_by (trait_named l.self)) (take l.decl-index l.decls)
