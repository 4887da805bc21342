use Rattle.std.proofs.Common.{◌≡◌, map, take}
use Rattle.enc_types.specs.Names.{word_of}
use Rattle.enc_types.specs.Plain.{plain_named}
use Rattle.enc_types.proofs.names.Names.plain.Given as goal

abbrev pub invariant-loop-decl : goal.invariant-loop-decl
invariant-loop-decl l = record { places : l.places ≡ map word_of (take l.decl-index l.decls); rows : l.rows ≡ map plain_named (take l.decl-index l.decls) }
