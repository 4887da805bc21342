use Rattle.std.proofs.Common.{◌≡◌, ◌++◌, drop}
use Rattle.enc_decls.specs.Conflicts.{known_fields}
use Rattle.enc_decls.proofs.known.entries_of.Given as goal

abbrev pub invariant-loop-field : goal.invariant-loop-field
invariant-loop-field l = l.entries ++ known_fields l.names (drop l.field-index l.fields) ≡ known_fields l.names l.fields
