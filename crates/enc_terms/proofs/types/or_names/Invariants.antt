use Rattle.std.proofs.Common.{◌≡◌, length}
use Rattle.enc_lex.specs.declared.kinds.Kind.TheVariants as k
use Rattle.enc_cursor.specs.Counts.{trait_}
use Rattle.enc_cursor.specs.Place.{is}
use Rattle.enc_cursor.specs.Steps.{many, ◌▹◌}
use Rattle.enc_cursor.specs.Limits.{allowed}
use Rattle.enc_cursor.proofs.Loops.{front_of}
use Rattle.enc_terms.specs.Names.{name_as}
use Rattle.enc_terms.specs.TypeReading as spec
use Rattle.enc_terms.proofs.types.or_names.Given as goal

abbrev pub invariant-names : goal.invariant-names
invariant-names l = front_of l.names (many (is k.Or) (k.Or ▹ name_as trait_ l.text allowed) l.cursor) ≡ spec.or_names l.fn.text allowed l.fn.cursor

abbrev pub decreases-names : goal.decreases-names
decreases-names l = length l.cursor.ahead
