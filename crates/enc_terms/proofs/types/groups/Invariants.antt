use Rattle.std.proofs.Common.{◌≡◌, length}
use Rattle.enc_lex.specs.declared.kinds.Kind.TheVariants as k
use Rattle.enc_cursor.specs.Place.{is}
use Rattle.enc_cursor.specs.Steps.{many, ◌▹◌}
use Rattle.enc_cursor.specs.Limits.{allowed}
use Rattle.enc_cursor.proofs.Loops.{front_of}
use Rattle.enc_terms.specs.TypeReading as spec
use Rattle.enc_terms.proofs.types.groups.Given as goal

abbrev pub invariant-groups : goal.invariant-groups
invariant-groups l = front_of l.items (many (is k.And) (k.And ▹ spec.group l.text allowed l.is_of_class l.depth) l.cursor) ≡ spec.groups l.fn.text allowed l.fn.is_of_class l.fn.depth l.fn.cursor

abbrev pub decreases-groups : goal.decreases-groups
decreases-groups l = length l.cursor.ahead
