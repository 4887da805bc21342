use Rattle.std.proofs.Common.{◌≡◌, length}
use Rattle.enc_lex.specs.declared.kinds.Kind.TheVariants as k
use Rattle.enc_cursor.specs.Place.{is}
use Rattle.enc_cursor.specs.Steps.{many}
use Rattle.enc_cursor.specs.Limits.{allowed}
use Rattle.enc_cursor.proofs.Loops.{front_of}
use Rattle.enc_parse.specs.DeclReading as spec
use Rattle.enc_parse.proofs.members.fields.Given as goal

abbrev pub invariant-fields : goal.invariant-fields
invariant-fields l = front_of l.items (many (is k.Name) (spec.field l.text allowed l.depth) l.cursor) ≡ spec.fields l.fn.text allowed l.fn.depth l.fn.cursor

abbrev pub decreases-fields : goal.decreases-fields
decreases-fields l = length l.cursor.ahead
