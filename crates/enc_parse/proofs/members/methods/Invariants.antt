use Rattle.std.proofs.Common.{◌≡◌, length}
use Rattle.enc_lex.specs.declared.kinds.Kind.TheVariants as k
use Rattle.enc_cursor.specs.Place.{is}
use Rattle.enc_cursor.specs.Steps.{many}
use Rattle.enc_cursor.specs.Limits.{allowed}
use Rattle.enc_cursor.proofs.Loops.{front_of}
use Rattle.enc_parse.specs.DeclReading as spec
use Rattle.enc_parse.proofs.members.methods.Given as goal

abbrev pub invariant-methods : goal.invariant-methods
invariant-methods l = front_of l.items (many (is k.Def) (spec.routine l.text allowed k.Def l.depth) l.cursor) ≡ spec.methods l.fn.text allowed l.fn.depth l.fn.cursor

abbrev pub decreases-methods : goal.decreases-methods
decreases-methods l = length l.cursor.ahead
