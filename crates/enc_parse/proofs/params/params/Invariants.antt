use Rattle.std.proofs.Common.{◌≡◌, length}
use Rattle.enc_lex.specs.declared.kinds.Kind.TheVariants as k
use Rattle.enc_cursor.specs.Place.{is}
use Rattle.enc_cursor.specs.Steps.{many, ◌▹◌}
use Rattle.enc_cursor.specs.Limits.{allowed}
use Rattle.enc_cursor.proofs.Loops.{front_of}
use Rattle.enc_parse.specs.DeclReading as spec
use Rattle.enc_parse.proofs.params.params.Given as goal

abbrev pub invariant-params : goal.invariant-params
invariant-params l = front_of l.items (many (is k.Comma) (k.Comma ▹ spec.param l.text allowed l.depth) l.cursor) ≡ spec.params l.fn.text allowed l.fn.depth l.fn.cursor

abbrev pub decreases-params : goal.decreases-params
decreases-params l = length l.cursor.ahead
