use Rattle.std.proofs.Common.{◌≡◌, length}
use Rattle.enc_cursor.specs.Steps.{many, some}
use Rattle.enc_cursor.specs.Limits.{allowed}
use Rattle.enc_cursor.proofs.Loops.{front_of}
use Rattle.enc_parse.specs.DeclReading as spec
use Rattle.enc_parse.proofs.decls.declarations.Given as goal

abbrev pub invariant-decls : goal.invariant-decls
invariant-decls l = front_of l.items (many some (spec.declaration l.text allowed l.depth) l.cursor) ≡ spec.declarations l.fn.text allowed l.fn.depth l.fn.cursor

abbrev pub decreases-decls : goal.decreases-decls
decreases-decls l = length l.cursor.ahead
