use Rattle.std.proofs.Common.{◌≡◌}
use Rattle.enc_ast.specs.Place.{line_of, column_of}
use Rattle.enc_ast.proofs.lines.place.Given as goal

abbrev pub invariant-loop-byte : goal.invariant-loop-byte
invariant-loop-byte l = record {
  line : l.line ≡ line_of l.byte-items l.byte-index;
  column : l.column ≡ column_of l.byte-items l.byte-index;
}
