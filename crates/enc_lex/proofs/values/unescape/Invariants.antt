-- The bytes so far, and those that are left.
use Rattle.std.proofs.Common.{◌≡◌, ◌++◌, false, drop}
use Rattle.enc_lex.specs.Values.{unescaped}
use Rattle.enc_lex.proofs.values.unescape.Given as goal

abbrev pub invariant-loop-byte : goal.invariant-loop-byte
invariant-loop-byte l = l.row ++ unescaped l.is_escaped (drop l.byte-index l.bytes) ≡ unescaped false l.bytes
