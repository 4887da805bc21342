-- The bytes so far, and those of the run that is left.
use Rattle.std.proofs.Common.{◌≡◌, ◌+◌, IsUtf8}
use Rattle.std.specs.Str.Iter.{chars_rest}
use Rattle.enc_lex.proofs.NameLaws.{run}
use Rattle.enc_lex.proofs.names.run_len.Given as goal

abbrev pub invariant-chars : goal.invariant-chars
invariant-chars l = record {
  can_next : (goal.iterator-chars).can_next l.next-iterator;
  is_finite : (goal.iterator-chars).is_finite l.next-iterator;
  utf8 : IsUtf8 (chars_rest l.next-iterator);
  left : l.len + run (chars_rest l.next-iterator) ≡ run l.text;
}
