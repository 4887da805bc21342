use Rattle.std.proofs.Common.{◌≡◌, ◌≤◌, ◌+◌, ◌-◌, length, Some}
use Rattle.enc_io.proofs.Known.{IsReading}
use Rattle.enc_io.proofs.whole.read_all.Given as goal

abbrev pub invariant-loop-piece : goal.invariant-loop-piece
invariant-loop-piece g l = record {
  texts : g.F.Files.texts l.files ≡ g.F.Files.texts l.fn.files;
  begun : g.F.Files.begun l.files ≡ Some l.name;
  counted : g.F.Files.faults l.files ≡ g.F.Files.faults l.fn.files;
  within : length l.bytes.items ≤ l.limit + 1;
  kept : g.F.Files.failed l.files ≡ g.F.Files.failed l.fn.files;
  read : IsReading (g.F.Files.texts l.fn.files) l.name (g.F.Files.rest l.files) l.bytes.items;
}

abbrev pub decreases-loop-piece : goal.decreases-loop-piece
decreases-loop-piece g l = l.limit + 1 - length l.bytes.items
