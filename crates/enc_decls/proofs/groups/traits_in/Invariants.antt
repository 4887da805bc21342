use Rattle.std.proofs.Common.{◌≡◌, ◌++◌, drop}
use Rattle.enc_decls.specs.Conflicts.{traits_in}
use Rattle.enc_decls.proofs.groups.traits_in.Given as goal

abbrev pub invariant-loop-name : goal.invariant-loop-name
invariant-loop-name l = l.alts ++ traits_in l.names (drop l.name-index l.words) ≡ traits_in l.names l.words
