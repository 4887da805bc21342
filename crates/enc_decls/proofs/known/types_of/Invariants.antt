use Rattle.enc_decls.proofs.Agreeing.{IndexedTo}
use Rattle.enc_decls.proofs.known.types_of.Given as goal

abbrev pub invariant-loop-entry : goal.invariant-loop-entry
invariant-loop-entry l = IndexedTo l.types l.entries l.entry-index
