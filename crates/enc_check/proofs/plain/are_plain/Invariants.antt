use Rattle.enc_check.proofs.Printing.{PrintRest}
use Rattle.enc_check.proofs.plain.are_plain.Given as goal

abbrev pub invariant-loop-value : goal.invariant-loop-value
invariant-loop-value l = PrintRest l.context l.env l.values l.plain l.value-index
