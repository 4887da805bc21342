use Rattle.std.proofs.Common.{◌≡◌, drop}
use Rattle.enc_decls.specs.Rules.{distinct_words, param_words}
use Rattle.enc_decls.proofs.Words.{fresh}
use Rattle.enc_decls.proofs.routines.has_distinct_params.Given as goal

abbrev pub invariant-loop-param : goal.invariant-loop-param
invariant-loop-param l = fresh l.seen (param_words (drop l.param-index l.params)) ≡ distinct_words (param_words l.params)
