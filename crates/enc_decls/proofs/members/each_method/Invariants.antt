use Rattle.enc_decls.specs.Rules.{method_premises}
use Rattle.enc_decls.specs.Nodes.{rule_of}
use Rattle.enc_decls.proofs.Loops.{After}
use Rattle.enc_decls.proofs.members.each_method.Given as goal

abbrev pub invariant-loop-method : goal.invariant-loop-method
invariant-loop-method l = After (λ m. m.name.word) (method_premises l.names (rule_of l.owner)) l.methods l.method-index l.seen
