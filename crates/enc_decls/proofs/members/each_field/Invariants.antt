use Rattle.enc_decls.specs.Rules.{field_premises}
use Rattle.enc_decls.specs.Nodes.{rule_of, fits_in}
use Rattle.enc_decls.proofs.Loops.{After}
use Rattle.enc_decls.proofs.members.each_field.Given as goal

abbrev pub invariant-loop-field : goal.invariant-loop-field
invariant-loop-field l = After (λ f. f.name.word) (field_premises l.names (rule_of l.owner) (fits_in l.owner)) l.fields l.field-index l.seen
