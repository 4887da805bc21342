use Rattle.enc_types.specs.Names.{trait_named}
use Rattle.enc_types.specs.Words.{all_there}
use Rattle.enc_types.proofs.There.{Gathered}
use Rattle.enc_types.proofs.names.Names.groups_named.Given as goal

abbrev pub invariant-loop-group : goal.invariant-loop-group
invariant-loop-group l = Gathered (λ g. all_there (λ n. trait_named l.self n.word) g.names) l.groups l.group-index l.rows
