use Rattle.enc_types.specs.Names.{trait_named}
use Rattle.enc_types.proofs.There.{Gathered}
use Rattle.enc_types.proofs.names.Names.group_named.Given as goal

abbrev pub invariant-loop-name : goal.invariant-loop-name
invariant-loop-name l = Gathered (λ n. trait_named l.self n.word) l.name-items l.name-index l.row
