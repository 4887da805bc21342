use Rattle.std.proofs.Common.{◌≡◌, drop, is_some}
use Rattle.enc_types.specs.Names.{trait_named}
use Rattle.enc_types.specs.Words.{every}
use Rattle.enc_types.proofs.names.Names.are_traits.Given as goal

abbrev pub invariant-loop-name : goal.invariant-loop-name
invariant-loop-name l = every (λ n. is_some (trait_named l.self n.word)) (drop l.name-index l.name-items) ≡ every (λ n. is_some (trait_named l.self n.word)) l.name-items
