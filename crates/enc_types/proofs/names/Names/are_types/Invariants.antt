use Rattle.std.proofs.Common.{◌≡◌, drop}
use Rattle.enc_types.specs.Names.{found}
use Rattle.enc_types.specs.Words.{every}
use Rattle.enc_types.specs.Written.{is_type}
use Rattle.enc_types.proofs.names.Names.are_types.Given as goal

abbrev pub invariant-loop-name : goal.invariant-loop-name
invariant-loop-name l = every (λ n. is_type (found l.self n.word)) (drop l.name-index l.name-items) ≡ every (λ n. is_type (found l.self n.word)) l.name-items
