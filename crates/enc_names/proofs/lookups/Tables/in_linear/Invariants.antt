use Rattle.std.proofs.Common.{◌≡◌, drop}
use Rattle.std.specs.Prelude.{filter}
use Rattle.enc_modes.specs.Modes.{linear_mode}
use Rattle.enc_names.specs.Lookups.{trait_method, numbers}
use Rattle.enc_names.specs.Finding.{find_all}
use Rattle.enc_names.proofs.lookups.Tables.in_linear.Given as goal

abbrev pub invariant-loop-alt : goal.invariant-loop-alt
invariant-loop-alt l = find_all (trait_method l.self l.name) l.found (numbers (filter (λ a. linear_mode a.mode) (drop l.alt-index l.alts))) ≡ find_all (trait_method l.self l.name) l.initial.found (numbers (filter (λ a. linear_mode a.mode) l.alts))
