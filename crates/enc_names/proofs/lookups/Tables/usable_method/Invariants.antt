use Rattle.std.proofs.Common.{◌≡◌, drop}
use Rattle.std.specs.Prelude.{flat_map}
use Rattle.enc_names.specs.Lookups.{trait_method, usable_in}
use Rattle.enc_names.specs.Finding.{find_all}
use Rattle.enc_names.specs.declared.finding.Found.TheVariants.{Nothing}
use Rattle.enc_names.proofs.lookups.Tables.usable_method.Given as goal

abbrev pub invariant-loop-group : goal.invariant-loop-group
invariant-loop-group l = find_all (trait_method l.self l.name) l.found (flat_map usable_in (drop l.group-index l.group-items)) ≡ find_all (trait_method l.self l.name) Nothing (flat_map usable_in l.group-items)
