use Rattle.std.proofs.Common.{rules, tests, ◌∙◌}
use Rattle.std.proofs.lemmas.Iterator.{YieldsList-from_slice}
use Rattle.std.proofs.lemmas.Iterator.Search.{all_from_yields_List}
use Rattle.enc_modes.specs.Modes.{can_join}
use Rattle.enc_modes.proofs.Distinct.{all_join_is}
use Rattle.enc_modes.proofs.composing.all_join.Goals as goal

pub returns : goal.returns
returns c = all_from_yields_List can_join _ _ _ c.all.ensures.ran (YieldsList-from_slice c.args.groups.now cc) (λ x b q k. search (rules, tests)) ∙ all_join_is c.args.groups.now
