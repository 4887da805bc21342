use Rattle.std.proofs.Common.{arith, ◌∙◌, ◌++◌, map, ap}
use Rattle.enc_modes.proofs.Distinct.{traits_more}
use Rattle.enc_modes.proofs.composing.traits_of.Goals as goal

pub loop-group-preserved : goal.loop-group-preserved
loop-group-preserved c =
    traits_more c.args.groups.now c.loop-group.group-index c.group-item.result _ _ (omega arith) c.group-item.is c.loop-group.invariant
    (c.in_ok-add_numbers.ensures ∙ ap (λ z. c.loop-group.numbers.items ++ map (λ a. a.number) z) c.as_slice.ensures)
