use Rattle.std.proofs.Common.{arith, ◌∙◌, ap, sym, map}
use Rattle.enc_modes.specs.Order.{sorted}
use Rattle.enc_modes.specs.declared.ty.Alt.{Alt}
use Rattle.enc_modes.proofs.Each.{changed_start, changed_end, changed_step, take_whole}
use Rattle.enc_modes.proofs.order.each_in_order.Goals as goal

pub loop-group-init : goal.loop-group-init
loop-group-init c = sym (changed_start _ _)

pub loop-group-preserved : goal.loop-group-preserved
loop-group-preserved c =
    changed_step _ _ _ _ c.group-item.result _ c.loop-group.invariant (omega arith) c.group-item.is
    (c.in_ok-group.ensures ∙ ap (sorted {A = Alt} (λ a. a.number)) (c.replace-alts.ensures.value ∙ sym c.group-item.is))

pub returns : goal.returns
returns c =
    c.from_vec.ensures
    ∙ take_whole _ _ _ (omega arith)
    ∙ c.loop-group.invariant
    ∙ changed_end _ _ _ (omega arith)
    ∙ ap (map (sorted {A = Alt} (λ a. a.number))) (c.deref_mut-group-items.ensures.value ∙ c.into_vec-groups.ensures)
