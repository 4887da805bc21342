use Rattle.std.proofs.Common.{rules, ◌∙◌, ap}
use Rattle.std.proofs.lemmas.List.Sorted.{answers_always}
use Rattle.enc_modes.specs.Order.{sorted}
use Rattle.enc_modes.specs.declared.ty.Alt.{Alt}
use Rattle.enc_modes.proofs.Sorting.{sort_is_sorted}
use Rattle.enc_modes.proofs.order.group_in_order.Goals as goal

pub returns : goal.returns
returns c =
    c.from_vec.ensures
    ∙ sort_is_sorted (λ a. a.number) _ _ (c.in_ok-sort_by_key.ensures.sorted (λ a. a.number) (answers_always _ _ _ (λ f a r g h. search rules))) (c.in_ok-sort_by_key.ensures.stable (λ a. a.number) (answers_always _ _ _ (λ f a r g h. search rules)))
    ∙ ap (sorted {A = Alt} (λ a. a.number)) c.into_vec-alts.ensures
