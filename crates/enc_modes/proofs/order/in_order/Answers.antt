use Rattle.std.specs.Prelude.{◌≡◌, IfOk}
use Rattle.std.proofs.Common.{rules, ◌∙◌, ap, subst}
use Rattle.std.proofs.lemmas.List.Sorted.{answers_always}
use Rattle.enc_modes.specs.Order.{Group, sorted, place_of, in_order}
use Rattle.enc_modes.proofs.Sorting.{sort_is_sorted}
use Rattle.enc_modes.proofs.order.in_order.Goals as goal

pub returns : goal.returns
unfolding in_order
returns c = subst (λ z. IfOk c.of.result (λ cap. cap ≡ z))
    (c.from_vec.ensures
    ∙ sort_is_sorted place_of _ _ (c.in_ok-sort_by_key.ensures.sorted place_of (answers_always _ _ _ (λ f a r g h. search rules))) (c.in_ok-sort_by_key.ensures.stable place_of (answers_always _ _ _ (λ f a r g h. search rules)))
    ∙ ap (sorted {A = Group} place_of) (c.into_vec-sorted.ensures ∙ c.in_ok-each_in_order.ensures))
    c.of.ensures
