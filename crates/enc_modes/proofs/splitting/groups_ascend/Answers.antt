use Rattle.std.specs.Prelude.{nat_lt}
use Rattle.std.proofs.Common.{rules}
use Rattle.std.proofs.lemmas.List.Sorted.{answers_always}
use Rattle.enc_modes.specs.Order.{place_of}
use Rattle.enc_modes.proofs.Ascending.{ascends_is}
use Rattle.enc_modes.proofs.splitting.groups_ascend.Goals as goal

pub returns : goal.returns
returns c = ascends_is place_of c.args.groups.now c.is_sorted_by.result (c.is_sorted_by.ensures.cases (λ g h. nat_lt (place_of g) (place_of h)) (answers_always _ _ _ (λ f a r g h. search rules)))
