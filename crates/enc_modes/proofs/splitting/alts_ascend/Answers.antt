use Rattle.std.specs.Prelude.{nat_lt}
use Rattle.std.proofs.Common.{rules}
use Rattle.std.proofs.lemmas.List.Sorted.{answers_always}
use Rattle.enc_modes.proofs.Ascending.{ascends_is}
use Rattle.enc_modes.proofs.splitting.alts_ascend.Goals as goal

pub returns : goal.returns
returns c = ascends_is (λ a. a.number) c.args.alts.now c.is_sorted_by.result (c.is_sorted_by.ensures.cases (λ a b. nat_lt a.number b.number) (answers_always _ _ _ (λ f a r g h. search rules)))
