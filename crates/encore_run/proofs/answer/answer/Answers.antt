use Rattle.std.proofs.Common.{sym, ◌∙◌}
use Rattle.encore_run.proofs.Judgements.{answer-asked}
use Rattle.encore_run.proofs.answer.answer.Goals as goal

pub returns-clause-answer : goal.returns-clause-answer
returns-clause-answer g c = answer-asked _ _ _ _ _ _ _ _ (sym c.in-Ok-Some.field-0-is ∙ c.in-Ok-Some.ensures) c.in-Ok.ensures.answer
