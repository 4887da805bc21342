use Rattle.std.proofs.Common.{refl, ◌∙◌, ap, Err, Some}
use Rattle.encore_run.specs.Answer.{unread}
use Rattle.encore_run.specs.Lines.{read_line}
use Rattle.encore_run.proofs.Judgements.{answer-of_judgement}
use Rattle.encore_run.proofs.answer.carry_out.Goals as goal

pub returns-in_ok-line-in-Err-Failed-clause-answer : goal.returns-in_ok-line-in-Err-Failed-clause-answer
returns-in_ok-line-in-Err-Failed-clause-answer g c =
    let failed = ap (λ e. Err e) c.in-Err-Failed.field-0-is in
    unread c.args.command.now refl
    (ap (λ r. r.status) c.said.ensures)
    (ap (λ r. r.output) c.said.ensures)
    (c.in-Err-Failed.ensures.cause.failed failed)
    c.requires.fresh
    (c.in-Err-Failed.ensures.named failed ∙ ap (λ name. Some name) c.source.ensures)
    (ap (λ r. r.line) c.said.ensures ∙ c.in_ok-line-in-Err-Failed.ensures ∙ ap read_line c.source-in-Err-Failed.ensures)

pub returns-in-Ok-clause-answer : goal.returns-in-Ok-clause-answer
returns-in-Ok-clause-answer g c =
    answer-of_judgement c.args.command.now _ _ _ _ _ c.deref.result.now c.judge.result
    c.in-Ok.ensures.cause.ok
    (rw (c.deref.ensures.value, ← c.source.ensures) c.in-Ok.ensures.bytes)
    (rw c.source-in-Ok.ensures at c.judge.ensures)
