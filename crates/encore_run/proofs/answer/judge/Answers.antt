use Rattle.std.proofs.Common.{◌∙◌, ap, subst}
use Rattle.enc_ast.specs.declared.rules.Fail.{Fail}
use Rattle.enc_parse.specs.Answers.{Fails}
use Rattle.encore_run.proofs.Judgements.{judgement-of_refusal}
use Rattle.encore_run.proofs.answer.judge.Goals as goal

pub returns-in_ok-line-in-Err-Reject : goal.returns-in_ok-line-in-Err-Reject
returns-in_ok-line-in-Err-Reject c =
    judgement-of_refusal c.args.file.now c.args.text.now c.args.schedule.now.pairs c.said.result c.in-Err-Reject.reject
    (subst (λ (f : Fail). Fails c.args.text.now f) c.in-Err-Reject.field-0-is c.in-Err-Reject.ensures.refused)
    c.requires.fresh
    (ap (λ r. r.status) c.said.ensures)
    (ap (λ r. r.output) c.said.ensures)
    (ap (λ r. r.line) c.said.ensures ∙ c.in_ok-line-in-Err-Reject.ensures)
