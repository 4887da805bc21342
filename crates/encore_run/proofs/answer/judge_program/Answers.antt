use Rattle.std.proofs.Common.{◌∙◌, Some, ap, subst}
use Rattle.enc_ast.specs.declared.rules.Fail.{Fail}
use Rattle.enc_check.specs.Answers.{ChecksFault}
use Rattle.encore_run.proofs.Judgements.{judgement-of_ill_typed}
use Rattle.encore_run.proofs.answer.judge_program.Goals as goal

pub returns-in_ok-line-in-Err-Reject : goal.returns-in_ok-line-in-Err-Reject
returns-in_ok-line-in-Err-Reject c =
    judgement-of_ill_typed c.args.file.now c.args.text.now c.args.schedule.now.pairs c.said.result c.args.program c.in-Err-Reject.broken c.requires.spells
    (subst (λ (f : Fail). ChecksFault (Some f) c.args.program) c.in-Err-Reject.field-0-is c.in-Err-Reject.ensures.tells)
    c.requires.fresh
    (ap (λ r. r.status) c.said.ensures)
    (ap (λ r. r.output) c.said.ensures)
    (ap (λ r. r.line) c.said.ensures ∙ c.in_ok-line-in-Err-Reject.ensures)
