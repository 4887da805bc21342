use Rattle.std.proofs.Common.{◌∙◌, ap, sym}
use Rattle.enc_ast.specs.declared.Program.{Program}
use Rattle.enc_ast.specs.declared.Rule.TheVariants.{Stage}
use Rattle.enc_ast.specs.Thin.{is_thin}
use Rattle.encore_run.specs.Lines.{reject_line}
use Rattle.encore_run.proofs.Judgements.{judgement-of_run, judgement-of_stage}
use Rattle.encore_run.proofs.answer.judge_checked.Goals as goal

pub returns-then-not-thin : goal.returns-then-not-thin
returns-then-not-thin c =
    judgement-of_stage c.args.file.now c.args.text.now c.args.schedule.now.pairs c.said.result c.args.checked c.requires.spells
    c.program-program.ensures.well_typed
    (ap is_thin (sym c.program-program.ensures.program) ∙ sym c.thin.ensures ∙ c.if-not-thin.true)
    c.requires.fresh
    (ap (λ r. r.status) c.said.ensures)
    (ap (λ r. r.output) c.said.ensures)
    (ap (λ r. r.line) c.said.ensures ∙ c.in_ok-line.ensures ∙ ap (λ (p : Program). reject_line c.args.file.now c.args.text.now Stage p.span) c.program-program.ensures.program)

pub returns : goal.returns
returns c = judgement-of_run c.args.file.now c.args.text.now c.run.new.schedule.pairs c.args.checked c.run.result (record { spells = c.requires.spells; typed = c.program-program.ensures.well_typed; thin = ap is_thin (sym c.program-program.ensures.program) ∙ sym c.thin.ensures ∙ c.if-not-thin.false }) c.run.ensures
