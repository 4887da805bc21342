use Rattle.encore_run.proofs.Ends.{reports-of}
use Rattle.encore_run.proofs.answer.run.Goals as goal

pub returns : goal.returns
returns c =
    let run = c.in_ok-plain in
    reports-of c.args.file.now c.args.text.now c.args.checked run.plain.program c.drive.new.schedule.pairs run.plain.config run.steps c.report.result
    run.ensures.program run.ensures.stops run.ensures.steps c.requires.thin c.requires.few c.report.ensures
