use Rattle.std.proofs.Common.{◌≡◌, ◌≤◌, ◌∙◌, arith}
use Rattle.enc_model.specs.Exec.{steps_of}
use Rattle.encore_run.specs.Due.{budget}
use Rattle.encore_run.proofs.Dues.{full_stops, idle_stops, no_step}
use Rattle.encore_run.proofs.run.drive.Goals as goal

pub returns-clause-stops : goal.returns-clause-stops
returns-clause-stops c =
    let run = c.loop-turns in
    let full : steps_of run.schedule.pairs ≡ budget = omega arith in
    full_stops c.args.checked run.plain.program run.schedule.pairs run.plain.config run.invariant.program run.invariant.exec run.invariant.some full

pub returns-then-not-branch-clause-stops : goal.returns-then-not-branch-clause-stops
returns-then-not-branch-clause-stops c =
    let run = c.loop-turns in
    let turn = c.in_ok-turn.ensures in
    let still : steps_of c.turn.new.schedule.pairs ≡ steps_of run.schedule.pairs = no_step c.in_ok-turn.field-0 _ _ c.if-not-branch.true turn.steps in
    let few : steps_of c.turn.new.schedule.pairs ≤ budget = omega (arith, still) in
    idle_stops c.args.checked c.turn.new.plain.program c.turn.new.schedule.pairs c.turn.new.plain.config
    (turn.program ∙ run.invariant.program) turn.exec (turn.some run.invariant.some) (turn.idle c.if-not-branch.true) few
