use Rattle.std.proofs.Common.{◌≡◌, true, Some}
use Rattle.enc_model.specs.Exec.{exec, steps_of}
use Rattle.encore_run.specs.Due.{has_steps}
use Rattle.encore_run.proofs.run.drive.Given as goal

abbrev pub invariant-loop-turns : goal.invariant-loop-turns
invariant-loop-turns l = record {
  program : l.plain.program ≡ l.fn.checked;
  exec : exec l.plain.program l.schedule.pairs ≡ Some l.plain.config;
  some : has_steps l.schedule.pairs ≡ true;
  steps : steps_of l.schedule.pairs ≡ l.turns;
}
