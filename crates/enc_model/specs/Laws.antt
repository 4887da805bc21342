-- What holds of every run of a program in the thin form.
use Rattle.std.specs.Prelude.{◌≡◌, ◌≤◌, ◌+◌, ℕ, List, length, Some}
use Rattle.enc_ast.specs.declared.Program.{Program}
use Rattle.enc_ast.specs.Thin.{body_of}
use Rattle.enc_model.specs.declared.config.Config.{Config}
use Rattle.enc_model.specs.declared.schedule.Phase.TheVariants.{Blocked}
use Rattle.enc_model.specs.Exec.{run}
use Rattle.enc_model.specs.Phase.{phase_of}
use Rattle.enc_model.specs.Step.{Stuck, step_of}

-- no actor ever is at a step that has no meaning
abbrev pub NeverStuck : Program → Type 0
NeverStuck program = (actors : List ℕ) (c : Config) (a : ℕ) → run program actors ≡ Some c → step_of program c a ≡ Stuck → ⊥

-- no run ever waits for what doesn't come
abbrev pub NeverBlocked : Program → Type 0
NeverBlocked program = (actors : List ℕ) (c : Config) → run program actors ≡ Some c → phase_of program c ≡ Blocked → ⊥

-- a run makes at most a step for each statement, one to begin and one to end
abbrev pub StopsSoon : Program → Type 0
StopsSoon program = (actors : List ℕ) (c : Config) → run program actors ≡ Some c → length actors ≤ length (body_of program) + 2
