-- What a command owes for the schedule that it hands back.
use Rattle.std.specs.Prelude.{◌≡◌, ◌<◌, ◌≤◌, ◌+◌, ℕ, Bool, true, List, [], nat_le, Option, Some, None, IsSome, if◌then◌else◌}
use Rattle.std.specs.List.{list_all}
use Rattle.enc_ast.specs.declared.Program.{Program}
use Rattle.enc_ast.specs.declared.Span.{Span}
use Rattle.enc_model.specs.declared.Config.{Config}
use Rattle.enc_model.specs.declared.Pair.{Pair}
use Rattle.enc_model.specs.declared.Phase.{Phase}
use Rattle.enc_model.specs.declared.Phase.TheVariants as phases
use Rattle.enc_model.specs.declared.TrapKind.{TrapKind}
use Rattle.enc_model.specs.Exec.{exec, steps_of, IsLegal}
use Rattle.enc_model.specs.Phase.{phase_of, printed, first_trap, waiting}
use Rattle.encore_run.specs.declared.status.Status.{Status}
use Rattle.encore_run.specs.declared.status.Status.TheVariants.{Ended, Trapped, Blocked, Budget}
use Rattle.encore_run.specs.declared.words.Command.{Command}
use Rattle.encore_run.specs.declared.words.Command.TheVariants.{Run}
use Rattle.encore_run.specs.Lines.{trap_line, blocked_line, budget_line}

-- a run stops once it has made so many steps
abbrev pub budget : ℕ
budget = 10000000

-- the status of a run that stands in this phase
abbrev pub status_of : Phase → Status
status_of phases.Ended = Ended
status_of phases.Trapped = Trapped
status_of phases.Blocked = Blocked
status_of phases.Running = Budget

-- the status of a run that stops in this phase after so many steps, where it may stop there
abbrev pub stop_status : ℕ → Phase → Option Status
stop_status steps phases.Running = if nat_le budget steps then Some Budget else None
stop_status steps phases.Trapped = Some Trapped
stop_status steps phases.Blocked = Some Blocked
stop_status steps phases.Ended = Some Ended

-- each pair has a step
abbrev pub has_steps : List Pair → Bool
has_steps pairs = list_all (λ pair. nat_le 1 pair.steps) pairs

-- The schedule leads to this configuration, and a run may stop there.
pub record StopsAt (program : Program) (pairs : List Pair) (config : Config) : Type 0 where
  pub exec : exec program pairs ≡ Some config
  pub some : has_steps pairs ≡ true
  pub stops : IsSome (stop_status (steps_of pairs) (phase_of program config))
  pub steps : steps_of pairs ≤ budget

-- the line of a trap, where there is one
abbrev pub first_trap_line : List ℕ → List ℕ → Option (ℕ × TrapKind × Span) → List ℕ
first_trap_line file text None = []
first_trap_line file text (Some trap) = trap_line file text trap.0 trap.1 trap.2

-- the line of a run that stops in this phase
abbrev pub stop_line : List ℕ → List ℕ → ℕ → Config → Phase → List ℕ
stop_line file text steps c phases.Ended = []
stop_line file text steps c phases.Trapped = first_trap_line file text (first_trap c)
stop_line file text steps c phases.Blocked = blocked_line (waiting c)
stop_line file text steps c phases.Running = budget_line steps

-- What is owed: the status, and the bytes of the output, of the error stream and of the history.
pub record Due : Type 0 where
  -- none where the schedule isn't one with which the command ends
  pub status : Option Status
  pub output : List ℕ
  pub line : List ℕ
  pub history : List ℕ

-- of a run, by its last configuration
abbrev pub run_due : List ℕ → List ℕ → Program → ℕ → Option Config → Due
run_due file text program steps None = record { status = None; output = []; line = []; history = [] }
run_due file text program steps (Some c) = record {
  status = stop_status steps (phase_of program c);
  output = printed c;
  line = stop_line file text steps c (phase_of program c);
  history = [];
}

-- What a command owes for a schedule of the program that its text spells: a case for each command.
abbrev pub due : Command → List ℕ → Program → List Pair → Due
due (Run file) text program pairs = run_due file text program (steps_of pairs) (exec program pairs)

-- The schedules that a command may hand back: a case for each command.
abbrev pub IsScheduleFor : Command → Program → List Pair → Type 0
IsScheduleFor (Run file) program pairs = IsLegal program pairs × (steps_of pairs < budget + 1024)
