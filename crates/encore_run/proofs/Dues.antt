-- What is due after a run that stopped.
use Rattle.std.proofs.Common.{◌≡◌, ◌∙◌, ◌≤◌, ◌+◌, ℕ, Bool, true, false, List, [], Option, Some, None, cond, refl, ap, sym, subst, arith}
use Rattle.std.specs.Prelude.{IsSome, nat_le, is_some}
use Rattle.std.specs.List.{list_any}
use Rattle.std.proofs.lemmas.Bool.{false≢true}
use Rattle.enc_ast.specs.declared.Program.{Program}
use Rattle.enc_model.specs.declared.Config.{Config}
use Rattle.enc_model.specs.declared.Pair.{Pair}
use Rattle.enc_model.specs.declared.Phase.{Phase}
use Rattle.enc_model.specs.declared.Phase.TheVariants as phases
use Rattle.enc_model.specs.Exec.{exec, steps_of}
use Rattle.enc_model.specs.Phase.{phase_by, phase_of, least_ready, has_trapped, waits}
use Rattle.encore_run.specs.declared.status.Status.{Status}
use Rattle.encore_run.specs.declared.status.Status.TheVariants.{Budget}
use Rattle.encore_run.specs.declared.words.Command.{Command}
use Rattle.encore_run.specs.declared.words.Command.TheVariants.{Run}
use Rattle.encore_run.specs.Command.{source_of}
use Rattle.encore_run.specs.Due.{budget, due, run_due, status_of, stop_status, stop_line, has_steps, IsScheduleFor, StopsAt}

by_budget : (here : Bool) (status : Status) → IsSome (cond here (Some status) None) → cond here (Some status) None ≡ Some status
by_budget true status h = refl
by_budget false status h = absurd (false≢true h)

stops_with : (steps : ℕ) (phase : Phase) → IsSome (stop_status steps phase) → stop_status steps phase ≡ Some (status_of phase)
stops_with steps phases.Running h = by_budget (nat_le budget steps) Budget h
stops_with steps phases.Trapped h = refl
stops_with steps phases.Blocked h = refl
stops_with steps phases.Ended h = refl

-- a run may stop in each phase once the budget is used up
stops_full : (phase : Phase) → IsSome (stop_status budget phase)
stops_full phases.Running = refl
stops_full phases.Trapped = refl
stops_full phases.Blocked = refl
stops_full phases.Ended = refl

pub full_stops : (program machine : Program) (pairs : List Pair) (config : Config) → machine ≡ program → exec machine pairs ≡ Some config → has_steps pairs ≡ true → steps_of pairs ≡ budget → StopsAt program pairs config
full_stops program machine pairs config same reached some full = record {
  exec = subst (λ (p : Program). exec p pairs ≡ Some config) same reached;
  some = some;
  stops = subst (λ steps. IsSome (stop_status steps (phase_of program config))) (sym full) (stops_full (phase_of program config));
  steps = omega arith;
}

idle_stop : (steps : ℕ) (ready : Option ℕ) (trapped waiting : Bool) → ready ≡ None → IsSome (stop_status steps (phase_by (is_some ready) trapped waiting))
idle_stop steps (Some a) trapped waiting e = absurd (cc e)
idle_stop steps None true waiting e = refl
idle_stop steps None false true e = refl
idle_stop steps None false false e = refl

-- a run may stop where no actor is ready
pub idle_stops : (program machine : Program) (pairs : List Pair) (config : Config) → machine ≡ program → exec machine pairs ≡ Some config → has_steps pairs ≡ true → least_ready machine config ≡ None → steps_of pairs ≤ budget → StopsAt program pairs config
idle_stops program machine pairs config same reached some idle few = record {
  exec = subst (λ (p : Program). exec p pairs ≡ Some config) same reached;
  some = some;
  stops = idle_stop (steps_of pairs) (least_ready program config) (list_any has_trapped config.actors) (list_any waits config.actors) (subst (λ (p : Program). least_ready p config ≡ None) same idle);
  steps = few;
}

-- no step was made
pub no_step : (went : Bool) (after before : ℕ) → went ≡ false → after ≡ before + cond went 1 0 → after ≡ before
no_step true after before e h = absurd (cc e)
no_step false after before e h = omega (arith, h)

due_is : (command : Command) (text : List ℕ) (program : Program) (pairs : List Pair) (config : Config) → exec program pairs ≡ Some config → due command text program pairs ≡ run_due (source_of command) text program (steps_of pairs) (Some config)
due_is (Run file) text program pairs config e = ap (run_due file text program (steps_of pairs)) e

pub due-status : (command : Command) (text : List ℕ) (program : Program) (pairs : List Pair) (config : Config) → StopsAt program pairs config → (due command text program pairs).status ≡ Some (status_of (phase_of program config))
due-status command text program pairs config at =
    ap (λ d. d.status) (due_is command text program pairs config at.exec) ∙ stops_with (steps_of pairs) (phase_of program config) at.stops

pub due-output : (command : Command) (text : List ℕ) (program : Program) (pairs : List Pair) (config : Config) → StopsAt program pairs config → (due command text program pairs).output ≡ config.output
due-output command text program pairs config at = ap (λ d. d.output) (due_is command text program pairs config at.exec)

pub due-line : (command : Command) (text : List ℕ) (program : Program) (pairs : List Pair) (config : Config) → StopsAt program pairs config → (due command text program pairs).line ≡ stop_line (source_of command) text (steps_of pairs) config (phase_of program config)
due-line command text program pairs config at = ap (λ d. d.line) (due_is command text program pairs config at.exec)

pub due-scheduled : (command : Command) (program : Program) (pairs : List Pair) (config : Config) → StopsAt program pairs config → IsScheduleFor command program pairs
due-scheduled (Run file) program pairs config at = ((at.some, rw at.exec refl), omega (arith, at.steps))

run_due-history : (file text : List ℕ) (program : Program) (steps : ℕ) (config : Option Config) → (run_due file text program steps config).history ≡ []
run_due-history file text program steps None = refl
run_due-history file text program steps (Some c) = refl

pub due-history : (command : Command) (text : List ℕ) (program : Program) (pairs : List Pair) → (due command text program pairs).history ≡ []
due-history (Run file) text program pairs = run_due-history file text program (steps_of pairs) (exec program pairs)
