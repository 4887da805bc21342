-- A run of a program in the thin form comes to its end.
use Rattle.std.proofs.Common.{◌≡◌, ◌∙◌, ◌≤◌, ◌<◌, ◌+◌, ℕ, Bool, true, false, List, [], ◌∷◌, length, Some, None, Result, Ok, Err, cond, refl, ap, arith}
use Rattle.std.specs.Prelude.{IfOk, IsSome, IsTrue, nat_le}
use Rattle.std.proofs.lemmas.Bool.{false≢true}
use Rattle.std.proofs.lemmas.Bool.Decides.{nat_tests}
use Rattle.enc_ast.specs.declared.Program.{Program}
use Rattle.enc_ast.specs.Thin.{is_thin, body_of}
use Rattle.enc_model.specs.declared.Config.{Config}
use Rattle.enc_model.specs.declared.Pair.{Pair}
use Rattle.enc_model.specs.declared.Phase.{Phase}
use Rattle.enc_model.specs.declared.Phase.TheVariants as phases
use Rattle.enc_model.specs.Exec.{picks, steps_of}
use Rattle.enc_model.specs.Phase.{phase_of}
use Rattle.enc_model.proofs.Runs.{never_blocked-thin, stops_soon-thin, length-picks}
use Rattle.encore_run.specs.declared.reply.Reply.{Reply}
use Rattle.encore_run.specs.declared.status.Status.TheVariants.{Blocked, Budget}
use Rattle.encore_run.specs.Answer.{Reports}
use Rattle.encore_run.specs.Due.{budget, status_of, stop_status, stop_line, StopsAt}
use Rattle.encore_run.specs.Status.{code_of, is_one_of}

enough : (here : Bool) (steps : ℕ) → nat_le budget steps ≡ here → IsSome (cond here (Some Budget) None) → steps < budget → ⊥
enough true steps e some few = absurd (grind (arith, nat_tests, e))
enough false steps e some few = absurd (false≢true some)

-- a run that stops before its budget and that doesn't wait
ends_by : (steps : ℕ) (phase : Phase) → (phase ≡ phases.Blocked → ⊥) → IsSome (stop_status steps phase) → steps < budget → is_one_of (Blocked ∷ Budget ∷ []) (code_of (status_of phase)) ≡ false
ends_by steps phases.Running free some few = absurd (enough (nat_le budget steps) steps refl some few)
ends_by steps phases.Trapped free some few = refl
ends_by steps phases.Blocked free some few = absurd (free refl)
ends_by steps phases.Ended free some few = refl

few_steps : (steps made body : ℕ) → made ≡ steps → made ≤ body + 2 → body ≤ 1048577 → steps < 10000000
few_steps steps made body e h k = omega arith

ends : (program : Program) (pairs : List Pair) (config : Config) → IsTrue (is_thin program) → length (body_of program) ≤ 1048577 → StopsAt program pairs config → is_one_of (Blocked ∷ Budget ∷ []) (code_of (status_of (phase_of program config))) ≡ false
ends program pairs config thin few at =
    ends_by (steps_of pairs) (phase_of program config)
    (never_blocked-thin program thin (picks pairs) config at.exec)
    at.stops
    (few_steps (steps_of pairs) (length (picks pairs)) (length (body_of program)) (length-picks pairs) (stops_soon-thin program thin (picks pairs) config at.exec) few)

-- the report on a machine that has stopped
pub reports-of : {E : Type 0} (file text : List ℕ) (program machine : Program) (pairs : List Pair) (config : Config) (steps : ℕ) (result : Result Reply E) → machine ≡ program → StopsAt program pairs config → steps ≡ steps_of pairs → IsTrue (is_thin program) → length (body_of program) ≤ 1048577 → IfOk result (λ reply. reply ≡ record { status = status_of (phase_of machine config); output = config.output; line = stop_line file text steps config (phase_of machine config) }) → IfOk result (Reports file text program pairs)
reports-of file text program machine pairs config steps (Ok reply) same at counted thin few is =
    let status : reply.status ≡ status_of (phase_of program config) = ap (λ r. r.status) is ∙ ap (λ p. status_of (phase_of p config)) same in
    record {
      config = config;
      stops = at;
      status = status;
      output = ap (λ r. r.output) is;
      line = ap (λ r. r.line) is ∙ ap (λ n. stop_line file text n config (phase_of machine config)) counted ∙ ap (λ p. stop_line file text (steps_of pairs) config (phase_of p config)) same;
      ends = ap (λ s. is_one_of (Blocked ∷ Budget ∷ []) (code_of s)) status ∙ ends program pairs config thin few at;
    }
reports-of file text program machine pairs config steps (Err e) same at counted thin few is = tt
