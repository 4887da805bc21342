-- The configuration after the steps of a schedule.
use Rattle.std.specs.Prelude.{ℕ, List, [], ◌∷◌, ◌++◌, Option, Some, None, IsTrue, IsSome, nat_le, replicate, fold, sum_by}
use Rattle.std.specs.List.{list_all}
use Rattle.enc_ast.specs.declared.Program.{Program}
use Rattle.enc_model.specs.declared.config.Cell.TheVariants.{Pending}
use Rattle.enc_model.specs.declared.config.Config.{Config}
use Rattle.enc_model.specs.declared.schedule.Pair.{Pair}
use Rattle.enc_model.specs.Step.{Outcome, Next, NotReady, Stuck, step_of}

-- at first there is one actor, whose mailbox has the call of `main`
abbrev pub start : Config
start = record { actors = record { mailbox = record { cell = 0 } ∷ []; task = None; trap = None } ∷ []; cells = Pending ∷ []; output = [] }

-- the actors that make the steps, one after another
abbrev pub picks : List Pair → List ℕ
picks [] = []
picks (pair ∷ pairs) = replicate pair.steps pair.actor ++ picks pairs

-- how many steps a schedule has
abbrev pub steps_of : List Pair → ℕ
steps_of pairs = sum_by (λ pair. pair.steps) pairs

-- the configuration to which a step leads, where there is one
abbrev pub next_config : Outcome → Option Config
next_config (Next c kind) = Some c
next_config NotReady = None
next_config Stuck = None

-- the configuration after one more step, where there is one and the actor is ready
abbrev pub after_step : Program → Option Config → ℕ → Option Config
after_step program None a = None
after_step program (Some c) a = next_config (step_of program c a)

-- the configuration after the steps of these actors, from the start
abbrev pub run : Program → List ℕ → Option Config
run program actors = fold (after_step program) (Some start) actors

-- the configuration after the steps of the schedule, from the start
abbrev pub exec : Program → List Pair → Option Config
exec program pairs = run program (picks pairs)

-- each pair has a step, and each actor is ready at each of its steps
abbrev pub IsLegal : Program → List Pair → Type 0
IsLegal program pairs = IsTrue (list_all (λ pair. nat_le 1 pair.steps) pairs) × IsSome (exec program pairs)
