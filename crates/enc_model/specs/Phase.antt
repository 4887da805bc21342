-- Which actors are ready, how far a run has come, and what it shows.
use Rattle.std.specs.Prelude.{ℕ, zero, suc, Bool, true, false, ◌+◌, List, [], ◌∷◌, length, Option, Some, None, is_some, count_by, codes, if◌then◌else◌}
use Rattle.std.specs.List.{list_any}
use Rattle.enc_ast.specs.declared.Program.{Program}
use Rattle.enc_ast.specs.declared.Span.{Span}
use Rattle.enc_model.specs.declared.config.Actor.{Actor}
use Rattle.enc_model.specs.declared.config.Config.{Config}
use Rattle.enc_model.specs.declared.schedule.Phase.{Phase}
use Rattle.enc_model.specs.declared.schedule.Phase.TheVariants.{Running, Trapped, Blocked, Ended}
use Rattle.enc_model.specs.declared.values.TrapKind.{TrapKind}
use Rattle.enc_model.specs.declared.values.TrapKind.TheVariants.{Overflow}
use Rattle.enc_model.specs.Step.{Outcome, Next, NotReady, Stuck, step_of}

-- the step can be made
abbrev pub is_next : Outcome → Bool
is_next (Next c kind) = true
is_next NotReady = false
is_next Stuck = false

-- the actor's next step can be made
abbrev pub is_ready : Program → Config → ℕ → Bool
is_ready program c a = is_next (step_of program c a)

-- the first ready one of n actors from a on
abbrev pub first_ready : Program → Config → ℕ → ℕ → Option ℕ
first_ready program c a zero = None
first_ready program c a (suc n) = if is_ready program c a then Some a else first_ready program c (a + 1) n

-- the least ready actor
abbrev pub least_ready : Program → Config → Option ℕ
least_ready program c = first_ready program c 0 (length c.actors)

-- the actor has stopped for good
abbrev pub has_trapped : Actor → Bool
has_trapped actor = is_some actor.trap

-- the actor has begun something that isn't at its end
abbrev pub waits : Actor → Bool
waits actor = is_some actor.task

-- how many actors wait
abbrev pub waiting : Config → ℕ
waiting c = count_by waits c.actors

-- by whether some actor is ready, has trapped, waits
abbrev pub phase_by : Bool → Bool → Bool → Phase
phase_by true trapped waiting = Running
phase_by false true waiting = Trapped
phase_by false false true = Blocked
phase_by false false false = Ended

-- how far the run has come
abbrev pub phase_of : Program → Config → Phase
phase_of program c = phase_by (is_some (least_ready program c)) (list_any has_trapped c.actors) (list_any waits c.actors)

-- ---- what a run shows

-- the bytes that were printed
abbrev pub printed : Config → List ℕ
printed c = c.output

-- where an actor has trapped: its number, its trap and the part of the text
abbrev pub trap_at : ℕ → Option (TrapKind × Span) → Option (ℕ × TrapKind × Span) → Option (ℕ × TrapKind × Span)
trap_at a None later = later
trap_at a (Some trap) later = Some (a, trap.0, trap.1)

-- the first trap of these actors, whose numbers go on from a
abbrev pub first_trap_from : ℕ → List Actor → Option (ℕ × TrapKind × Span)
first_trap_from a [] = None
first_trap_from a (actor ∷ actors) = trap_at a actor.trap (first_trap_from (a + 1) actors)

-- the trap of the least actor that has trapped
abbrev pub first_trap : Config → Option (ℕ × TrapKind × Span)
first_trap c = first_trap_from 0 c.actors

-- the name by which users know a trap
abbrev pub trap_name : TrapKind → List ℕ
trap_name Overflow = codes "OVERFLOW"
