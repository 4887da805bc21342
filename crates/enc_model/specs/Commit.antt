-- What is done where the configuration alone is known.
use Rattle.std.specs.Prelude.{ℕ, Option, Some, None, IsSome, IsSomeAnd, slice_get}
use Rattle.enc_model.specs.declared.config.Actor.{Actor}
use Rattle.enc_model.specs.declared.config.Config.{Config}
use Rattle.enc_model.specs.declared.config.Task.{Task}
use Rattle.enc_model.specs.declared.moves.Move.{Move}
use Rattle.enc_model.specs.Step.{Outcome, NotReady, commit, take_step}

-- the actor is there, and has a task
abbrev pub IsBusy : Config → ℕ → Type 0
IsBusy c a = IsSomeAnd (slice_get c.actors a) (λ actor. IsSome actor.task)

-- by what the actor is doing
abbrev pub commit_task : Config → ℕ → Move → Actor → Option Task → Outcome
commit_task c a asked actor None = NotReady
commit_task c a asked actor (Some task) = commit c a actor task asked

-- by whether the actor is there
abbrev pub commit_actor : Config → ℕ → Move → Option Actor → Outcome
commit_actor c a asked None = NotReady
commit_actor c a asked (Some actor) = commit_task c a asked actor actor.task

-- what the actor's frame asks for is done
abbrev pub commit_at : Config → ℕ → Move → Outcome
commit_at c a asked = commit_actor c a asked (slice_get c.actors a)

-- by whether the actor is there
abbrev pub take_actor : Config → ℕ → Option Actor → Outcome
take_actor c a None = NotReady
take_actor c a (Some actor) = take_step c a actor actor.mailbox

-- the actor begins its next message
abbrev pub take_at : Config → ℕ → Outcome
take_at c a = take_actor c a (slice_get c.actors a)
