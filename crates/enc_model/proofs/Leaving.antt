-- What is left of a task at its end.
use Rattle.std.proofs.Common.{◌≡◌, ℕ, List, Option, Some, None, refl}
use Rattle.std.specs.Prelude.{slice_get, slice_set}
use Rattle.enc_model.specs.declared.config.Actor.{Actor}
use Rattle.enc_model.specs.declared.config.Cell.{Cell}
use Rattle.enc_model.specs.declared.config.Cell.TheVariants.{Pending, Full}
use Rattle.enc_model.specs.declared.config.Config.{Config}
use Rattle.enc_model.specs.declared.config.Task.{Task}
use Rattle.enc_model.specs.declared.moves.Move.TheVariants.{Leave}
use Rattle.enc_model.specs.declared.schedule.Stepped.TheVariants.{Interaction}
use Rattle.enc_model.specs.declared.values.Value.{Value}
use Rattle.enc_model.specs.declared.values.Value.TheVariants.{Unit}
use Rattle.enc_model.specs.Commit.{commit_at}
use Rattle.enc_model.specs.Step.{Next, Stuck, fulfil, with_actor}

-- a cell that can get its result
fulfil-next : (c : Config) (cell : ℕ) (value : Value) (found : Option Cell) (cells : List Cell) → (fulfil c cell value found ≡ Stuck → ⊥) → cells ≡ slice_set c.cells cell (Full value) → fulfil c cell value found ≡ Next (record c { cells = cells }) Interaction
fulfil-next c cell value None cells known full = absurd (known refl)
fulfil-next c cell value (Some Pending) cells known full = rw full refl
fulfil-next c cell value (Some (Full old)) cells known full = absurd (known refl)

pub commit_at-leave : (c : Config) (a : ℕ) (actor : Actor) (task : Task) (rest : Option Task) (cells : List Cell) → slice_get c.actors a ≡ Some actor → actor.task ≡ Some task → (commit_at c a Leave ≡ Stuck → ⊥) → rest ≡ None → cells ≡ slice_set c.cells task.cell (Full Unit) → commit_at c a Leave ≡ Next (record { actors = slice_set c.actors a (record { mailbox = actor.mailbox; task = rest; trap = actor.trap }); cells = cells; output = c.output }) Interaction
commit_at-leave c a actor task rest cells there busy known gone full =
    let known' = rw (there, busy) at known in
    rw (there, busy, gone) (fulfil-next (with_actor c a (record actor { task = None })) task.cell Unit (slice_get c.cells task.cell) cells known' full)
