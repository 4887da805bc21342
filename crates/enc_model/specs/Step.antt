-- What an actor's next step does.
use Rattle.std.specs.Prelude.{ℕ, List, [], ◌∷◌, ◌++◌, ◌+◌, Option, Some, None, slice_get, slice_set}
use Rattle.std.specs.Fmt.{signed_decimal}
use Rattle.enc_ast.specs.declared.Program.{Program}
use Rattle.enc_ast.specs.declared.Span.{Span}
use Rattle.enc_ast.specs.declared.Stmt.{Stmt}
use Rattle.enc_ast.specs.declared.StmtForm.{StmtForm, out-StmtForm}
use Rattle.enc_ast.specs.declared.StmtForm.TheOpen.{StmtForm-F}
use Rattle.enc_ast.specs.declared.SourceForm.{SourceForm}
use Rattle.enc_ast.specs.declared.SourceForm.TheVariants as sources
use Rattle.enc_ast.specs.declared.Expr.{Expr}
use Rattle.enc_ast.specs.Thin.{body_of}
use Rattle.enc_model.specs.declared.config.Actor.{Actor}
use Rattle.enc_model.specs.declared.config.Cell.{Cell}
use Rattle.enc_model.specs.declared.config.Cell.TheVariants.{Pending, Full}
use Rattle.enc_model.specs.declared.config.Config.{Config}
use Rattle.enc_model.specs.declared.config.Frame.{Frame}
use Rattle.enc_model.specs.declared.config.Message.{Message}
use Rattle.enc_model.specs.declared.config.Task.{Task}
use Rattle.enc_model.specs.declared.moves.Got.{Got}
use Rattle.enc_model.specs.declared.moves.Got.TheVariants.{Gives, Traps, Nothing}
use Rattle.enc_model.specs.declared.moves.Move.{Move}
use Rattle.enc_model.specs.declared.moves.Move.TheVariants.{Bind, Say, Leave, Fault, Lost}
use Rattle.enc_model.specs.declared.schedule.Stepped.{Stepped}
use Rattle.enc_model.specs.declared.schedule.Stepped.TheVariants as kinds
use Rattle.enc_model.specs.declared.values.TrapKind.{TrapKind}
use Rattle.enc_model.specs.declared.values.Value.{Value}
use Rattle.enc_model.specs.declared.values.Value.TheVariants as values
use Rattle.enc_model.specs.Eval.{Local, eval}

-- What comes of an actor's next step.
pub data Outcome : Type 0 where
  -- the step leads there, and is of this kind
  Next : Config → Stepped → Outcome
  -- the actor has trapped, has nothing to do, or isn't there
  NotReady : Outcome
  -- the actor is at a step that has no meaning
  Stuck : Outcome

-- ---- what the frame asks for

-- a new variable gets what its source gives
abbrev pub bound : Span → List ℕ → Got → Move
bound span name (Gives value) = Bind name value
bound span name (Traps kind) = Fault kind span
bound span name Nothing = Lost

-- a new variable gets the value of the expression; the other sources have no meaning so far
abbrev pub decide_source : Span → List Local → List ℕ → SourceForm → Move
decide_source span locals name (sources.Expr expr) = bound span name (eval expr locals)
decide_source span locals name _ = Lost

-- the bytes that stand for a value where it is printed
abbrev pub shown : Value → Option (List ℕ)
shown (values.Int z) = Some (signed_decimal z)
shown (values.Text bytes) = Some bytes
shown values.Unit = None

-- the line goes on with these bytes
abbrev pub goes_on : (List ℕ → Move) → List ℕ → Option (List ℕ) → Move
goes_on rest line None = Lost
goes_on rest line (Some bytes) = rest (line ++ bytes)

-- the line goes on with the value of an item
abbrev pub says : Span → (List ℕ → Move) → List ℕ → Got → Move
says span rest line (Gives value) = goes_on rest line (shown value)
says span rest line (Traps kind) = Fault kind span
says span rest line Nothing = Lost

-- a line is made of the items' values, one after another, and of its end
abbrev pub decide_items : Span → List Local → List Expr → List ℕ → Move
decide_items span locals [] line = Say (line ++ 10 ∷ [])
decide_items span locals (item ∷ items) line = says span (decide_items span locals items) line (eval item locals)

-- what a statement asks for, by its outer level; the other statements have no meaning so far
abbrev pub decide_layer : Span → List Local → StmtForm-F StmtForm Stmt → Move
decide_layer span locals (StmtForm-F.Let name source) = decide_source span locals name.word source.form
decide_layer span locals (StmtForm-F.Print items) = decide_items span locals items []
decide_layer span locals _ = Lost

-- what a statement asks for
abbrev pub decide_form : Span → List Local → StmtForm → Move
decide_form span locals form = decide_layer span locals (out-StmtForm form)

-- by the statement at which the frame stands
abbrev pub decide_at : List Local → Option Stmt → Move
decide_at locals None = Leave
decide_at locals (Some stmt) = decide_form stmt.span locals stmt.form

-- what the frame asks for next
abbrev pub decide : Program → Frame → Move
decide program frame = decide_at frame.locals.pairs (slice_get (body_of program) frame.at)

-- ---- what is done about it

-- the configuration with another state of this actor
abbrev pub with_actor : Config → ℕ → Actor → Config
with_actor c a actor = record c { actors = slice_set c.actors a actor }

-- the frame behind its statement
abbrev pub behind : Frame → List Local → Frame
behind frame locals = record { at = frame.at + 1; locals = record { pairs = locals } }

-- the actor with its task in this frame
abbrev pub in_frame : Actor → Task → Frame → Actor
in_frame actor task frame = record actor { task = Some (record task { frame = frame }) }

-- The task ends, and its cell gets the result. Only a pending cell can get one: else the step has no meaning.
abbrev pub fulfil : Config → ℕ → Value → Option Cell → Outcome
fulfil c cell value (Some Pending) = Next (record c { cells = slice_set c.cells cell (Full value) }) kinds.Interaction
fulfil c cell value (Some (Full old)) = Stuck
fulfil c cell value None = Stuck

-- what the frame asks for is done
abbrev pub commit : Config → ℕ → Actor → Task → Move → Outcome
commit c a actor task (Bind name value) =
    Next (with_actor c a (in_frame actor task (behind task.frame (task.frame.locals.pairs ++ (name, Some value) ∷ [])))) kinds.Local
commit c a actor task (Say line) =
    Next (record (with_actor c a (in_frame actor task (behind task.frame task.frame.locals.pairs))) { output = c.output ++ line }) kinds.Interaction
commit c a actor task Leave =
    fulfil (with_actor c a (record actor { task = None })) task.cell values.Unit (slice_get c.cells task.cell)
commit c a actor task (Fault kind span) =
    Next (with_actor c a (record actor { trap = Some (kind, span) })) kinds.Interaction
commit c a actor task Lost = Stuck

-- ---- steps

-- an idle actor takes the message at the front of its mailbox
abbrev pub take_step : Config → ℕ → Actor → List Message → Outcome
take_step c a actor [] = NotReady
take_step c a actor (message ∷ messages) =
    Next (with_actor c a (record actor { mailbox = messages; task = Some (record { cell = message.cell; frame = record { at = 0; locals = record { pairs = [] } } }) })) kinds.Interaction

-- by what the actor is doing
abbrev pub task_step : Program → Config → ℕ → Actor → Option Task → Outcome
task_step program c a actor None = take_step c a actor actor.mailbox
task_step program c a actor (Some task) = commit c a actor task (decide program task.frame)

-- an actor that has trapped makes no step
abbrev pub trap_step : Program → Config → ℕ → Actor → Option (TrapKind × Span) → Outcome
trap_step program c a actor None = task_step program c a actor actor.task
trap_step program c a actor (Some trap) = NotReady

-- an actor that isn't there makes no step
abbrev pub actor_step : Program → Config → ℕ → Option Actor → Outcome
actor_step program c a None = NotReady
actor_step program c a (Some actor) = trap_step program c a actor actor.trap

-- the actor's next step
abbrev pub step_of : Program → Config → ℕ → Outcome
step_of program c a = actor_step program c a (slice_get c.actors a)
