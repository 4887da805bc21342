-- What the top calls promise, a definition for each clause.
use Rattle.std.specs.Prelude.{◌≡◌, ◌<◌, ◌↔◌, ◌⊎◌, ℕ, List, [], ◌∷◌, false, Option, Some, None, IsSome}
use Rattle.std.specs.Option.{option_map}
use Rattle.std.specs.Io.KnownBytes.{Appends}
use Rattle.enc_ast.specs.declared.Program.{Program}
use Rattle.enc_ast.specs.declared.Rule.{Rule}
use Rattle.enc_ast.specs.declared.Span.{Span}
use Rattle.enc_io.specs.Causes.{AppendsPrefix}
use Rattle.enc_io.specs.Texts.{Texts, text_of}
use Rattle.enc_model.specs.declared.Pair.{Pair}
use Rattle.encore_run.specs.declared.status.Status.TheVariants.{Ended, Rejected, Usage, Trapped, Blocked, Budget, Memory, ReadFault, WriteFault}
use Rattle.encore_run.specs.declared.words.Command.{Command}
use Rattle.encore_run.specs.Built.{Runs, FirstFailure, HasFailure}
use Rattle.encore_run.specs.Command.{command_of, source_of, records}
use Rattle.encore_run.specs.Due.{due, IsScheduleFor}
use Rattle.encore_run.specs.Lines.{usage_line, memory_line, write_line, read_line, reject_line}
use Rattle.encore_run.specs.Source.{OfSource, OfProgram, NamedFileFailed}
use Rattle.encore_run.specs.Status.{code_of, Is, IsOneOf, is_one_of, ExactlyWhere}

-- ---- the words

-- the words are no command
abbrev pub TellsUsage : List (List ℕ) → ℕ → Type 0
TellsUsage words code = ExactlyWhere (command_of words ≡ None) code Usage (Memory ∷ [])

-- where the words are no command, nothing is read: the files stay as they were
abbrev pub LeavesFiles : {F : Type 0} → List (List ℕ) → F → F → Type 0
LeavesFiles words old new = command_of words ≡ None → new ≡ old

-- ---- the files

-- a call of the files failed
abbrev pub TellsReadFault : ℕ → ℕ → ℕ → Type 0
TellsReadFault before now code = ExactlyWhere (before < now) code ReadFault (Memory ∷ [])

-- where a call of the files failed, the failed file is one that the words name
abbrev pub NamesFailedFile : List (List ℕ) → ℕ → ℕ → Option (List ℕ) → Type 0
NamesFailedFile words before now failed = before < now → NamedFileFailed words failed

-- the files lack the source
abbrev pub TellsMissing : List (List ℕ) → Option Texts → ℕ → Type 0
TellsMissing words texts code = (command : Command) (known : Texts) → command_of words ≡ Some command → texts ≡ Some known → text_of known (source_of command) ≡ None
    → IsOneOf (ReadFault ∷ Memory ∷ []) code

-- the source has a first failure
abbrev pub TellsRejection : List (List ℕ) → Option Texts → ℕ → Type 0
TellsRejection words texts code = OfSource words texts (λ command text. ExactlyWhere (HasFailure text) code Rejected (Memory ∷ ReadFault ∷ []))

-- ---- where nothing has run, or nothing can be said

-- the schedule stays empty
abbrev pub LeavesSchedule : List Pair → ℕ → Type 0
LeavesSchedule pairs code = IsOneOf (Rejected ∷ Usage ∷ ReadFault ∷ []) code → pairs ≡ []

-- the output and the history stay as they were
abbrev pub LeavesSinks : {O H : Type 0} → O → O → H → H → ℕ → Type 0
LeavesSinks out_old out_new history_old history_new code =
    IsOneOf (Rejected ∷ Usage ∷ Memory ∷ ReadFault ∷ []) code → (out_new ≡ out_old) × (history_new ≡ history_old)

-- the history stays as it was, unless the command records its run
abbrev pub LeavesHistory : {H : Type 0} → List (List ℕ) → H → H → Type 0
LeavesHistory words old new = (command : Command) → command_of words ≡ Some command → records command ≡ false → new ≡ old

-- ---- where the command has run

-- the source spells a program that runs
abbrev pub HasProgram : List (List ℕ) → Option Texts → ℕ → Type 0
HasProgram words texts code = OfSource words texts (λ command text.
    IsOneOf (Ended ∷ Trapped ∷ Blocked ∷ Budget ∷ WriteFault ∷ []) code → (program : Program) × Runs text program)

-- the schedule is one that the command may hand back
abbrev pub HandsBackSchedule : List (List ℕ) → Option Texts → List Pair → ℕ → Type 0
HandsBackSchedule words texts pairs code = OfProgram words texts (λ command text program.
    IsOneOf (Ended ∷ Trapped ∷ Blocked ∷ Budget ∷ WriteFault ∷ []) code → IsScheduleFor command program pairs)

-- the status is that of the schedule
abbrev pub TellsPhase : List (List ℕ) → Option Texts → List Pair → ℕ → Type 0
TellsPhase words texts pairs code = OfProgram words texts (λ command text program.
    IsOneOf (Ended ∷ Trapped ∷ Blocked ∷ Budget ∷ []) code → option_map code_of (due command text program pairs).status ≡ Some code)

-- the output got all that is due for the schedule
abbrev pub WritesOutput : List (List ℕ) → Option Texts → List Pair → Option (List ℕ) → Option (List ℕ) → ℕ → Type 0
WritesOutput words texts pairs old new code = OfProgram words texts (λ command text program.
    IsOneOf (Ended ∷ Trapped ∷ Blocked ∷ Budget ∷ []) code → Appends old new (due command text program pairs).output)

-- the history got all that is due for the schedule
abbrev pub WritesHistory : List (List ℕ) → Option Texts → List Pair → Option (List ℕ) → Option (List ℕ) → ℕ → Type 0
WritesHistory words texts pairs old new code = OfProgram words texts (λ command text program.
    IsOneOf (Ended ∷ Trapped ∷ Blocked ∷ Budget ∷ []) code → Appends old new (due command text program pairs).history)

-- a run never waits for ever, and never uses up its budget
abbrev pub ComesToAnEnd : ℕ → Type 0
ComesToAnEnd code = is_one_of (Blocked ∷ Budget ∷ []) code ≡ false

-- ---- where a sink failed

-- a write of the output or of the history failed
abbrev pub TellsWriteFault : ℕ → ℕ → ℕ → ℕ → ℕ → Type 0
TellsWriteFault out_before out_now history_before history_now code =
    Is WriteFault code ↔ ((out_before < out_now) ⊎ (history_before < history_now))

-- the output and the history got a front part of what is due for a schedule with which the command ends
abbrev pub CutsShort : List (List ℕ) → Option Texts → List Pair → Option (List ℕ) → Option (List ℕ) → Option (List ℕ) → Option (List ℕ) → ℕ → Type 0
CutsShort words texts pairs out_old out_new history_old history_new code = OfProgram words texts (λ command text program.
    Is WriteFault code
    → IsSome (due command text program pairs).status
    × AppendsPrefix out_old out_new (due command text program pairs).output
    × AppendsPrefix history_old history_new (due command text program pairs).history)

-- ---- what the user is told

-- The sink got a front part of the line, and the whole of it where no write failed.
pub record Got (before now : ℕ) (old new : Option (List ℕ)) (line : List ℕ) : Type 0 where
  pub whole : now ≡ before → Appends old new line
  pub front : AppendsPrefix old new line

-- The error stream got the line of the status, where S says what it got: a part for each status.
pub record Says (words : List (List ℕ)) (texts : Option Texts) (failed : Option (List ℕ)) (pairs : List Pair) (code : ℕ) (S : List ℕ → Type 0) : Type 0 where
  pub ended : Is Ended code → S []
  pub usage : Is Usage code → S usage_line
  pub memory : Is Memory code → S memory_line
  pub write_fault : Is WriteFault code → S write_line
  pub read_fault : Is ReadFault code → (file : List ℕ) → failed ≡ Some file → S (read_line file)
  pub rejected : OfSource words texts (λ command text. Is Rejected code → (rule : Rule) (span : Span) → FirstFailure text rule span → S (reject_line (source_of command) text rule span))
  pub stopped : OfProgram words texts (λ command text program. IsOneOf (Trapped ∷ Blocked ∷ Budget ∷ []) code → S (due command text program pairs).line)

-- a run that came to its end has no line: the error stream stays as it was
abbrev pub LeavesErrors : {R : Type 0} → R → R → ℕ → Type 0
LeavesErrors old new code = Is Ended code → new ≡ old

-- ---- all statuses

-- no other number is answered
abbrev pub IsKnown : ℕ → Type 0
IsKnown code = IsOneOf (Ended ∷ Rejected ∷ Usage ∷ Trapped ∷ Blocked ∷ Budget ∷ Memory ∷ ReadFault ∷ WriteFault ∷ []) code
