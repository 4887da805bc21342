-- What a call comes to, before anything of it is written.
use Rattle.std.specs.Prelude.{◌≡◌, ◌<◌, ℕ, List, [], ◌∷◌, Option, Some, None, false}
use Rattle.std.specs.Io.KnownBytes.{Appends}
use Rattle.enc_ast.specs.declared.Program.{Program}
use Rattle.enc_ast.specs.declared.Rule.{Rule}
use Rattle.enc_ast.specs.declared.Span.{Span}
use Rattle.enc_io.specs.Causes.{AppendsPrefix}
use Rattle.enc_io.specs.Texts.{Texts, IsReadOf}
use Rattle.enc_model.specs.declared.Config.{Config}
use Rattle.enc_model.specs.declared.Pair.{Pair}
use Rattle.enc_model.specs.Exec.{steps_of}
use Rattle.enc_model.specs.Phase.{phase_of}
use Rattle.encore_run.specs.declared.reply.Reply.{Reply}
use Rattle.encore_run.specs.declared.status.Status.{Status}
use Rattle.encore_run.specs.declared.status.Status.TheVariants.{Ended, Rejected, Usage, Trapped, Blocked, Budget, Memory, ReadFault, WriteFault}
use Rattle.encore_run.specs.declared.words.Command.{Command}
use Rattle.encore_run.specs.Built.{Runs, FirstFailure}
use Rattle.encore_run.specs.Command.{source_of}
use Rattle.encore_run.specs.Due.{StopsAt, status_of, stop_line}
use Rattle.encore_run.specs.Lines.{usage_line, memory_line, write_line, read_line, reject_line}
use Rattle.encore_run.specs.Status.{code_of, is_one_of}

-- The refusal is the first failure of the text, and the line tells it.
pub record Tells (file text : List ℕ) (line : List ℕ) : Type 0 where
  pub rule : Rule
  pub span : Span
  pub fails : FirstFailure text rule span
  pub says : line ≡ reject_line file text rule span

-- A run of the program has stopped at this configuration, and the reply tells it.
pub record Reports (file text : List ℕ) (program : Program) (pairs : List Pair) (reply : Reply) : Type 0 where
  pub config : Config
  pub stops : StopsAt program pairs config
  pub status : reply.status ≡ status_of (phase_of program config)
  pub output : reply.output ≡ config.output
  pub line : reply.line ≡ stop_line file text (steps_of pairs) config (phase_of program config)
  pub ends : is_one_of (Blocked ∷ Budget ∷ []) (code_of reply.status) ≡ false

-- What a text comes to: it has a first failure, or the program that it spells has run.
pub data IsJudgement (file text : List ℕ) (pairs : List Pair) (reply : Reply) : Type 0 where
  rejected : reply.status ≡ Rejected → reply.output ≡ [] → pairs ≡ [] → Tells file text reply.line → IsJudgement file text pairs reply
  ran : (program : Program) → Runs text program → ((other : Program) → Runs text other → other ≡ program) → Reports file text program pairs reply → IsJudgement file text pairs reply

-- What the reply is, where this was asked for and the faults of the files went from one count to the other.
pub data IsAnswer (asked : Option Command) (texts : Option Texts) (before now : ℕ) (failed : Option (List ℕ)) (pairs : List Pair) (reply : Reply) : Type 0 where
  -- memory ran out
  memory : reply.status ≡ Memory → reply.output ≡ [] → IsAnswer asked texts before now failed pairs reply
  -- the words are no command
  usage : asked ≡ None → reply.status ≡ Usage → reply.output ≡ [] → now ≡ before → pairs ≡ [] → IsAnswer asked texts before now failed pairs reply
  -- the source can't be read
  unread : (command : Command) → asked ≡ Some command → reply.status ≡ ReadFault → reply.output ≡ [] → before < now → pairs ≡ [] → failed ≡ Some (source_of command) → reply.line ≡ read_line (source_of command) → IsAnswer asked texts before now failed pairs reply
  -- the first bytes of the source were read, one more than it may have
  judged : (command : Command) → asked ≡ Some command → now ≡ before → (bytes : List ℕ) → IsReadOf texts (source_of command) 1048577 bytes → IsJudgement (source_of command) bytes pairs reply → IsAnswer asked texts before now failed pairs reply

-- ---- what is written

-- the line of a status that has one of its own, else the reply's
abbrev pub line_due : Status → List ℕ → List ℕ
line_due Usage line = usage_line
line_due Memory line = memory_line
line_due WriteFault line = write_line
line_due Ended line = line
line_due Rejected line = line
line_due Trapped line = line
line_due Blocked line = line
line_due Budget line = line
line_due ReadFault line = line

-- What the status is after the reply's output was written, where the faults of the sink went from one count to the other.
pub data IsDelivery (before now : ℕ) (old new : Option (List ℕ)) (reply : Reply) (status : Status) : Type 0 where
  whole : status ≡ reply.status → now ≡ before → Appends old new reply.output → IsDelivery before now old new reply status
  cut : status ≡ WriteFault → before < now → (reply.output ≡ [] → ⊥) → AppendsPrefix old new reply.output → IsDelivery before now old new reply status
