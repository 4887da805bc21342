-- The text of a command's program, where the files tell it.
use Rattle.std.specs.Prelude.{◌≡◌, ℕ, List, Option, Some, Contains, IsSomeAnd}
use Rattle.enc_ast.specs.declared.Program.{Program}
use Rattle.enc_io.specs.Texts.{Texts, text_of}
use Rattle.encore_run.specs.declared.words.Command.{Command}
use Rattle.encore_run.specs.Built.{Runs}
use Rattle.encore_run.specs.Command.{command_of, files_of, source_of}

-- P holds of the text of the named file, where the texts are known
abbrev pub OfText : Option Texts → List ℕ → (List ℕ → Type 0) → Type 0
OfText texts name P = (known : Texts) (text : List ℕ) → texts ≡ Some known → text_of known name ≡ Some text → P text

-- P holds of the command's text and of the program of it that runs, where the text is known
abbrev pub OfSpelled : Option Texts → Command → (List ℕ → Program → Type 0) → Type 0
OfSpelled texts command P = OfText texts (source_of command) (λ text. (program : Program) → Runs text program → P text program)

-- P holds of the command that the words ask for and of its source's text, where that is known
abbrev pub OfSource : List (List ℕ) → Option Texts → (Command → List ℕ → Type 0) → Type 0
OfSource words texts P = (command : Command) → command_of words ≡ Some command → OfText texts (source_of command) (P command)

-- P holds of the command that the words ask for, of its source's text and of the program of it that runs, where the text is known
abbrev pub OfProgram : List (List ℕ) → Option Texts → (Command → List ℕ → Program → Type 0) → Type 0
OfProgram words texts P = (command : Command) → command_of words ≡ Some command → OfSpelled texts command (P command)

-- a file that the words name failed
abbrev pub NamedFileFailed : List (List ℕ) → Option (List ℕ) → Type 0
NamedFileFailed words failed = (command : Command) × (command_of words ≡ Some command) × IsSomeAnd failed (Contains (files_of command))
