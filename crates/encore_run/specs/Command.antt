-- What the words ask for.
use Rattle.std.specs.Prelude.{ℕ, Bool, false, List, [], ◌∷◌, map, Option, Some, None, codes, string_bytes, String, if◌then◌else◌}
use Rattle.std.specs.Str.{bytes_eq}
use Rattle.std.specs.declared.alloc.Global.{Global}
use Rattle.encore_run.specs.declared.words.Command.{Command}
use Rattle.encore_run.specs.declared.words.Command.TheVariants.{Run}

-- the words as lists of bytes
abbrev pub words_of : List (String Global) → List (List ℕ)
words_of words = map string_bytes words

-- `run FILE`, or nothing where the words are no command
abbrev pub command_of : List (List ℕ) → Option Command
command_of (verb ∷ file ∷ []) = if bytes_eq verb (codes "run") then Some (Run file) else None
command_of _ = None

-- the files that a command reads
abbrev pub files_of : Command → List (List ℕ)
files_of (Run file) = file ∷ []

-- the file with the program's text
abbrev pub source_of : Command → List ℕ
source_of (Run file) = file

-- whether the command writes its schedule to the history
abbrev pub records : Command → Bool
records (Run file) = false
