-- The lines of the error stream.
use Rattle.std.specs.Prelude.{ℕ, List, ◌++◌, codes, decimal}
use Rattle.enc_ast.specs.Place.{line_of, column_of}
use Rattle.enc_ast.specs.Rules.{rule_name}
use Rattle.enc_ast.specs.declared.Rule.{Rule}
use Rattle.enc_ast.specs.declared.Span.{Span}
use Rattle.enc_model.specs.declared.TrapKind.{TrapKind}
use Rattle.enc_model.specs.Phase.{trap_name}

abbrev pub usage_line : List ℕ
usage_line = codes "usage: encore check FILE, run FILE, replay FILE SCHEDULE, generate SEED SIZE\n"

abbrev pub memory_line : List ℕ
memory_line = codes "out of memory\n"

abbrev pub write_line : List ℕ
write_line = codes "cannot write\n"

-- of a file that can't be read
abbrev pub read_line : List ℕ → List ℕ
read_line file = file ++ codes ": cannot read\n"

-- what is at a line and a column of a file
abbrev pub placed : List ℕ → ℕ → ℕ → List ℕ → List ℕ
placed file line column what = file ++ codes ":" ++ decimal line ++ codes ":" ++ decimal column ++ codes ": " ++ what ++ codes "\n"

-- of a text that breaks a rule
abbrev pub reject_line : List ℕ → List ℕ → Rule → Span → List ℕ
reject_line file text rule span = placed file (line_of text span.start) (column_of text span.start) (rule_name rule)

-- of an actor that has trapped at a statement
abbrev pub trap_line : List ℕ → List ℕ → ℕ → TrapKind → Span → List ℕ
trap_line file text actor kind span =
    placed file (line_of text span.start) (column_of text span.start) (trap_name kind ++ codes " in actor " ++ decimal actor)

-- of a run in which so many actors wait
abbrev pub blocked_line : ℕ → List ℕ
blocked_line waiting = codes "blocked: " ++ decimal waiting ++ codes "\n"

-- of a run that has made so many steps
abbrev pub budget_line : ℕ → List ℕ
budget_line steps = codes "budget: " ++ decimal steps ++ codes "\n"
