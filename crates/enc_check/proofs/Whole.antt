-- What the answer for the whole program tells.
use Rattle.std.proofs.Common.{Option, Some, None}
use Rattle.enc_ast.specs.declared.rules.Fail.{Fail}
use Rattle.enc_ast.specs.declared.rules.Fail.TheVariants as fail
use Rattle.enc_premises.specs.Premises.{Premises}
use Rattle.enc_ast.specs.declared.decls.Program.{Program}
use Rattle.enc_premises.specs.First.{AllHold}
use Rattle.enc_premises.specs.Passing.{Agrees, IsMemory, TellsFault}
use Rattle.enc_premises.proofs.Listed.{is_first, hold_first}
use Rattle.enc_premises.proofs.Passing.{both, here, later, nothing}
use Rattle.enc_premises.proofs.Telling.{tells, accepts}
use Rattle.enc_rules.specs.Programs.{program_premises}
use Rattle.enc_rules.specs.WellTyped.{WellTyped}
use Rattle.enc_rules.proofs.ProgramsDone.{program_done}
use Rattle.enc_rules.proofs.ProgramsSound.{program_sound}
use Rattle.enc_check.specs.Answers.{ChecksFault}

-- What tells of premises agrees with them.
pub agrees : (o : Option Fail) (ps : Premises) → TellsFault o ps → Agrees o ps
unfolding Agrees
agrees None ps h = hold_first ps h
agrees (Some fail.Memory) ps h = tt
agrees (Some (fail.Reject f)) ps h = is_first ps f h

pub ruleset told = (agrees)

pub ruleset parts = (both, here, later, nothing)

pub ruleset judged = (tells, accepts)

-- what is told of the premises of a program, of the program
pub checks : (o : Option Fail) (p : Program) → TellsFault o (program_premises p) → ChecksFault o p
checks None p h = program_sound p h
checks (Some fail.Memory) p h = tt
checks (Some (fail.Reject r)) p h = h

pub spares : (o : Option Fail) (p : Program) → (AllHold (program_premises p) → IsMemory o) → WellTyped p → IsMemory o
spares o p f w = f (program_done p w)

pub ruleset checked = (checks, spares, program_sound)
