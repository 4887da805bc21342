use Rattle.std.proofs.Common.{◌⊎◌, inl, inr}
use Rattle.enc_ast.specs.declared.decls.Program.{Program}
use Rattle.enc_ast.specs.declared.rules.Reject.{Reject}
use Rattle.enc_premises.specs.First.{AllHold}
use Rattle.enc_premises.proofs.Telling as premises
use Rattle.enc_rules.specs.Programs.{program_premises, IsFirstFailure}
use Rattle.enc_rules.specs.WellTyped.{WellTyped}
use Rattle.enc_rules.proofs.ProgramsDone.{program_done}
use Rattle.enc_rules.proofs.ProgramsSound.{program_sound}
use Rattle.enc_rules.proofs.laws.one_answer.Goals as goal

-- what the premises tell, of the program
told : (p : Program) → AllHold (program_premises p) ⊎ ((reject : Reject) × IsFirstFailure p reject) → WellTyped p ⊎ ((reject : Reject) × IsFirstFailure p reject)
told p (inl h) = inl (program_sound p h)
told p (inr f) = inr f

pub returns-clause-either : goal.returns-clause-either
returns-clause-either c = λ p. told p (premises.either (program_premises p))

pub returns-clause-not_both : goal.returns-clause-not_both
returns-clause-not_both c = λ p f w i. premises.not_both (program_premises p) f (program_done p w) i

pub returns-clause-unique : goal.returns-clause-unique
returns-clause-unique c = λ p. premises.unique (program_premises p)
