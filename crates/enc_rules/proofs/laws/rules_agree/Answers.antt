use Rattle.enc_rules.proofs.ProgramsDone.{program_done}
use Rattle.enc_rules.proofs.ProgramsSound.{program_sound}
use Rattle.enc_rules.proofs.laws.rules_agree.Goals as goal

pub returns-clause-typed_holds : goal.returns-clause-typed_holds
returns-clause-typed_holds c = program_done

pub returns-clause-held_is_typed : goal.returns-clause-held_is_typed
returns-clause-held_is_typed c = program_sound
