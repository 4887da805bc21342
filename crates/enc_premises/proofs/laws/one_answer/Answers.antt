use Rattle.enc_premises.proofs.Telling as laws
use Rattle.enc_premises.proofs.laws.one_answer.Goals as goal

pub returns-clause-either : goal.returns-clause-either
returns-clause-either c = laws.either

pub returns-clause-not_both : goal.returns-clause-not_both
returns-clause-not_both c = laws.not_both

pub returns-clause-unique : goal.returns-clause-unique
returns-clause-unique c = laws.unique
