use Rattle.enc_decls.specs.Rules.{table_premises}
use Rattle.enc_premises.proofs.Telling as laws
use Rattle.enc_names.proofs.laws.tables_answer.Goals as goal

pub returns-clause-either : goal.returns-clause-either
returns-clause-either c p = laws.either (table_premises p)

pub returns-clause-not_both : goal.returns-clause-not_both
returns-clause-not_both c p = laws.not_both (table_premises p)

pub returns-clause-unique : goal.returns-clause-unique
returns-clause-unique c p = laws.unique (table_premises p)
