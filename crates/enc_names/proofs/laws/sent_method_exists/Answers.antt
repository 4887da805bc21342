use Rattle.enc_names.proofs.There as laws
use Rattle.enc_names.proofs.laws.sent_method_exists.Goals as goal

pub returns-clause-signature : goal.returns-clause-signature
returns-clause-signature c = laws.sent_method_exists

pub returns-clause-active : goal.returns-clause-active
returns-clause-active c = laws.sent_active

pub returns-clause-bestowed : goal.returns-clause-bestowed
returns-clause-bestowed c = laws.sent_bestowed
