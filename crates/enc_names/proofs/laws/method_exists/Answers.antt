use Rattle.enc_names.proofs.There as laws
use Rattle.enc_names.proofs.laws.method_exists.Goals as goal

pub returns-clause-signature : goal.returns-clause-signature
returns-clause-signature c = laws.method_exists

pub returns-clause-owner : goal.returns-clause-owner
returns-clause-owner c = laws.owner_exists

pub returns-clause-active : goal.returns-clause-active
returns-clause-active c = laws.called_active

pub returns-clause-traits : goal.returns-clause-traits
returns-clause-traits c = laws.called_traits
