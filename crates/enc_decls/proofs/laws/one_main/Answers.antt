use Rattle.enc_decls.proofs.Holding as laws
use Rattle.enc_decls.proofs.laws.one_main.Goals as goal

pub returns-clause-there : goal.returns-clause-there
returns-clause-there c = laws.there

pub returns-clause-alone : goal.returns-clause-alone
returns-clause-alone c = laws.alone
