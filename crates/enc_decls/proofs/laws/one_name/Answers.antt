use Rattle.enc_decls.proofs.Holding as laws
use Rattle.enc_decls.proofs.laws.one_name.Goals as goal

pub returns : goal.returns
returns c = laws.one_name
