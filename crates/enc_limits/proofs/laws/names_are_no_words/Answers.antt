use Rattle.enc_limits.proofs.Names.{assigned, bound, split, packed, chosen, parameter}
use Rattle.enc_limits.proofs.laws.names_are_no_words.Goals as goal

pub returns-clause-assigned : goal.returns-clause-assigned
returns-clause-assigned c = assigned

pub returns-clause-bound : goal.returns-clause-bound
returns-clause-bound c = bound

pub returns-clause-split : goal.returns-clause-split
returns-clause-split c = split

pub returns-clause-packed : goal.returns-clause-packed
returns-clause-packed c = packed

pub returns-clause-chosen : goal.returns-clause-chosen
returns-clause-chosen c = chosen

pub returns-clause-parameter : goal.returns-clause-parameter
returns-clause-parameter c = parameter
