use Rattle.enc_flow.proofs.Unders as laws
use Rattle.enc_flow.proofs.laws.growth.Goals as goal

pub returns-clause-none : goal.returns-clause-none
returns-clause-none c = laws.grown_self

pub returns-clause-then : goal.returns-clause-then
returns-clause-then c = λ x y z g h. laws.grown_then g h

pub returns-clause-declared : goal.returns-clause-declared
returns-clause-declared c = laws.grown_declares

pub returns-clause-marked : goal.returns-clause-marked
returns-clause-marked c = laws.grown_marked

pub returns-clause-taken : goal.returns-clause-taken
returns-clause-taken c = laws.grown_takes

pub returns-clause-merged : goal.returns-clause-merged
returns-clause-merged c = λ x y z g. laws.grown_merged g z

pub returns-clause-cut : goal.returns-clause-cut
returns-clause-cut c = λ x y g. laws.grown_cut g

pub returns-clause-both : goal.returns-clause-both
returns-clause-both c = λ x y z g h. laws.alike_both g h
