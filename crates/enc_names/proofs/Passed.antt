-- What the answer of the judge tells of the answer of the whole.
use Rattle.enc_premises.proofs.Passing.{is_memory, no_fault}
use Rattle.enc_premises.proofs.Telling.{tells, accepts}

-- what a goal on the answer can need
pub ruleset judged = (tells, accepts, is_memory, no_fault)
