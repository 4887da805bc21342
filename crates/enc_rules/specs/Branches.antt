-- What can be used where two branches meet.
use Rattle.enc_flow.specs.Env.{Env, merged}
use Rattle.enc_flow.specs.Under.{Under}

-- what can be used after two branches can be used at the end of each
abbrev pub UnderBoth : Env → Env → Type 0
UnderBoth left right = Under (merged left right) left × Under (merged left right) right
