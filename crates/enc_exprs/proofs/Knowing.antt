-- The types of variables stay known, whatever an expression uses.
use Rattle.std.proofs.Common.{ℕ, List, Option, Some, None, false}
use Rattle.enc_flow.specs.Env.{Env, number_of}
use Rattle.enc_flow.specs.Known.{Knows}
use Rattle.enc_flow.proofs.Knowing.{knows_marked, knows_takes}
use Rattle.enc_exprs.specs.Uses.{lends, regains, taken_at, given_at}
use Rattle.enc_exprs.specs.Exprs.{consumes}

-- a variable taken
knows_taken : {env : Env} → Knows env → (n : Option ℕ) → Knows (taken_at env n)
knows_taken k None = k
knows_taken k (Some i) = knows_takes k i

-- a variable given back
knows_given : {env : Env} → Knows env → (n : Option ℕ) → Knows (given_at env n)
knows_given k None = k
knows_given k (Some i) = knows_marked k i false

-- after a variable was moved
pub knows_lends : {env : Env} → Knows env → (x : List ℕ) → Knows (lends env x)
unfolding lends
knows_lends {env} k x = knows_taken k (number_of env x)

-- after one can be used again
pub knows_regains : {env : Env} → Knows env → (x : List ℕ) → Knows (regains env x)
unfolding regains
knows_regains {env} k x = knows_given k (number_of env x)

-- after an expression in a consuming place
pub knows_consumes : {env : Env} → Knows env → (x : Option (List ℕ)) → Knows (consumes env x)
knows_consumes k None = k
knows_consumes k (Some x) = knows_lends k x
