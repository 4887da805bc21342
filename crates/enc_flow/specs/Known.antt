-- What is known of the types of variables.
use Rattle.std.specs.Prelude.{◌≡◌, [], ◌∷◌, Some}
use Rattle.enc_modes.specs.declared.ty.Ty.{Ty}
use Rattle.enc_flow.specs.Vars.{Var}
use Rattle.enc_flow.specs.Env.{Env}

-- Each variable has a known type.
pub data Knows : Env → Type 0 where
  end : Knows []
  more : {v : Var} {vs : Env} (t : Ty) → v.ty ≡ Some t → Knows vs → Knows (v ∷ vs)
