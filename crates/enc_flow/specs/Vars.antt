-- A variable.
use Rattle.std.specs.Prelude.{ℕ, Bool, List, Option}
use Rattle.enc_modes.specs.declared.ty.Ty.{Ty}

pub record Var : Type 0 where
  pub word : List ℕ
  -- its type, where that is known
  pub ty : Option Ty
  pub moved : Bool
