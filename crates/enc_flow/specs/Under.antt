-- The order of environments by what can be used in them, and what it follows from.
use Rattle.std.specs.Prelude.{◌≡◌, ℕ, List, [], ◌∷◌, Some, None, length, drop}
use Rattle.enc_modes.specs.declared.ty.Ty.{Ty}
use Rattle.enc_flow.specs.Vars.{Var}
use Rattle.enc_flow.specs.Env.{Env, usable, number_of}

-- what can be used in the first can be used in the second, with the same type
abbrev pub Under : Env → Env → Type 0
Under e d = (x : List ℕ) (t : Ty) → usable e x ≡ Some t → usable d x ≡ Some t

-- Both have the same names and types in order, moved or not.
pub data Alike : Env → Env → Type 0 where
  alike_end : Alike [] []
  alike_more : {v w : Var} {vs ws : Env} → v.word ≡ w.word → v.ty ≡ w.ty → Alike vs ws → Alike (v ∷ vs) (w ∷ ws)

-- The second begins with the names and types of the first, moved or not.
pub data Grown : Env → Env → Type 0 where
  grown_end : {ws : Env} → Grown [] ws
  grown_more : {v w : Var} {vs ws : Env} → v.word ≡ w.word → v.ty ≡ w.ty → Grown vs ws → Grown (v ∷ vs) (w ∷ ws)

-- no variable of the second has a name of the first
abbrev pub AreNew : Env → Env → Type 0
AreNew env [] = Unit
AreNew env (v ∷ vs) = (number_of env v.word ≡ None) × AreNew env vs

-- The second begins with the first, and its further variables have other names.
pub record GrownByNew (env grown : Env) : Type 0 where
  pub first : Grown env grown
  pub further : AreNew env (drop (length env) grown)
