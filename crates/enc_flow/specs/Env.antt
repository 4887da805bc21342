-- The visible variables, in the order in which they were declared.
use Rattle.std.specs.Prelude.{bytes_eq, ℕ, suc, Bool, true, false, not, ◌&&◌, ◌||◌, cond, List, [], ◌∷◌, ◌++◌, length, take, Option, Some, None, slice_get, slice_set}
use Rattle.enc_modes.specs.declared.ty.Ty.{Ty}
use Rattle.enc_modes.specs.Modes.{is_linear}
use Rattle.enc_flow.specs.Vars.{Var}

abbrev pub Env : Type 0
Env = List Var

-- ---- look-ups

abbrev pub or_else : {A : Type 0} → Option A → Option A → Option A
or_else (Some x) y = Some x
or_else None y = y

abbrev pub number_from : ℕ → Env → List ℕ → Option ℕ
number_from i [] x = None
number_from i (v ∷ vs) x = or_else (number_from (suc i) vs x) (cond (bytes_eq v.word x) (Some i) None)

-- the number of the variable of this name that was declared last
unfoldable pub number_of : Env → List ℕ → Option ℕ
number_of env x = number_from 0 env x

abbrev pub at_number : Env → Option ℕ → Option Var
at_number env None = None
at_number env (Some i) = slice_get env i

-- the variable of this name
unfoldable pub find : Env → List ℕ → Option Var
find env x = at_number env (number_of env x)

abbrev pub ty_of : Option Var → Option Ty
ty_of None = None
ty_of (Some v) = v.ty

abbrev pub moved_of : Option Var → Bool
moved_of None = false
moved_of (Some v) = v.moved

abbrev pub usable_of : Option Var → Option Ty
usable_of None = None
usable_of (Some v) = cond v.moved None v.ty

-- the type of the variable of this name, where it wasn't moved
abbrev pub usable : Env → List ℕ → Option Ty
usable env x = usable_of (find env x)

-- ---- changes

-- one more variable, which isn't moved
abbrev pub declares : Env → List ℕ → Option Ty → Env
declares env x t = env ++ record { word = x; ty = t; moved = false } ∷ []

abbrev pub marked_var : Env → ℕ → Option Var → Bool → Env
marked_var env i None b = env
marked_var env i (Some v) b = slice_set env i (record v { moved = b })

-- the variable with this number, moved or not
unfoldable pub marked_at : Env → ℕ → Bool → Env
marked_at env i b = marked_var env i (slice_get env i) b

abbrev pub linear : Option Ty → Bool
linear None = false
linear (Some t) = is_linear t

-- the variable with this number is moved, where its type is linear
abbrev pub takes : Env → ℕ → Env
takes env i = cond (linear (ty_of (slice_get env i))) (marked_at env i true) env

-- the same variables, each moved where it is moved in one of both
abbrev pub merged : Env → Env → Env
merged [] ws = []
merged (v ∷ vs) [] = v ∷ vs
merged (v ∷ vs) (w ∷ ws) = record v { moved = v.moved || w.moved } ∷ merged vs ws

-- the variables that were there before, after a block
abbrev pub cut : Env → Env → Env
cut env end = take (length env) end

-- the same ones are moved
abbrev pub same_moves : Env → Env → Bool
same_moves [] [] = true
same_moves [] (w ∷ ws) = false
same_moves (v ∷ vs) [] = false
same_moves (v ∷ vs) (w ∷ ws) = cond v.moved w.moved (not w.moved) && same_moves vs ws
