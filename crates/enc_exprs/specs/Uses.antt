-- Variables in their places.
use Rattle.std.specs.Prelude.{codes, ℕ, Bool, true, false, not, ◌||◌, List, [], ◌∷◌, Option, Some, None, is_some}
use Rattle.enc_ast.specs.declared.rules.Span.{Span}
use Rattle.enc_ast.specs.declared.rules.Rule.TheVariants as rule
use Rattle.enc_premises.specs.Premises.{Premises, node}
use Rattle.enc_flow.specs.Env.{Env, number_of, find, ty_of, moved_of, linear, takes, marked_at}
use Rattle.enc_exprs.specs.declared.uses.Use.{Use}
use Rattle.enc_exprs.specs.declared.uses.Use.TheVariants.{Copies, Consumes, Looks}

-- the word of "this"
abbrev pub this_word : List ℕ
this_word = codes "this"

-- a variable of a linear type may stand there; "this" may not be moved
abbrev pub lets_linear : Use → Bool → Bool
lets_linear Copies mine = false
lets_linear Consumes mine = not mine
lets_linear Looks mine = true

-- a variable in a place, or "this", which is mine
unfoldable pub variable : Env → Use → Bool → List ℕ → Span → Premises
variable env u mine x s = node s (
    (rule.EVar, is_some (find env x)) ∷
    (rule.EMoved, not (moved_of (find env x))) ∷
    (rule.ECopy, lets_linear u mine || not (linear (ty_of (find env x)))) ∷ [])

-- a name that stands in no place
unfoldable pub visible : Env → List ℕ → Span → Premises
visible env x s = node s ((rule.EVar, is_some (find env x)) ∷ [])

-- the variable with this number is taken, where there is one
abbrev pub taken_at : Env → Option ℕ → Env
taken_at env None = env
taken_at env (Some i) = takes env i

-- the variable of this name is moved, where its type is linear
unfoldable pub lends : Env → List ℕ → Env
lends env x = taken_at env (number_of env x)

-- the variable with this number can be used again, where there is one
abbrev pub given_at : Env → Option ℕ → Env
given_at env None = env
given_at env (Some i) = marked_at env i false

-- the variable of this name can be used again
unfoldable pub regains : Env → List ℕ → Env
regains env x = given_at env (number_of env x)
