-- How much of each there may be, and what a name and an opening bracket may be.
use Rattle.std.specs.Prelude.{◌&&◌, ℕ, suc, Bool, true, not, List, [], ◌∷◌, length, nat_le}
use Rattle.enc_ast.specs.Keywords.{is_keyword}
use Rattle.enc_ast.specs.declared.decls.Name.{Name}

-- bytes of a text
abbrev pub max_bytes : ℕ
max_bytes = 1048576

-- bytes of a name
abbrev pub max_letters : ℕ
max_letters = 255

-- brackets that are open at once
abbrev pub max_brackets : ℕ
max_brackets = 256

-- variables that are visible at once in a body, `this` not counted
abbrev pub max_variables : ℕ
max_variables = 255

-- operators of a whole expression
abbrev pub max_operators : ℕ
max_operators = 256

-- traits, classes, functions, methods and fields together
abbrev pub max_declared : ℕ
max_declared = 65535

-- groups of a class, and traits of a disjunction
abbrev pub max_groups : ℕ
max_groups = 64

-- it holds of each
abbrev pub every : {A : Type 0} → (A → Bool) → List A → Bool
every f [] = true
every f (x ∷ xs) = f x && every f xs

-- a word that can be a name: it isn't too long, and the language hasn't it for itself
abbrev pub is_name : List ℕ → Bool
is_name word = nat_le (length word) max_letters && not (is_keyword word)

abbrev pub name_fits : Name → Bool
name_fits x = is_name x.word

-- where n brackets are open, one more may be opened
abbrev pub opens : ℕ → Bool
opens n = nat_le (suc n) max_brackets
