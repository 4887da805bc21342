-- The names that are in scope, and what a walk over an expression asks of it.
use Rattle.std.specs.Prelude.{ℕ, Bool, true, false, List, map}
use Rattle.std.specs.Borrow.{Bor}
use Rattle.enc_ast.specs.declared.Expr.{Expr}
use Rattle.enc_ast.specs.Thin.{Shape, Part, Sum, Other, shape_of}

-- what the names say
abbrev pub words_of : List (Bor (List ℕ)) → List (List ℕ)
words_of names = map (λ name. name.now) names

-- whether a shape is that of an integer or a variable
abbrev pub is_one_part : Shape → Bool
is_one_part Part = true
is_one_part Sum = false
is_one_part Other = false

-- an integer or a variable, in any brackets
abbrev pub is_part : List (List ℕ) → Expr → Bool
is_part names expr = is_one_part (shape_of names expr)
