-- What an expression gives.
use Rattle.std.specs.Prelude.{ℕ, ℤ, pos, negsuc, Bool, List, [], ◌∷◌, Option, Some, None, ◌^◌, nat_lt, cond, ◌+ℤ◌, ◌-ℤ◌, ◌*ℤ◌}
use Rattle.std.specs.Str.{bytes_eq}
use Rattle.enc_ast.specs.declared.Expr.{Expr, fold-Expr}
use Rattle.enc_ast.specs.declared.ExprForm.TheOpen.{ExprForm-F}
use Rattle.enc_ast.specs.declared.Operator.{Operator}
use Rattle.enc_ast.specs.declared.Operator.TheVariants as operators
use Rattle.enc_model.specs.declared.values.Value.{Value}
use Rattle.enc_model.specs.declared.values.Value.TheVariants as values
use Rattle.enc_model.specs.declared.values.TrapKind.TheVariants.{Overflow}
use Rattle.enc_model.specs.declared.moves.Got.{Got}
use Rattle.enc_model.specs.declared.moves.Got.TheVariants.{Gives, Traps, Nothing}

-- ---- variables

-- a variable: its name and its value
abbrev pub Local : Type 0
Local = List ℕ × Option Value

-- what a variable gives that has this value, or none
abbrev pub got_of : Option Value → Got
got_of None = Nothing
got_of (Some value) = Gives value

-- the value of the first variable of this name
abbrev pub found : List ℕ → List Local → Got
found name [] = Nothing
found name (local ∷ locals) = cond (bytes_eq local.0 name) (got_of local.1) (found name locals)

-- ---- operators

-- whether 64 signed bits are enough for the number
abbrev pub has_64_bits : ℤ → Bool
has_64_bits (pos n) = nat_lt n (2 ^ 63)
has_64_bits (negsuc n) = nat_lt n (2 ^ 63)

-- the number, or a trap where it has more than 64 signed bits
abbrev pub fit : ℤ → Got
fit z = cond (has_64_bits z) (Gives (values.Int z)) (Traps Overflow)

-- what an operator makes of two numbers, where it has a meaning so far
abbrev pub result_of : Operator → ℤ → ℤ → Option ℤ
result_of operators.Add x y = Some (x +ℤ y)
result_of operators.Subtract x y = Some (x -ℤ y)
result_of operators.Multiply x y = Some (x *ℤ y)
result_of _ x y = None

-- what comes of a result, if there is one
abbrev pub fitted : Option ℤ → Got
fitted None = Nothing
fitted (Some z) = fit z

-- what an operator gives of two values, each of which must be a number
abbrev pub operated : Operator → Value → Value → Got
operated operator (values.Int x) (values.Int y) = fitted (result_of operator x y)
operated operator _ _ = Nothing

-- operands from left to right: the first that gives no value counts
abbrev pub binary : Operator → Got → Got → Got
binary operator (Gives x) (Gives y) = operated operator x y
binary operator (Gives x) Nothing = Nothing
binary operator (Gives x) (Traps kind) = Traps kind
binary operator (Traps kind) right = Traps kind
binary operator Nothing right = Nothing

-- ---- expressions

-- what a layer gives, from what stands inside gives; the forms that have no meaning so far give nothing
abbrev pub layer_gives : ExprForm-F (List Local → Got) (List Local → Got) → List Local → Got
layer_gives (ExprForm-F.Int z) locals = Gives (values.Int z)
layer_gives (ExprForm-F.Text bytes) locals = Gives (values.Text bytes)
layer_gives (ExprForm-F.Name name) locals = found name locals
layer_gives (ExprForm-F.Binary operator left right) locals = binary operator (left locals) (right locals)
layer_gives (ExprForm-F.Parens inside) locals = inside locals
layer_gives _ locals = Nothing

-- what the expression gives where these variables are bound
unfoldable pub eval : Expr → List Local → Got
eval = fold-Expr (List Local → Got) (List Local → Got) layer_gives (λ node. node.form)
