-- What the forms of expressions ask of types, and what they make of them.
use Rattle.std.specs.Prelude.{Bool, true, false, Option, Some, None, is_some, option_and_then}
use Rattle.enc_ast.specs.declared.Operator.{Operator}
use Rattle.enc_ast.specs.declared.Operator.TheVariants as op
use Rattle.enc_modes.specs.declared.ty.Ty.{Ty, out-Ty}
use Rattle.enc_modes.specs.declared.ty.Ty.TheOpen.{Ty-F}
use Rattle.enc_modes.specs.Equality.{same}
use Rattle.enc_modes.specs.Modes.{is_shareable}
use Rattle.enc_exprs.specs.declared.operands.Asked.{Asked}
use Rattle.enc_exprs.specs.declared.operands.Asked.TheVariants as asked

-- an outer level of integers
abbrev pub int_layer : Ty-F Ty → Bool
int_layer Ty-F.Int = true
int_layer _ = false

-- the type of integers
unfoldable pub is_int : Ty → Bool
is_int t = int_layer (out-Ty t)

-- an outer level of truth values
abbrev pub bool_layer : Ty-F Ty → Bool
bool_layer Ty-F.Bool = true
bool_layer _ = false

-- the type of truth values
unfoldable pub is_bool : Ty → Bool
is_bool t = bool_layer (out-Ty t)

-- an outer level of what can be compared
abbrev plain_layer : Ty-F Ty → Bool
plain_layer Ty-F.Int = true
plain_layer Ty-F.Bool = true
plain_layer Ty-F.Text = true
plain_layer _ = false

-- an integer, a truth value or a text
unfoldable pub is_plain : Ty → Bool
is_plain t = plain_layer (out-Ty t)

-- an outer level of what can refer to nothing
abbrev null_layer : Ty-F Ty → Bool
null_layer (Ty-F.Actor k) = true
null_layer (Ty-F.Cap gs) = true
null_layer (Ty-F.Bestowed a) = true
null_layer (Ty-F.Fut t) = true
null_layer _ = false

-- a capability type, an active class, a bestowed trait or a future
unfoldable pub can_be_null : Ty → Bool
can_be_null t = null_layer (out-Ty t)

-- the type of the elements, where the outer level is that of a list
abbrev pub item_layer : Ty-F Ty → Option Ty
item_layer (Ty-F.List t) = Some t
item_layer _ = None

-- the type of the elements of a list
unfoldable pub item_of : Ty → Option Ty
item_of t = item_layer (out-Ty t)

-- a type of lists
abbrev pub is_list : Ty → Bool
is_list t = is_some (item_of t)

-- the type of the elements of a list, where it is known to be one
abbrev pub items : Option Ty → Option Ty
items t = option_and_then item_of t

-- the same type, where the first is known
abbrev pub like : Option Ty → Ty → Bool
like None u = true
like (Some t) u = same t u

-- whether a type is known, and as asked
abbrev pub is_known_as : (Ty → Bool) → Option Ty → Bool
is_known_as want None = false
is_known_as want (Some t) = want t

-- ---- what a form asks of an operand

-- whether a type is as asked
abbrev pub asks : Asked → Ty → Bool
asks asked.Int = is_int
asks asked.Bool = is_bool
asks asked.Plain = is_plain
asks asked.Shareable = is_shareable
asks asked.List = is_list
asks asked.Null = can_be_null

-- ---- operators

-- operators that compute numbers
abbrev pub is_arithmetic : Operator → Bool
is_arithmetic op.Add = true
is_arithmetic op.Subtract = true
is_arithmetic op.Multiply = true
is_arithmetic op.Divide = true
is_arithmetic op.Remainder = true
is_arithmetic _ = false

-- operators that compare numbers
abbrev pub is_ordering : Operator → Bool
is_ordering op.Less = true
is_ordering op.LessEqual = true
is_ordering op.Greater = true
is_ordering op.GreaterEqual = true
is_ordering _ = false

-- operators that compare values of one type
abbrev pub is_equality : Operator → Bool
is_equality op.Equal = true
is_equality op.NotEqual = true
is_equality _ = false

-- operators on truth values
abbrev pub is_logical : Operator → Bool
is_logical op.Or = true
is_logical op.And = true
is_logical _ = false
