-- What the kinds of tokens stand for in types and expressions.
use Rattle.std.specs.Prelude.{Option, Some, None}
use Rattle.enc_lex.specs.declared.kinds.Kind.{Kind}
use Rattle.enc_lex.specs.declared.kinds.Kind.TheVariants as k
use Rattle.enc_ast.specs.declared.TypeText.{TypeText}
use Rattle.enc_ast.specs.declared.TypeForm.{TypeForm}
use Rattle.enc_ast.specs.declared.TypeForm.TheVariants as ty
use Rattle.enc_ast.specs.declared.Expr.{Expr}
use Rattle.enc_ast.specs.declared.ExprForm.{ExprForm}
use Rattle.enc_ast.specs.declared.ExprForm.TheVariants as e
use Rattle.enc_ast.specs.declared.Operator.{Operator}
use Rattle.enc_ast.specs.declared.Operator.TheVariants as op
use Rattle.enc_terms.specs.declared.words.Wrapper.{Wrapper}
use Rattle.enc_terms.specs.declared.words.Wrapper.TheVariants as wrappers
use Rattle.enc_terms.specs.declared.words.Prefix.{Prefix}
use Rattle.enc_terms.specs.declared.words.Prefix.TheVariants as prefixes
use Rattle.enc_terms.specs.declared.words.Typed.{Typed}
use Rattle.enc_terms.specs.declared.words.Typed.TheVariants as typeds
use Rattle.enc_terms.specs.declared.words.Single.{Single}
use Rattle.enc_terms.specs.declared.words.Single.TheVariants as singles
use Rattle.enc_terms.specs.declared.words.Double.{Double}
use Rattle.enc_terms.specs.declared.words.Double.TheVariants as doubles

-- ---- types

-- "int", "bool", "text" or "unit"
abbrev pub plain_type : Kind → Option TypeForm
plain_type k.TypeInt = Some ty.Int
plain_type k.TypeBool = Some ty.Bool
plain_type k.TypeText = Some ty.Text
plain_type k.Unit = Some ty.Unit
plain_type _ = None

-- "Fut", "Par", "List" or "Bestowed"
abbrev pub wrapper : Kind → Option Wrapper
wrapper k.Fut = Some wrappers.Fut
wrapper k.Par = Some wrappers.Par
wrapper k.List = Some wrappers.List
wrapper k.Bestowed = Some wrappers.Bestowed
wrapper _ = None

-- the type that such a word makes of another
abbrev pub wrapped : Wrapper → TypeText → TypeForm
wrapped wrappers.Fut x = ty.Fut x
wrapped wrappers.Par x = ty.Par x
wrapped wrappers.List x = ty.List x
wrapped wrappers.Bestowed x = ty.Bestowed x

-- ---- operators

-- "or"
abbrev pub or_word : Kind → Option Operator
or_word k.Or = Some op.Or
or_word _ = None

-- "and"
abbrev pub and_word : Kind → Option Operator
and_word k.And = Some op.And
and_word _ = None

-- "==", "!=", "<", "<=", ">" or ">="
abbrev pub comparison : Kind → Option Operator
comparison k.Equal = Some op.Equal
comparison k.NotEqual = Some op.NotEqual
comparison k.Less = Some op.Less
comparison k.LessEqual = Some op.LessEqual
comparison k.Greater = Some op.Greater
comparison k.GreaterEqual = Some op.GreaterEqual
comparison _ = None

-- "+" or "-"
abbrev pub sign : Kind → Option Operator
sign k.Plus = Some op.Add
sign k.Minus = Some op.Subtract
sign _ = None

-- "*", "/" or "%"
abbrev pub factor : Kind → Option Operator
factor k.Star = Some op.Multiply
factor k.Slash = Some op.Divide
factor k.Percent = Some op.Remainder
factor _ = None

-- "-" or "not" before an atom
abbrev pub prefix : Kind → Option Prefix
prefix k.Minus = Some prefixes.Minus
prefix k.Not = Some prefixes.Not
prefix _ = None

-- what such a word makes of an expression
abbrev pub prefixed : Prefix → Expr → ExprForm
prefixed prefixes.Minus x = e.Negative x
prefixed prefixes.Not x = e.Not x

-- ---- atoms

-- "true", "false" or "unit"
abbrev pub constant : Kind → Option ExprForm
constant k.True = Some e.True
constant k.False = Some e.False
constant k.Unit = Some e.Unit
constant _ = None

-- "null", "empty" or "nil"
abbrev pub typed : Kind → Option Typed
typed k.Null = Some typeds.Null
typed k.Empty = Some typeds.Empty
typed k.Nil = Some typeds.Nil
typed _ = None

-- the value of a type that such a word stands for
abbrev pub value_of_type : Typed → TypeText → ExprForm
value_of_type typeds.Null t = e.Null t
value_of_type typeds.Empty t = e.Empty t
value_of_type typeds.Nil t = e.Nil t

-- "len" or "isnull"
abbrev pub single : Kind → Option Single
single k.Len = Some singles.Len
single k.IsNull = Some singles.IsNull
single _ = None

-- what such a word makes of its operand
abbrev pub of_one : Single → Expr → ExprForm
of_one singles.Len x = e.Len x
of_one singles.IsNull x = e.IsNull x

-- "at" or "append"
abbrev pub double : Kind → Option Double
double k.At = Some doubles.At
double k.Append = Some doubles.Append
double _ = None

-- what such a word makes of its operands
abbrev pub of_two : Double → Expr → Expr → ExprForm
of_two doubles.At x y = e.At x y
of_two doubles.Append x y = e.Append x y
