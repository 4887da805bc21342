-- Programs in the thin form: one active class whose method `main` computes with integers and prints.
use Rattle.std.specs.Prelude.{◌&&◌, ◌||◌, ℕ, Bool, true, false, not, List, [], ◌∷◌, ◌++◌, length, nat_le, codes, if◌then◌else◌}
use Rattle.std.specs.List.{list_any, list_all}
use Rattle.std.specs.Str.{bytes_eq}
use Rattle.enc_ast.specs.Keywords.{is_keyword}
use Rattle.enc_ast.specs.declared.decls.Program.{Program}
use Rattle.enc_ast.specs.declared.decls.Decl.{Decl}
use Rattle.enc_ast.specs.declared.decls.Decl.TheVariants.{Active}
use Rattle.enc_ast.specs.declared.decls.Field.{Field}
use Rattle.enc_ast.specs.declared.decls.Method.{Method}
use Rattle.enc_ast.specs.declared.decls.Param.{Param}
use Rattle.enc_ast.specs.declared.types.TypeForm.{TypeForm, out-TypeForm}
use Rattle.enc_ast.specs.declared.types.TypeForm.TheOpen.{TypeForm-F}
use Rattle.enc_ast.specs.declared.types.TypeText.{TypeText}
use Rattle.enc_ast.specs.declared.stmts.Stmt.{Stmt}
use Rattle.enc_ast.specs.declared.stmts.StmtForm.{StmtForm, out-StmtForm}
use Rattle.enc_ast.specs.declared.stmts.StmtForm.TheOpen.{StmtForm-F}
use Rattle.enc_ast.specs.declared.sources.SourceForm.{SourceForm}
use Rattle.enc_ast.specs.declared.sources.SourceForm.TheVariants as sources
use Rattle.enc_ast.specs.declared.exprs.Expr.{Expr, fold-Expr}
use Rattle.enc_ast.specs.declared.exprs.ExprForm.{ExprForm, out-ExprForm}
use Rattle.enc_ast.specs.declared.exprs.ExprForm.TheOpen.{ExprForm-F}
use Rattle.enc_ast.specs.declared.exprs.Operator.{Operator}
use Rattle.enc_ast.specs.declared.exprs.Operator.TheVariants as operators

-- ---- expressions, where the variables of these names are bound

-- whether one of the names is the word
abbrev pub is_among : List (List ℕ) → List ℕ → Bool
is_among names word = list_any (λ name. bytes_eq name word) names

-- What an expression is to the thin form, whatever brackets stand round it or its parts.
pub data Shape : Type 0 where
  -- an integer, or a variable
  Part : Shape
  -- two parts with `+`, `-` or `*` between
  Sum : Shape
  -- whatever the thin form has not
  Other : Shape

-- one of the three operators `+`, `-` and `*`
abbrev pub is_arithmetic : Operator → Bool
is_arithmetic operators.Add = true
is_arithmetic operators.Subtract = true
is_arithmetic operators.Multiply = true
is_arithmetic _ = false

-- the shape of an operator between two operands of these shapes
abbrev pub between : Operator → Shape → Shape → Shape
between operator Part Part = if is_arithmetic operator then Sum else Other
between operator _ _ = Other

-- the shape of one level of an expression, from those of what stands inside
abbrev pub layer_shape : List (List ℕ) → ExprForm-F Shape Shape → Shape
layer_shape names (ExprForm-F.Int value) = Part
layer_shape names (ExprForm-F.Name word) = if is_among names word then Part else Other
layer_shape names (ExprForm-F.Parens inside) = inside
layer_shape names (ExprForm-F.Binary operator left right) = between operator left right
layer_shape names _ = Other

-- the shape of an expression
unfoldable pub shape_of : List (List ℕ) → Expr → Shape
shape_of names = fold-Expr Shape Shape (layer_shape names) (λ node. node.form)

-- a part or a sum
abbrev pub is_number : Shape → Bool
is_number Part = true
is_number Sum = true
is_number Other = false

-- an expression whose value is a number: a part, or a sum of two
abbrev pub is_sum : List (List ℕ) → Expr → Bool
is_sum names expr = is_number (shape_of names expr)

-- one level of an expression
abbrev pub Layer : Type 0
Layer = ExprForm-F ExprForm Expr

-- a text, by its outer level
abbrev pub is_text_layer : Layer → Bool
is_text_layer (ExprForm-F.Text bytes) = true
is_text_layer _ = false

-- what can be printed: a text, or a sum
abbrev pub is_item : List (List ℕ) → Expr → Bool
is_item names expr = is_text_layer (out-ExprForm expr.form) || is_sum names expr

-- ---- statements

-- whether a new variable is bound to a sum
abbrev pub is_sum_source : List (List ℕ) → SourceForm → Bool
is_sum_source names (sources.Expr expr) = is_sum names expr
is_sum_source names _ = false

-- a name that no variable has, and neither that of the parameter nor a word of the language
abbrev pub is_free : List (List ℕ) → List ℕ → Bool
is_free names word = not (is_among names word) && not (bytes_eq word (codes "args")) && not (is_keyword word)

-- at least one item, each of which can be printed
abbrev pub is_some_items : List (List ℕ) → List Expr → Bool
is_some_items names [] = false
is_some_items names (item ∷ items) = list_all (is_item names) (item ∷ items)

-- one level of a statement
abbrev pub StmtLayer : Type 0
StmtLayer = StmtForm-F StmtForm Stmt

-- a binding of a free name, or a print of some items, by its outer level
abbrev pub is_line_layer : List (List ℕ) → StmtLayer → Bool
is_line_layer names (StmtForm-F.Let name source) = is_free names name.word && is_sum_source names source.form
is_line_layer names (StmtForm-F.Print items) = is_some_items names items
is_line_layer names _ = false

-- a binding of a free name, or a print of some items
abbrev pub is_line : List (List ℕ) → StmtForm → Bool
is_line names form = is_line_layer names (out-StmtForm form)

-- the variables that are bound after the statement, by its outer level
abbrev pub bound_after_layer : List (List ℕ) → StmtLayer → List (List ℕ)
bound_after_layer names (StmtForm-F.Let name source) = names ++ name.word ∷ []
bound_after_layer names _ = names

-- the variables that are bound after the statement
abbrev pub bound_after : List (List ℕ) → StmtForm → List (List ℕ)
bound_after names form = bound_after_layer names (out-StmtForm form)

-- the statements of a body, at most 254 of which bind a variable
abbrev pub is_body : List (List ℕ) → List Stmt → Bool
is_body names [] = nat_le (length names) 254
is_body names (stmt ∷ stmts) = is_line names stmt.form && is_body (bound_after names stmt.form) stmts

-- ---- programs

-- one level of a type
abbrev pub TypeLayer : Type 0
TypeLayer = TypeForm-F TypeForm TypeText

-- the type of integers, by its outer level
abbrev pub is_int_layer : TypeLayer → Bool
is_int_layer TypeForm-F.Int = true
is_int_layer _ = false

-- the type of integers
abbrev pub is_int : TypeText → Bool
is_int ty = is_int_layer (out-TypeForm ty.form)

-- the type of no result, by its outer level
abbrev pub is_unit_layer : TypeLayer → Bool
is_unit_layer TypeForm-F.Unit = true
is_unit_layer _ = false

-- the type of no result
abbrev pub is_unit : TypeText → Bool
is_unit ty = is_unit_layer (out-TypeForm ty.form)

-- the type of lists of integers, by its outer level
abbrev pub is_int_list_layer : TypeLayer → Bool
is_int_list_layer (TypeForm-F.List item) = is_int item
is_int_list_layer _ = false

-- the type of lists of integers
abbrev pub is_int_list : TypeText → Bool
is_int_list ty = is_int_list_layer (out-TypeForm ty.form)

-- the one parameter of `main`
abbrev pub is_args : List Param → Bool
is_args (param ∷ []) = bytes_eq param.name.word (codes "args") && is_int_list param.ty
is_args _ = false

-- one method, `main`, of one parameter and no result, with a body in the thin form
abbrev pub is_main : List Method → Bool
is_main (method ∷ []) = bytes_eq method.name.word (codes "main") && is_args method.params && is_unit method.result && is_body [] method.body
is_main _ = false

-- no field at all
abbrev pub is_empty : List Field → Bool
is_empty [] = true
is_empty _ = false

-- one declaration, the active class `Main`, with no field and with `main` alone
abbrev pub is_main_class : List Decl → Bool
is_main_class (Active class ∷ []) = bytes_eq class.name.word (codes "Main") && is_empty class.fields && is_main class.methods
is_main_class _ = false

-- whether a program is in the thin form
abbrev pub is_thin : Program → Bool
is_thin program = is_main_class program.decls

-- ---- what runs

-- the statements of the first method, or none
abbrev pub first_body : List Method → List Stmt
first_body [] = []
first_body (method ∷ methods) = method.body

-- the statements of the first method of an active class that comes first, or none
abbrev pub main_body : List Decl → List Stmt
main_body (Active class ∷ decls) = first_body class.methods
main_body _ = []

-- the statements of `main`
abbrev pub body_of : Program → List Stmt
body_of program = main_body program.decls
