-- The types that are written in a body.
use Rattle.std.specs.Prelude.{List, Option, Some, None}
use Rattle.enc_ast.specs.declared.Expr.{Expr}
use Rattle.enc_ast.specs.declared.ExprForm.TheOpen.{ExprForm-F, Expr-F}
use Rattle.enc_ast.specs.declared.ExprForm.TheFolds.{fold-Expr}
use Rattle.enc_ast.specs.declared.sources.SourceForm.{SourceForm}
use Rattle.enc_ast.specs.declared.sources.SourceForm.TheVariants as s
use Rattle.enc_ast.specs.declared.Stmt.{Stmt}
use Rattle.enc_ast.specs.declared.StmtForm.TheOpen.{StmtForm-F, Stmt-F}
use Rattle.enc_ast.specs.declared.StmtForm.TheFolds.{fold-Stmt}
use Rattle.enc_premises.specs.Premises.{Premises, none, ◌⨾◌, each}
use Rattle.enc_types.specs.Names.{Names}
use Rattle.enc_types.specs.Written.{type_premises}

-- one after another
abbrev pub in_row : List Premises → Premises
in_row = each (λ p. p)

-- the types in what an expression says
abbrev pub expr_form : Names → ExprForm-F Premises Premises → Premises
expr_form names (ExprForm-F.Binary o a b) = a ⨾ b
expr_form names (ExprForm-F.Negative a) = a
expr_form names (ExprForm-F.Not a) = a
expr_form names (ExprForm-F.Int n) = none
expr_form names (ExprForm-F.Text t) = none
expr_form names ExprForm-F.True = none
expr_form names ExprForm-F.False = none
expr_form names ExprForm-F.Unit = none
expr_form names ExprForm-F.This = none
expr_form names (ExprForm-F.Name x) = none
expr_form names (ExprForm-F.Parens a) = a
expr_form names (ExprForm-F.List xs) = in_row xs
expr_form names (ExprForm-F.Null t) = type_premises names t
expr_form names (ExprForm-F.Empty t) = type_premises names t
expr_form names (ExprForm-F.Nil t) = type_premises names t
expr_form names (ExprForm-F.Len a) = a
expr_form names (ExprForm-F.IsNull a) = a
expr_form names (ExprForm-F.At a b) = a ⨾ b
expr_form names (ExprForm-F.Append a b) = a ⨾ b

-- a span has no types
abbrev pub expr_node : Expr-F Premises Premises → Premises
expr_node x = x.form

-- the types in an expression
unfoldable pub expr_types : Names → Expr → Premises
expr_types names = fold-Expr Premises Premises (expr_form names) expr_node

-- the types in several expressions
abbrev pub exprs_types : Names → List Expr → Premises
exprs_types names = each (expr_types names)

-- the types in a source
abbrev pub source_types : Names → SourceForm → Premises
source_types names (s.Expr x) = expr_types names x
source_types names (s.New c) = none
source_types names (s.Field v f) = none
source_types names (s.Take v f) = none
source_types names (s.Call to m xs) = exprs_types names xs
source_types names (s.Send to m xs) = exprs_types names xs
source_types names (s.Get x) = expr_types names x
source_types names (s.Await x) = expr_types names x
source_types names (s.Chain x f xs) = expr_types names x ⨾ exprs_types names xs
source_types names (s.Lift x) = expr_types names x
source_types names (s.LiftFuture x) = expr_types names x
source_types names (s.Each x) = expr_types names x
source_types names (s.Both x y) = expr_types names x ⨾ expr_types names y
source_types names (s.Otherwise x y) = expr_types names x ⨾ expr_types names y
source_types names (s.Seq x f xs) = expr_types names x ⨾ exprs_types names xs
source_types names (s.Join x) = expr_types names x
source_types names (s.Prune x) = expr_types names x
source_types names (s.Extract x) = expr_types names x
source_types names (s.Bestow x) = expr_types names x

-- the types in a block that may be there
abbrev pub any_block : Option (List Premises) → Premises
any_block None = none
any_block (Some ps) = in_row ps

-- the types in what a statement does
abbrev pub stmt_form : Names → StmtForm-F Premises Premises → Premises
stmt_form names (StmtForm-F.Let x y) = source_types names y.form
stmt_form names (StmtForm-F.Assign x y) = expr_types names y
stmt_form names (StmtForm-F.Store v x y) = expr_types names y
stmt_form names (StmtForm-F.Call to m xs) = exprs_types names xs
stmt_form names (StmtForm-F.Send to m xs) = exprs_types names xs
stmt_form names (StmtForm-F.If x a b) = expr_types names x ⨾ in_row a ⨾ any_block b
stmt_form names (StmtForm-F.While x a) = expr_types names x ⨾ in_row a
stmt_form names (StmtForm-F.Atomic x a) = expr_types names x ⨾ in_row a
stmt_form names (StmtForm-F.Split x y t z u) = type_premises names t ⨾ type_premises names u
stmt_form names (StmtForm-F.Pack x y z a b) = in_row a ⨾ in_row b
stmt_form names (StmtForm-F.Choose x t y) = none
stmt_form names (StmtForm-F.Return x) = expr_types names x
stmt_form names (StmtForm-F.Print xs) = exprs_types names xs
stmt_form names StmtForm-F.Suspend = none

-- a span has no types
abbrev pub stmt_node : Stmt-F Premises Premises → Premises
stmt_node x = x.form

-- the types in a statement
unfoldable pub stmt_types : Names → Stmt → Premises
stmt_types names = fold-Stmt Premises Premises (stmt_form names) stmt_node

-- the types in a body
abbrev pub body_types : Names → List Stmt → Premises
body_types names = each (stmt_types names)

-- the types in a block that may be there
abbrev pub else_types : Names → Option (List Stmt) → Premises
else_types names None = none
else_types names (Some xs) = body_types names xs
