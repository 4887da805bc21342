-- What stands behind a receiver, and what a source or a statement makes of it.
use Rattle.std.specs.Prelude.{List, Option, Some, None}
use Rattle.enc_ast.specs.declared.rules.Span.{Span}
use Rattle.enc_ast.specs.declared.decls.Name.{Name}
use Rattle.enc_ast.specs.declared.Expr.{Expr}
use Rattle.enc_ast.specs.declared.stmts.Receiver.{Receiver}
use Rattle.enc_ast.specs.declared.stmts.Receiver.TheVariants as r
use Rattle.enc_ast.specs.declared.sources.SourceForm.{SourceForm}
use Rattle.enc_ast.specs.declared.sources.SourceForm.TheVariants as s
use Rattle.enc_ast.specs.declared.StmtForm.{StmtForm}
use Rattle.enc_ast.specs.declared.StmtForm.TheVariants as st
use Rattle.enc_stmts.specs.declared.requests.Request.{Request}
use Rattle.enc_stmts.specs.declared.requests.Request.TheVariants as requests
use Rattle.enc_stmts.specs.declared.requests.Member.{Member}
use Rattle.enc_stmts.specs.declared.requests.Member.TheVariants as members
use Rattle.enc_stmts.specs.declared.requests.Action.{Action}
use Rattle.enc_stmts.specs.declared.requests.Action.TheVariants as actions

-- the source that asks this of a receiver
abbrev pub source_asked : Receiver → Request → SourceForm
source_asked to (requests.Call m xs) = s.Call to m xs
source_asked to (requests.Send m xs) = s.Send to m xs

-- the statement that asks this of a receiver
abbrev pub stmt_asked : Receiver → Request → StmtForm
stmt_asked to (requests.Call m xs) = st.Call to m xs
stmt_asked to (requests.Send m xs) = st.Send to m xs

-- a field, or a method that is called where there are arguments
abbrev pub member_of : Name → Option (List Expr) → Member
member_of x None = members.Field x
member_of x (Some xs) = members.Asked (requests.Call x xs)

-- the source that "this" and a member of it are
abbrev pub member_source : Span → Member → SourceForm
member_source v (members.Field x) = s.Field v x
member_source v (members.Asked q) = source_asked (r.This v) q

-- the statement that does this with "this"
abbrev pub action_stmt : Span → Action → StmtForm
action_stmt v (actions.Store x y) = st.Store v x y
action_stmt v (actions.Asked q) = stmt_asked (r.This v) q
