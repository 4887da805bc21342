-- What the kinds of tokens stand for where the value of a new variable comes from.
use Rattle.std.specs.Prelude.{List, Option, Some, None}
use Rattle.enc_lex.specs.declared.kinds.Kind.{Kind}
use Rattle.enc_lex.specs.declared.kinds.Kind.TheVariants as k
use Rattle.enc_ast.specs.declared.Expr.{Expr}
use Rattle.enc_ast.specs.declared.decls.Name.{Name}
use Rattle.enc_ast.specs.declared.sources.SourceForm.{SourceForm}
use Rattle.enc_ast.specs.declared.sources.SourceForm.TheVariants as s
use Rattle.enc_stmts.specs.declared.words.Single.{Single}
use Rattle.enc_stmts.specs.declared.words.Single.TheVariants as singles
use Rattle.enc_stmts.specs.declared.words.Double.{Double}
use Rattle.enc_stmts.specs.declared.words.Double.TheVariants as doubles
use Rattle.enc_stmts.specs.declared.words.Applied.{Applied}
use Rattle.enc_stmts.specs.declared.words.Applied.TheVariants as applieds

-- "get", "await", "each", "join", "prune", "extract" or "bestow"
abbrev pub single : Kind → Option Single
single k.Get = Some singles.Get
single k.Await = Some singles.Await
single k.Each = Some singles.Each
single k.Join = Some singles.Join
single k.Prune = Some singles.Prune
single k.Extract = Some singles.Extract
single k.Bestow = Some singles.Bestow
single _ = None

-- what such a word makes of its operand
abbrev pub of_one : Single → Expr → SourceForm
of_one singles.Get x = s.Get x
of_one singles.Await x = s.Await x
of_one singles.Each x = s.Each x
of_one singles.Join x = s.Join x
of_one singles.Prune x = s.Prune x
of_one singles.Extract x = s.Extract x
of_one singles.Bestow x = s.Bestow x

-- "both" or "otherwise"
abbrev pub double : Kind → Option Double
double k.Both = Some doubles.Both
double k.Otherwise = Some doubles.Otherwise
double _ = None

-- what such a word makes of its operands
abbrev pub of_two : Double → Expr → Expr → SourceForm
of_two doubles.Both x y = s.Both x y
of_two doubles.Otherwise x y = s.Otherwise x y

-- "chain" or "seq"
abbrev pub applied : Kind → Option Applied
applied k.Chain = Some applieds.Chain
applied k.Seq = Some applieds.Seq
applied _ = None

-- what such a word makes of its operand, a function and the further arguments
abbrev pub of_function : Applied → Expr → Name → List Expr → SourceForm
of_function applieds.Chain x n xs = s.Chain x n xs
of_function applieds.Seq x n xs = s.Seq x n xs
