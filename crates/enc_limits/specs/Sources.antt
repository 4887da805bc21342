-- Sources within the limits, where so many brackets are open around them.
use Rattle.std.specs.Prelude.{◌&&◌, ℕ, Bool, true, List}
use Rattle.enc_ast.specs.declared.decls.Name.{Name}
use Rattle.enc_ast.specs.declared.Expr.{Expr}
use Rattle.enc_ast.specs.declared.stmts.Receiver.{Receiver}
use Rattle.enc_ast.specs.declared.stmts.Receiver.TheVariants as r
use Rattle.enc_ast.specs.declared.sources.SourceForm.{SourceForm}
use Rattle.enc_ast.specs.declared.sources.SourceForm.TheVariants as s
use Rattle.enc_limits.specs.Numbers.{name_fits}
use Rattle.enc_limits.specs.Exprs.{whole_fits, arguments_fit}

abbrev pub receiver_fits : Receiver → Bool
receiver_fits (r.Name x) = name_fits x
receiver_fits (r.This v) = true

-- a method that is asked of a receiver
abbrev pub request_fits : ℕ → Receiver → Name → List Expr → Bool
request_fits n to m xs = receiver_fits to && (name_fits m && arguments_fit n xs)

-- a function that is applied to what an expression is of
abbrev pub applied_fits : ℕ → Expr → Name → List Expr → Bool
applied_fits n x f xs = whole_fits n x && (name_fits f && arguments_fit n xs)

abbrev pub source_fits : ℕ → SourceForm → Bool
source_fits n (s.Expr x) = whole_fits n x
source_fits n (s.New c) = name_fits c
source_fits n (s.Field v x) = name_fits x
source_fits n (s.Take v x) = name_fits x
source_fits n (s.Call to m xs) = request_fits n to m xs
source_fits n (s.Send to m xs) = request_fits n to m xs
source_fits n (s.Get x) = whole_fits n x
source_fits n (s.Await x) = whole_fits n x
source_fits n (s.Chain x f xs) = applied_fits n x f xs
source_fits n (s.Lift x) = whole_fits n x
source_fits n (s.LiftFuture x) = whole_fits n x
source_fits n (s.Each x) = whole_fits n x
source_fits n (s.Both x y) = whole_fits n x && whole_fits n y
source_fits n (s.Otherwise x y) = whole_fits n x && whole_fits n y
source_fits n (s.Seq x f xs) = applied_fits n x f xs
source_fits n (s.Join x) = whole_fits n x
source_fits n (s.Prune x) = whole_fits n x
source_fits n (s.Extract x) = whole_fits n x
source_fits n (s.Bestow x) = whole_fits n x
