-- The sources that a text spells are within the limits.
use Rattle.std.proofs.Common.{◌≡◌, ℕ, ◌&&◌, List, refl}
use Rattle.enc_ast.specs.declared.decls.Name.{Name}
use Rattle.enc_ast.specs.declared.Expr.{Expr}
use Rattle.enc_ast.specs.declared.stmts.Receiver.{Receiver}
use Rattle.enc_ast.specs.declared.sources.Source.{Source}
use Rattle.enc_cursor.specs.Place.{Place}
use Rattle.enc_stmts.specs.Words.{of_one, of_two, of_function}
use Rattle.enc_stmts.specs.declared.words.Single.{Single}
use Rattle.enc_stmts.specs.declared.words.Single.TheVariants as singles
use Rattle.enc_stmts.specs.declared.words.Double.{Double}
use Rattle.enc_stmts.specs.declared.words.Double.TheVariants as doubles
use Rattle.enc_stmts.specs.declared.words.Applied.{Applied}
use Rattle.enc_stmts.specs.declared.words.Applied.TheVariants as applieds
use Rattle.enc_stmts.specs.Sources.{IsReceiver, IsSource}
use Rattle.enc_stmts.specs.Sources as gr
use Rattle.enc_limits.specs.Exprs.{whole_fits}
use Rattle.enc_limits.specs.Sources.{receiver_fits, applied_fits, source_fits}
use Rattle.enc_within.proofs.Leads.{Leads, then, said}
use Rattle.enc_within.proofs.Tokens.{token}
use Rattle.enc_within.proofs.Names.{word_is}
use Rattle.enc_within.proofs.Types.{counts}
use Rattle.enc_within.proofs.Exprs.{whole_is, arguments_are}

-- what a word with one operand asks
single_fits : (w : Single) (n : ℕ) (x : Expr) → whole_fits n x ≡ source_fits n (of_one w x)
single_fits singles.Get n x = refl
single_fits singles.Await n x = refl
single_fits singles.Each n x = refl
single_fits singles.Join n x = refl
single_fits singles.Prune n x = refl
single_fits singles.Extract n x = refl
single_fits singles.Bestow n x = refl

-- what a word with two operands asks
double_fits : (w : Double) (n : ℕ) (x y : Expr) → (whole_fits n x && whole_fits n y) ≡ source_fits n (of_two w x y)
double_fits doubles.Both n x y = refl
double_fits doubles.Otherwise n x y = refl

-- what a word with a function asks
function_fits : (w : Applied) (n : ℕ) (x : Expr) (m : Name) (xs : List Expr) → applied_fits n x m xs ≡ source_fits n (of_function w x m xs)
function_fits applieds.Chain n x m xs = refl
function_fits applieds.Seq n x m xs = refl

module _ {text : List ℕ} {i m : ℕ} where
  -- what is asked of a receiver
  pub receiver_is : {x : Receiver} {a b : Place} → IsReceiver text x a b → Leads text (counts i 0 m 0) (counts i 0 m 0) (receiver_fits x) a b
  receiver_is (gr.name s) = word_is s
  receiver_is (gr.this s) = token s

  -- what is asked of a source
  pub source_is : {n : ℕ} {x : Source} {a b : Place} → IsSource text n x a b → Leads text (counts i 0 m 0) (counts i 0 m 0) (source_fits n x.form) a b
  source_is (gr.value s) = whole_is s
  source_is (gr.new s t) = then (token s) (word_is t)
  source_is (gr.field s t u) = then (token s) (then (token t) (word_is u))
  source_is (gr.take s t u v) = then (token s) (then (token t) (then (token u) (word_is v)))
  source_is (gr.call s t u v) = then (receiver_is s) (then (token t) (then (word_is u) (arguments_are v)))
  source_is (gr.send s t u v) = then (receiver_is s) (then (token t) (then (word_is u) (arguments_are v)))
  source_is (gr.on_one {n = n} {w} {x} s t) = said _ (single_fits w n x) (then (token s) (whole_is t))
  source_is (gr.lift s t) = then (token s) (whole_is t)
  source_is (gr.lift_future s t u) = then (token s) (then (token t) (whole_is u))
  source_is (gr.on_two {n = n} {w} {x} {y} s t u v) = said _ (double_fits w n x y) (then (token s) (then (whole_is t) (then (token u) (whole_is v))))
  source_is (gr.by_function {n = n} {w} {x} {m = f} {xs} s t u v z) = said _ (function_fits w n x f xs) (then (token s) (then (whole_is t) (then (token u) (then (word_is v) (arguments_are z)))))
