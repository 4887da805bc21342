-- What new variables are bound to: which of these sources stand between two places. One case for each shape of an alternative.
-- The number is that of the brackets that are open around.
use Rattle.std.specs.Prelude.{ℕ, List}
use Rattle.enc_ast.specs.declared.rules.Span.{Span}
use Rattle.enc_lex.specs.declared.kinds.Kind.TheVariants as k
use Rattle.enc_ast.specs.declared.decls.Name.{Name}
use Rattle.enc_ast.specs.declared.Expr.{Expr}
use Rattle.enc_ast.specs.declared.stmts.Receiver.{Receiver}
use Rattle.enc_ast.specs.declared.stmts.Receiver.TheVariants as r
use Rattle.enc_ast.specs.declared.sources.Source.{Source}
use Rattle.enc_ast.specs.declared.sources.SourceForm.{SourceForm}
use Rattle.enc_ast.specs.declared.sources.SourceForm.TheVariants as s
use Rattle.enc_cursor.specs.Counts.{plain, word}
use Rattle.enc_cursor.specs.Place.{Place, extent}
use Rattle.enc_cursor.specs.Stretch.{IsMarked, by_kind, IsToken, IsSpan}
use Rattle.enc_terms.specs.Names.{IsNameAs}
use Rattle.enc_terms.specs.Exprs.{IsWhole, IsArgs}
use Rattle.enc_stmts.specs.Words.{single, of_one, double, of_two, applied, of_function}
use Rattle.enc_stmts.specs.declared.words.Single.{Single}
use Rattle.enc_stmts.specs.declared.words.Double.{Double}
use Rattle.enc_stmts.specs.declared.words.Applied.{Applied}

-- recv = NAME | "this"
pub data IsReceiver (text : List ℕ) : Receiver → Place → Place → Type 0 where
  name : {x : Name} {a b : Place} → IsNameAs word text x a b → IsReceiver text (r.Name x) a b
  this : {v : Span} {a b : Place} → IsSpan k.This v a b → IsReceiver text (r.This v) a b

-- a source of this form that stands there
abbrev pub source_of : SourceForm → Place → Place → Source
source_of form a b = record { form = form; span = extent a b }

-- source = expr | ... | "bestow" expr
pub data IsSource (text : List ℕ) : ℕ → Source → Place → Place → Type 0 where
  -- expr
  value : {n : ℕ} {x : Expr} {a b : Place} → IsWhole text n x a b → IsSource text n (source_of (s.Expr x) a b) a b
  -- "new" NAME
  new : {n : ℕ} {x : Name} {a b c : Place} → IsToken k.New a b → IsNameAs word text x b c → IsSource text n (source_of (s.New x) a c) a c
  -- "this" "." NAME
  field : {n : ℕ} {v : Span} {x : Name} {a b c d : Place} → IsSpan k.This v a b → IsToken k.Dot b c → IsNameAs word text x c d → IsSource text n (source_of (s.Field v x) a d) a d
  -- "take" "this" "." NAME
  take : {n : ℕ} {v : Span} {x : Name} {a b c d f : Place} → IsToken k.Take a b → IsSpan k.This v b c → IsToken k.Dot c d → IsNameAs word text x d f → IsSource text n (source_of (s.Take v x) a f) a f
  -- recv "." NAME args
  call : {n : ℕ} {to : Receiver} {m : Name} {xs : List Expr} {a b c d f : Place} → IsReceiver text to a b → IsToken k.Dot b c → IsNameAs word text m c d → IsArgs text n xs d f → IsSource text n (source_of (s.Call to m xs) a f) a f
  -- recv "!" NAME args
  send : {n : ℕ} {to : Receiver} {m : Name} {xs : List Expr} {a b c d f : Place} → IsReceiver text to a b → IsToken k.Bang b c → IsNameAs word text m c d → IsArgs text n xs d f → IsSource text n (source_of (s.Send to m xs) a f) a f
  -- ( "get" | "await" | "each" | "join" | "prune" | "extract" | "bestow" ) expr
  on_one : {n : ℕ} {w : Single} {x : Expr} {a b c : Place} → IsMarked plain (by_kind single) w a b → IsWhole text n x b c → IsSource text n (source_of (of_one w x) a c) a c
  -- "lift" expr
  lift : {n : ℕ} {x : Expr} {a b c : Place} → IsToken k.Lift a b → IsWhole text n x b c → IsSource text n (source_of (s.Lift x) a c) a c
  -- "lift" "future" expr
  lift_future : {n : ℕ} {x : Expr} {a b c d : Place} → IsToken k.Lift a b → IsToken k.Future b c → IsWhole text n x c d → IsSource text n (source_of (s.LiftFuture x) a d) a d
  -- ( "both" | "otherwise" ) expr "," expr
  on_two : {n : ℕ} {w : Double} {x y : Expr} {a b c d f : Place} → IsMarked plain (by_kind double) w a b → IsWhole text n x b c → IsToken k.Comma c d → IsWhole text n y d f → IsSource text n (source_of (of_two w x y) a f) a f
  -- ( "chain" | "seq" ) expr "with" NAME args
  by_function : {n : ℕ} {w : Applied} {x : Expr} {m : Name} {xs : List Expr} {a b c d f g : Place} → IsMarked plain (by_kind applied) w a b → IsWhole text n x b c → IsToken k.With c d → IsNameAs word text m d f → IsArgs text n xs f g → IsSource text n (source_of (of_function w x m xs) a g) a g
