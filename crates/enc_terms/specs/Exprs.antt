-- Expressions: which of them stand between two places. One case for each shape of an alternative.
-- The number is that of the brackets that are open around.
use Rattle.std.specs.Prelude.{ℕ, suc, pos, List, [], ◌∷◌}
use Rattle.enc_ast.specs.declared.rules.Span.{Span}
use Rattle.enc_lex.specs.declared.kinds.Kind.TheVariants as k
use Rattle.enc_lex.specs.Values.{bytes_at, int_of, text_of, word_of}
use Rattle.enc_ast.specs.declared.TypeText.{TypeText}
use Rattle.enc_ast.specs.declared.Expr.{Expr}
use Rattle.enc_ast.specs.declared.ExprForm.{ExprForm}
use Rattle.enc_ast.specs.declared.ExprForm.TheVariants as e
use Rattle.enc_ast.specs.declared.Operator.{Operator}
use Rattle.enc_cursor.specs.Counts.{plain, word, finish}
use Rattle.enc_cursor.specs.Place.{Place, extent}
use Rattle.enc_cursor.specs.Stretch.{Stretch, IsMarked, by_kind, IsToken, IsSpan, IsOpening, IsOneOf, IsNameBy, Separated, Closed}
use Rattle.enc_terms.specs.Words.{or_word, and_word, comparison, sign, factor, prefix, prefixed, constant, typed, value_of_type, single, of_one, double, of_two}
use Rattle.enc_terms.specs.Types.{IsType}
use Rattle.enc_terms.specs.declared.words.Prefix.{Prefix}
use Rattle.enc_terms.specs.declared.words.Typed.{Typed}
use Rattle.enc_terms.specs.declared.words.Single.{Single}
use Rattle.enc_terms.specs.declared.words.Double.{Double}

-- an expression of this form that stands there
abbrev pub expr_of : ExprForm → Place → Place → Expr
expr_of form a b = record { form = form; span = extent a b }

mutual
  -- expr = conj { "or" conj }
  pub data IsExpr (text : List ℕ) : ℕ → Expr → Place → Place → Type 0 where
    conj : {n : ℕ} {x : Expr} {a b : Place} → IsConj text n x a b → IsExpr text n x a b
    either : {n : ℕ} {o : Operator} {x y : Expr} {a b c d : Place} → IsExpr text n x a b → IsOneOf or_word o b c → IsConj text n y c d → IsExpr text n (expr_of (e.Binary o x y) a d) a d

  -- conj = comp { "and" comp }
  pub data IsConj (text : List ℕ) : ℕ → Expr → Place → Place → Type 0 where
    comp : {n : ℕ} {x : Expr} {a b : Place} → IsComp text n x a b → IsConj text n x a b
    also : {n : ℕ} {o : Operator} {x y : Expr} {a b c d : Place} → IsConj text n x a b → IsOneOf and_word o b c → IsComp text n y c d → IsConj text n (expr_of (e.Binary o x y) a d) a d

  -- comp = sum [ ( "==" | "!=" | "<" | "<=" | ">" | ">=" ) sum ]
  pub data IsComp (text : List ℕ) : ℕ → Expr → Place → Place → Type 0 where
    sum : {n : ℕ} {x : Expr} {a b : Place} → IsSum text n x a b → IsComp text n x a b
    compared : {n : ℕ} {o : Operator} {x y : Expr} {a b c d : Place} → IsSum text n x a b → IsOneOf comparison o b c → IsSum text n y c d → IsComp text n (expr_of (e.Binary o x y) a d) a d

  -- sum = term { ( "+" | "-" ) term }
  pub data IsSum (text : List ℕ) : ℕ → Expr → Place → Place → Type 0 where
    term : {n : ℕ} {x : Expr} {a b : Place} → IsTerm text n x a b → IsSum text n x a b
    added : {n : ℕ} {o : Operator} {x y : Expr} {a b c d : Place} → IsSum text n x a b → IsOneOf sign o b c → IsTerm text n y c d → IsSum text n (expr_of (e.Binary o x y) a d) a d

  -- term = unary { ( "*" | "/" | "%" ) unary }
  pub data IsTerm (text : List ℕ) : ℕ → Expr → Place → Place → Type 0 where
    unary : {n : ℕ} {x : Expr} {a b : Place} → IsUnary text n x a b → IsTerm text n x a b
    multiplied : {n : ℕ} {o : Operator} {x y : Expr} {a b c d : Place} → IsTerm text n x a b → IsOneOf factor o b c → IsUnary text n y c d → IsTerm text n (expr_of (e.Binary o x y) a d) a d

  -- unary = [ "-" | "not" ] atom
  pub data IsUnary (text : List ℕ) : ℕ → Expr → Place → Place → Type 0 where
    atom : {n : ℕ} {x : Expr} {a b : Place} → IsAtom text n x a b → IsUnary text n x a b
    before : {n : ℕ} {p : Prefix} {x : Expr} {a b c : Place} → IsOneOf prefix p a b → IsAtom text n x b c → IsUnary text n (expr_of (prefixed p x) a c) a c

  -- atom = INT | ... | ( "at" | "append" ) "(" expr "," expr ")"
  pub data IsAtom (text : List ℕ) : ℕ → Expr → Place → Place → Type 0 where
    -- INT
    int : {n : ℕ} {v : Span} {a b : Place} → IsSpan k.Int v a b → IsAtom text n (expr_of (e.Int (pos (int_of (bytes_at text v)))) a b) a b
    -- TEXT
    quoted : {n : ℕ} {v : Span} {a b : Place} → IsSpan k.Text v a b → IsAtom text n (expr_of (e.Text (text_of (bytes_at text v))) a b) a b
    -- "this"
    this : {n : ℕ} {a b : Place} → IsToken k.This a b → IsAtom text n (expr_of e.This a b) a b
    -- "true" | "false" | "unit"
    fixed : {n : ℕ} {form : ExprForm} {a b : Place} → IsMarked plain (by_kind constant) form a b → IsAtom text n (expr_of form a b) a b
    -- NAME
    name : {n : ℕ} {v : Span} {a b : Place} → IsNameBy word v a b → IsAtom text n (expr_of (e.Name (word_of (bytes_at text v))) a b) a b
    -- "(" expr ")"
    parens : {n : ℕ} {x : Expr} {a b c d : Place} → IsOpening n k.OpenParen a b → IsExpr text (suc n) x b c → IsToken k.CloseParen c d → IsAtom text n (expr_of (e.Parens x) a d) a d
    -- "[" expr { "," expr } "]"
    list : {n : ℕ} {xs : List Expr} {a b c d : Place} → IsOpening n k.OpenBracket a b → IsExprs text (suc n) xs b c → IsToken k.CloseBracket c d → IsAtom text n (expr_of (e.List xs) a d) a d
    -- ( "null" | "empty" | "nil" ) "[" type "]"
    of_type : {n : ℕ} {w : Typed} {t : TypeText} {a b c d f : Place} → IsMarked plain (by_kind typed) w a b → IsOpening n k.OpenBracket b c → IsType text (suc n) t c d → IsToken k.CloseBracket d f → IsAtom text n (expr_of (value_of_type w t) a f) a f
    -- ( "len" | "isnull" ) "(" expr ")"
    on_one : {n : ℕ} {w : Single} {x : Expr} {a b c d f : Place} → IsMarked plain (by_kind single) w a b → IsOpening n k.OpenParen b c → IsExpr text (suc n) x c d → IsToken k.CloseParen d f → IsAtom text n (expr_of (of_one w x) a f) a f
    -- ( "at" | "append" ) "(" expr "," expr ")"
    on_two : {n : ℕ} {w : Double} {x y : Expr} {a b c d f g h : Place} → IsMarked plain (by_kind double) w a b → IsOpening n k.OpenParen b c → IsExpr text (suc n) x c d → IsToken k.Comma d f → IsExpr text (suc n) y f g → IsToken k.CloseParen g h → IsAtom text n (expr_of (of_two w x y) a h) a h

  -- expr { "," expr }
  pub data IsExprs (text : List ℕ) : ℕ → List Expr → Place → Place → Type 0 where
    one : {n : ℕ} {x : Expr} {a b : Place} → IsExpr text n x a b → IsExprs text n (x ∷ []) a b
    more : {n : ℕ} {x : Expr} {xs : List Expr} {a b c d : Place} → IsExpr text n x a b → IsToken k.Comma b c → IsExprs text n xs c d → IsExprs text n (x ∷ xs) a d

-- an expression that stands in no other one, whose operators are counted together
abbrev pub IsWhole : List ℕ → ℕ → Expr → Stretch
IsWhole text n = Closed finish (IsExpr text n)

-- whole expressions with commas between
abbrev pub IsWholes : List ℕ → ℕ → List Expr → Stretch
IsWholes text n = Separated k.Comma (IsWhole text n)

-- args = "(" [ expr { "," expr } ] ")"
pub data IsArgs (text : List ℕ) : ℕ → List Expr → Place → Place → Type 0 where
  none : {n : ℕ} {a b c : Place} → IsOpening n k.OpenParen a b → IsToken k.CloseParen b c → IsArgs text n [] a c
  some : {n : ℕ} {xs : List Expr} {a b : Place} (c : Place) {d : Place} → IsOpening n k.OpenParen a b → IsWholes text (suc n) xs b c → IsToken k.CloseParen c d → IsArgs text n xs a d
