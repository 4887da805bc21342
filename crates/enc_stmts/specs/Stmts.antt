-- Statements: which of them stand between two places. One case for each shape of an alternative.
-- The number is that of the brackets that are open around.
use Rattle.std.specs.Prelude.{◌≡◌, ℕ, suc, List, [], ◌∷◌, Some, None}
use Rattle.enc_ast.specs.declared.rules.Span.{Span}
use Rattle.enc_lex.specs.declared.kinds.Kind.TheVariants as k
use Rattle.enc_ast.specs.declared.decls.Name.{Name}
use Rattle.enc_ast.specs.declared.TypeText.{TypeText}
use Rattle.enc_ast.specs.declared.Expr.{Expr}
use Rattle.enc_ast.specs.declared.stmts.Receiver.{Receiver}
use Rattle.enc_ast.specs.declared.sources.Source.{Source}
use Rattle.enc_ast.specs.declared.Stmt.{Stmt}
use Rattle.enc_ast.specs.declared.StmtForm.{StmtForm}
use Rattle.enc_ast.specs.declared.StmtForm.TheVariants as st
use Rattle.enc_cursor.specs.Counts.{word, variable, leave}
use Rattle.enc_cursor.specs.Place.{Place, place, recounted, extent}
use Rattle.enc_cursor.specs.Stretch.{IsToken, IsSpan, IsOpening}
use Rattle.enc_terms.specs.Names.{IsNameAs}
use Rattle.enc_terms.specs.Types.{IsCap}
use Rattle.enc_terms.specs.Exprs.{IsWhole, IsWholes, IsArgs}
use Rattle.enc_stmts.specs.Sources.{IsReceiver, IsSource}

-- a statement of this form that stands there
abbrev pub stmt_of : StmtForm → Place → Place → Stmt
stmt_of form a b = record { form = form; span = extent a b }

-- the place b, where the variables that were made visible behind a are so no longer
abbrev pub left : Place → Place → Place
left a b = place (recounted (leave a.spot.counts b.spot.counts) b.spot) b.log

mutual
  pub data IsStmt (text : List ℕ) : ℕ → Stmt → Place → Place → Type 0 where
    -- "let" NAME "=" source ";"
    let_ : {n : ℕ} {x : Name} {y : Source} {a b c d f g : Place} → IsToken k.Let a b → IsNameAs variable text x b c → IsToken k.Assign c d → IsSource text n y d f → IsToken k.Semicolon f g → IsStmt text n (stmt_of (st.Let x y) a g) a g
    -- NAME "=" expr ";"
    assign : {n : ℕ} {x : Name} {y : Expr} {a b c d f : Place} → IsNameAs word text x a b → IsToken k.Assign b c → IsWhole text n y c d → IsToken k.Semicolon d f → IsStmt text n (stmt_of (st.Assign x y) a f) a f
    -- "this" "." NAME "=" expr ";"
    store : {n : ℕ} {v : Span} {x : Name} {y : Expr} {a b c d f g h : Place} → IsSpan k.This v a b → IsToken k.Dot b c → IsNameAs word text x c d → IsToken k.Assign d f → IsWhole text n y f g → IsToken k.Semicolon g h → IsStmt text n (stmt_of (st.Store v x y) a h) a h
    -- recv "." NAME args ";"
    call : {n : ℕ} {to : Receiver} {m : Name} {xs : List Expr} {a b c d f g : Place} → IsReceiver text to a b → IsToken k.Dot b c → IsNameAs word text m c d → IsArgs text n xs d f → IsToken k.Semicolon f g → IsStmt text n (stmt_of (st.Call to m xs) a g) a g
    -- recv "!" NAME args ";"
    send : {n : ℕ} {to : Receiver} {m : Name} {xs : List Expr} {a b c d f g : Place} → IsReceiver text to a b → IsToken k.Bang b c → IsNameAs word text m c d → IsArgs text n xs d f → IsToken k.Semicolon f g → IsStmt text n (stmt_of (st.Send to m xs) a g) a g
    -- "if" expr block
    if_ : {n : ℕ} {x : Expr} {xs : List Stmt} {a b c d : Place} → IsToken k.If a b → IsWhole text n x b c → IsBlock text n xs c d → IsStmt text n (stmt_of (st.If x xs None) a d) a d
    -- "if" expr block "else" block
    if_else : {n : ℕ} {x : Expr} {xs ys : List Stmt} {a b c d f g : Place} → IsToken k.If a b → IsWhole text n x b c → IsBlock text n xs c d → IsToken k.Else d f → IsBlock text n ys f g → IsStmt text n (stmt_of (st.If x xs (Some ys)) a g) a g
    -- "while" expr block
    while_ : {n : ℕ} {x : Expr} {xs : List Stmt} {a b c d : Place} → IsToken k.While a b → IsWhole text n x b c → IsBlock text n xs c d → IsStmt text n (stmt_of (st.While x xs) a d) a d
    -- "atomic" expr block
    atomic : {n : ℕ} {x : Expr} {xs : List Stmt} {a b c d : Place} → IsToken k.Atomic a b → IsWhole text n x b c → IsBlock text n xs c d → IsStmt text n (stmt_of (st.Atomic x xs) a d) a d
    -- "split" NAME "into" NAME ":" cap "," NAME ":" cap ";"
    split : {n : ℕ} {x y z : Name} {t u : TypeText} {a b c d f g h i j l m o : Place} → IsToken k.Split a b → IsNameAs word text x b c → IsToken k.Into c d → IsNameAs variable text y d f → IsToken k.Colon f g → IsCap text n t g h → IsToken k.Comma h i → IsNameAs variable text z i j → IsToken k.Colon j l → IsCap text n u l m → IsToken k.Semicolon m o → IsStmt text n (stmt_of (st.Split x y t z u) a o) a o
    -- "pack" NAME "and" NAME "into" NAME block "else" block, of which the last name is visible in the first block
    pack : {n : ℕ} {x y z : Name} {xs ys : List Stmt} {a b c d f g h i j l m : Place} → IsToken k.Pack a b → IsNameAs word text x b c → IsToken k.And c d → IsNameAs word text y d f → IsToken k.Into f g → IsNameAs variable text z g h → IsBlock text n xs h i → j ≡ left g i → IsToken k.Else j l → IsBlock text n ys l m → IsStmt text n (stmt_of (st.Pack x y z xs ys) a m) a m
    -- "choose" NAME "as" NAME "into" NAME ";"
    choose : {n : ℕ} {x t y : Name} {a b c d f g h i : Place} → IsToken k.Choose a b → IsNameAs word text x b c → IsToken k.As c d → IsNameAs word text t d f → IsToken k.Into f g → IsNameAs variable text y g h → IsToken k.Semicolon h i → IsStmt text n (stmt_of (st.Choose x t y) a i) a i
    -- "return" expr ";"
    return : {n : ℕ} {x : Expr} {a b c d : Place} → IsToken k.Return a b → IsWhole text n x b c → IsToken k.Semicolon c d → IsStmt text n (stmt_of (st.Return x) a d) a d
    -- "print" expr { "," expr } ";"
    print : {n : ℕ} {xs : List Expr} {a b : Place} (c : Place) {d : Place} → IsToken k.Print a b → IsWholes text n xs b c → IsToken k.Semicolon c d → IsStmt text n (stmt_of (st.Print xs) a d) a d
    -- "suspend" ";"
    suspend : {n : ℕ} {a b c : Place} → IsToken k.Suspend a b → IsToken k.Semicolon b c → IsStmt text n (stmt_of st.Suspend a c) a c

  -- block = "{" { stmt } "}", at whose end its variables are visible no longer
  pub data IsBlock (text : List ℕ) : ℕ → List Stmt → Place → Place → Type 0 where
    block : {n : ℕ} {xs : List Stmt} {a b c d f : Place} → IsOpening n k.OpenBrace a b → IsStmts text (suc n) xs b c → IsToken k.CloseBrace c d → f ≡ left a d → IsBlock text n xs a f

  -- { stmt }
  pub data IsStmts (text : List ℕ) : ℕ → List Stmt → Place → Place → Type 0 where
    none : {n : ℕ} {a : Place} → IsStmts text n [] a a
    more : {n : ℕ} {x : Stmt} {xs : List Stmt} {a b c : Place} → IsStmt text n x a b → IsStmts text n xs b c → IsStmts text n (x ∷ xs) a c
