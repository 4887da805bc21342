-- Every statement is built from its parts.
use Rattle.std.proofs.Common.{◌≡◌, List, [], ◌∷◌, map, Some, None, sym, ◌∙◌, subst}
use Rattle.enc_ast.specs.declared.rules.Span.{Span}
use Rattle.enc_ast.specs.declared.decls.Name.{Name}
use Rattle.enc_ast.specs.declared.Expr.{Expr}
use Rattle.enc_ast.specs.declared.TypeText.{TypeText}
use Rattle.enc_ast.specs.declared.stmts.Receiver.{Receiver}
use Rattle.enc_ast.specs.declared.sources.Source.{Source}
use Rattle.enc_ast.specs.declared.Stmt.{Stmt}
use Rattle.enc_ast.specs.declared.StmtForm.{StmtForm, out-StmtForm}
use Rattle.enc_ast.specs.declared.StmtForm.TheOpen.{StmtForm-F}
use Rattle.enc_ast.specs.declared.StmtForm.TheViews.{out-roll-StmtForm}
use Rattle.enc_ast.specs.declared.StmtForm.TheFolds.{map-StmtForm, fold-StmtForm, fold_out-StmtForm, fold_out-Stmt, ind-StmtForm}
use Rattle.enc_premises.specs.Premises.{Premises}
use Rattle.enc_types.specs.Names.{Names}
use Rattle.enc_types.specs.Bodies.{stmt_form, stmt_node, stmt_types}
use Rattle.enc_rules.specs.Typing.{Layer}

mutual
  -- A layer is built from its parts.
  pub data Built : Layer → Type 0 where
    binds : {x : Name} {src : Source} → Built (StmtForm-F.Let x src)
    assigns : {x : Name} {y : Expr} → Built (StmtForm-F.Assign x y)
    stores : {v : Span} {x : Name} {y : Expr} → Built (StmtForm-F.Store v x y)
    calls : {to : Receiver} {m : Name} {xs : List Expr} → Built (StmtForm-F.Call to m xs)
    sends : {to : Receiver} {m : Name} {xs : List Expr} → Built (StmtForm-F.Send to m xs)
    tests : {x : Expr} {a b : List Stmt} → BuiltAll a → BuiltAll b → Built (StmtForm-F.If x a (Some b))
    tests_once : {x : Expr} {a : List Stmt} → BuiltAll a → Built (StmtForm-F.If x a None)
    loops : {x : Expr} {a : List Stmt} → BuiltAll a → Built (StmtForm-F.While x a)
    groups : {x : Expr} {a : List Stmt} → BuiltAll a → Built (StmtForm-F.Atomic x a)
    splits_up : {x y z : Name} {l r : TypeText} → Built (StmtForm-F.Split x y l z r)
    packs : {x y z : Name} {a b : List Stmt} → BuiltAll a → BuiltAll b → Built (StmtForm-F.Pack x y z a b)
    chooses : {x y z : Name} → Built (StmtForm-F.Choose x y z)
    returns : {x : Expr} → Built (StmtForm-F.Return x)
    writes : {xs : List Expr} → Built (StmtForm-F.Print xs)
    suspends : Built StmtForm-F.Suspend

  -- So is each of these.
  pub data BuiltAll : List Stmt → Type 0 where
    end : BuiltAll []
    more : {x : Stmt} {xs : List Stmt} → Built (out-StmtForm x.form) → BuiltAll xs → BuiltAll (x ∷ xs)

-- forms that are built from their parts
abbrev F : Type 0
F = (f : StmtForm) × Built (out-StmtForm f)

-- statements that are built from their parts
abbrev S : Type 0
S = (x : Stmt) × Built (out-StmtForm x.form)

-- statements that are built
built_list : (xs : List S) → BuiltAll (map (λ z. z.0) xs)
built_list [] = end
built_list (x ∷ xs) = more x.1 (built_list xs)

-- a layer of what is built
built_layer : (y : StmtForm-F F S) → Built (map-StmtForm F S StmtForm Stmt (λ z. z.0) (λ z. z.0) y)
built_layer (StmtForm-F.Let x src) = binds
built_layer (StmtForm-F.Assign x y) = assigns
built_layer (StmtForm-F.Store v x y) = stores
built_layer (StmtForm-F.Call to m xs) = calls
built_layer (StmtForm-F.Send to m xs) = sends
built_layer (StmtForm-F.If x a None) = tests_once (built_list a)
built_layer (StmtForm-F.If x a (Some b)) = tests (built_list a) (built_list b)
built_layer (StmtForm-F.While x a) = loops (built_list a)
built_layer (StmtForm-F.Atomic x a) = groups (built_list a)
built_layer (StmtForm-F.Split x y t z u) = splits_up
built_layer (StmtForm-F.Pack x y z a b) = packs (built_list a) (built_list b)
built_layer (StmtForm-F.Choose x t y) = chooses
built_layer (StmtForm-F.Return x) = returns
built_layer (StmtForm-F.Print xs) = writes
built_layer StmtForm-F.Suspend = suspends

-- each form is built
built_form : (f : StmtForm) → Built (out-StmtForm f)
built_form = ind-StmtForm (λ f. Built (out-StmtForm f)) (λ x. Built (out-StmtForm x.form))
    (λ x y is. subst Built (is ∙ sym (out-roll-StmtForm x)) (built_layer y))
    (λ x y is. subst (λ z. Built (out-StmtForm z.form)) is y.form.1)

-- each list of statements is built
pub built_all : (xs : List Stmt) → BuiltAll xs
built_all [] = end
built_all (x ∷ xs) = more (built_form x.form) (built_all xs)

-- ---- the types that are written in them

-- a layer, with what is asked of the types in its parts
abbrev pub asks : Names → Layer → StmtForm-F Premises Premises
asks names l = map-StmtForm StmtForm Stmt Premises Premises (fold-StmtForm Premises Premises (stmt_form names) stmt_node) (stmt_types names) l

-- a statement by its layer
pub asks_layer : (names : Names) (x : Stmt) → stmt_types names x ≡ stmt_form names (asks names (out-StmtForm x.form))
unfolding stmt_types
asks_layer names x = fold_out-Stmt Premises Premises (stmt_form names) stmt_node x ∙ fold_out-StmtForm Premises Premises (stmt_form names) stmt_node x.form
