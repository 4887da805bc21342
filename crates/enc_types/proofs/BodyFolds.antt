-- What is asked of the types in an expression or in a statement, an equation for each form.
use Rattle.std.proofs.Common.{◌≡◌, ◌∙◌, ℕ, ℤ, List, [], ◌∷◌, map, Option, Some, None, refl, ap}
use Rattle.enc_ast.specs.declared.Operator.{Operator}
use Rattle.enc_ast.specs.declared.decls.Name.{Name}
use Rattle.enc_ast.specs.declared.rules.Span.{Span}
use Rattle.enc_ast.specs.declared.TypeText.{TypeText}
use Rattle.enc_ast.specs.declared.Expr.{Expr}
use Rattle.enc_ast.specs.declared.ExprForm.{ExprForm}
use Rattle.enc_ast.specs.declared.ExprForm.TheOpen.{ExprForm-F}
use Rattle.enc_ast.specs.declared.ExprForm.TheViews.{roll-ExprForm}
use Rattle.enc_ast.specs.declared.ExprForm.TheVariants as e
use Rattle.enc_ast.specs.declared.ExprForm.TheFolds.{fold-ExprForm, fold-roll-ExprForm, fold_out-Expr}
use Rattle.enc_ast.specs.declared.sources.Source.{Source}
use Rattle.enc_ast.specs.declared.stmts.Receiver.{Receiver}
use Rattle.enc_ast.specs.declared.Stmt.{Stmt}
use Rattle.enc_ast.specs.declared.StmtForm.{StmtForm}
use Rattle.enc_ast.specs.declared.StmtForm.TheOpen.{StmtForm-F}
use Rattle.enc_ast.specs.declared.StmtForm.TheViews.{roll-StmtForm}
use Rattle.enc_ast.specs.declared.StmtForm.TheVariants as s
use Rattle.enc_ast.specs.declared.StmtForm.TheFolds.{fold-StmtForm, fold-roll-StmtForm, fold_out-Stmt}
use Rattle.enc_premises.specs.Premises.{Premises, none, ◌⨾◌, each}
use Rattle.enc_types.specs.Names.{Names}
use Rattle.enc_types.specs.Written.{type_premises}
use Rattle.enc_types.specs.Bodies.{in_row, expr_form, expr_node, expr_types, exprs_types, source_types, stmt_form, stmt_node, stmt_types, body_types, else_types}

-- what is asked of each, in a row, is what is asked of them in turn
in_row-map : {A : Type 0} (f : A → Premises) (xs : List A) → in_row (map f xs) ≡ each f xs
in_row-map f [] = refl
in_row-map f (x ∷ xs) = ap (λ z. f x ⨾ z) (in_row-map f xs)

-- ---- expressions

-- the types in what an expression says
abbrev form_types : Names → ExprForm → Premises
form_types names = fold-ExprForm Premises Premises (expr_form names) expr_node

-- an expression by its form
of_expr : (names : Names) (x : Expr) (f : ExprForm) (p : Premises) → x.form ≡ f → form_types names f ≡ p → expr_types names x ≡ p
unfolding expr_types
of_expr names x f p is e = fold_out-Expr Premises Premises (expr_form names) expr_node x ∙ (ap (form_types names) is ∙ e)

pub types-binary : (names : Names) (x : Expr) (o : Operator) (a : Expr) (b : Expr) → x.form ≡ e.Binary o a b → expr_types names x ≡ expr_types names a ⨾ expr_types names b
unfolding expr_types roll-ExprForm denote.Hole.Carrier.roll
types-binary names x o a b is = of_expr names x _ _ is (ap (form_types names) (e.rolls-Binary o a b) ∙ fold-roll-ExprForm Premises Premises (expr_form names) expr_node (ExprForm-F.Binary o a b))

pub types-negative : (names : Names) (x : Expr) (a : Expr) → x.form ≡ e.Negative a → expr_types names x ≡ expr_types names a
unfolding expr_types roll-ExprForm denote.Hole.Carrier.roll
types-negative names x a is = of_expr names x _ _ is (ap (form_types names) (e.rolls-Negative a) ∙ fold-roll-ExprForm Premises Premises (expr_form names) expr_node (ExprForm-F.Negative a))

pub types-not : (names : Names) (x : Expr) (a : Expr) → x.form ≡ e.Not a → expr_types names x ≡ expr_types names a
unfolding expr_types roll-ExprForm denote.Hole.Carrier.roll
types-not names x a is = of_expr names x _ _ is (ap (form_types names) (e.rolls-Not a) ∙ fold-roll-ExprForm Premises Premises (expr_form names) expr_node (ExprForm-F.Not a))

pub types-int : (names : Names) (x : Expr) (n : ℤ) → x.form ≡ e.Int n → expr_types names x ≡ none
unfolding expr_types roll-ExprForm denote.Hole.Carrier.roll
types-int names x n is = of_expr names x _ _ is (ap (form_types names) (e.rolls-Int n) ∙ fold-roll-ExprForm Premises Premises (expr_form names) expr_node (ExprForm-F.Int n))

pub types-text : (names : Names) (x : Expr) (t : List ℕ) → x.form ≡ e.Text t → expr_types names x ≡ none
unfolding expr_types roll-ExprForm denote.Hole.Carrier.roll
types-text names x t is = of_expr names x _ _ is (ap (form_types names) (e.rolls-Text t) ∙ fold-roll-ExprForm Premises Premises (expr_form names) expr_node (ExprForm-F.Text t))

pub types-true : (names : Names) (x : Expr) → x.form ≡ e.True → expr_types names x ≡ none
unfolding expr_types roll-ExprForm denote.Hole.Carrier.roll
types-true names x is = of_expr names x _ _ is (ap (form_types names) e.rolls-True ∙ fold-roll-ExprForm Premises Premises (expr_form names) expr_node ExprForm-F.True)

pub types-false : (names : Names) (x : Expr) → x.form ≡ e.False → expr_types names x ≡ none
unfolding expr_types roll-ExprForm denote.Hole.Carrier.roll
types-false names x is = of_expr names x _ _ is (ap (form_types names) e.rolls-False ∙ fold-roll-ExprForm Premises Premises (expr_form names) expr_node ExprForm-F.False)

pub types-unit : (names : Names) (x : Expr) → x.form ≡ e.Unit → expr_types names x ≡ none
unfolding expr_types roll-ExprForm denote.Hole.Carrier.roll
types-unit names x is = of_expr names x _ _ is (ap (form_types names) e.rolls-Unit ∙ fold-roll-ExprForm Premises Premises (expr_form names) expr_node ExprForm-F.Unit)

pub types-this : (names : Names) (x : Expr) → x.form ≡ e.This → expr_types names x ≡ none
unfolding expr_types roll-ExprForm denote.Hole.Carrier.roll
types-this names x is = of_expr names x _ _ is (ap (form_types names) e.rolls-This ∙ fold-roll-ExprForm Premises Premises (expr_form names) expr_node ExprForm-F.This)

pub types-name : (names : Names) (x : Expr) (w : List ℕ) → x.form ≡ e.Name w → expr_types names x ≡ none
unfolding expr_types roll-ExprForm denote.Hole.Carrier.roll
types-name names x w is = of_expr names x _ _ is (ap (form_types names) (e.rolls-Name w) ∙ fold-roll-ExprForm Premises Premises (expr_form names) expr_node (ExprForm-F.Name w))

pub types-parens : (names : Names) (x : Expr) (a : Expr) → x.form ≡ e.Parens a → expr_types names x ≡ expr_types names a
unfolding expr_types roll-ExprForm denote.Hole.Carrier.roll
types-parens names x a is = of_expr names x _ _ is (ap (form_types names) (e.rolls-Parens a) ∙ fold-roll-ExprForm Premises Premises (expr_form names) expr_node (ExprForm-F.Parens a))

pub types-list : (names : Names) (x : Expr) (es : List Expr) → x.form ≡ e.List es → expr_types names x ≡ exprs_types names es
unfolding expr_types roll-ExprForm denote.Hole.Carrier.roll
types-list names x es is = of_expr names x _ _ is (ap (form_types names) (e.rolls-List es) ∙ (fold-roll-ExprForm Premises Premises (expr_form names) expr_node (ExprForm-F.List es) ∙ in_row-map (expr_types names) es))

pub types-null : (names : Names) (x : Expr) (t : TypeText) → x.form ≡ e.Null t → expr_types names x ≡ type_premises names t
unfolding expr_types roll-ExprForm denote.Hole.Carrier.roll
types-null names x t is = of_expr names x _ _ is (ap (form_types names) (e.rolls-Null t) ∙ fold-roll-ExprForm Premises Premises (expr_form names) expr_node (ExprForm-F.Null t))

pub types-empty : (names : Names) (x : Expr) (t : TypeText) → x.form ≡ e.Empty t → expr_types names x ≡ type_premises names t
unfolding expr_types roll-ExprForm denote.Hole.Carrier.roll
types-empty names x t is = of_expr names x _ _ is (ap (form_types names) (e.rolls-Empty t) ∙ fold-roll-ExprForm Premises Premises (expr_form names) expr_node (ExprForm-F.Empty t))

pub types-nil : (names : Names) (x : Expr) (t : TypeText) → x.form ≡ e.Nil t → expr_types names x ≡ type_premises names t
unfolding expr_types roll-ExprForm denote.Hole.Carrier.roll
types-nil names x t is = of_expr names x _ _ is (ap (form_types names) (e.rolls-Nil t) ∙ fold-roll-ExprForm Premises Premises (expr_form names) expr_node (ExprForm-F.Nil t))

pub types-len : (names : Names) (x : Expr) (a : Expr) → x.form ≡ e.Len a → expr_types names x ≡ expr_types names a
unfolding expr_types roll-ExprForm denote.Hole.Carrier.roll
types-len names x a is = of_expr names x _ _ is (ap (form_types names) (e.rolls-Len a) ∙ fold-roll-ExprForm Premises Premises (expr_form names) expr_node (ExprForm-F.Len a))

pub types-is_null : (names : Names) (x : Expr) (a : Expr) → x.form ≡ e.IsNull a → expr_types names x ≡ expr_types names a
unfolding expr_types roll-ExprForm denote.Hole.Carrier.roll
types-is_null names x a is = of_expr names x _ _ is (ap (form_types names) (e.rolls-IsNull a) ∙ fold-roll-ExprForm Premises Premises (expr_form names) expr_node (ExprForm-F.IsNull a))

pub types-at : (names : Names) (x : Expr) (a : Expr) (b : Expr) → x.form ≡ e.At a b → expr_types names x ≡ expr_types names a ⨾ expr_types names b
unfolding expr_types roll-ExprForm denote.Hole.Carrier.roll
types-at names x a b is = of_expr names x _ _ is (ap (form_types names) (e.rolls-At a b) ∙ fold-roll-ExprForm Premises Premises (expr_form names) expr_node (ExprForm-F.At a b))

pub types-append : (names : Names) (x : Expr) (a : Expr) (b : Expr) → x.form ≡ e.Append a b → expr_types names x ≡ expr_types names a ⨾ expr_types names b
unfolding expr_types roll-ExprForm denote.Hole.Carrier.roll
types-append names x a b is = of_expr names x _ _ is (ap (form_types names) (e.rolls-Append a b) ∙ fold-roll-ExprForm Premises Premises (expr_form names) expr_node (ExprForm-F.Append a b))

-- the types in an expression, by its form
pub ruleset exprs = (types-binary, types-negative, types-not, types-int, types-text, types-true, types-false, types-unit, types-this, types-name, types-parens, types-list, types-null, types-empty, types-nil, types-len, types-is_null, types-at, types-append)

-- ---- statements

-- the types in what a statement does
abbrev act_types : Names → StmtForm → Premises
act_types names = fold-StmtForm Premises Premises (stmt_form names) stmt_node

-- a statement by its form
of_stmt : (names : Names) (x : Stmt) (f : StmtForm) (p : Premises) → x.form ≡ f → act_types names f ≡ p → stmt_types names x ≡ p
unfolding stmt_types
of_stmt names x f p is e = fold_out-Stmt Premises Premises (stmt_form names) stmt_node x ∙ (ap (act_types names) is ∙ e)

pub stmt-let : (names : Names) (x : Stmt) (n : Name) (src : Source) → x.form ≡ s.Let n src → stmt_types names x ≡ source_types names src.form
unfolding stmt_types roll-StmtForm denote.Hole.Carrier.roll
stmt-let names x n src is = of_stmt names x _ _ is (ap (act_types names) (s.rolls-Let n src) ∙ fold-roll-StmtForm Premises Premises (stmt_form names) stmt_node (StmtForm-F.Let n src))

pub stmt-assign : (names : Names) (x : Stmt) (n : Name) (a : Expr) → x.form ≡ s.Assign n a → stmt_types names x ≡ expr_types names a
unfolding stmt_types roll-StmtForm denote.Hole.Carrier.roll
stmt-assign names x n a is = of_stmt names x _ _ is (ap (act_types names) (s.rolls-Assign n a) ∙ fold-roll-StmtForm Premises Premises (stmt_form names) stmt_node (StmtForm-F.Assign n a))

pub stmt-store : (names : Names) (x : Stmt) (v : Span) (n : Name) (a : Expr) → x.form ≡ s.Store v n a → stmt_types names x ≡ expr_types names a
unfolding stmt_types roll-StmtForm denote.Hole.Carrier.roll
stmt-store names x v n a is = of_stmt names x _ _ is (ap (act_types names) (s.rolls-Store v n a) ∙ fold-roll-StmtForm Premises Premises (stmt_form names) stmt_node (StmtForm-F.Store v n a))

pub stmt-call : (names : Names) (x : Stmt) (to : Receiver) (n : Name) (es : List Expr) → x.form ≡ s.Call to n es → stmt_types names x ≡ exprs_types names es
unfolding stmt_types roll-StmtForm denote.Hole.Carrier.roll
stmt-call names x to n es is = of_stmt names x _ _ is (ap (act_types names) (s.rolls-Call to n es) ∙ fold-roll-StmtForm Premises Premises (stmt_form names) stmt_node (StmtForm-F.Call to n es))

pub stmt-send : (names : Names) (x : Stmt) (to : Receiver) (n : Name) (es : List Expr) → x.form ≡ s.Send to n es → stmt_types names x ≡ exprs_types names es
unfolding stmt_types roll-StmtForm denote.Hole.Carrier.roll
stmt-send names x to n es is = of_stmt names x _ _ is (ap (act_types names) (s.rolls-Send to n es) ∙ fold-roll-StmtForm Premises Premises (stmt_form names) stmt_node (StmtForm-F.Send to n es))

pub stmt-if : (names : Names) (x : Stmt) (a : Expr) (xs : List Stmt) (o : Option (List Stmt)) → x.form ≡ s.If a xs o → stmt_types names x ≡ expr_types names a ⨾ body_types names xs ⨾ else_types names o
unfolding stmt_types roll-StmtForm denote.Hole.Carrier.roll
stmt-if names x a xs None is = of_stmt names x _ _ is (ap (act_types names) (s.rolls-If a xs None) ∙ (fold-roll-StmtForm Premises Premises (stmt_form names) stmt_node (StmtForm-F.If a xs None) ∙ ap (λ z. expr_types names a ⨾ z ⨾ none) (in_row-map (stmt_types names) xs)))
stmt-if names x a xs (Some ys) is = of_stmt names x _ _ is (ap (act_types names) (s.rolls-If a xs (Some ys)) ∙ (fold-roll-StmtForm Premises Premises (stmt_form names) stmt_node (StmtForm-F.If a xs (Some ys)) ∙ (ap (λ z. expr_types names a ⨾ z ⨾ in_row (map (stmt_types names) ys)) (in_row-map (stmt_types names) xs) ∙ ap (λ z. expr_types names a ⨾ body_types names xs ⨾ z) (in_row-map (stmt_types names) ys))))

pub stmt-while : (names : Names) (x : Stmt) (a : Expr) (xs : List Stmt) → x.form ≡ s.While a xs → stmt_types names x ≡ expr_types names a ⨾ body_types names xs
unfolding stmt_types roll-StmtForm denote.Hole.Carrier.roll
stmt-while names x a xs is = of_stmt names x _ _ is (ap (act_types names) (s.rolls-While a xs) ∙ (fold-roll-StmtForm Premises Premises (stmt_form names) stmt_node (StmtForm-F.While a xs) ∙ ap (λ z. expr_types names a ⨾ z) (in_row-map (stmt_types names) xs)))

pub stmt-atomic : (names : Names) (x : Stmt) (a : Expr) (xs : List Stmt) → x.form ≡ s.Atomic a xs → stmt_types names x ≡ expr_types names a ⨾ body_types names xs
unfolding stmt_types roll-StmtForm denote.Hole.Carrier.roll
stmt-atomic names x a xs is = of_stmt names x _ _ is (ap (act_types names) (s.rolls-Atomic a xs) ∙ (fold-roll-StmtForm Premises Premises (stmt_form names) stmt_node (StmtForm-F.Atomic a xs) ∙ ap (λ z. expr_types names a ⨾ z) (in_row-map (stmt_types names) xs)))

pub stmt-split : (names : Names) (x : Stmt) (n : Name) (m : Name) (t : TypeText) (k : Name) (u : TypeText) → x.form ≡ s.Split n m t k u → stmt_types names x ≡ type_premises names t ⨾ type_premises names u
unfolding stmt_types roll-StmtForm denote.Hole.Carrier.roll
stmt-split names x n m t k u is = of_stmt names x _ _ is (ap (act_types names) (s.rolls-Split n m t k u) ∙ fold-roll-StmtForm Premises Premises (stmt_form names) stmt_node (StmtForm-F.Split n m t k u))

pub stmt-pack : (names : Names) (x : Stmt) (n : Name) (m : Name) (k : Name) (xs : List Stmt) (ys : List Stmt) → x.form ≡ s.Pack n m k xs ys → stmt_types names x ≡ body_types names xs ⨾ body_types names ys
unfolding stmt_types roll-StmtForm denote.Hole.Carrier.roll
stmt-pack names x n m k xs ys is = of_stmt names x _ _ is (ap (act_types names) (s.rolls-Pack n m k xs ys) ∙ (fold-roll-StmtForm Premises Premises (stmt_form names) stmt_node (StmtForm-F.Pack n m k xs ys) ∙ (ap (λ z. z ⨾ in_row (map (stmt_types names) ys)) (in_row-map (stmt_types names) xs) ∙ ap (λ z. body_types names xs ⨾ z) (in_row-map (stmt_types names) ys))))

pub stmt-choose : (names : Names) (x : Stmt) (n : Name) (m : Name) (k : Name) → x.form ≡ s.Choose n m k → stmt_types names x ≡ none
unfolding stmt_types roll-StmtForm denote.Hole.Carrier.roll
stmt-choose names x n m k is = of_stmt names x _ _ is (ap (act_types names) (s.rolls-Choose n m k) ∙ fold-roll-StmtForm Premises Premises (stmt_form names) stmt_node (StmtForm-F.Choose n m k))

pub stmt-return : (names : Names) (x : Stmt) (a : Expr) → x.form ≡ s.Return a → stmt_types names x ≡ expr_types names a
unfolding stmt_types roll-StmtForm denote.Hole.Carrier.roll
stmt-return names x a is = of_stmt names x _ _ is (ap (act_types names) (s.rolls-Return a) ∙ fold-roll-StmtForm Premises Premises (stmt_form names) stmt_node (StmtForm-F.Return a))

pub stmt-print : (names : Names) (x : Stmt) (es : List Expr) → x.form ≡ s.Print es → stmt_types names x ≡ exprs_types names es
unfolding stmt_types roll-StmtForm denote.Hole.Carrier.roll
stmt-print names x es is = of_stmt names x _ _ is (ap (act_types names) (s.rolls-Print es) ∙ fold-roll-StmtForm Premises Premises (stmt_form names) stmt_node (StmtForm-F.Print es))

pub stmt-suspend : (names : Names) (x : Stmt) → x.form ≡ s.Suspend → stmt_types names x ≡ none
unfolding stmt_types roll-StmtForm denote.Hole.Carrier.roll
stmt-suspend names x is = of_stmt names x _ _ is (ap (act_types names) s.rolls-Suspend ∙ fold-roll-StmtForm Premises Premises (stmt_form names) stmt_node StmtForm-F.Suspend)

-- the types in a statement, by its form
pub ruleset stmts = (stmt-let, stmt-assign, stmt-store, stmt-call, stmt-send, stmt-if, stmt-while, stmt-atomic, stmt-split, stmt-pack, stmt-choose, stmt-return, stmt-print, stmt-suspend)
