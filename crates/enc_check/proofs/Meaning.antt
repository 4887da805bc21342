-- What the rules see in a statement, an equation for each form.
use Rattle.std.proofs.Common.{◌≡◌, ◌∙◌, true, false, ◌&&◌, List, [], ◌∷◌, Option, Some, None, ap}
use Rattle.std.specs.Prelude.{option_map}
use Rattle.enc_ast.specs.declared.rules.Span.{Span}
use Rattle.enc_ast.specs.declared.decls.Name.{Name}
use Rattle.enc_ast.specs.declared.Expr.{Expr}
use Rattle.enc_ast.specs.declared.TypeText.{TypeText}
use Rattle.enc_ast.specs.declared.stmts.Receiver.{Receiver}
use Rattle.enc_ast.specs.declared.sources.Source.{Source}
use Rattle.enc_ast.specs.declared.Stmt.{Stmt}
use Rattle.enc_ast.specs.declared.StmtForm.{StmtForm}
use Rattle.enc_ast.specs.declared.StmtForm.TheOpen.{StmtForm-F}
use Rattle.enc_ast.specs.declared.StmtForm.TheViews.{roll-StmtForm}
use Rattle.enc_ast.specs.declared.StmtForm.TheVariants as st
use Rattle.enc_ast.specs.declared.StmtForm.TheFolds.{fold-StmtForm, fold-roll-StmtForm, fold_out-Stmt}
use Rattle.enc_premises.specs.Premises.{node}
use Rattle.enc_flow.specs.Env.{Env}
use Rattle.enc_rules.specs.Context.{Context}
use Rattle.enc_rules.specs.Sources.{call, send}
use Rattle.enc_rules.specs.Stmts.{Act, act, act_form, act_node, acts, within, outside, consumed, block_after, last_returns, else_returns, let_premises, let_after, assign_premises, assign_after, store_premises, call_premises, send_premises, if_premises, if_after, while_premises, atomic_premises, split_premises, split_after, pack_premises, pack_after, choose_premises, choose_after, return_premises, print_premises}

-- what a form does, as the rules see it
abbrev acted : StmtForm → Span → Act
acted = fold-StmtForm (Span → Act) Act act_form act_node

-- a statement of a form
of_stmt : (x : Stmt) (f : StmtForm) (j : Act) → x.form ≡ f → acted f x.span ≡ j → act x ≡ j
unfolding act
of_stmt x f j is e = fold_out-Stmt (Span → Act) Act act_form act_node x ∙ (ap (λ z. acted z x.span) is ∙ e)

-- a new variable, by its layer
acted-let : (n : Name) (src : Source) (s : Span) → acted (st.Let n src) s ≡ act_form (StmtForm-F.Let n src) s
unfolding act roll-StmtForm denote.Hole.Carrier.roll
acted-let n src s = ap (λ z. acted z s) (st.rolls-Let n src) ∙ ap (λ z. z s) (fold-roll-StmtForm (Span → Act) Act act_form act_node (StmtForm-F.Let n src))

-- a new variable: what is asked
pub premises-let : (x : Stmt) (n : Name) (src : Source) → x.form ≡ st.Let n src → (ctx : Context) (env : Env) → (act x).premises ctx env ≡ let_premises ctx env n src.form x.span
premises-let x n src is ctx env = ap (λ z. z.premises ctx env) (of_stmt x _ _ is (acted-let n src x.span))

-- a new variable: the variables after it
pub after-let : (x : Stmt) (n : Name) (src : Source) → x.form ≡ st.Let n src → (ctx : Context) (env : Env) → (act x).after ctx env ≡ let_after ctx env n src.form
after-let x n src is ctx env = ap (λ z. z.after ctx env) (of_stmt x _ _ is (acted-let n src x.span))

-- a new variable: whether it returns
pub returns-let : (x : Stmt) (n : Name) (src : Source) → x.form ≡ st.Let n src → (act x).returns ≡ (false)
returns-let x n src is = ap (λ z. z.returns) (of_stmt x _ _ is (acted-let n src x.span))

-- another value for a variable, by its layer
acted-assign : (n : Name) (e : Expr) (s : Span) → acted (st.Assign n e) s ≡ act_form (StmtForm-F.Assign n e) s
unfolding act roll-StmtForm denote.Hole.Carrier.roll
acted-assign n e s = ap (λ z. acted z s) (st.rolls-Assign n e) ∙ ap (λ z. z s) (fold-roll-StmtForm (Span → Act) Act act_form act_node (StmtForm-F.Assign n e))

-- another value for a variable: what is asked
pub premises-assign : (x : Stmt) (n : Name) (e : Expr) → x.form ≡ st.Assign n e → (ctx : Context) (env : Env) → (act x).premises ctx env ≡ assign_premises ctx env n e x.span
premises-assign x n e is ctx env = ap (λ z. z.premises ctx env) (of_stmt x _ _ is (acted-assign n e x.span))

-- another value for a variable: the variables after it
pub after-assign : (x : Stmt) (n : Name) (e : Expr) → x.form ≡ st.Assign n e → (ctx : Context) (env : Env) → (act x).after ctx env ≡ assign_after ctx env n e
after-assign x n e is ctx env = ap (λ z. z.after ctx env) (of_stmt x _ _ is (acted-assign n e x.span))

-- another value for a variable: whether it returns
pub returns-assign : (x : Stmt) (n : Name) (e : Expr) → x.form ≡ st.Assign n e → (act x).returns ≡ (false)
returns-assign x n e is = ap (λ z. z.returns) (of_stmt x _ _ is (acted-assign n e x.span))

-- another value for a field, by its layer
acted-store : (v : Span) (n : Name) (e : Expr) (s : Span) → acted (st.Store v n e) s ≡ act_form (StmtForm-F.Store v n e) s
unfolding act roll-StmtForm denote.Hole.Carrier.roll
acted-store v n e s = ap (λ z. acted z s) (st.rolls-Store v n e) ∙ ap (λ z. z s) (fold-roll-StmtForm (Span → Act) Act act_form act_node (StmtForm-F.Store v n e))

-- another value for a field: what is asked
pub premises-store : (x : Stmt) (v : Span) (n : Name) (e : Expr) → x.form ≡ st.Store v n e → (ctx : Context) (env : Env) → (act x).premises ctx env ≡ store_premises ctx env v n e x.span
premises-store x v n e is ctx env = ap (λ z. z.premises ctx env) (of_stmt x _ _ is (acted-store v n e x.span))

-- another value for a field: the variables after it
pub after-store : (x : Stmt) (v : Span) (n : Name) (e : Expr) → x.form ≡ st.Store v n e → (ctx : Context) (env : Env) → (act x).after ctx env ≡ consumed ctx env e
after-store x v n e is ctx env = ap (λ z. z.after ctx env) (of_stmt x _ _ is (acted-store v n e x.span))

-- another value for a field: whether it returns
pub returns-store : (x : Stmt) (v : Span) (n : Name) (e : Expr) → x.form ≡ st.Store v n e → (act x).returns ≡ (false)
returns-store x v n e is = ap (λ z. z.returns) (of_stmt x _ _ is (acted-store v n e x.span))

-- a call, by its layer
acted-call : (to : Receiver) (m : Name) (es : List Expr) (s : Span) → acted (st.Call to m es) s ≡ act_form (StmtForm-F.Call to m es) s
unfolding act roll-StmtForm denote.Hole.Carrier.roll
acted-call to m es s = ap (λ z. acted z s) (st.rolls-Call to m es) ∙ ap (λ z. z s) (fold-roll-StmtForm (Span → Act) Act act_form act_node (StmtForm-F.Call to m es))

-- a call: what is asked
pub premises-call : (x : Stmt) (to : Receiver) (m : Name) (es : List Expr) → x.form ≡ st.Call to m es → (ctx : Context) (env : Env) → (act x).premises ctx env ≡ call_premises ctx env to m es x.span
premises-call x to m es is ctx env = ap (λ z. z.premises ctx env) (of_stmt x _ _ is (acted-call to m es x.span))

-- a call: the variables after it
pub after-call : (x : Stmt) (to : Receiver) (m : Name) (es : List Expr) → x.form ≡ st.Call to m es → (ctx : Context) (env : Env) → (act x).after ctx env ≡ (call ctx env to m es).after
after-call x to m es is ctx env = ap (λ z. z.after ctx env) (of_stmt x _ _ is (acted-call to m es x.span))

-- a call: whether it returns
pub returns-call : (x : Stmt) (to : Receiver) (m : Name) (es : List Expr) → x.form ≡ st.Call to m es → (act x).returns ≡ (false)
returns-call x to m es is = ap (λ z. z.returns) (of_stmt x _ _ is (acted-call to m es x.span))

-- a message, by its layer
acted-send : (to : Receiver) (m : Name) (es : List Expr) (s : Span) → acted (st.Send to m es) s ≡ act_form (StmtForm-F.Send to m es) s
unfolding act roll-StmtForm denote.Hole.Carrier.roll
acted-send to m es s = ap (λ z. acted z s) (st.rolls-Send to m es) ∙ ap (λ z. z s) (fold-roll-StmtForm (Span → Act) Act act_form act_node (StmtForm-F.Send to m es))

-- a message: what is asked
pub premises-send : (x : Stmt) (to : Receiver) (m : Name) (es : List Expr) → x.form ≡ st.Send to m es → (ctx : Context) (env : Env) → (act x).premises ctx env ≡ send_premises ctx env to m es x.span
premises-send x to m es is ctx env = ap (λ z. z.premises ctx env) (of_stmt x _ _ is (acted-send to m es x.span))

-- a message: the variables after it
pub after-send : (x : Stmt) (to : Receiver) (m : Name) (es : List Expr) → x.form ≡ st.Send to m es → (ctx : Context) (env : Env) → (act x).after ctx env ≡ (send ctx env to m es).after
after-send x to m es is ctx env = ap (λ z. z.after ctx env) (of_stmt x _ _ is (acted-send to m es x.span))

-- a message: whether it returns
pub returns-send : (x : Stmt) (to : Receiver) (m : Name) (es : List Expr) → x.form ≡ st.Send to m es → (act x).returns ≡ (false)
returns-send x to m es is = ap (λ z. z.returns) (of_stmt x _ _ is (acted-send to m es x.span))

-- two branches, by its layer
acted-if : (e : Expr) (a : List Stmt) (b : Option (List Stmt)) (s : Span) → acted (st.If e a b) s ≡ act_form (StmtForm-F.If e (acts a) (option_map acts b)) s
unfolding act roll-StmtForm denote.Hole.Carrier.roll
acted-if e a None s = ap (λ z. acted z s) (st.rolls-If e a None) ∙ ap (λ z. z s) (fold-roll-StmtForm (Span → Act) Act act_form act_node (StmtForm-F.If e a None))
acted-if e a (Some b) s = ap (λ z. acted z s) (st.rolls-If e a (Some b)) ∙ ap (λ z. z s) (fold-roll-StmtForm (Span → Act) Act act_form act_node (StmtForm-F.If e a (Some b)))

-- two branches: what is asked
pub premises-if : (x : Stmt) (e : Expr) (a : List Stmt) (b : Option (List Stmt)) → x.form ≡ st.If e a b → (ctx : Context) (env : Env) → (act x).premises ctx env ≡ if_premises ctx env e (acts a) (option_map acts b)
premises-if x e a b is ctx env = ap (λ z. z.premises ctx env) (of_stmt x _ _ is (acted-if e a b x.span))

-- two branches: the variables after it
pub after-if : (x : Stmt) (e : Expr) (a : List Stmt) (b : Option (List Stmt)) → x.form ≡ st.If e a b → (ctx : Context) (env : Env) → (act x).after ctx env ≡ if_after ctx env (acts a) (option_map acts b)
after-if x e a b is ctx env = ap (λ z. z.after ctx env) (of_stmt x _ _ is (acted-if e a b x.span))

-- two branches: whether it returns
pub returns-if : (x : Stmt) (e : Expr) (a : List Stmt) (b : Option (List Stmt)) → x.form ≡ st.If e a b → (act x).returns ≡ (last_returns (acts a) && else_returns (option_map acts b))
returns-if x e a b is = ap (λ z. z.returns) (of_stmt x _ _ is (acted-if e a b x.span))

-- a loop, by its layer
acted-while : (e : Expr) (a : List Stmt) (s : Span) → acted (st.While e a) s ≡ act_form (StmtForm-F.While e (acts a)) s
unfolding act roll-StmtForm denote.Hole.Carrier.roll
acted-while e a s = ap (λ z. acted z s) (st.rolls-While e a) ∙ ap (λ z. z s) (fold-roll-StmtForm (Span → Act) Act act_form act_node (StmtForm-F.While e a))

-- a loop: what is asked
pub premises-while : (x : Stmt) (e : Expr) (a : List Stmt) → x.form ≡ st.While e a → (ctx : Context) (env : Env) → (act x).premises ctx env ≡ while_premises ctx env e (acts a) x.span
premises-while x e a is ctx env = ap (λ z. z.premises ctx env) (of_stmt x _ _ is (acted-while e a x.span))

-- a loop: the variables after it
pub after-while : (x : Stmt) (e : Expr) (a : List Stmt) → x.form ≡ st.While e a → (ctx : Context) (env : Env) → (act x).after ctx env ≡ env
after-while x e a is ctx env = ap (λ z. z.after ctx env) (of_stmt x _ _ is (acted-while e a x.span))

-- a loop: whether it returns
pub returns-while : (x : Stmt) (e : Expr) (a : List Stmt) → x.form ≡ st.While e a → (act x).returns ≡ (false)
returns-while x e a is = ap (λ z. z.returns) (of_stmt x _ _ is (acted-while e a x.span))

-- an atomic block, by its layer
acted-atomic : (e : Expr) (a : List Stmt) (s : Span) → acted (st.Atomic e a) s ≡ act_form (StmtForm-F.Atomic e (acts a)) s
unfolding act roll-StmtForm denote.Hole.Carrier.roll
acted-atomic e a s = ap (λ z. acted z s) (st.rolls-Atomic e a) ∙ ap (λ z. z s) (fold-roll-StmtForm (Span → Act) Act act_form act_node (StmtForm-F.Atomic e a))

-- an atomic block: what is asked
pub premises-atomic : (x : Stmt) (e : Expr) (a : List Stmt) → x.form ≡ st.Atomic e a → (ctx : Context) (env : Env) → (act x).premises ctx env ≡ atomic_premises ctx env e (acts a) x.span
premises-atomic x e a is ctx env = ap (λ z. z.premises ctx env) (of_stmt x _ _ is (acted-atomic e a x.span))

-- an atomic block: the variables after it
pub after-atomic : (x : Stmt) (e : Expr) (a : List Stmt) → x.form ≡ st.Atomic e a → (ctx : Context) (env : Env) → (act x).after ctx env ≡ block_after (within ctx) env env (acts a)
after-atomic x e a is ctx env = ap (λ z. z.after ctx env) (of_stmt x _ _ is (acted-atomic e a x.span))

-- an atomic block: whether it returns
pub returns-atomic : (x : Stmt) (e : Expr) (a : List Stmt) → x.form ≡ st.Atomic e a → (act x).returns ≡ (false)
returns-atomic x e a is = ap (λ z. z.returns) (of_stmt x _ _ is (acted-atomic e a x.span))

-- a reference that is split, by its layer
acted-split : (n : Name) (y : Name) (t : TypeText) (z : Name) (u : TypeText) (s : Span) → acted (st.Split n y t z u) s ≡ act_form (StmtForm-F.Split n y t z u) s
unfolding act roll-StmtForm denote.Hole.Carrier.roll
acted-split n y t z u s = ap (λ z. acted z s) (st.rolls-Split n y t z u) ∙ ap (λ z. z s) (fold-roll-StmtForm (Span → Act) Act act_form act_node (StmtForm-F.Split n y t z u))

-- a reference that is split: what is asked
pub premises-split : (x : Stmt) (n : Name) (y : Name) (t : TypeText) (z : Name) (u : TypeText) → x.form ≡ st.Split n y t z u → (ctx : Context) (env : Env) → (act x).premises ctx env ≡ split_premises ctx env n y t z u x.span
premises-split x n y t z u is ctx env = ap (λ z. z.premises ctx env) (of_stmt x _ _ is (acted-split n y t z u x.span))

-- a reference that is split: the variables after it
pub after-split : (x : Stmt) (n : Name) (y : Name) (t : TypeText) (z : Name) (u : TypeText) → x.form ≡ st.Split n y t z u → (ctx : Context) (env : Env) → (act x).after ctx env ≡ split_after ctx env n y t z u
after-split x n y t z u is ctx env = ap (λ z. z.after ctx env) (of_stmt x _ _ is (acted-split n y t z u x.span))

-- a reference that is split: whether it returns
pub returns-split : (x : Stmt) (n : Name) (y : Name) (t : TypeText) (z : Name) (u : TypeText) → x.form ≡ st.Split n y t z u → (act x).returns ≡ (false)
returns-split x n y t z u is = ap (λ z. z.returns) (of_stmt x _ _ is (acted-split n y t z u x.span))

-- references that are put together, by its layer
acted-pack : (n : Name) (y : Name) (z : Name) (a : List Stmt) (b : List Stmt) (s : Span) → acted (st.Pack n y z a b) s ≡ act_form (StmtForm-F.Pack n y z (acts a) (acts b)) s
unfolding act roll-StmtForm denote.Hole.Carrier.roll
acted-pack n y z a b s = ap (λ z. acted z s) (st.rolls-Pack n y z a b) ∙ ap (λ z. z s) (fold-roll-StmtForm (Span → Act) Act act_form act_node (StmtForm-F.Pack n y z a b))

-- references that are put together: what is asked
pub premises-pack : (x : Stmt) (n : Name) (y : Name) (z : Name) (a : List Stmt) (b : List Stmt) → x.form ≡ st.Pack n y z a b → (ctx : Context) (env : Env) → (act x).premises ctx env ≡ pack_premises ctx env n y z (acts a) (acts b) x.span
premises-pack x n y z a b is ctx env = ap (λ z. z.premises ctx env) (of_stmt x _ _ is (acted-pack n y z a b x.span))

-- references that are put together: the variables after it
pub after-pack : (x : Stmt) (n : Name) (y : Name) (z : Name) (a : List Stmt) (b : List Stmt) → x.form ≡ st.Pack n y z a b → (ctx : Context) (env : Env) → (act x).after ctx env ≡ pack_after ctx env n y z (acts a) (acts b)
after-pack x n y z a b is ctx env = ap (λ z. z.after ctx env) (of_stmt x _ _ is (acted-pack n y z a b x.span))

-- references that are put together: whether it returns
pub returns-pack : (x : Stmt) (n : Name) (y : Name) (z : Name) (a : List Stmt) (b : List Stmt) → x.form ≡ st.Pack n y z a b → (act x).returns ≡ (last_returns (acts a) && last_returns (acts b))
returns-pack x n y z a b is = ap (λ z. z.returns) (of_stmt x _ _ is (acted-pack n y z a b x.span))

-- a trait that is chosen, by its layer
acted-choose : (n : Name) (t : Name) (y : Name) (s : Span) → acted (st.Choose n t y) s ≡ act_form (StmtForm-F.Choose n t y) s
unfolding act roll-StmtForm denote.Hole.Carrier.roll
acted-choose n t y s = ap (λ z. acted z s) (st.rolls-Choose n t y) ∙ ap (λ z. z s) (fold-roll-StmtForm (Span → Act) Act act_form act_node (StmtForm-F.Choose n t y))

-- a trait that is chosen: what is asked
pub premises-choose : (x : Stmt) (n : Name) (t : Name) (y : Name) → x.form ≡ st.Choose n t y → (ctx : Context) (env : Env) → (act x).premises ctx env ≡ choose_premises ctx env n t y x.span
premises-choose x n t y is ctx env = ap (λ z. z.premises ctx env) (of_stmt x _ _ is (acted-choose n t y x.span))

-- a trait that is chosen: the variables after it
pub after-choose : (x : Stmt) (n : Name) (t : Name) (y : Name) → x.form ≡ st.Choose n t y → (ctx : Context) (env : Env) → (act x).after ctx env ≡ choose_after ctx env n t y
after-choose x n t y is ctx env = ap (λ z. z.after ctx env) (of_stmt x _ _ is (acted-choose n t y x.span))

-- a trait that is chosen: whether it returns
pub returns-choose : (x : Stmt) (n : Name) (t : Name) (y : Name) → x.form ≡ st.Choose n t y → (act x).returns ≡ (false)
returns-choose x n t y is = ap (λ z. z.returns) (of_stmt x _ _ is (acted-choose n t y x.span))

-- a return, by its layer
acted-return : (e : Expr) (s : Span) → acted (st.Return e) s ≡ act_form (StmtForm-F.Return e) s
unfolding act roll-StmtForm denote.Hole.Carrier.roll
acted-return e s = ap (λ z. acted z s) (st.rolls-Return e) ∙ ap (λ z. z s) (fold-roll-StmtForm (Span → Act) Act act_form act_node (StmtForm-F.Return e))

-- a return: what is asked
pub premises-return : (x : Stmt) (e : Expr) → x.form ≡ st.Return e → (ctx : Context) (env : Env) → (act x).premises ctx env ≡ return_premises ctx env e x.span
premises-return x e is ctx env = ap (λ z. z.premises ctx env) (of_stmt x _ _ is (acted-return e x.span))

-- a return: the variables after it
pub after-return : (x : Stmt) (e : Expr) → x.form ≡ st.Return e → (ctx : Context) (env : Env) → (act x).after ctx env ≡ consumed ctx env e
after-return x e is ctx env = ap (λ z. z.after ctx env) (of_stmt x _ _ is (acted-return e x.span))

-- a return: whether it returns
pub returns-return : (x : Stmt) (e : Expr) → x.form ≡ st.Return e → (act x).returns ≡ (true)
returns-return x e is = ap (λ z. z.returns) (of_stmt x _ _ is (acted-return e x.span))

-- values that are printed, by its layer
acted-print : (es : List Expr) (s : Span) → acted (st.Print es) s ≡ act_form (StmtForm-F.Print es) s
unfolding act roll-StmtForm denote.Hole.Carrier.roll
acted-print es s = ap (λ z. acted z s) (st.rolls-Print es) ∙ ap (λ z. z s) (fold-roll-StmtForm (Span → Act) Act act_form act_node (StmtForm-F.Print es))

-- values that are printed: what is asked
pub premises-print : (x : Stmt) (es : List Expr) → x.form ≡ st.Print es → (ctx : Context) (env : Env) → (act x).premises ctx env ≡ print_premises ctx env es x.span
premises-print x es is ctx env = ap (λ z. z.premises ctx env) (of_stmt x _ _ is (acted-print es x.span))

-- values that are printed: the variables after it
pub after-print : (x : Stmt) (es : List Expr) → x.form ≡ st.Print es → (ctx : Context) (env : Env) → (act x).after ctx env ≡ env
after-print x es is ctx env = ap (λ z. z.after ctx env) (of_stmt x _ _ is (acted-print es x.span))

-- values that are printed: whether it returns
pub returns-print : (x : Stmt) (es : List Expr) → x.form ≡ st.Print es → (act x).returns ≡ (false)
returns-print x es is = ap (λ z. z.returns) (of_stmt x _ _ is (acted-print es x.span))

-- a suspension, by its layer
acted-suspend : (s : Span) → acted st.Suspend s ≡ act_form StmtForm-F.Suspend s
unfolding act roll-StmtForm denote.Hole.Carrier.roll
acted-suspend s = ap (λ z. acted z s) st.rolls-Suspend ∙ ap (λ z. z s) (fold-roll-StmtForm (Span → Act) Act act_form act_node StmtForm-F.Suspend)

-- a suspension: what is asked
pub premises-suspend : (x : Stmt) → x.form ≡ st.Suspend → (ctx : Context) (env : Env) → (act x).premises ctx env ≡ node x.span (outside ctx ∷ [])
premises-suspend x is ctx env = ap (λ z. z.premises ctx env) (of_stmt x _ _ is (acted-suspend x.span))

-- a suspension: the variables after it
pub after-suspend : (x : Stmt) → x.form ≡ st.Suspend → (ctx : Context) (env : Env) → (act x).after ctx env ≡ env
after-suspend x is ctx env = ap (λ z. z.after ctx env) (of_stmt x _ _ is (acted-suspend x.span))

-- a suspension: whether it returns
pub returns-suspend : (x : Stmt) → x.form ≡ st.Suspend → (act x).returns ≡ (false)
returns-suspend x is = ap (λ z. z.returns) (of_stmt x _ _ is (acted-suspend x.span))

pub ruleset stmts = (premises-let, after-let, premises-assign, after-assign, premises-store, after-store, premises-call, after-call, premises-send, after-send, premises-if, after-if, premises-while, after-while, premises-atomic, after-atomic, premises-split, after-split, premises-pack, after-pack, premises-choose, after-choose, premises-return, after-return, premises-print, after-print, premises-suspend, after-suspend)

pub ruleset returns = (returns-let, returns-assign, returns-store, returns-call, returns-send, returns-if, returns-while, returns-atomic, returns-split, returns-pack, returns-choose, returns-return, returns-print, returns-suspend)
