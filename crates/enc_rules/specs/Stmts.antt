-- The rules of statements.
use Rattle.std.specs.Prelude.{bytes_eq, Bool, true, false, not, ◌&&◌, List, [], ◌∷◌, map, Option, Some, None, is_some}
use Rattle.enc_ast.specs.declared.rules.Span.{Span}
use Rattle.enc_ast.specs.declared.rules.Rule.{Rule}
use Rattle.enc_ast.specs.declared.rules.Rule.TheVariants as rule
use Rattle.enc_ast.specs.declared.decls.Name.{Name}
use Rattle.enc_ast.specs.declared.Expr.{Expr}
use Rattle.enc_ast.specs.declared.TypeText.{TypeText}
use Rattle.enc_ast.specs.declared.stmts.Receiver.{Receiver}
use Rattle.enc_ast.specs.declared.sources.SourceForm.{SourceForm}
use Rattle.enc_ast.specs.declared.Stmt.{Stmt}
use Rattle.enc_ast.specs.declared.StmtForm.TheOpen.{StmtForm-F, Stmt-F}
use Rattle.enc_ast.specs.declared.StmtForm.TheFolds.{fold-Stmt}
use Rattle.enc_modes.specs.declared.ty.Ty.{Ty}
use Rattle.enc_modes.specs.Modes.{is_linear}
use Rattle.enc_modes.specs.Equality.{same}
use Rattle.enc_premises.specs.Premises.{Premises, none, ◌⨾◌, Demand, node, each, if_known}
use Rattle.enc_flow.specs.Env.{Env, find, ty_of, declares, merged, cut, same_moves}
use Rattle.enc_types.specs.Words.{every}
use Rattle.enc_types.specs.Names.{trait_named}
use Rattle.enc_types.specs.Written.{type_of}
use Rattle.enc_exprs.specs.declared.uses.Use.TheVariants.{Copies, Consumes}
use Rattle.enc_exprs.specs.Uses.{this_word, variable, visible, lends, regains}
use Rattle.enc_exprs.specs.Types.{is_bool, is_plain}
use Rattle.enc_exprs.specs.Exprs.{judged, expr_type, expr_premises, consumes}
use Rattle.enc_rules.specs.Context.{Context, only_reads, field_type, field_fits}
use Rattle.enc_rules.specs.Parts.{is_target, agree, splits, packed, chosen, choice_of}
use Rattle.enc_rules.specs.Sources.{Outcome, call, send, outcome, waits}

-- A statement, as the rules see it.
pub record Act : Type 0 where
  -- whether a body that ends with it returns
  pub returns : Bool
  -- the premises of its nodes
  pub premises : Context → Env → Premises
  -- the variables after it
  pub after : Context → Env → Env

-- ---- blocks

abbrev pub all_premises : Context → Env → List Act → Premises
all_premises ctx env [] = none
all_premises ctx env (a ∷ as_) = a.premises ctx env ⨾ all_premises ctx (a.after ctx env) as_

abbrev pub all_after : Context → Env → List Act → Env
all_after ctx env [] = env
all_after ctx env (a ∷ as_) = all_after ctx (a.after ctx env) as_

-- the variables around a block, after it
abbrev pub block_after : Context → Env → Env → List Act → Env
block_after ctx env start as_ = cut env (all_after ctx start as_)

abbrev pub else_premises : Context → Env → Option (List Act) → Premises
else_premises ctx env None = none
else_premises ctx env (Some as_) = all_premises ctx env as_

abbrev pub else_after : Context → Env → Option (List Act) → Env
else_after ctx env None = env
else_after ctx env (Some as_) = block_after ctx env env as_

-- the last statement of a block returns
abbrev pub last_returns : List Act → Bool
last_returns [] = false
last_returns (a ∷ []) = a.returns
last_returns (a ∷ b ∷ as_) = last_returns (b ∷ as_)

abbrev pub else_returns : Option (List Act) → Bool
else_returns None = false
else_returns (Some as_) = last_returns as_

-- ---- the forms

-- no variable of the name is visible
abbrev pub fresh : Env → Name → Bool
fresh env x = not (is_some (find env x.word))

-- it doesn't stand inside an atomic block
abbrev pub outside : Context → Demand
outside ctx = (rule.SAtomic, not ctx.inside)

abbrev let_demand : Context → SourceForm → Demand
let_demand ctx src = (rule.SAtomic, not (ctx.inside && waits src))

abbrev let_premises_of : Context → Env → Name → SourceForm → Span → Outcome → Premises
let_premises_of ctx env x src s o = o.parts ⨾ node s ((rule.SLet, fresh env x) ∷ o.own ∷ o.more ∷ let_demand ctx src ∷ [])

abbrev pub let_premises : Context → Env → Name → SourceForm → Span → Premises
let_premises ctx env x src s = let_premises_of ctx env x src s (outcome ctx env src)

abbrev let_after_of : Name → Outcome → Env
let_after_of x o = declares o.after x.word o.ty

abbrev pub let_after : Context → Env → Name → SourceForm → Env
let_after ctx env x src = let_after_of x (outcome ctx env src)

abbrev pub var_type : Env → Name → Option Ty
var_type env x = ty_of (find env x.word)

abbrev pub assign_premises : Context → Env → Name → Expr → Span → Premises
assign_premises ctx env x y s = visible env x.word x.span ⨾ expr_premises ctx.tables.names env Consumes y ⨾ node s ((rule.SAssign, agree (var_type env x) (expr_type ctx.tables.names env y)) ∷ [])

abbrev pub consumed : Context → Env → Expr → Env
consumed ctx env y = consumes env (judged ctx.tables.names y).name

abbrev pub assign_after : Context → Env → Name → Expr → Env
assign_after ctx env x y = regains (consumed ctx env y) x.word

abbrev pub store_premises : Context → Env → Span → Name → Expr → Span → Premises
store_premises ctx env v x y s = visible env this_word v ⨾ expr_premises ctx.tables.names env Consumes y ⨾ node s ((rule.SStore, field_fits (λ t. if_known (same t) (expr_type ctx.tables.names env y)) (field_type ctx x.word)) ∷ (rule.SReadonly, not (only_reads ctx)) ∷ [])

-- a source that is a statement
abbrev does : Context → Outcome → Demand → Span → Premises
does ctx o d s = o.parts ⨾ node s (o.own ∷ o.more ∷ d ∷ [])

abbrev pub call_premises : Context → Env → Receiver → Name → List Expr → Span → Premises
call_premises ctx env to m xs s = does ctx (call ctx env to m xs) (outside ctx) s

abbrev sends : Outcome → Span → Premises
sends o s = o.parts ⨾ node s (o.own ∷ o.more ∷ [])

abbrev pub send_premises : Context → Env → Receiver → Name → List Expr → Span → Premises
send_premises ctx env to m xs s = sends (send ctx env to m xs) s

-- a condition, whose rule is at its own node
abbrev pub condition : Context → Env → Rule → Expr → Premises
condition ctx env r x = expr_premises ctx.tables.names env Copies x ⨾ node x.span ((r, if_known is_bool (expr_type ctx.tables.names env x)) ∷ [])

abbrev pub if_premises : Context → Env → Expr → List Act → Option (List Act) → Premises
if_premises ctx env x a b = condition ctx env rule.SIf x ⨾ all_premises ctx env a ⨾ else_premises ctx env b

-- What is moved at the end of either block is moved.
abbrev pub if_after : Context → Env → List Act → Option (List Act) → Env
if_after ctx env a b = merged (block_after ctx env env a) (else_after ctx env b)

abbrev pub while_premises : Context → Env → Expr → List Act → Span → Premises
while_premises ctx env x a s = condition ctx env rule.SLoop x ⨾ all_premises ctx env a ⨾ node s ((rule.SLoop, same_moves env (block_after ctx env env a)) ∷ [])

-- the same, inside an atomic block
abbrev pub within : Context → Context
within ctx = record ctx { inside = true }

abbrev pub atomic_premises : Context → Env → Expr → List Act → Span → Premises
atomic_premises ctx env x a s = expr_premises ctx.tables.names env Copies x ⨾ all_premises (within ctx) env a ⨾ node s ((rule.SAtomic, if_known is_target (expr_type ctx.tables.names env x) && not ctx.inside) ∷ [])

-- two new names, which differ
abbrev pub both_fresh : Env → Name → Name → Bool
both_fresh env y z = fresh env y && (fresh env z && not (bytes_eq y.word z.word))

abbrev pub split_ok : Option Ty → Option Ty → Option Ty → Bool
split_ok (Some w) (Some l) (Some r) = splits w l r
split_ok (Some w) None r = is_linear w
split_ok (Some w) (Some l) None = is_linear w
split_ok None l r = true

abbrev pub split_premises : Context → Env → Name → Name → TypeText → Name → TypeText → Span → Premises
split_premises ctx env x y t z u s = variable env Consumes false x.word x.span ⨾ node s ((rule.SLet, both_fresh env y z) ∷ (rule.SSplit, split_ok (var_type env x) (type_of ctx.tables.names t) (type_of ctx.tables.names u)) ∷ [])

abbrev pub split_after : Context → Env → Name → Name → TypeText → Name → TypeText → Env
split_after ctx env x y t z u = declares (declares (lends env x.word) y.word (type_of ctx.tables.names t)) z.word (type_of ctx.tables.names u)

abbrev pub pack_known : Option Ty → Option Ty → Option Ty
pack_known (Some t) (Some u) = packed t u
pack_known _ _ = None

abbrev pub pack_ok : Option Ty → Option Ty → Bool
pack_ok (Some t) (Some u) = is_some (packed t u)
pack_ok (Some t) None = is_linear t
pack_ok None (Some u) = is_linear u
pack_ok None None = true

-- The variables of the first block: both names are consumed. Where they can't be packed, the type of the new one isn't known.
abbrev pub pack_start : Env → Name → Name → Name → Env
pack_start env x y z = declares (lends (lends env x.word) y.word) z.word (pack_known (var_type env x) (var_type env y))

abbrev pub pack_premises : Context → Env → Name → Name → Name → List Act → List Act → Span → Premises
pack_premises ctx env x y z a b s =
    variable env Consumes false x.word x.span ⨾
    variable (lends env x.word) Consumes false y.word y.span ⨾
    all_premises ctx (pack_start env x y z) a ⨾
    all_premises ctx env b ⨾
    node s ((rule.SLet, fresh env z) ∷ (rule.SPack, pack_ok (var_type env x) (var_type env y)) ∷ [])

abbrev pub pack_after : Context → Env → Name → Name → Name → List Act → List Act → Env
pack_after ctx env x y z a b = merged (block_after ctx env (pack_start env x y z) a) (block_after ctx env env b)

abbrev pub choice : Context → Env → Name → Name → Option Ty
choice ctx env x t = choice_of (var_type env x) (trait_named ctx.tables.names t.word)

abbrev pub choose_ok : Context → Env → Name → Name → Bool
choose_ok ctx env x t = if_known (λ u. is_some (chosen u (trait_named ctx.tables.names t.word))) (var_type env x)

abbrev pub choose_premises : Context → Env → Name → Name → Name → Span → Premises
choose_premises ctx env x t y s = variable env Consumes false x.word x.span ⨾ node s ((rule.SLet, fresh env y) ∷ (rule.SChoose, choose_ok ctx env x t) ∷ [])

abbrev pub choose_after : Context → Env → Name → Name → Name → Env
choose_after ctx env x t y = declares (lends env x.word) y.word (choice ctx env x t)

abbrev pub return_premises : Context → Env → Expr → Span → Premises
return_premises ctx env x s = expr_premises ctx.tables.names env Consumes x ⨾ node s (outside ctx ∷ (rule.SReturn, if_known (same ctx.result) (expr_type ctx.tables.names env x)) ∷ [])

abbrev pub prints : Context → Env → Expr → Bool
prints ctx env x = if_known is_plain (expr_type ctx.tables.names env x)

abbrev pub print_premises : Context → Env → List Expr → Span → Premises
print_premises ctx env xs s = each (expr_premises ctx.tables.names env Copies) xs ⨾ node s ((rule.SPrint, every (prints ctx env) xs) ∷ [])

-- One statement, with its blocks as the rules see them.
abbrev pub act_form : StmtForm-F (Span → Act) Act → Span → Act
act_form (StmtForm-F.Let x src) s = record { returns = false; premises = λ ctx env. let_premises ctx env x src.form s; after = λ ctx env. let_after ctx env x src.form }
act_form (StmtForm-F.Assign x y) s = record { returns = false; premises = λ ctx env. assign_premises ctx env x y s; after = λ ctx env. assign_after ctx env x y }
act_form (StmtForm-F.Store v x y) s = record { returns = false; premises = λ ctx env. store_premises ctx env v x y s; after = λ ctx env. consumed ctx env y }
act_form (StmtForm-F.Call to m xs) s = record { returns = false; premises = λ ctx env. call_premises ctx env to m xs s; after = λ ctx env. (call ctx env to m xs).after }
act_form (StmtForm-F.Send to m xs) s = record { returns = false; premises = λ ctx env. send_premises ctx env to m xs s; after = λ ctx env. (send ctx env to m xs).after }
act_form (StmtForm-F.If x a b) s = record { returns = last_returns a && else_returns b; premises = λ ctx env. if_premises ctx env x a b; after = λ ctx env. if_after ctx env a b }
act_form (StmtForm-F.While x a) s = record { returns = false; premises = λ ctx env. while_premises ctx env x a s; after = λ ctx env. env }
act_form (StmtForm-F.Atomic x a) s = record { returns = false; premises = λ ctx env. atomic_premises ctx env x a s; after = λ ctx env. block_after (within ctx) env env a }
act_form (StmtForm-F.Split x y t z u) s = record { returns = false; premises = λ ctx env. split_premises ctx env x y t z u s; after = λ ctx env. split_after ctx env x y t z u }
act_form (StmtForm-F.Pack x y z a b) s = record { returns = last_returns a && last_returns b; premises = λ ctx env. pack_premises ctx env x y z a b s; after = λ ctx env. pack_after ctx env x y z a b }
act_form (StmtForm-F.Choose x t y) s = record { returns = false; premises = λ ctx env. choose_premises ctx env x t y s; after = λ ctx env. choose_after ctx env x t y }
act_form (StmtForm-F.Return x) s = record { returns = true; premises = λ ctx env. return_premises ctx env x s; after = λ ctx env. consumed ctx env x }
act_form (StmtForm-F.Print xs) s = record { returns = false; premises = λ ctx env. print_premises ctx env xs s; after = λ ctx env. env }
act_form StmtForm-F.Suspend s = record { returns = false; premises = λ ctx env. node s (outside ctx ∷ []); after = λ ctx env. env }

abbrev pub act_node : Stmt-F (Span → Act) Act → Act
act_node x = x.form x.span

unfoldable pub act : Stmt → Act
act = fold-Stmt (Span → Act) Act act_form act_node

abbrev pub acts : List Stmt → List Act
acts = map act
