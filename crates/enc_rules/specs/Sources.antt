-- The rules of sources.
use Rattle.std.specs.Prelude.{Bool, true, false, not, ◌&&◌, List, length, Option, Some, None, is_some, option_map, option_and_then}
use Rattle.enc_ast.specs.declared.rules.Span.{Span}
use Rattle.enc_ast.specs.declared.rules.Rule.{Rule}
use Rattle.enc_ast.specs.declared.rules.Rule.TheVariants as rule
use Rattle.enc_ast.specs.declared.decls.Name.{Name}
use Rattle.enc_ast.specs.declared.Expr.{Expr}
use Rattle.enc_ast.specs.declared.stmts.Receiver.{Receiver}
use Rattle.enc_ast.specs.declared.sources.SourceForm.{SourceForm}
use Rattle.enc_ast.specs.declared.sources.SourceForm.TheVariants as s
use Rattle.enc_modes.specs.declared.ty.Ty.{Ty}
use Rattle.enc_modes.specs.declared.ty.Ty.TheVariants as ty
use Rattle.enc_modes.specs.Modes.{is_linear, is_shareable}
use Rattle.enc_premises.specs.Premises.{Premises, none, ◌⨾◌, Demand, if_known}
use Rattle.enc_flow.specs.Env.{Env, or_else}
use Rattle.enc_types.specs.Written.{local_of}
use Rattle.enc_names.specs.declared.members.Signature.{Signature}
use Rattle.enc_names.specs.Lookups.{class_named}
use Rattle.enc_exprs.specs.declared.uses.Use.TheVariants.{Copies, Consumes}
use Rattle.enc_exprs.specs.Uses.{this_word, visible}
use Rattle.enc_exprs.specs.Types.{item_of}
use Rattle.enc_exprs.specs.Exprs.{judged, expr_type, expr_premises, consumes}
use Rattle.enc_rules.specs.Context.{Context, field_type, field_fits, function_of}
use Rattle.enc_rules.specs.Parts.{future_of, tree_of, tree_of_trees, agree}
use Rattle.enc_rules.specs.Calls.{receiver_type, called, sent, invoked, after_invoked, params_of, result_of, may_call, may_enter, may_send, may_travel, further, applies, arguments_of, after_args}

-- A source, as the rules see it: the premises of its parts, what is asked of the statement by the source's own
-- rule and by one more, the type of what it gives, where that is known, and the variables after it.
pub record Outcome : Type 0 where
  pub parts : Premises
  pub own : Demand
  pub more : Demand
  pub ty : Option Ty
  pub after : Env

-- nothing is asked
abbrev pub free : Demand
free = (rule.SLet, true)

-- ---- the shapes of sources

module _ (ctx : Context) (env : Env) where
  -- a value in a consuming place
  abbrev value : Expr → Outcome
  value x = record { parts = expr_premises ctx.tables.names env Consumes x; own = free; more = free; ty = expr_type ctx.tables.names env x; after = consumes env (judged ctx.tables.names x).name }

  -- a new object
  abbrev new : Name → Outcome
  new c = record { parts = none; own = (rule.SNew, is_some (class_named ctx.tables.names c.word)); more = free; ty = class_named ctx.tables.names c.word; after = env }

  -- a field of "this", of whose type the rule asks something
  abbrev field : Rule → (Ty → Bool) → Span → Name → Outcome
  field r want v x = record { parts = visible env this_word v; own = (r, field_fits want (field_type ctx x.word)); more = free; ty = field_type ctx x.word; after = env }

  -- a call of the method
  abbrev pub call_of : Option Signature → Receiver → List Expr → Outcome
  call_of m to xs = record { parts = invoked ctx.tables.names env to (params_of m) xs; own = (rule.SCall, may_call to m (length xs) (receiver_type env to)); more = (rule.SInner, may_enter to m (receiver_type env to)); ty = result_of m; after = after_invoked ctx.tables.names env to xs }

  abbrev pub call : Receiver → Name → List Expr → Outcome
  call to m xs = call_of (called ctx.tables (receiver_type env to) m.word) to xs

  -- a send to the method
  abbrev pub send_of : Option Signature → Receiver → List Expr → Outcome
  send_of m to xs = record { parts = invoked ctx.tables.names env to (params_of m) xs; own = (rule.SSend, may_send m (length xs) (receiver_type env to)); more = (rule.SSendable, may_travel m); ty = option_map ty.Fut (result_of m); after = after_invoked ctx.tables.names env to xs }

  abbrev pub send : Receiver → Name → List Expr → Outcome
  send to m xs = send_of (sent ctx.tables (receiver_type env to) m.word) to xs

  -- an operand of whose type a part is taken, and what is made of the part
  abbrev pub part : Rule → (Ty → Option Ty) → (Ty → Ty) → Expr → Outcome
  part r of make x = record { parts = expr_premises ctx.tables.names env Copies x; own = (r, if_known (λ t. is_some (of t)) (expr_type ctx.tables.names env x)); more = free; ty = option_map make (option_and_then of (expr_type ctx.tables.names env x)); after = env }

  abbrev both_trees : Option Ty → Option Ty → Bool
  both_trees t u = if_known (λ z. is_some (tree_of z)) t && (if_known (λ z. is_some (tree_of z)) u && agree t u)

  -- two trees of one type, which the first tells, or else the second
  abbrev pub trees : Expr → Expr → Outcome
  trees x y = record { parts = expr_premises ctx.tables.names env Copies x ⨾ expr_premises ctx.tables.names env Copies y; own = (rule.SPart, both_trees (expr_type ctx.tables.names env x) (expr_type ctx.tables.names env y)); more = free; ty = or_else (expr_type ctx.tables.names env x) (expr_type ctx.tables.names env y); after = env }

  abbrev part_known : (Ty → Option Ty) → Option Ty → Option Ty
  part_known of t = option_and_then of t

  -- a function for the part of an operand's type, and what is made of its result
  abbrev pub applied_by : Option Signature → Rule → (Ty → Option Ty) → (Ty → Ty) → Expr → List Expr → Outcome
  applied_by f r of make x xs = record {
    parts = expr_premises ctx.tables.names env Copies x ⨾ arguments_of ctx.tables.names env (further f) xs;
    own = (r, if_known (λ t. is_some (of t)) (expr_type ctx.tables.names env x) && applies f (length xs) (part_known of (expr_type ctx.tables.names env x)));
    more = free;
    ty = option_map make (result_of f);
    after = after_args ctx.tables.names env xs;
  }

  abbrev pub applied : Rule → (Ty → Option Ty) → (Ty → Ty) → Expr → Name → List Expr → Outcome
  applied r of make x f xs = applied_by (function_of ctx.tables f.word) r of make x xs

  abbrev pub shared : Ty → Option Ty
  shared t = only_shared (is_shareable t) t
    where
      only_shared : Bool → Ty → Option Ty
      only_shared true t = Some t
      only_shared false t = None

  abbrev pub bestowed : Ty → Option Ty
  bestowed t = option_map ty.Bestowed (local_of t)

  -- a source
  unfoldable pub outcome : SourceForm → Outcome
  outcome (s.Expr x) = value x
  outcome (s.New c) = new c
  outcome (s.Field v x) = field rule.SField (λ t. not (is_linear t)) v x
  outcome (s.Take v x) = field rule.STake is_linear v x
  outcome (s.Call to m xs) = call to m xs
  outcome (s.Send to m xs) = send to m xs
  outcome (s.Get x) = part rule.SGet future_of (λ t. t) x
  outcome (s.Await x) = part rule.SAwait future_of (λ t. t) x
  outcome (s.Chain x f xs) = applied rule.SChain future_of ty.Fut x f xs
  outcome (s.Lift x) = part rule.SPart shared ty.Par x
  outcome (s.LiftFuture x) = part rule.SPart future_of ty.Par x
  outcome (s.Each x) = part rule.SPart item_of ty.Par x
  outcome (s.Both x y) = trees x y
  outcome (s.Otherwise x y) = trees x y
  outcome (s.Seq x f xs) = applied rule.SPart tree_of ty.Par x f xs
  outcome (s.Join x) = part rule.SPart tree_of_trees ty.Par x
  outcome (s.Prune x) = part rule.SPart tree_of ty.Par x
  outcome (s.Extract x) = part rule.SPart tree_of ty.List x
  outcome (s.Bestow x) = part rule.SBestow bestowed (λ t. t) x

-- ---- atomic blocks

-- what may not stand inside an atomic block
abbrev pub waits : SourceForm → Bool
waits (s.Expr x) = false
waits (s.New c) = false
waits (s.Field v x) = false
waits (s.Take v x) = false
waits (s.Call to m xs) = true
waits (s.Send to m xs) = false
waits (s.Get x) = true
waits (s.Await x) = true
waits (s.Chain x f xs) = false
waits (s.Lift x) = false
waits (s.LiftFuture x) = false
waits (s.Each x) = false
waits (s.Both x y) = false
waits (s.Otherwise x y) = false
waits (s.Seq x f xs) = false
waits (s.Join x) = false
waits (s.Prune x) = false
waits (s.Extract x) = true
waits (s.Bestow x) = false
