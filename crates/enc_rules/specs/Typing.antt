-- Which sources and statements are well typed. Each premise is named by its rule.
use Rattle.std.specs.Prelude.{◌≡◌, true, false, ◌&&◌, ◌||◌, not, List, [], ◌∷◌, Some, None, is_some}
use Rattle.enc_ast.specs.declared.rules.Span.{Span}
use Rattle.enc_ast.specs.declared.decls.Name.{Name}
use Rattle.enc_ast.specs.declared.TypeText.{TypeText}
use Rattle.enc_ast.specs.declared.Expr.{Expr}
use Rattle.enc_ast.specs.declared.stmts.Receiver.{Receiver}
use Rattle.enc_ast.specs.declared.sources.Source.{Source}
use Rattle.enc_ast.specs.declared.sources.SourceForm.{SourceForm}
use Rattle.enc_ast.specs.declared.sources.SourceForm.TheVariants as s
use Rattle.enc_ast.specs.declared.Stmt.{Stmt}
use Rattle.enc_ast.specs.declared.StmtForm.{StmtForm, out-StmtForm}
use Rattle.enc_ast.specs.declared.StmtForm.TheOpen.{StmtForm-F}
use Rattle.enc_modes.specs.declared.ty.Alt.{Alt}
use Rattle.enc_modes.specs.declared.ty.Ty.{Ty}
use Rattle.enc_modes.specs.declared.ty.Ty.TheVariants as ty
use Rattle.enc_modes.specs.Modes.{is_linear, is_shareable, is_sendable}
use Rattle.enc_flow.specs.Env.{Env, find, ty_of, usable, declares, merged, cut, same_moves}
use Rattle.enc_types.specs.Words.{every}
use Rattle.enc_types.specs.Names.{Names, trait_named}
use Rattle.enc_types.specs.Written.{type_of, local_of}
use Rattle.enc_names.specs.declared.members.Slot.{Slot}
use Rattle.enc_names.specs.declared.members.Signature.{Signature}
use Rattle.enc_names.specs.Lookups.{class_named}
use Rattle.enc_exprs.specs.declared.uses.Use.TheVariants.{Consumes}
use Rattle.enc_exprs.specs.Uses.{this_word, lends, regains}
use Rattle.enc_exprs.specs.Types.{is_plain}
use Rattle.enc_exprs.specs.Typing.{IsTyped, Copied}
use Rattle.enc_rules.specs.Context.{Context, field_type, only_reads, function_of}
use Rattle.enc_rules.specs.Parts.{is_cap, is_target, is_subordinate, splits, packed, chosen}
use Rattle.enc_rules.specs.Calls.{is_this, receiver_word, called, sent, is_inner}
use Rattle.enc_rules.specs.Sources.{waits}
use Rattle.enc_rules.specs.Stmts.{within, both_fresh}

abbrev pub names_of : Context → Names
names_of ctx = ctx.tables.names

-- arguments for parameters, and the variables after them
pub data AreArguments (names : Names) : Env → List Slot → List Expr → Env → Type 0 where
  end : {env : Env} → AreArguments names env [] [] env
  more : {env last : Env} {p : Slot} {ps : List Slot} {a : Expr} {as_ : List Expr} (mid : Env) → (e-type : IsTyped names env a Consumes p.ty mid) → AreArguments names mid ps as_ last → AreArguments names env (p ∷ ps) (a ∷ as_) last

-- The receiver can be used. It is moved before the arguments are judged, and can be used again after them.
pub record Invokes (names : Names) (env : Env) (to : Receiver) (t : Ty) (ps : List Slot) (args : List Expr) (last : Env) : Type 0 where
  pub end : Env
  pub e-var_moved : usable env (receiver_word to) ≡ Some t
  pub arguments : AreArguments names (lends env (receiver_word to)) ps args end
  pub after : last ≡ regains end (receiver_word to)

-- The function takes a value of the type and these arguments.
pub record Applies (ctx : Context) (env : Env) (f : Name) (t : Ty) (args : List Expr) (result : Ty) (last : Env) : Type 0 where
  pub function : Signature
  pub first : Slot
  pub further : List Slot
  pub is : function_of ctx.tables f.word ≡ Some function
  pub params : function.params ≡ first ∷ further
  pub takes : first.ty ≡ t
  pub arguments : AreArguments ctx.tables.names env further args last
  pub gives : function.result ≡ result

-- a source, with its type and the variables after it
pub data Gives (ctx : Context) (env : Env) : SourceForm → Ty → Env → Type 0 where
  value : {x : Expr} {t : Ty} {last : Env} → IsTyped (names_of ctx) env x Consumes t last → Gives ctx env (s.Expr x) t last
  new : {c : Name} {t : Ty} → (s-new : class_named (names_of ctx) c.word ≡ Some t) → Gives ctx env (s.New c) t env
  field : {v : Span} {x : Name} {t : Ty} → (e-var : is_some (find env this_word) ≡ true) → (s-field : field_type ctx x.word ≡ Some t) → (s-field-2 : is_linear t ≡ false) → Gives ctx env (s.Field v x) t env
  take : {v : Span} {x : Name} {t : Ty} → (e-var : is_some (find env this_word) ≡ true) → (s-take : field_type ctx x.word ≡ Some t) → (s-take-2 : is_linear t ≡ true) → Gives ctx env (s.Take v x) t env
  call : {to : Receiver} {m : Name} {xs : List Expr} {last : Env} (t : Ty) (d : Signature) → Invokes (names_of ctx) env to t d.params xs last → (s-call : (is_this to || is_cap t) ≡ true) → (s-call-2 : called ctx.tables (Some t) m.word ≡ Some d) → (s-inner : ((is_this to || is_subordinate t) || not (is_inner (Some d))) ≡ true) → Gives ctx env (s.Call to m xs) d.result last
  send : {to : Receiver} {m : Name} {xs : List Expr} {last : Env} (t : Ty) (d : Signature) → Invokes (names_of ctx) env to t d.params xs last → (s-send : is_target t ≡ true) → (s-send-2 : sent ctx.tables (Some t) m.word ≡ Some d) → (s-sendable : every (λ p. is_sendable p.ty) d.params ≡ true) → (s-sendable-2 : is_shareable d.result ≡ true) → Gives ctx env (s.Send to m xs) (ty.Fut d.result) last
  get : {x : Expr} {t : Ty} → (s-get : Copied (names_of ctx) env x (ty.Fut t)) → Gives ctx env (s.Get x) t env
  await : {x : Expr} {t : Ty} → (s-await : Copied (names_of ctx) env x (ty.Fut t)) → Gives ctx env (s.Await x) t env
  chain : {x : Expr} {f : Name} {xs : List Expr} {u : Ty} {last : Env} (t : Ty) → (s-chain : Copied (names_of ctx) env x (ty.Fut t)) → (s-chain-2 : Applies ctx env f t xs u last) → Gives ctx env (s.Chain x f xs) (ty.Fut u) last
  lift : {x : Expr} {t : Ty} → Copied (names_of ctx) env x t → (s-part : is_shareable t ≡ true) → Gives ctx env (s.Lift x) (ty.Par t) env
  lift_future : {x : Expr} (t : Ty) → (s-part : Copied (names_of ctx) env x (ty.Fut t)) → Gives ctx env (s.LiftFuture x) (ty.Par t) env
  each : {x : Expr} (t : Ty) → (s-part : Copied (names_of ctx) env x (ty.List t)) → Gives ctx env (s.Each x) (ty.Par t) env
  both : {x y : Expr} (t : Ty) → (s-part : Copied (names_of ctx) env x (ty.Par t)) → (s-part-2 : Copied (names_of ctx) env y (ty.Par t)) → Gives ctx env (s.Both x y) (ty.Par t) env
  otherwise : {x y : Expr} (t : Ty) → (s-part : Copied (names_of ctx) env x (ty.Par t)) → (s-part-2 : Copied (names_of ctx) env y (ty.Par t)) → Gives ctx env (s.Otherwise x y) (ty.Par t) env
  seq : {x : Expr} {f : Name} {xs : List Expr} {u : Ty} {last : Env} (t : Ty) → (s-part : Copied (names_of ctx) env x (ty.Par t)) → (s-part-2 : Applies ctx env f t xs u last) → Gives ctx env (s.Seq x f xs) (ty.Par u) last
  join : {x : Expr} (t : Ty) → (s-part : Copied (names_of ctx) env x (ty.Par (ty.Par t))) → Gives ctx env (s.Join x) (ty.Par t) env
  prune : {x : Expr} (t : Ty) → (s-part : Copied (names_of ctx) env x (ty.Par t)) → Gives ctx env (s.Prune x) (ty.Par t) env
  extract : {x : Expr} (t : Ty) → (s-part : Copied (names_of ctx) env x (ty.Par t)) → Gives ctx env (s.Extract x) (ty.List t) env
  bestow : {x : Expr} {a : Alt} (t : Ty) → Copied (names_of ctx) env x t → (s-bestow : local_of t ≡ Some a) → Gives ctx env (s.Bestow x) (ty.Bestowed a) env

-- values that can be printed
pub data AllPrint (names : Names) (env : Env) : List Expr → Type 0 where
  end : AllPrint names env []
  more : {x : Expr} {xs : List Expr} (t : Ty) → Copied names env x t → (s-print : is_plain t ≡ true) → AllPrint names env xs → AllPrint names env (x ∷ xs)

abbrev pub Layer : Type 0
Layer = StmtForm-F StmtForm Stmt

mutual
  -- a statement, with the variables after it
  pub data Types : Context → Env → Layer → Env → Type 0 where
    binds : {ctx : Context} {env last : Env} {x : Name} {src : Source} (t : Ty) → Gives ctx env src.form t last → (s-let : is_some (find env x.word) ≡ false) → (s-atomic : (ctx.inside && waits src.form) ≡ false) → Types ctx env (StmtForm-F.Let x src) (declares last x.word (Some t))
    assigns : {ctx : Context} {env last : Env} {x : Name} {y : Expr} (t : Ty) → (e-var : ty_of (find env x.word) ≡ Some t) → (s-assign : IsTyped (names_of ctx) env y Consumes t last) → Types ctx env (StmtForm-F.Assign x y) (regains last x.word)
    stores : {ctx : Context} {env last : Env} {v : Span} {x : Name} {y : Expr} (t : Ty) → (e-var : is_some (find env this_word) ≡ true) → (s-store : field_type ctx x.word ≡ Some t) → (s-store-2 : IsTyped (names_of ctx) env y Consumes t last) → (s-readonly : only_reads ctx ≡ false) → Types ctx env (StmtForm-F.Store v x y) last
    calls : {ctx : Context} {env last : Env} {to : Receiver} {m : Name} {xs : List Expr} (t : Ty) → Gives ctx env (s.Call to m xs) t last → (s-atomic : ctx.inside ≡ false) → Types ctx env (StmtForm-F.Call to m xs) last
    sends : {ctx : Context} {env last : Env} {to : Receiver} {m : Name} {xs : List Expr} (t : Ty) → Gives ctx env (s.Send to m xs) t last → Types ctx env (StmtForm-F.Send to m xs) last
    -- what is moved at the end of either block is moved
    tests : {ctx : Context} {env : Env} {x : Expr} {a b : List Stmt} (left right : Env) → (s-if : Copied (names_of ctx) env x ty.Bool) → TypesAll ctx env a left → TypesAll ctx env b right → Types ctx env (StmtForm-F.If x a (Some b)) (merged (cut env left) (cut env right))
    tests_once : {ctx : Context} {env : Env} {x : Expr} {a : List Stmt} (left : Env) → (s-if : Copied (names_of ctx) env x ty.Bool) → TypesAll ctx env a left → Types ctx env (StmtForm-F.If x a None) (merged (cut env left) env)
    -- a loop leaves the variables around it as they were
    loops : {ctx : Context} {env : Env} {x : Expr} {a : List Stmt} (last : Env) → (s-loop : Copied (names_of ctx) env x ty.Bool) → TypesAll ctx env a last → (s-loop-2 : same_moves env (cut env last) ≡ true) → Types ctx env (StmtForm-F.While x a) env
    groups : {ctx : Context} {env : Env} {x : Expr} {a : List Stmt} (t : Ty) (last : Env) → Copied (names_of ctx) env x t → TypesAll (within ctx) env a last → (s-atomic : is_target t ≡ true) → (s-atomic-2 : ctx.inside ≡ false) → Types ctx env (StmtForm-F.Atomic x a) (cut env last)
    splits_up : {ctx : Context} {env : Env} {x y z : Name} {l r : TypeText} (t u v : Ty) → (e-var_moved : usable env x.word ≡ Some t) → type_of (names_of ctx) l ≡ Some u → type_of (names_of ctx) r ≡ Some v → (s-let : both_fresh env y z ≡ true) → (s-split : splits t u v ≡ true) → Types ctx env (StmtForm-F.Split x y l z r) (declares (declares (lends env x.word) y.word (Some u)) z.word (Some v))
    packs : {ctx : Context} {env : Env} {x y z : Name} {a b : List Stmt} (t u v : Ty) (left right : Env) → (e-var_moved : usable env x.word ≡ Some t) → (e-var_moved-2 : usable (lends env x.word) y.word ≡ Some u) → (s-let : is_some (find env z.word) ≡ false) → (s-pack : packed t u ≡ Some v) → TypesAll ctx (declares (lends (lends env x.word) y.word) z.word (Some v)) a left → TypesAll ctx env b right → Types ctx env (StmtForm-F.Pack x y z a b) (merged (cut env left) (cut env right))
    chooses : {ctx : Context} {env : Env} {x y z : Name} (t u : Ty) → (e-var_moved : usable env x.word ≡ Some t) → (s-let : is_some (find env z.word) ≡ false) → (s-choose : chosen t (trait_named (names_of ctx) y.word) ≡ Some u) → Types ctx env (StmtForm-F.Choose x y z) (declares (lends env x.word) z.word (Some u))
    returns : {ctx : Context} {env last : Env} {x : Expr} → (s-atomic : ctx.inside ≡ false) → (s-return : IsTyped (names_of ctx) env x Consumes ctx.result last) → Types ctx env (StmtForm-F.Return x) last
    prints : {ctx : Context} {env : Env} {xs : List Expr} → (s-print : AllPrint (names_of ctx) env xs) → Types ctx env (StmtForm-F.Print xs) env
    suspends : {ctx : Context} {env : Env} → (s-atomic : ctx.inside ≡ false) → Types ctx env StmtForm-F.Suspend env

  -- statements one after another
  pub data TypesAll : Context → Env → List Stmt → Env → Type 0 where
    none : {ctx : Context} {env : Env} → TypesAll ctx env [] env
    some : {ctx : Context} {env last : Env} {x : Stmt} {xs : List Stmt} (mid : Env) → Types ctx env (out-StmtForm x.form) mid → TypesAll ctx mid xs last → TypesAll ctx env (x ∷ xs) last
