-- A source that has no premise that fails is well typed.
use Rattle.std.proofs.Common.{◌≡◌, ◌==◌, ℕ, Bool, true, false, not, ◌&&◌, ◌||◌, cond, List, [], ◌∷◌, length, map, Option, Some, None, refl, sym, ap, ◌∙◌, subst, arith}
use Rattle.std.specs.Prelude.{is_some, option_map, option_and_then}
use Rattle.std.proofs.lemmas.Bool.Decides.{nat_tests}
use Rattle.enc_ast.specs.declared.rules.Rule.{Rule}
use Rattle.enc_ast.specs.declared.rules.Rule.TheVariants as rule
use Rattle.enc_ast.specs.declared.rules.Span.{Span}
use Rattle.enc_ast.specs.declared.decls.Name.{Name}
use Rattle.enc_ast.specs.declared.Expr.{Expr}
use Rattle.enc_ast.specs.declared.stmts.Receiver.{Receiver}
use Rattle.enc_ast.specs.declared.sources.SourceForm.{SourceForm}
use Rattle.enc_ast.specs.declared.sources.SourceForm.TheVariants as s
use Rattle.enc_modes.specs.declared.ty.Ty.{Ty}
use Rattle.enc_modes.specs.declared.ty.Ty.TheVariants as ty
use Rattle.enc_modes.specs.Equality.{same}
use Rattle.enc_modes.specs.Modes.{is_linear, is_sendable, is_shareable}
use Rattle.enc_premises.specs.Premises.{if_known}
use Rattle.enc_premises.specs.First.{AllHold, one, join}
use Rattle.enc_flow.specs.Env.{Env, find}
use Rattle.enc_types.specs.Words.{every}
use Rattle.enc_types.specs.Names.{Names}
use Rattle.enc_names.specs.declared.members.Slot.{Slot}
use Rattle.enc_names.specs.declared.members.Signature.{Signature}
use Rattle.enc_names.specs.Lookups.{class_named}
use Rattle.enc_exprs.specs.declared.uses.Use.{Use}
use Rattle.enc_exprs.specs.declared.uses.Use.TheVariants.{Copies, Consumes, Looks}
use Rattle.enc_exprs.specs.Uses.{this_word, visible, lends}
use Rattle.enc_exprs.specs.Types.{item_of}
use Rattle.enc_exprs.specs.Exprs.{judged, expr_type, expr_premises, consumes}
use Rattle.enc_exprs.specs.Typing.{IsTyped, Copied, layer}
use Rattle.enc_exprs.specs.Typing as e
use Rattle.enc_flow.specs.Known.{Knows}
use Rattle.enc_exprs.proofs.ExprSound.{Sound, expr_sound}
use Rattle.enc_exprs.proofs.Knowing.{knows_lends, knows_regains, knows_consumes}
use Rattle.enc_exprs.proofs.Variables.{Named, variable_known}
use Rattle.enc_exprs.proofs.Same.{same_is}
use Rattle.enc_rules.specs.Context.{Context, field_type, field_fits, function_of}
use Rattle.enc_rules.specs.Parts.{future_of, tree_of, tree_of_trees, is_cap, is_target}
use Rattle.enc_rules.specs.Calls.{receiver_type, receiver_word, receiver_span, is_this, called, sent, takes, arguments, arguments_of, after_args, invoked, after_invoked, may_call, may_enter, may_send, may_travel, params_of, result_of, applies, further, rest_of, first_is}
use Rattle.enc_rules.specs.Sources.{Outcome, outcome, part, trees, applied, shared, bestowed, call, send}
use Rattle.enc_rules.specs.Typing.{names_of, AreArguments, Invokes, Applies, Gives}
use Rattle.enc_rules.specs.Typing as t
use Rattle.enc_rules.proofs.Parts.{future_is, tree_is, trees_is, item_is, shared_is, bestowed_is}

-- ---- small facts

-- `&&`, taken apart
pub both_true : (a b : Bool) → (a && b) ≡ true → (a ≡ true) × (b ≡ true)
both_true true b e = (refl, e)
both_true false b e = absurd (grind arith)

-- `not`, taken away
pub flip : (b : Bool) → not b ≡ true → b ≡ false
flip true e = absurd (grind arith)
flip false e = refl

-- what is said to be there
pub some_there : {A : Type 0} (o : Option A) → is_some o ≡ true → (x : A) × (o ≡ Some x)
some_there None e = absurd (grind arith)
some_there (Some x) e = (x, refl)

-- a name that is said to be visible
pub visible_there : (env : Env) (x : List ℕ) (s : Span) → AllHold (visible env x s) → is_some (find env x) ≡ true
unfolding visible
visible_there env x s (one h) = h

-- ---- expressions

-- an expression in a place
pub expr_typed : (names : Names) (env : Env) (u : Use) (x : Expr) → Knows env → AllHold (expr_premises names env u x) → Sound names env (layer x) (judged names x) u
expr_typed names env u x k h = expr_sound names env x u k h

-- an operand in a copying place
pub record Operand (names : Names) (env : Env) (x : Expr) : Type 0 where
  pub t : Ty
  pub typed : Copied names env x t
  pub ty : expr_type names env x ≡ Some t

-- an operand in a copying place, whose premises hold
pub operand_typed : (names : Names) (env : Env) (x : Expr) → Knows env → AllHold (expr_premises names env Copies x) → Operand names env x
operand_typed names env x k h =
    let f = expr_typed names env Copies x k h in
    record { t = f.t; typed = e.copied f.typed; ty = f.ty }

-- the same type by another name
pub as_type : {names : Names} {env : Env} {x : Expr} (p : Operand names env x) (u : Ty) → p.t ≡ u → Copied names env x u
as_type {names} {env} {x} p u is = subst (λ z. Copied names env x z) is p.typed

-- ---- arguments

-- What arguments are whose premises hold.
record Args (names : Names) (env : Env) (ps : List Slot) (xs : List Expr) : Type 0 where
  typed : AreArguments names env ps xs (after_args names env xs)
  knows : Knows (after_args names env xs)

-- arguments one after another
args_typed : (names : Names) (xs : List Expr) (ps : List Slot) (env : Env) → Knows env → length ps ≡ length xs → AllHold (arguments env ps (map (judged names) xs)) → Args names env ps xs
args_typed names [] [] env k l h = record { typed = t.end; knows = k }
args_typed names [] (p ∷ ps) env k l h = absurd (omega arith)
args_typed names (x ∷ xs) [] env k l h = absurd (omega arith)
args_typed names (x ∷ xs) (p ∷ ps) env k l (join (join h (one m)) i) =
    let f = expr_typed names env Consumes x k h in
    let is : p.ty ≡ f.t = same_is p.ty f.t (rw f.ty at m) in
    let mid : Env = consumes env (judged names x).name in
    let g = args_typed names xs ps mid (knows_consumes k (judged names x).name) (omega arith) i in
    record { typed = t.more mid (subst (λ z. IsTyped names env x Consumes z mid) (sym is) f.typed) g.typed; knows = g.knows }

-- as many arguments as parameters
asked_typed : (names : Names) (env : Env) (ps : List Slot) (xs : List Expr) → Knows env → (length ps == length xs) ≡ true → AllHold (arguments_of names env (Some ps) xs) → Args names env ps xs
asked_typed names env ps xs k l h =
    let m : length ps ≡ length xs = grind (arith, nat_tests) in
    args_typed names xs ps env k m (subst (λ b. AllHold (arguments env (cond b ps []) (map (judged names) xs))) l h)

-- ---- receivers

-- the type of a receiver
receiver_known : (names : Names) (env : Env) (to : Receiver) (ps : Option (List Slot)) (xs : List Expr) → Knows env → AllHold (invoked names env to ps xs) → Named env Looks (is_this to) (receiver_word to)
unfolding invoked
receiver_known names env to ps xs k (join h i) = variable_known env Looks (is_this to) (receiver_word to) (receiver_span to) k h

-- What a receiver and its arguments are whose premises hold.
record Invoked (names : Names) (env : Env) (to : Receiver) (t : Ty) (ps : List Slot) (xs : List Expr) : Type 0 where
  typed : Invokes names env to t ps xs (after_invoked names env to xs)
  knows : Knows (after_invoked names env to xs)

-- a receiver and its arguments
invoked_typed : (names : Names) (env : Env) (to : Receiver) (ps : List Slot) (xs : List Expr) (n : Named env Looks (is_this to) (receiver_word to)) → Knows env → (length ps == length xs) ≡ true → AllHold (invoked names env to (Some ps) xs) → Invoked names env to n.t ps xs
unfolding invoked after_invoked
invoked_typed names env to ps xs n k l (join h i) =
    let a = asked_typed names (lends env (receiver_word to)) ps xs (knows_lends k (receiver_word to)) l i in
    record {
      typed = record { end = after_args names (lends env (receiver_word to)) xs; e-var_moved = n.usable; arguments = a.typed; after = refl };
      knows = knows_regains a.knows (receiver_word to);
    }

-- ---- methods and functions

-- a method that takes so many arguments
record Takes (m : Option Signature) (n : ℕ) : Type 0 where
  method : Signature
  is : m ≡ Some method
  long : (length method.params == n) ≡ true

-- what takes so many arguments is there
takes_there : (m : Option Signature) (n : ℕ) → takes (params_of m) n ≡ true → Takes m n
takes_there None n e = absurd (grind arith)
takes_there (Some d) n e = record { method = d; is = refl; long = e }

-- a function that takes a value of the type and so many arguments
record Fits (f : Option Signature) (n : ℕ) (t : Ty) : Type 0 where
  function : Signature
  first : Slot
  rest : List Slot
  is : f ≡ Some function
  params : function.params ≡ first ∷ rest
  takes : first.ty ≡ t
  long : (length rest == n) ≡ true

-- what takes the value and so many arguments is there
fits_there : (f : Option Signature) (n : ℕ) (t : Ty) → applies f n (Some t) ≡ true → Fits f n t
fits_there None n t e = absurd (grind arith)
fits_there (Some d) n t e = go d.params refl e
  where
    go : (ps : List Slot) → d.params ≡ ps → (first_is ps (Some t) && (length (rest_of ps) == n)) ≡ true → Fits (Some d) n t
    go [] q h = absurd (grind arith)
    go (p ∷ ps) q h =
        let b = both_true (same p.ty t) (length ps == n) h in
        record { function = d; first = p; rest = ps; is = refl; params = q; takes = same_is p.ty t b.0; long = b.1 }

-- the premises of its further arguments
further_hold : (names : Names) (env : Env) (f : Option Signature) (n : ℕ) (t : Ty) (xs : List Expr) (fits : Fits f n t) → AllHold (arguments_of names env (further f) xs) → AllHold (arguments_of names env (Some fits.rest) xs)
further_hold names env f n t xs fits h = subst (λ z. AllHold (arguments_of names env (Some (rest_of z)) xs)) fits.params (subst (λ z. AllHold (arguments_of names env (further z) xs)) fits.is h)

-- what is made of its result
fits_result : (f : Option Signature) (n : ℕ) (t : Ty) (make : Ty → Ty) (fits : Fits f n t) → option_map make (result_of f) ≡ Some (make fits.function.result)
fits_result f n t make fits = ap (λ z. option_map make (result_of z)) fits.is

-- a function with its arguments
fits_applies : (ctx : Context) (env last : Env) (f : Name) (t : Ty) (xs : List Expr) (fits : Fits (function_of ctx.tables f.word) (length xs) t) → AreArguments ctx.tables.names env fits.rest xs last → Applies ctx env f t xs fits.function.result last
fits_applies ctx env last f t xs fits a = record { function = fits.function; first = fits.first; further = fits.rest; is = fits.is; params = fits.params; takes = fits.takes; arguments = a; gives = refl }

-- a field of whose type something is asked
pub field_there : (want : Ty → Bool) (o : Option Ty) → field_fits want o ≡ true → (t : Ty) × (o ≡ Some t) × (want t ≡ true)
field_there want None e = absurd (grind arith)
field_there want (Some t) e = (t, refl, e)

-- ---- shapes of sources

-- What a source is whose premises hold.
pub record SourceSound (ctx : Context) (env : Env) (src : SourceForm) (o : Outcome) : Type 0 where
  pub t : Ty
  pub typed : Gives ctx env src t o.after
  pub ty : o.ty ≡ Some t
  pub knows : Knows o.after

-- how a source is told to be well typed by its shape
abbrev Tells : Context → Env → SourceForm → Outcome → Type 0
Tells ctx env src o = AllHold o.parts → o.own.1 ≡ true → o.more.1 ≡ true → SourceSound ctx env src o

module _ (ctx : Context) (env : Env) (k : Knows env) where
  -- a part of the type of an operand
  part_sound : (src : SourceForm) (r : Rule) (of : Ty → Option Ty) (make : Ty → Ty) (x : Expr) → ((p : Operand ctx.tables.names env x) (u : Ty) → of p.t ≡ Some u → Gives ctx env src (make u) env) → AllHold (part ctx env r of make x).parts → (part ctx env r of make x).own.1 ≡ true → SourceSound ctx env src (part ctx env r of make x)
  part_sound src r of make x typed h own =
      let p = operand_typed ctx.tables.names env x k h in
      let u = some_there (of p.t) (rw p.ty at own) in
      record { t = make u.0; typed = typed p u.0 u.1; ty = ap (λ z. option_map make (option_and_then of z)) p.ty ∙ ap (option_map make) u.1; knows = k }

  -- two trees of one type
  trees_sound : (src : SourceForm) (x y : Expr) → ((t : Ty) → Copied ctx.tables.names env x (ty.Par t) → Copied ctx.tables.names env y (ty.Par t) → Gives ctx env src (ty.Par t) env) → AllHold (trees ctx env x y).parts → (trees ctx env x y).own.1 ≡ true → SourceSound ctx env src (trees ctx env x y)
  trees_sound src x y typed (join h h') own =
      let p = operand_typed ctx.tables.names env x k h in
      let q = operand_typed ctx.tables.names env y k h' in
      let known : (is_some (tree_of p.t) && (is_some (tree_of q.t) && same p.t q.t)) ≡ true = rw (p.ty, q.ty) at own in
      let a = both_true (is_some (tree_of p.t)) (is_some (tree_of q.t) && same p.t q.t) known in
      let b = both_true (is_some (tree_of q.t)) (same p.t q.t) a.1 in
      let u = some_there (tree_of p.t) a.0 in
      let is : p.t ≡ ty.Par u.0 = tree_is p.t u.0 u.1 in
      record { t = ty.Par u.0; typed = typed u.0 (as_type p (ty.Par u.0) is) (as_type q (ty.Par u.0) (sym (same_is p.t q.t b.1) ∙ is)); ty = rw p.ty (ap Some is); knows = k }

  -- a function for a part of the type of an operand
  applied_sound : (src : SourceForm) (r : Rule) (of : Ty → Option Ty) (make : Ty → Ty) (x : Expr) (f : Name) (xs : List Expr) → ((p : Operand ctx.tables.names env x) (v u : Ty) (last : Env) → of p.t ≡ Some v → Applies ctx env f v xs u last → Gives ctx env src (make u) last) → AllHold (applied ctx env r of make x f xs).parts → (applied ctx env r of make x f xs).own.1 ≡ true → SourceSound ctx env src (applied ctx env r of make x f xs)
  applied_sound src r of make x f xs typed (join h i) own =
      let p = operand_typed ctx.tables.names env x k h in
      let function : Option Signature = function_of ctx.tables f.word in
      let a = both_true (is_some (of p.t)) (applies function (length xs) (of p.t)) (subst (λ z. (if_known (λ t. is_some (of t)) z && applies function (length xs) (option_and_then of z)) ≡ true) p.ty own) in
      let u = some_there (of p.t) a.0 in
      let fits = fits_there function (length xs) u.0 (subst (λ z. applies function (length xs) z ≡ true) u.1 a.1) in
      let g = asked_typed ctx.tables.names env fits.rest xs k fits.long (further_hold ctx.tables.names env function (length xs) u.0 xs fits i) in
      record {
        t = make fits.function.result;
        typed = typed p u.0 fits.function.result (after_args ctx.tables.names env xs) u.1 (fits_applies ctx env (after_args ctx.tables.names env xs) f u.0 xs fits g.typed);
        ty = fits_result function (length xs) u.0 make fits;
        knows = g.knows;
      }

  -- a call
  pub call_sound : (to : Receiver) (m : Name) (xs : List Expr) → Tells ctx env (s.Call to m xs) (call ctx env to m xs)
  call_sound to m xs h own more =
      let method : Option Signature = called ctx.tables (receiver_type env to) m.word in
      let n = receiver_known ctx.tables.names env to (params_of method) xs k h in
      let c = both_true (is_this to || is_cap n.t) (takes (params_of method) (length xs)) (subst (λ z. may_call to method (length xs) z ≡ true) n.ty own) in
      let d = takes_there method (length xs) c.1 in
      let i = invoked_typed ctx.tables.names env to d.method.params xs n k d.long (subst (λ z. AllHold (invoked ctx.tables.names env to (params_of z) xs)) d.is h) in
      let is : called ctx.tables (Some n.t) m.word ≡ Some d.method = ap (λ z. called ctx.tables z m.word) (sym n.ty) ∙ d.is in
      let enter : may_enter to (Some d.method) (Some n.t) ≡ true = subst (λ z. may_enter to z (Some n.t) ≡ true) d.is (subst (λ z. may_enter to method z ≡ true) n.ty more) in
      record { t = d.method.result; typed = t.call n.t d.method i.typed c.0 is enter; ty = ap result_of d.is; knows = i.knows }

  -- a send
  pub send_sound : (to : Receiver) (m : Name) (xs : List Expr) → Tells ctx env (s.Send to m xs) (send ctx env to m xs)
  send_sound to m xs h own more =
      let method : Option Signature = sent ctx.tables (receiver_type env to) m.word in
      let n = receiver_known ctx.tables.names env to (params_of method) xs k h in
      let c = both_true (is_target n.t) (takes (params_of method) (length xs)) (subst (λ z. may_send method (length xs) z ≡ true) n.ty own) in
      let d = takes_there method (length xs) c.1 in
      let i = invoked_typed ctx.tables.names env to d.method.params xs n k d.long (subst (λ z. AllHold (invoked ctx.tables.names env to (params_of z) xs)) d.is h) in
      let is : sent ctx.tables (Some n.t) m.word ≡ Some d.method = ap (λ z. sent ctx.tables z m.word) (sym n.ty) ∙ d.is in
      let travel = both_true (every (λ p. is_sendable p.ty) d.method.params) (is_shareable d.method.result) (subst (λ z. may_travel z ≡ true) d.is more) in
      record { t = ty.Fut d.method.result; typed = t.send n.t d.method i.typed c.0 is travel.0 travel.1; ty = ap (λ z. option_map ty.Fut (result_of z)) d.is; knows = i.knows }

  -- ---- each source

  -- each source, by its shape
  pub source_sound : (src : SourceForm) → Tells ctx env src (outcome ctx env src)
  unfolding outcome
  source_sound (s.Expr x) h own more =
      let f = expr_typed ctx.tables.names env Consumes x k h in
      record { t = f.t; typed = t.value f.typed; ty = f.ty; knows = knows_consumes k (judged ctx.tables.names x).name }
  source_sound (s.New c) h own more = let p = some_there (class_named ctx.tables.names c.word) own in record { t = p.0; typed = t.new p.1; ty = p.1; knows = k }
  source_sound (s.Field y x) h own more =
      let p = field_there (λ z. not (is_linear z)) (field_type ctx x.word) own in
      record { t = p.0; typed = t.field (visible_there env this_word y h) p.1 (flip (is_linear p.0) p.2); ty = p.1; knows = k }
  source_sound (s.Take y x) h own more =
      let p = field_there is_linear (field_type ctx x.word) own in
      record { t = p.0; typed = t.take (visible_there env this_word y h) p.1 p.2; ty = p.1; knows = k }
  source_sound (s.Call to m xs) h own more = call_sound to m xs h own more
  source_sound (s.Send to m xs) h own more = send_sound to m xs h own more
  source_sound (s.Get x) h own more = part_sound (s.Get x) rule.SGet future_of (λ z. z) x (λ p u e. t.get (as_type p (ty.Fut u) (future_is p.t u e))) h own
  source_sound (s.Await x) h own more = part_sound (s.Await x) rule.SAwait future_of (λ z. z) x (λ p u e. t.await (as_type p (ty.Fut u) (future_is p.t u e))) h own
  source_sound (s.Chain x f xs) h own more = applied_sound (s.Chain x f xs) rule.SChain future_of ty.Fut x f xs (λ p v u last e a. t.chain v (as_type p (ty.Fut v) (future_is p.t v e)) a) h own
  source_sound (s.Lift x) h own more = part_sound (s.Lift x) rule.SPart (shared ctx env) ty.Par x (λ p u e. let q = shared_is ctx env p.t u e in t.lift (as_type p u q.1) (subst (λ z. is_shareable z ≡ true) q.1 q.0)) h own
  source_sound (s.LiftFuture x) h own more = part_sound (s.LiftFuture x) rule.SPart future_of ty.Par x (λ p u e. t.lift_future u (as_type p (ty.Fut u) (future_is p.t u e))) h own
  source_sound (s.Each x) h own more = part_sound (s.Each x) rule.SPart item_of ty.Par x (λ p u e. t.each u (as_type p (ty.List u) (item_is p.t u e))) h own
  source_sound (s.Both x y) h own more = trees_sound (s.Both x y) x y (λ t' d c. t.both t' d c) h own
  source_sound (s.Otherwise x y) h own more = trees_sound (s.Otherwise x y) x y (λ t' d c. t.otherwise t' d c) h own
  source_sound (s.Seq x f xs) h own more = applied_sound (s.Seq x f xs) rule.SPart tree_of ty.Par x f xs (λ p v u last e a. t.seq v (as_type p (ty.Par v) (tree_is p.t v e)) a) h own
  source_sound (s.Join x) h own more = part_sound (s.Join x) rule.SPart tree_of_trees ty.Par x (λ p u e. t.join u (as_type p (ty.Par (ty.Par u)) (trees_is p.t u e))) h own
  source_sound (s.Prune x) h own more = part_sound (s.Prune x) rule.SPart tree_of ty.Par x (λ p u e. t.prune u (as_type p (ty.Par u) (tree_is p.t u e))) h own
  source_sound (s.Extract x) h own more = part_sound (s.Extract x) rule.SPart tree_of ty.List x (λ p u e. t.extract u (as_type p (ty.Par u) (tree_is p.t u e))) h own
  source_sound (s.Bestow x) h own more = part_sound (s.Bestow x) rule.SBestow (bestowed ctx env) (λ z. z) x (λ p u e. let b = bestowed_is ctx env p.t u e in subst (λ z. Gives ctx env (s.Bestow x) z env) b.is (t.bestow p.t p.typed b.local)) h own
