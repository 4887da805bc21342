-- An expression that is well typed has no premise that fails.
use Rattle.std.proofs.Common.{◌≡◌, Bool, true, false, not, ◌||◌, List, map, Option, Some, None, refl, sym, ap, subst}
use Rattle.enc_ast.specs.declared.rules.Span.{Span}
use Rattle.enc_ast.specs.declared.Expr.{Expr}
use Rattle.enc_modes.specs.declared.ty.Ty.{Ty}
use Rattle.enc_modes.specs.declared.ty.Ty.TheVariants as ty
use Rattle.enc_modes.specs.Modes.{is_shareable}
use Rattle.enc_premises.specs.Premises.{each}
use Rattle.enc_premises.specs.First.{AllHold, nothing, one, join}
use Rattle.enc_flow.specs.Env.{Env, find}
use Rattle.enc_types.specs.Names.{Names}
use Rattle.enc_exprs.specs.declared.uses.Use.{Use}
use Rattle.enc_exprs.specs.declared.uses.Use.TheVariants.{Copies, Consumes, Looks}
use Rattle.enc_exprs.specs.Uses.{this_word, lets_linear}
use Rattle.enc_exprs.specs.Types.{is_int, is_bool, is_plain, can_be_null, is_list, like}
use Rattle.enc_exprs.specs.Exprs.{Judged, judged, judge_form, operand, copied, two, after}
use Rattle.enc_exprs.specs.Typing.{Layer, layer, TypeOf, Copied, AllCopied}
use Rattle.enc_exprs.specs.Typing as t
use Rattle.enc_exprs.proofs.Meaning.{seen, judged_layer}
use Rattle.enc_exprs.proofs.Variables.{usable_at, variable_fine, kept}
use Rattle.enc_exprs.proofs.Sorts.{int_of, bool_of, list_of, arithmetic_is, ordering_is, equality_is, logical_is}
use Rattle.enc_exprs.proofs.Same.{same_self}

-- What a judged expression has where it is well typed.
pub record Fine (env : Env) (j : Judged) (u : Use) (t : Ty) (last : Env) : Type 0 where
  pub hold : AllHold (j.premises env u)
  pub ty : j.ty env ≡ Some t
  pub after : last ≡ after u env j.name

-- an expression is so where its layer is
fine_at : (names : Names) (env last : Env) (x : Expr) (u : Use) (t : Ty) → ((s : Span) → Fine env (judge_form names (seen names (layer x)) s) u t last) → Fine env (judged names x) u t last
fine_at names env last x u t f = subst (λ j. Fine env j u t last) (sym (judged_layer names x)) (let g = f x.span in record { hold = g.hold; ty = g.ty; after = g.after })

-- what is no variable moves none
after_none : (env : Env) (u : Use) → env ≡ after u env None
after_none env Copies = refl
after_none env Consumes = refl
after_none env Looks = refl

-- an operand whose type is as asked
operand_fine : (env last : Env) (u : Use) (want : Ty → Bool) (j : Judged) (t : Ty) → Fine env j u t last → want t ≡ true → AllHold (operand env u want j)
operand_fine env last u want j t f m = join f.hold (one (rw f.ty m))

-- the second operand, of the type of the first
like_fine : (env last : Env) (o : Option Ty) (j : Judged) (t : Ty) → o ≡ Some t → Fine env j Copies t last → AllHold (copied env (like o) j)
like_fine env last o j t e f = operand_fine env last Copies (like o) j t f (rw e (same_self t))

-- two operands whose types are as asked
two_fine : (env : Env) (want : Ty → Bool) (a b : Judged) (t : Ty) → Fine env a Copies t env → Fine env b Copies t env → want t ≡ true → AllHold (two env want a b)
two_fine env want a b t f g p = join (operand_fine env env Copies want a t f p) (operand_fine env env Copies want b t g p)

-- a variable of no linear type may stand in any place
lets_copy : (u : Use) (mine b : Bool) → b ≡ false → (lets_linear u mine || not b) ≡ true
lets_copy u mine b e = go (lets_linear u mine)
  where
    go : (c : Bool) → (c || not b) ≡ true
    go true = refl
    go false = ap not e

mutual
  -- a layer that is well typed
  pub fine : {names : Names} {env last : Env} {l : Layer} {u : Use} {t : Ty} → TypeOf names env l u t last → (s : Span) → Fine env (judge_form names (seen names l) s) u t last
  fine {env = env} {u = u} t.int s = record { hold = nothing; ty = refl; after = after_none env u }
  fine {env = env} {u = u} t.text s = record { hold = nothing; ty = refl; after = after_none env u }
  fine {env = env} {u = u} t.yes s = record { hold = nothing; ty = refl; after = after_none env u }
  fine {env = env} {u = u} t.no s = record { hold = nothing; ty = refl; after = after_none env u }
  fine {env = env} {u = u} t.unit s = record { hold = nothing; ty = refl; after = after_none env u }
  fine {env = env} {u = u} (t.copy {x = x} {t = t'} h l) s = let p = usable_at (find env x) t' h in record { hold = variable_fine env u false x s t' h (lets_copy u false _ l); ty = p.ty; after = kept env u x t' p.ty l }
  fine {env = env} (t.move {x = x} {t = t'} h l) s = let p = usable_at (find env x) t' h in record { hold = variable_fine env Consumes false x s t' h refl; ty = p.ty; after = refl }
  fine {env = env} (t.look {x = x} {t = t'} h l) s = let p = usable_at (find env x) t' h in record { hold = variable_fine env Looks false x s t' h refl; ty = p.ty; after = refl }
  fine {env = env} {u = u} (t.this {t = t'} h l) s = let p = usable_at (find env this_word) t' h in record { hold = variable_fine env u true this_word s t' h (lets_copy u true _ l); ty = p.ty; after = kept env u this_word t' p.ty l }
  fine {env = env} (t.look_at_this {t = t'} h l) s = let p = usable_at (find env this_word) t' h in record { hold = variable_fine env Looks true this_word s t' h refl; ty = p.ty; after = refl }
  fine {names = names} {env = env} {u = u} (t.arithmetic {o = o} {a = a} {b = b} k d e) s =
      let m = arithmetic_is env (judged names a) (judged names b) o k in
      record { hold = rw m.0 (two_fine env is_int (judged names a) (judged names b) ty.Int (copied_fine d) (copied_fine e) int_of); ty = ap Some m.1; after = after_none env u }
  fine {names = names} {env = env} {u = u} (t.ordering {o = o} {a = a} {b = b} k d e) s =
      let m = ordering_is env (judged names a) (judged names b) o k in
      record { hold = rw m.0 (two_fine env is_int (judged names a) (judged names b) ty.Int (copied_fine d) (copied_fine e) int_of); ty = ap Some m.1; after = after_none env u }
  fine {names = names} {env = env} {u = u} (t.equality {o = o} {a = a} {b = b} t' k p d e) s =
      let m = equality_is env (judged names a) (judged names b) o k in
      let f = copied_fine d in
      record { hold = rw m.0 (join (operand_fine env env Copies is_plain (judged names a) t' f p) (like_fine env env _ (judged names b) t' f.ty (copied_fine e))); ty = ap Some m.1; after = after_none env u }
  fine {names = names} {env = env} {u = u} (t.logical {o = o} {a = a} {b = b} k d e) s =
      let m = logical_is env (judged names a) (judged names b) o k in
      record { hold = rw m.0 (two_fine env is_bool (judged names a) (judged names b) ty.Bool (copied_fine d) (copied_fine e) bool_of); ty = ap Some m.1; after = after_none env u }
  fine {names = names} {env = env} {u = u} (t.negative {a = a} d) s = record { hold = operand_fine env env Copies is_int (judged names a) ty.Int (copied_fine d) int_of; ty = refl; after = after_none env u }
  fine {names = names} {env = env} {u = u} (t.negated {a = a} d) s = record { hold = operand_fine env env Copies is_bool (judged names a) ty.Bool (copied_fine d) bool_of; ty = refl; after = after_none env u }
  fine {env = env} {u = u} (t.parens d) s = let f = copied_fine d in record { hold = f.hold; ty = f.ty; after = after_none env u }
  fine {names = names} {env = env} {u = u} (t.list {a = a} {t = t'} p d e) s =
      let f = copied_fine d in
      record { hold = join (operand_fine env env Copies is_shareable (judged names a) t' f p) (all_fine e _ f.ty); ty = rw f.ty refl; after = after_none env u }
  fine {env = env} {u = u} t.no_list s = record { hold = nothing; ty = refl; after = after_none env u }
  fine {env = env} {u = u} (t.null e p) s = record { hold = one (rw e p); ty = rw e refl; after = after_none env u }
  fine {env = env} {u = u} (t.empty e p) s = record { hold = one (rw e p); ty = rw e refl; after = after_none env u }
  fine {env = env} {u = u} (t.nil e p) s = record { hold = one (rw e p); ty = rw e refl; after = after_none env u }
  fine {names = names} {env = env} {u = u} (t.len {a = a} t' d) s = record { hold = operand_fine env env Copies is_list (judged names a) (ty.List t') (copied_fine d) (rw (list_of t') refl); ty = refl; after = after_none env u }
  fine {names = names} {env = env} {u = u} (t.is_null {a = a} t' p d) s = record { hold = operand_fine env env Looks can_be_null (judged names a) t' (fine_at names env env a Looks t' (fine d)) p; ty = refl; after = after_none env u }
  fine {names = names} {env = env} {u = u} (t.at {a = a} {b = b} {t = t'} d e) s =
      let f = copied_fine d in
      record { hold = join (operand_fine env env Copies is_list (judged names a) (ty.List t') f (rw (list_of t') refl)) (operand_fine env env Copies is_int (judged names b) ty.Int (copied_fine e) int_of); ty = rw f.ty (list_of t'); after = after_none env u }
  fine {names = names} {env = env} {u = u} (t.append {a = a} {b = b} {t = t'} d e) s =
      let f = copied_fine d in
      record { hold = join (operand_fine env env Copies is_list (judged names a) (ty.List t') f (rw (list_of t') refl)) (like_fine env env _ (judged names b) t' (rw f.ty (list_of t')) (copied_fine e)); ty = f.ty; after = after_none env u }

  -- an operand that is well typed
  copied_fine : {names : Names} {env : Env} {a : Expr} {t : Ty} → Copied names env a t → Fine env (judged names a) Copies t env
  copied_fine {names = names} {env = env} (t.copied {a = a} {t = t'} d) = fine_at names env env a Copies t' (fine d)

  -- elements that are well typed
  all_fine : {names : Names} {env : Env} {as_ : List Expr} {t : Ty} → AllCopied names env as_ t → (o : Option Ty) → o ≡ Some t → AllHold (each (copied env (like o)) (map (judged names) as_))
  all_fine t.end o e = nothing
  all_fine {names = names} {env = env} (t.more {a = a} {t = t'} d r) o e = join (like_fine env env o (judged names a) t' e (copied_fine d)) (all_fine r o e)

-- an expression that is well typed
pub expr_fine : (names : Names) (env last : Env) (x : Expr) (u : Use) (t : Ty) → TypeOf names env (layer x) u t last → Fine env (judged names x) u t last
expr_fine names env last x u t d = fine_at names env last x u t (fine d)
