-- An expression that has no premise that fails is well typed, where the types of its variables are known.
use Rattle.std.proofs.Common.{◌≡◌, ℕ, Bool, true, false, not, ◌||◌, List, map, Option, Some, None, refl, sym, ap, ◌∙◌, subst, arith}
use Rattle.std.specs.Prelude.{option_map}
use Rattle.enc_ast.specs.declared.rules.Span.{Span}
use Rattle.enc_ast.specs.declared.Operator.{Operator}
use Rattle.enc_ast.specs.declared.Expr.{Expr}
use Rattle.enc_ast.specs.declared.ExprForm.TheOpen.{ExprForm-F}
use Rattle.enc_modes.specs.declared.ty.Ty.{Ty}
use Rattle.enc_modes.specs.declared.ty.Ty.TheVariants as ty
use Rattle.enc_modes.specs.Modes.{is_linear, is_shareable}
use Rattle.enc_premises.specs.Premises.{if_known, each}
use Rattle.enc_premises.specs.First.{AllHold, one, join}
use Rattle.enc_flow.specs.Env.{Env}
use Rattle.enc_types.specs.Names.{Names}
use Rattle.enc_types.specs.Written.{type_of}
use Rattle.enc_exprs.specs.declared.uses.Use.{Use}
use Rattle.enc_exprs.specs.declared.uses.Use.TheVariants.{Copies, Consumes, Looks}
use Rattle.enc_exprs.specs.Uses.{this_word, lets_linear}
use Rattle.enc_exprs.specs.Types.{is_int, is_bool, is_plain, can_be_null, is_list, is_known_as, items, like, is_arithmetic, is_ordering, is_equality, is_logical}
use Rattle.enc_exprs.specs.Exprs.{Judged, judged, judge_form, copied, binary, binary_type, after}
use Rattle.enc_exprs.specs.Typing.{Layer, layer, TypeOf, Copied, AllCopied}
use Rattle.enc_exprs.specs.Typing as t
use Rattle.enc_flow.specs.Known.{Knows}
use Rattle.enc_exprs.proofs.Meaning.{seen, judged_layer}
use Rattle.enc_exprs.proofs.Variables.{Named, variable_known, kept}
use Rattle.enc_exprs.proofs.Sorts.{int_is, bool_is, list_is}
use Rattle.enc_ast.specs.declared.Operator.TheVariants as op
use Rattle.enc_exprs.proofs.Same.{same_is}
use Rattle.enc_exprs.proofs.Parts.{Built, BuiltAll, operator, negative, negated, int, text, yes, no, unit, this, name, parens, list, null, empty, nil, len, is_null, at, append, end, more, built_form}

-- ---- what holds of what has no premise that fails

-- How an expression of which no premise fails is well typed.
pub record Sound (names : Names) (env : Env) (l : Layer) (j : Judged) (u : Use) : Type 0 where
  pub t : Ty
  pub typed : TypeOf names env l u t (after u env j.name)
  pub ty : j.ty env ≡ Some t

-- an expression is well typed where its layer is
sound_at : (names : Names) (env : Env) (x : Expr) (u : Use) → ((s : Span) → AllHold ((judge_form names (seen names (layer x)) s).premises env u) → Sound names env (layer x) (judge_form names (seen names (layer x)) s) u) → AllHold ((judged names x).premises env u) → Sound names env (layer x) (judged names x) u
sound_at names env x u f h =
    let g = f x.span (subst (λ (j : Judged). AllHold (j.premises env u)) (judged_layer names x) h) in
    subst (λ j. Sound names env (layer x) j u) (sym (judged_layer names x)) (record { t = g.t; typed = g.typed; ty = g.ty })

-- What is no variable moves none.
unmoved : {names : Names} {l : Layer} {t : Ty} (env : Env) (u : Use) → TypeOf names env l u t env → TypeOf names env l u t (after u env None)
unmoved env Copies d = d
unmoved env Consumes d = d
unmoved env Looks d = d

-- what isn't false
flip : (b : Bool) → not b ≡ true → b ≡ false
flip true e = absurd (grind arith)
flip false e = refl

-- a variable whose premises hold
name_typed : (names : Names) (env : Env) (u : Use) (x : List ℕ) (n : Named env u false x) → TypeOf names env (ExprForm-F.Name x) u n.t (after u env (Some x))
name_typed names env u x n = go u (is_linear n.t) refl n.copy
  where
    stays : (u : Use) → is_linear n.t ≡ false → TypeOf names env (ExprForm-F.Name x) u n.t (after u env (Some x))
    stays u e = subst (λ z. TypeOf names env (ExprForm-F.Name x) u n.t z) (kept env u x n.t n.ty e) (t.copy n.usable e)

    go : (u : Use) (b : Bool) → is_linear n.t ≡ b → (lets_linear u false || not (is_linear n.t)) ≡ true → TypeOf names env (ExprForm-F.Name x) u n.t (after u env (Some x))
    go u false e c = stays u e
    go Copies true e c = stays Copies (flip (is_linear n.t) c)
    go Consumes true e c = t.move n.usable e
    go Looks true e c = t.look n.usable e

-- the object itself, where its premises hold
this_typed : (names : Names) (env : Env) (u : Use) (n : Named env u true this_word) → TypeOf names env ExprForm-F.This u n.t (after u env (Some this_word))
this_typed names env u n = go u (is_linear n.t) refl n.copy
  where
    stays : (u : Use) → is_linear n.t ≡ false → TypeOf names env ExprForm-F.This u n.t (after u env (Some this_word))
    stays u e = subst (λ z. TypeOf names env ExprForm-F.This u n.t z) (kept env u this_word n.t n.ty e) (t.this n.usable e)

    go : (u : Use) (b : Bool) → is_linear n.t ≡ b → (lets_linear u true || not (is_linear n.t)) ≡ true → TypeOf names env ExprForm-F.This u n.t (after u env (Some this_word))
    go u false e c = stays u e
    go Copies true e c = stays Copies (flip (is_linear n.t) c)
    go Consumes true e c = stays Consumes (flip (is_linear n.t) c)
    go Looks true e c = t.look_at_this n.usable e

-- an operand in a copying place, with its type
record Part (names : Names) (env : Env) (a : Expr) : Type 0 where
  t : Ty
  typed : Copied names env a t
  ty : (judged names a).ty env ≡ Some t

-- an operand of a type that was asked
as_type : {names : Names} {env : Env} {a : Expr} (p : Part names env a) (u : Ty) → p.t ≡ u → Copied names env a u
as_type {names} {env} {a} p u is = subst (λ z. Copied names env a z) is p.typed

-- what was asked of an operand holds of its type
asked : {names : Names} {env : Env} {a : Expr} (p : Part names env a) (want : Ty → Bool) → if_known want ((judged names a).ty env) ≡ true → want p.t ≡ true
asked p want m = rw p.ty at m

-- A type that is known, and as asked.
record IsKnown (want : Ty → Bool) (o : Option Ty) : Type 0 where
  t : Ty
  is : o ≡ Some t
  meets : want t ≡ true

-- what is said to be a written type
text_known : (want : Ty → Bool) (o : Option Ty) → is_known_as want o ≡ true → IsKnown want o
text_known want None e = absurd (grind arith)
text_known want (Some t) e = record { t = t; is = refl; meets = e }

-- ---- operators

-- an operand in a copying place, whose premises hold
record Held (env : Env) (j : Judged) (want : Ty → Bool) : Type 0 where
  hold : AllHold (j.premises env Copies)
  meets : if_known want (j.ty env) ≡ true

-- the premises of an operand, taken apart
held : {env : Env} {want : Ty → Bool} {j : Judged} → AllHold (copied env want j) → Held env j want
held (join h (one m)) = record { hold = h; meets = m }

-- Both operands of an operator, by its kind.
data Sides (env : Env) (a b : Judged) (o : Operator) : Type 0 where
  arithmetic : is_arithmetic o ≡ true → binary_type o ≡ ty.Int → Held env a is_int → Held env b is_int → Sides env a b o
  ordering : is_ordering o ≡ true → binary_type o ≡ ty.Bool → Held env a is_int → Held env b is_int → Sides env a b o
  equality : is_equality o ≡ true → binary_type o ≡ ty.Bool → Held env a is_plain → Held env b (like (a.ty env)) → Sides env a b o
  logical : is_logical o ≡ true → binary_type o ≡ ty.Bool → Held env a is_bool → Held env b is_bool → Sides env a b o

-- the premises of an operator, taken apart
sides : (env : Env) (a b : Judged) (o : Operator) → AllHold (binary o env a b) → Sides env a b o
sides env a b op.Or (join h i) = logical refl refl (held h) (held i)
sides env a b op.And (join h i) = logical refl refl (held h) (held i)
sides env a b op.Equal (join h i) = equality refl refl (held h) (held i)
sides env a b op.NotEqual (join h i) = equality refl refl (held h) (held i)
sides env a b op.Less (join h i) = ordering refl refl (held h) (held i)
sides env a b op.LessEqual (join h i) = ordering refl refl (held h) (held i)
sides env a b op.Greater (join h i) = ordering refl refl (held h) (held i)
sides env a b op.GreaterEqual (join h i) = ordering refl refl (held h) (held i)
sides env a b op.Add (join h i) = arithmetic refl refl (held h) (held i)
sides env a b op.Subtract (join h i) = arithmetic refl refl (held h) (held i)
sides env a b op.Multiply (join h i) = arithmetic refl refl (held h) (held i)
sides env a b op.Divide (join h i) = arithmetic refl refl (held h) (held i)
sides env a b op.Remainder (join h i) = arithmetic refl refl (held h) (held i)

-- how an operand is told to be well typed
abbrev ToPart : Names → Env → Expr → Type 0
ToPart names env a = AllHold ((judged names a).premises env Copies) → Part names env a

-- an operand that is to be an integer
as_int : {names : Names} {env : Env} {a : Expr} → ToPart names env a → Held env (judged names a) is_int → Copied names env a ty.Int
as_int f h = let p = f h.hold in as_type p ty.Int (int_is p.t (asked p is_int h.meets))

-- an operand that is to be a truth value
as_bool : {names : Names} {env : Env} {a : Expr} → ToPart names env a → Held env (judged names a) is_bool → Copied names env a ty.Bool
as_bool f h = let p = f h.hold in as_type p ty.Bool (bool_is p.t (asked p is_bool h.meets))

-- an operand of the type of an earlier one
as_like : {names : Names} {env : Env} {b : Expr} (o : Option Ty) (t : Ty) → o ≡ Some t → ToPart names env b → Held env (judged names b) (like o) → Copied names env b t
as_like o t e f h =
    let p = f h.hold in
    let m : like o p.t ≡ true = asked p (like o) h.meets in
    as_type p t (sym (same_is t p.t (rw e at m)))

-- an operator between operands that are well typed
binary_sound : (names : Names) (env : Env) (u : Use) (s : Span) (o : Operator) (a b : Expr) → ToPart names env a → ToPart names env b → Sides env (judged names a) (judged names b) o → Sound names env (ExprForm-F.Binary o a b) (judge_form names (seen names (ExprForm-F.Binary o a b)) s) u
binary_sound names env u s o a b f g (arithmetic k is h i) = record { t = ty.Int; typed = unmoved env u (t.arithmetic k (as_int f h) (as_int g i)); ty = ap Some is }
binary_sound names env u s o a b f g (ordering k is h i) = record { t = ty.Bool; typed = unmoved env u (t.ordering k (as_int f h) (as_int g i)); ty = ap Some is }
binary_sound names env u s o a b f g (equality k is h i) =
    let p = f h.hold in
    record { t = ty.Bool; typed = unmoved env u (t.equality p.t k (asked p is_plain h.meets) p.typed (as_like _ p.t p.ty g i)); ty = ap Some is }
binary_sound names env u s o a b f g (logical k is h i) = record { t = ty.Bool; typed = unmoved env u (t.logical k (as_bool f h) (as_bool g i)); ty = ap Some is }

-- ---- each form

-- how a layer is told to be well typed
abbrev Tells : Names → Env → Use → Layer → Type 0
Tells names env u l = (s : Span) → AllHold ((judge_form names (seen names l) s).premises env u) → Sound names env l (judge_form names (seen names l) s) u

-- an expression whose layer is told to be well typed
sound_expr : (names : Names) (env : Env) (x : Expr) (u : Use) → Tells names env u (layer x) → AllHold ((judged names x).premises env u) → Sound names env (layer x) (judged names x) u
sound_expr names env x u f h = sound_at names env x u f h

-- an operand whose layer is told to be well typed
part : (names : Names) (env : Env) (a : Expr) → Tells names env Copies (layer a) → ToPart names env a
part names env a f h = let g = sound_expr names env a Copies f h in record { t = g.t; typed = t.copied g.typed; ty = g.ty }

mutual
  -- a layer whose premises hold
  pub sound : {l : Layer} → Built l → (names : Names) (env : Env) → Knows env → (u : Use) → Tells names env u l
  sound (operator {o} {a} {b} d e) names env k u s h =
      binary_sound names env u s o a b (part names env a (sound d names env k Copies)) (part names env b (sound e names env k Copies)) (sides env (judged names a) (judged names b) o h)
  sound (negative {a} d) names env k u s h = record { t = ty.Int; typed = unmoved env u (t.negative (as_int (part names env a (sound d names env k Copies)) (held h))); ty = refl }
  sound (negated {a} d) names env k u s h = record { t = ty.Bool; typed = unmoved env u (t.negated (as_bool (part names env a (sound d names env k Copies)) (held h))); ty = refl }
  sound int names env k u s h = record { t = ty.Int; typed = unmoved env u t.int; ty = refl }
  sound text names env k u s h = record { t = ty.Text; typed = unmoved env u t.text; ty = refl }
  sound yes names env k u s h = record { t = ty.Bool; typed = unmoved env u t.yes; ty = refl }
  sound no names env k u s h = record { t = ty.Bool; typed = unmoved env u t.no; ty = refl }
  sound unit names env k u s h = record { t = ty.Unit; typed = unmoved env u t.unit; ty = refl }
  sound this names env k u s h = let n = variable_known env u true this_word s k h in record { t = n.t; typed = this_typed names env u n; ty = n.ty }
  sound (name {x}) names env k u s h = let n = variable_known env u false x s k h in record { t = n.t; typed = name_typed names env u x n; ty = n.ty }
  sound (parens {a} d) names env k u s h =
      let p = part names env a (sound d names env k Copies) h in
      record { t = p.t; typed = unmoved env u (t.parens p.typed); ty = p.ty }
  sound (list end) names env k u s h = record { t = ty.List ty.Unit; typed = unmoved env u t.no_list; ty = refl }
  sound (list (more {a} {as_} d r)) names env k u s (join (join h (one m)) i) =
      let p = part names env a (sound d names env k Copies) h in
      record { t = ty.List p.t; typed = unmoved env u (t.list (asked p is_shareable m) p.typed (all_sound r names env k _ p.t p.ty i)); ty = rw p.ty refl }
  sound (null {t = y}) names env k u s (one m) = let p = text_known can_be_null (type_of names y) m in record { t = p.t; typed = unmoved env u (t.null p.is p.meets); ty = ap (option_map (λ v. v)) p.is }
  sound (empty {t = y}) names env k u s (one m) = let p = text_known is_shareable (type_of names y) m in record { t = ty.Par p.t; typed = unmoved env u (t.empty p.is p.meets); ty = ap (option_map ty.Par) p.is }
  sound (nil {t = y}) names env k u s (one m) = let p = text_known is_shareable (type_of names y) m in record { t = ty.List p.t; typed = unmoved env u (t.nil p.is p.meets); ty = ap (option_map ty.List) p.is }
  sound (len {a} d) names env k u s (join h (one m)) =
      let p = part names env a (sound d names env k Copies) h in
      let i = list_is p.t (asked p is_list m) in
      record { t = ty.Int; typed = unmoved env u (t.len i.item (as_type p (ty.List i.item) i.is)); ty = refl }
  sound (is_null {a} d) names env k u s (join h (one m)) =
      let f = sound_expr names env a Looks (sound d names env k Looks) h in
      record { t = ty.Bool; typed = unmoved env u (t.is_null f.t (rw f.ty at m) f.typed); ty = refl }
  sound (at {a} {b} d e) names env k u s (join (join h (one m)) g) =
      let p = part names env a (sound d names env k Copies) h in
      let i = list_is p.t (asked p is_list m) in
      record { t = i.item; typed = unmoved env u (t.at (as_type p (ty.List i.item) i.is) (as_int (part names env b (sound e names env k Copies)) (held g))); ty = rw p.ty i.has }
  sound (append {a} {b} d e) names env k u s (join (join h (one m)) g) =
      let p = part names env a (sound d names env k Copies) h in
      let i = list_is p.t (asked p is_list m) in
      let c = as_like (items ((judged names a).ty env)) i.item (rw p.ty i.has) (part names env b (sound e names env k Copies)) (held g) in
      record { t = ty.List i.item; typed = unmoved env u (t.append (as_type p (ty.List i.item) i.is) c); ty = p.ty ∙ ap Some i.is }

  -- elements whose premises hold
  all_sound : {as_ : List Expr} → BuiltAll as_ → (names : Names) (env : Env) → Knows env → (o : Option Ty) (t' : Ty) → o ≡ Some t' → AllHold (each (copied env (like o)) (map (judged names) as_)) → AllCopied names env as_ t'
  all_sound end names env k o t' e h = t.end
  all_sound (more {a} {as_} d r) names env k o t' e (join h i) =
      t.more (as_like o t' e (part names env a (sound d names env k Copies)) (held h)) (all_sound r names env k o t' e i)

-- an expression whose premises hold is well typed
pub expr_sound : (names : Names) (env : Env) (x : Expr) (u : Use) → Knows env → AllHold ((judged names x).premises env u) → Sound names env (layer x) (judged names x) u
expr_sound names env x u k h = sound_expr names env x u (sound (built_form x.form) names env k u) h
