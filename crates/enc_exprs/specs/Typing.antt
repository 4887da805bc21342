-- Which expressions have which types. Each premise is named by its rule.
use Rattle.std.specs.Prelude.{◌≡◌, ℕ, ℤ, true, false, List, [], ◌∷◌, Some}
use Rattle.enc_ast.specs.declared.Operator.{Operator}
use Rattle.enc_ast.specs.declared.TypeText.{TypeText}
use Rattle.enc_ast.specs.declared.Expr.{Expr}
use Rattle.enc_ast.specs.declared.ExprForm.{ExprForm, out-ExprForm}
use Rattle.enc_ast.specs.declared.ExprForm.TheOpen.{ExprForm-F}
use Rattle.enc_modes.specs.declared.ty.Ty.{Ty}
use Rattle.enc_modes.specs.declared.ty.Ty.TheVariants as ty
use Rattle.enc_modes.specs.Modes.{is_linear, is_shareable}
use Rattle.enc_flow.specs.Env.{Env, usable}
use Rattle.enc_types.specs.Names.{Names}
use Rattle.enc_types.specs.Written.{type_of}
use Rattle.enc_exprs.specs.declared.uses.Use.{Use}
use Rattle.enc_exprs.specs.declared.uses.Use.TheVariants.{Copies, Consumes, Looks}
use Rattle.enc_exprs.specs.Uses.{this_word, lends}
use Rattle.enc_exprs.specs.Types.{is_plain, can_be_null, is_arithmetic, is_ordering, is_equality, is_logical}

-- the form of an expression, whose parts are expressions
abbrev pub Layer : Type 0
Layer = ExprForm-F ExprForm Expr

-- the form of this expression
abbrev pub layer : Expr → Layer
layer x = out-ExprForm x.form

mutual
  -- an expression in a place, with its type and the variables after it
  pub data TypeOf (names : Names) (env : Env) : Layer → Use → Ty → Env → Type 0 where
    int : {n : ℤ} {u : Use} → TypeOf names env (ExprForm-F.Int n) u ty.Int env
    text : {t : List ℕ} {u : Use} → TypeOf names env (ExprForm-F.Text t) u ty.Text env
    yes : {u : Use} → TypeOf names env ExprForm-F.True u ty.Bool env
    no : {u : Use} → TypeOf names env ExprForm-F.False u ty.Bool env
    unit : {u : Use} → TypeOf names env ExprForm-F.Unit u ty.Unit env
    copy : {x : List ℕ} {u : Use} {t : Ty} → (e-var_moved : usable env x ≡ Some t) → (e-copy : is_linear t ≡ false) → TypeOf names env (ExprForm-F.Name x) u t env
    move : {x : List ℕ} {t : Ty} → (e-var_moved : usable env x ≡ Some t) → is_linear t ≡ true → TypeOf names env (ExprForm-F.Name x) Consumes t (lends env x)
    look : {x : List ℕ} {t : Ty} → (e-var_moved : usable env x ≡ Some t) → is_linear t ≡ true → TypeOf names env (ExprForm-F.Name x) Looks t env
    this : {u : Use} {t : Ty} → (e-var_moved : usable env this_word ≡ Some t) → (e-copy : is_linear t ≡ false) → TypeOf names env ExprForm-F.This u t env
    look_at_this : {t : Ty} → (e-var_moved : usable env this_word ≡ Some t) → is_linear t ≡ true → TypeOf names env ExprForm-F.This Looks t env
    arithmetic : {o : Operator} {a b : Expr} {u : Use} → is_arithmetic o ≡ true → (e-type : Copied names env a ty.Int) → (e-type-2 : Copied names env b ty.Int) → TypeOf names env (ExprForm-F.Binary o a b) u ty.Int env
    ordering : {o : Operator} {a b : Expr} {u : Use} → is_ordering o ≡ true → (e-type : Copied names env a ty.Int) → (e-type-2 : Copied names env b ty.Int) → TypeOf names env (ExprForm-F.Binary o a b) u ty.Bool env
    equality : {o : Operator} {a b : Expr} {u : Use} (t : Ty) → is_equality o ≡ true → (e-type : is_plain t ≡ true) → Copied names env a t → (e-type-2 : Copied names env b t) → TypeOf names env (ExprForm-F.Binary o a b) u ty.Bool env
    logical : {o : Operator} {a b : Expr} {u : Use} → is_logical o ≡ true → (e-type : Copied names env a ty.Bool) → (e-type-2 : Copied names env b ty.Bool) → TypeOf names env (ExprForm-F.Binary o a b) u ty.Bool env
    negative : {a : Expr} {u : Use} → (e-type : Copied names env a ty.Int) → TypeOf names env (ExprForm-F.Negative a) u ty.Int env
    negated : {a : Expr} {u : Use} → (e-type : Copied names env a ty.Bool) → TypeOf names env (ExprForm-F.Not a) u ty.Bool env
    parens : {a : Expr} {u : Use} {t : Ty} → Copied names env a t → TypeOf names env (ExprForm-F.Parens a) u t env
    list : {a : Expr} {as_ : List Expr} {u : Use} {t : Ty} → (e-type : is_shareable t ≡ true) → Copied names env a t → (e-type-2 : AllCopied names env as_ t) → TypeOf names env (ExprForm-F.List (a ∷ as_)) u (ty.List t) env
    no_list : {u : Use} → TypeOf names env (ExprForm-F.List []) u (ty.List ty.Unit) env
    null : {text : TypeText} {u : Use} {t : Ty} → type_of names text ≡ Some t → (e-type : can_be_null t ≡ true) → TypeOf names env (ExprForm-F.Null text) u t env
    empty : {text : TypeText} {u : Use} {t : Ty} → type_of names text ≡ Some t → (e-type : is_shareable t ≡ true) → TypeOf names env (ExprForm-F.Empty text) u (ty.Par t) env
    nil : {text : TypeText} {u : Use} {t : Ty} → type_of names text ≡ Some t → (e-type : is_shareable t ≡ true) → TypeOf names env (ExprForm-F.Nil text) u (ty.List t) env
    len : {a : Expr} {u : Use} (t : Ty) → (e-type : Copied names env a (ty.List t)) → TypeOf names env (ExprForm-F.Len a) u ty.Int env
    is_null : {a : Expr} {u : Use} (t : Ty) → (e-type : can_be_null t ≡ true) → TypeOf names env (layer a) Looks t env → TypeOf names env (ExprForm-F.IsNull a) u ty.Bool env
    at : {a b : Expr} {u : Use} {t : Ty} → (e-type : Copied names env a (ty.List t)) → (e-type-2 : Copied names env b ty.Int) → TypeOf names env (ExprForm-F.At a b) u t env
    append : {a b : Expr} {u : Use} {t : Ty} → (e-type : Copied names env a (ty.List t)) → (e-type-2 : Copied names env b t) → TypeOf names env (ExprForm-F.Append a b) u (ty.List t) env

  -- an operand of this type in a copying place
  pub data Copied (names : Names) (env : Env) : Expr → Ty → Type 0 where
    copied : {a : Expr} {t : Ty} → TypeOf names env (layer a) Copies t env → Copied names env a t

  -- elements of this type
  pub data AllCopied (names : Names) (env : Env) : List Expr → Ty → Type 0 where
    end : {t : Ty} → AllCopied names env [] t
    more : {a : Expr} {as_ : List Expr} {t : Ty} → Copied names env a t → AllCopied names env as_ t → AllCopied names env (a ∷ as_) t

-- an expression in a place, with its type and the variables after it
abbrev pub IsTyped : Names → Env → Expr → Use → Ty → Env → Type 0
IsTyped names env x = TypeOf names env (layer x)
