-- An expression in a copying place, where the types of its variables are known.
use Rattle.std.proofs.Common.{◌≡◌, Option, Some, None, sym, ◌∙◌, subst, arith}
use Rattle.enc_ast.specs.declared.rules.Fail.{Fail}
use Rattle.enc_ast.specs.declared.Expr.{Expr}
use Rattle.enc_modes.specs.declared.ty.Ty.{Ty}
use Rattle.enc_premises.specs.Passing.{Agrees, IsMemory}
use Rattle.enc_premises.proofs.Telling.{tells, accepts}
use Rattle.enc_flow.specs.Env.{Env}
use Rattle.enc_types.specs.Names.{Names}
use Rattle.enc_exprs.specs.declared.uses.Use.TheVariants.{Copies}
use Rattle.enc_exprs.specs.Exprs.{expr_type, expr_premises}
use Rattle.enc_exprs.specs.Typing.{IsTyped}
use Rattle.enc_flow.specs.Known.{Knows}
use Rattle.enc_exprs.proofs.ExprFine.{expr_fine}
use Rattle.enc_exprs.proofs.ExprSound.{expr_sound}

-- it has a type
pub typed_some : (names : Names) (env : Env) (x : Expr) → Knows env → Agrees None (expr_premises names env Copies x) → (t : Ty) × (expr_type names env x ≡ Some t)
typed_some names env x k h = let s = expr_sound names env x Copies k (tells None (expr_premises names env Copies x) h) in (s.t, s.ty)

-- and is well typed
pub typed_ok : (names : Names) (env : Env) (x : Expr) (t : Ty) → Knows env → Agrees None (expr_premises names env Copies x) → expr_type names env x ≡ Some t → IsTyped names env x Copies t env
typed_ok names env x t k h e =
    let s = expr_sound names env x Copies k (tells None (expr_premises names env Copies x) h) in
    let q : Some s.t ≡ Some t = sym s.ty ∙ e in
    let is : s.t ≡ t = grind arith in
    subst (λ z. IsTyped names env x Copies z env) is s.typed

-- Where it is well typed, it isn't refused.
pub typed_accepts : (names : Names) (env : Env) (x : Expr) (t : Ty) (o : Option Fail) → Agrees o (expr_premises names env Copies x) → IsTyped names env x Copies t env → IsMemory o
typed_accepts names env x t o h d = accepts o (expr_premises names env Copies x) h (expr_fine names env env x Copies t d).hold

-- an expression that is told to be well typed
pub ruleset typed = (typed_some, typed_ok, typed_accepts)
