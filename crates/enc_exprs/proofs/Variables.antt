-- Variables in their places.
use Rattle.std.proofs.Common.{◌≡◌, ℕ, zero, suc, ◌<◌, Bool, true, false, not, ◌||◌, cond, List, [], ◌∷◌, length, Option, Some, None, refl, sym, ap, ◌∙◌, arith, slice_get}
use Rattle.std.specs.Prelude.{is_some, IfSome}
use Rattle.enc_ast.specs.declared.rules.Span.{Span}
use Rattle.enc_modes.specs.declared.ty.Ty.{Ty}
use Rattle.enc_modes.specs.Modes.{is_linear}
use Rattle.enc_premises.specs.First.{AllHold, one, join}
use Rattle.enc_flow.specs.Vars.{Var}
use Rattle.enc_flow.specs.Env.{Env, number_of, at_number, find, ty_of, moved_of, usable, usable_of, linear, marked_at}
use Rattle.enc_exprs.specs.declared.uses.Use.{Use}
use Rattle.enc_exprs.specs.declared.uses.Use.TheVariants.{Copies, Consumes, Looks}
use Rattle.enc_exprs.specs.Uses.{lets_linear, variable, lends, taken_at}
use Rattle.enc_exprs.specs.Exprs.{after}
use Rattle.enc_flow.specs.Known.{Knows}
use Rattle.enc_flow.proofs.Knowing.{knows_find}

-- there is a variable at each number below their count
there : (env : Env) (i : ℕ) → i < length env → is_some (slice_get env i) ≡ true
there [] i h = absurd (omega arith)
there (v ∷ vs) zero h = refl
there (v ∷ vs) (suc i) h = there vs i (omega arith)

-- where a number was found, there is a variable
pub found : (env : Env) (n : Option ℕ) → IfSome n (λ i. i < length env) → is_some (at_number env n) ≡ is_some n
found env None h = refl
found env (Some i) h = there env i h

-- look-ups by number
pub ruleset variables = (found)

-- ---- what can be used

-- A variable that can be used, with its type.
pub record Usable (o : Option Var) (t : Ty) : Type 0 where
  pub there : is_some o ≡ true
  pub unmoved : not (moved_of o) ≡ true
  pub ty : ty_of o ≡ Some t

-- a variable that can be used is there, and wasn't moved
pub usable_at : (o : Option Var) (t : Ty) → usable_of o ≡ Some t → Usable o t
usable_at None t h = absurd (grind arith)
usable_at (Some v) t h = go v.moved refl h
  where
    go : (b : Bool) → v.moved ≡ b → cond b None v.ty ≡ Some t → Usable (Some v) t
    go true e h = absurd (grind arith)
    go false e h = record { there = refl; unmoved = ap not e; ty = h }

-- what can be used breaks no rule
pub variable_fine : (env : Env) (u : Use) (mine : Bool) (x : List ℕ) (s : Span) (t : Ty) → usable env x ≡ Some t → (lets_linear u mine || not (is_linear t)) ≡ true → AllHold (variable env u mine x s)
unfolding variable
variable_fine env u mine x s t h l =
    let p = usable_at (find env x) t h in
    let c : (lets_linear u mine || not (linear (ty_of (find env x)))) ≡ true = rw p.ty l in
    join (one p.there) (join (one p.unmoved) (one c))

-- ---- what a place leaves of them

-- a variable of no linear type isn't taken
taken_none : (env : Env) (n : Option ℕ) (t : Ty) → ty_of (at_number env n) ≡ Some t → is_linear t ≡ false → env ≡ taken_at env n
taken_none env None t e l = refl
taken_none env (Some i) t e l = sym (ap (λ z. cond (linear z) (marked_at env i true) env) e ∙ ap (λ z. cond z (marked_at env i true) env) l)

-- A variable of no linear type stays as it is.
pub kept : (env : Env) (u : Use) (x : List ℕ) (t : Ty) → ty_of (find env x) ≡ Some t → is_linear t ≡ false → env ≡ after u env (Some x)
unfolding find lends
kept env Copies x t e l = refl
kept env Consumes x t e l = taken_none env (number_of env x) t e l
kept env Looks x t e l = refl

-- ---- variables whose premises hold

-- A variable that may stand in a place, with its type.
pub record Named (env : Env) (u : Use) (mine : Bool) (x : List ℕ) : Type 0 where
  pub t : Ty
  pub usable : usable env x ≡ Some t
  pub ty : ty_of (find env x) ≡ Some t
  pub copy : (lets_linear u mine || not (is_linear t)) ≡ true

-- what is there, wasn't moved and has a known type can be used
usable_known : (o : Option Var) → ((v : Var) → o ≡ Some v → (t : Ty) × (v.ty ≡ Some t)) → is_some o ≡ true → not (moved_of o) ≡ true → (t : Ty) × (usable_of o ≡ Some t) × (ty_of o ≡ Some t)
usable_known None k a b = absurd (grind arith)
usable_known (Some v) k a b =
    let p = k v refl in
    (p.0, go v.moved refl b p.1, p.1)
  where
    go : {t : Ty} (m : Bool) → v.moved ≡ m → not v.moved ≡ true → v.ty ≡ Some t → cond v.moved None v.ty ≡ Some t
    go true e n h = absurd (grind arith)
    go false e n h = rw e h

-- a variable whose premises hold can be used
pub variable_known : (env : Env) (u : Use) (mine : Bool) (x : List ℕ) (s : Span) → Knows env → AllHold (variable env u mine x s) → Named env u mine x
unfolding variable
variable_known env u mine x s k (join (one p) (join (one q) (one r))) =
    let d = usable_known (find env x) (λ v e. knows_find k x v e) p q in
    record { t = d.0; usable = d.1; ty = d.2; copy = rw d.2 at r }
