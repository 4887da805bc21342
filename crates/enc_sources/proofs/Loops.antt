-- Loops over arguments and parameters: what is left of them.
use Rattle.std.proofs.Common.{◌≡◌, ℕ, zero, suc, ◌+◌, ◌<◌, ◌≤◌, List, [], ◌∷◌, length, drop, map, Option, Some, None, refl, add-one, slice_index_or, slice_get}
use Rattle.enc_ast.specs.declared.Expr.{Expr}
use Rattle.enc_ast.specs.declared.rules.Fail.{Fail}
use Rattle.enc_premises.specs.Premises.{◌⨾◌}
use Rattle.enc_premises.specs.Passing.{Agrees}
use Rattle.enc_premises.proofs.Passing.{over, here, nothing}
use Rattle.enc_premises.proofs.Loops.{drop_at, drop_all}
use Rattle.enc_flow.specs.Env.{Env}
use Rattle.enc_types.specs.Names.{Names}
use Rattle.enc_names.specs.declared.members.Slot.{Slot}
use Rattle.enc_exprs.specs.declared.uses.Use.TheVariants.{Consumes}
use Rattle.enc_exprs.specs.Exprs.{Judged, judged, operand, consumes}
use Rattle.enc_rules.specs.Calls.{arguments, after_arguments}
use Rattle.enc_sources.specs.Arguments.{wanted}

-- ---- arguments

-- the parameters from the i-th on, in front of one more argument
next_argument : (env : Env) (ps : List Slot) (i : ℕ) (a : Judged) (as_ : List Judged) → arguments env (drop i ps) (a ∷ as_) ≡ operand env Consumes (wanted (slice_get ps i)) a ⨾ arguments (consumes env a.name) (drop (i + 1) ps) as_
next_argument env [] zero a as_ = refl
next_argument env [] (suc i) a as_ = rw add-one refl
next_argument env (p ∷ ps) zero a as_ = refl
next_argument env (p ∷ ps) (suc i) a as_ = rw add-one (rw add-one at (next_argument env ps i a as_))

-- What comes of the arguments from the i-th on comes of all.
pub record Rest (names : Names) (start : Env) (ps : List Slot) (xs : List Expr) (env : Env) (i : ℕ) : Type 0 where
  pub premises : (o : Option Fail) → Agrees o (arguments env (drop i ps) (map (judged names) (drop i xs))) → Agrees o (arguments start ps (map (judged names) xs))
  pub after : after_arguments env (map (judged names) (drop i xs)) ≡ after_arguments start (map (judged names) xs)

pub rest_start : (names : Names) (env : Env) (ps : List Slot) (xs : List Expr) → Rest names env ps xs env 0
rest_start names env ps xs = record { premises = λ o p. p; after = refl }

pub rest_more : (names : Names) (start : Env) (ps : List Slot) (xs : List Expr) (env : Env) (i : ℕ) (x : Expr) → i < length xs → x ≡ slice_index_or xs i x → Rest names start ps xs env i →
    Agrees None (operand env Consumes (wanted (slice_get ps i)) (judged names x)) → Rest names start ps xs (consumes env (judged names x).name) (i + 1)
rest_more names start ps xs env i x h e r p = record {
  premises = λ o q. r.premises o (rw (drop_at xs i x h e) (rw (next_argument env ps i (judged names x) (map (judged names) (drop (i + 1) xs))) (over _ _ p o q)));
  after = rw (drop_at xs i x h e) at r.after;
}

pub rest_err : (names : Names) (start : Env) (ps : List Slot) (xs : List Expr) (env : Env) (i : ℕ) (x : Expr) → i < length xs → x ≡ slice_index_or xs i x → Rest names start ps xs env i → (f : Fail) →
    Agrees (Some f) (operand env Consumes (wanted (slice_get ps i)) (judged names x)) → Agrees (Some f) (arguments start ps (map (judged names) xs))
rest_err names start ps xs env i x h e r f p = r.premises (Some f) (rw (drop_at xs i x h e) (rw (next_argument env ps i (judged names x) (map (judged names) (drop (i + 1) xs))) (here f _ _ p)))

no_more : (env : Env) (ps : List Slot) → Agrees None (arguments env ps [])
no_more env ps = nothing

pub rest_end : (names : Names) (start : Env) (ps : List Slot) (xs : List Expr) (env : Env) (i : ℕ) → length xs ≤ i → Rest names start ps xs env i →
    Agrees None (arguments start ps (map (judged names) xs)) × (env ≡ after_arguments start (map (judged names) xs))
rest_end names start ps xs env i h r = (r.premises None (rw (drop_all xs i h) (no_more env (drop i ps))), rw (drop_all xs i h) at r.after)
