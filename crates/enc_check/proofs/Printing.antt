-- The loop over the values of a statement that prints.
use Rattle.std.proofs.Common.{◌≡◌, ℕ, ◌+◌, ◌<◌, ◌≤◌, Bool, true, ◌&&◌, List, [], ◌∷◌, length, drop, Some, None, false, refl, sym, ap, ◌∙◌, slice_index_or}
use Rattle.enc_ast.specs.declared.Expr.{Expr}
use Rattle.enc_ast.specs.declared.rules.Fail.{Fail}
use Rattle.enc_premises.specs.Premises.{each}
use Rattle.enc_premises.specs.Passing.{Agrees}
use Rattle.enc_premises.proofs.Loops.{Rest, rest_start, rest_more, rest_err, rest_end, drop_at, drop_all}
use Rattle.enc_flow.specs.Env.{Env}
use Rattle.enc_types.specs.Words.{every}
use Rattle.enc_exprs.specs.declared.uses.Use.TheVariants.{Copies}
use Rattle.enc_exprs.specs.Exprs.{expr_premises}
use Rattle.enc_rules.specs.Context.{Context}
use Rattle.enc_rules.specs.Stmts.{prints}

-- What comes of the values from the i-th on comes of all, where the earlier ones have left this answer.
pub record PrintRest (ctx : Context) (env : Env) (xs : List Expr) (plain : Bool) (i : ℕ) : Type 0 where
  pub premises : Rest (expr_premises ctx.tables.names env Copies) xs i
  pub fits : (plain && every (prints ctx env) (drop i xs)) ≡ every (prints ctx env) xs

-- at the first value
pub print_start : (ctx : Context) (env : Env) (xs : List Expr) → PrintRest ctx env xs true 0
print_start ctx env xs = record { premises = rest_start (expr_premises ctx.tables.names env Copies) xs; fits = start xs }
  where
    start : (ys : List Expr) → (true && every (prints ctx env) (drop 0 ys)) ≡ every (prints ctx env) ys
    start [] = refl
    start (y ∷ ys) = refl

-- the answer so far, the value and those behind it
turned : (p b r : Bool) → ((p && b) && r) ≡ (p && (b && r))
turned true b r = refl
turned false b r = refl

-- a value that keeps its rules
pub print_more : (ctx : Context) (env : Env) (xs : List Expr) (plain fits : Bool) (i : ℕ) (x : Expr) → i < length xs → x ≡ slice_index_or xs i x → PrintRest ctx env xs plain i → Agrees None (expr_premises ctx.tables.names env Copies x) → fits ≡ (plain && prints ctx env x) → PrintRest ctx env xs fits (i + 1)
print_more ctx env xs plain fits i x h e r p f = record {
  premises = rest_more (expr_premises ctx.tables.names env Copies) xs i x h e r.premises p;
  fits = ap (λ z. z && every (prints ctx env) (drop (i + 1) xs)) f ∙ (turned plain (prints ctx env x) (every (prints ctx env) (drop (i + 1) xs)) ∙ (sym (ap (λ z. plain && every (prints ctx env) z) (drop_at xs i x h e)) ∙ r.fits));
}

-- What is answered for a value is answered for all.
pub print_err : (ctx : Context) (env : Env) (xs : List Expr) (plain : Bool) (i : ℕ) (x : Expr) → i < length xs → x ≡ slice_index_or xs i x → PrintRest ctx env xs plain i → (f : Fail) → Agrees (Some f) (expr_premises ctx.tables.names env Copies x) → Agrees (Some f) (each (expr_premises ctx.tables.names env Copies) xs)
print_err ctx env xs plain i x h e r f p = rest_err (expr_premises ctx.tables.names env Copies) xs i x h e r.premises f p

-- the answer where nothing is left
ended : (b : Bool) → b ≡ (b && true)
ended true = refl
ended false = refl

-- Behind the last value all is judged.
pub print_end : (ctx : Context) (env : Env) (xs : List Expr) (plain : Bool) (i : ℕ) → length xs ≤ i → PrintRest ctx env xs plain i → Agrees None (each (expr_premises ctx.tables.names env Copies) xs) × (plain ≡ every (prints ctx env) xs)
print_end ctx env xs plain i h r = (rest_end (expr_premises ctx.tables.names env Copies) xs i h r.premises, ended plain ∙ (sym (ap (λ z. plain && every (prints ctx env) z) (drop_all xs i h)) ∙ r.fits))
