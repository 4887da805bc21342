-- Loops over the elements of a list.
use Rattle.std.proofs.Common.{◌≡◌, ℕ, ◌<◌, ◌≤◌, List, [], ◌∷◌, length, map, Option, Some, None, refl, sym, ap, subst, slice_index_or, drop, take, arith, ◌-◌}
use Rattle.std.proofs.lemmas.List.{take_all}
use Rattle.enc_ast.specs.declared.Expr.{Expr}
use Rattle.enc_ast.specs.declared.rules.Fail.{Fail}
use Rattle.enc_modes.specs.declared.ty.Ty.{Ty}
use Rattle.enc_premises.specs.Premises.{Premises, ◌⨾◌, each}
use Rattle.enc_premises.specs.Passing.{Agrees}
use Rattle.enc_modes.specs.Modes.{is_shareable}
use Rattle.enc_premises.proofs.Passing.{both, later, nothing}
use Rattle.enc_premises.proofs.Loops.{Rest, rest_err, rest_end}
use Rattle.enc_flow.specs.Env.{Env}
use Rattle.enc_types.specs.Names.{Names}
use Rattle.enc_exprs.specs.Types.{like}
use Rattle.enc_exprs.specs.Exprs.{judged, copied, elements, expr_type}

-- what is asked of each of them through what the rules see
each_map : {A B : Type 0} (f : B → Premises) (g : A → B) (xs : List A) → each f (map g xs) ≡ each (λ x. f (g x)) xs
each_map f g [] = refl
each_map f g (x ∷ xs) = ap (λ z. f (g x) ⨾ z) (each_map f g xs)

-- an element, which is to be of this type
abbrev pub element : Names → Env → Option Ty → Expr → Premises
element names env t x = copied env (like t) (judged names x)

-- an element that is refused
pub element_err : (names : Names) (env : Env) (t : Option Ty) (xs : List Expr) (i : ℕ) (x : Expr) → i < length xs → x ≡ slice_index_or xs i x → Rest (element names env t) xs i → (e : Fail) → Agrees (Some e) (element names env t x) → Agrees (Some e) (each (copied env (like t)) (map (judged names) xs))
element_err names env t xs i x h is r e p = subst (Agrees (Some e)) (sym (each_map (copied env (like t)) (judged names) xs)) (rest_err (element names env t) xs i x h is r e p)

-- all elements hold
pub element_end : (names : Names) (env : Env) (t : Option Ty) (xs : List Expr) (i : ℕ) → length xs ≤ i → Rest (element names env t) xs i → Agrees None (each (copied env (like t)) (map (judged names) xs))
element_end names env t xs i h r = subst (Agrees None) (sym (each_map (copied env (like t)) (judged names) xs)) (rest_end (element names env t) xs i h r)

-- ---- the first element and the others

-- the first, and the others
split_first : (xs : List Expr) (x : Expr) → 1 ≤ length xs → x ≡ slice_index_or xs 0 x → xs ≡ x ∷ drop 1 xs
split_first [] x h is = absurd (omega arith)
split_first (y ∷ xs) x h is = ap (λ z. z ∷ xs) (sym is)

-- the premises of elements, from the first on
split_elements : (names : Names) (env : Env) (xs : List Expr) (x : Expr) → 1 ≤ length xs → x ≡ slice_index_or xs 0 x → elements env (map (judged names) xs) ≡ copied env is_shareable (judged names x) ⨾ each (copied env (like (expr_type names env x))) (map (judged names) (drop 1 xs))
split_elements names env xs x h is = ap (λ z. elements env (map (judged names) z)) (split_first xs x h is)

-- the others, as a slice
pub others : (xs : List Expr) → take (length xs - 1) (drop 1 xs) ≡ drop 1 xs
others [] = refl
others (x ∷ xs) = take_all (length (x ∷ xs) - 1) xs (omega arith)

-- another one than the first is refused
pub list_err : (names : Names) (env : Env) (xs : List Expr) (x : Expr) → 1 ≤ length xs → x ≡ slice_index_or xs 0 x → (e : Fail) → Agrees None (copied env is_shareable (judged names x)) → Agrees (Some e) (each (copied env (like (expr_type names env x))) (map (judged names) (take (length xs - 1) (drop 1 xs)))) → Agrees (Some e) (elements env (map (judged names) xs))
list_err names env xs x h is e p q = subst (Agrees (Some e)) (sym (split_elements names env xs x h is)) (later e _ _ p (rw others at q))

-- the first holds, and the others
pub list_ok : (names : Names) (env : Env) (xs : List Expr) (x : Expr) → 1 ≤ length xs → x ≡ slice_index_or xs 0 x → Agrees None (copied env is_shareable (judged names x)) → Agrees None (each (copied env (like (expr_type names env x))) (map (judged names) (take (length xs - 1) (drop 1 xs)))) → Agrees None (elements env (map (judged names) xs))
list_ok names env xs x h is p q = subst (Agrees None) (sym (split_elements names env xs x h is)) (both _ _ p (rw others at q))

-- there is no element
pub list_none : (names : Names) (env : Env) (xs : List Expr) → length xs < 1 → Agrees None (elements env (map (judged names) xs))
list_none names env [] h = nothing
list_none names env (x ∷ xs) h = absurd (omega arith)
