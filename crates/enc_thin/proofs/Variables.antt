-- The variables in a body of the thin form: "this", the parameter and integers.
use Rattle.std.proofs.Common.{◌≡◌, ◌∙◌, ℕ, suc, Bool, true, false, cond, ◌&&◌, ◌||◌, not, List, [], ◌∷◌, ◌++◌, map, Option, Some, None, codes, refl, sym, ap, subst, arith}
use Rattle.std.specs.Prelude.{is_some, option_map}
use Rattle.std.specs.Str.{bytes_eq}
use Rattle.std.proofs.lemmas.Bool.{false_from_ne_true}
use Rattle.std.proofs.lemmas.Slice.Eq.{bytes_eq-Decides}
use Rattle.enc_ast.specs.Keywords.{is_keyword}
use Rattle.enc_ast.specs.Thin.{is_among, is_free}
use Rattle.enc_modes.specs.declared.ty.Ty.TheVariants as ty
use Rattle.enc_flow.specs.Vars.{Var}
use Rattle.enc_flow.specs.Env.{Env, or_else, number_from, number_of, at_number, find, usable_of, usable, declares}
use Rattle.enc_exprs.specs.Uses.{this_word}

-- both hold
pub both : (a b : Bool) → (a && b) ≡ true → (a ≡ true) × (b ≡ true)
both true b h = (refl, h)
both false b h = absurd (grind arith)

-- what isn't so is false
pub isnt : (b : Bool) → not b ≡ true → b ≡ false
isnt true h = absurd (grind arith)
isnt false h = refl

-- ---- the newest variable of a name

-- the variable of this name that was declared last
abbrev newest : Env → List ℕ → Option Var
newest [] x = None
newest (v ∷ vs) x = or_else (newest vs x) (cond (bytes_eq v.word x) (Some v) None)

-- numbers that are counted from the next one on
number_next : (k : ℕ) (vs : Env) (x : List ℕ) → number_from (suc k) vs x ≡ option_map suc (number_from k vs x)
number_next k [] x = refl
number_next k (v ∷ vs) x = rw (number_next (suc k) vs x) (go (number_from (suc k) vs x) (bytes_eq v.word x))
  where
    go : (n : Option ℕ) (b : Bool) → or_else (option_map suc n) (cond b (Some (suc k)) None) ≡ option_map suc (or_else n (cond b (Some k) None))
    go None true = refl
    go None false = refl
    go (Some i) b = refl

-- A number is the number of that variable.
abbrev IsOf : Env → Option ℕ → Option Var → Type 0
IsOf vs n v = (at_number vs n ≡ v) × (is_some n ≡ is_some v)

-- one more variable, before the others
one_before : (w : Var) (vs : Env) (n : Option ℕ) (v : Option Var) (b : Bool) → IsOf vs n v → IsOf (w ∷ vs) (or_else (option_map suc n) (cond b (Some 0) None)) (or_else v (cond b (Some w) None))
one_before w vs None None true h = (refl, refl)
one_before w vs None None false h = (refl, refl)
one_before w vs None (Some v) b h = absurd (grind (arith, h.1))
one_before w vs (Some i) None b h = absurd (grind (arith, h.1))
one_before w vs (Some i) (Some v) b h = (h.0, refl)

-- what is found by its number is the newest
number_newest : (vs : Env) (x : List ℕ) → IsOf vs (number_from 0 vs x) (newest vs x)
number_newest [] x = (refl, refl)
number_newest (w ∷ vs) x = subst (λ n. IsOf (w ∷ vs) (or_else n (cond (bytes_eq w.word x) (Some 0) None)) (newest (w ∷ vs) x)) (sym (number_next 0 vs x)) (one_before w vs (number_from 0 vs x) (newest vs x) (bytes_eq w.word x) (number_newest vs x))

-- what is found is the newest
find_newest : (vs : Env) (x : List ℕ) → find vs x ≡ newest vs x
unfolding find number_of
find_newest vs x = (number_newest vs x).0

-- ---- integers

-- a variable of the thin form
abbrev pub int_var : List ℕ → Var
int_var x = record { word = x; ty = Some ty.Int; moved = false }

-- An integer is found exactly where the name is there.
abbrev Finds : Bool → Option Var → Type 0
Finds true None = ⊥
Finds true (Some v) = usable_of (Some v) ≡ Some ty.Int
Finds false None = Unit {0}
Finds false (Some v) = ⊥

-- one more integer, before the others
finds_next : (x : List ℕ) (b a : Bool) (v : Option Var) → Finds a v → Finds (b || a) (or_else v (cond b (Some (int_var x)) None))
finds_next x b true None h = absurd h
finds_next x true true (Some v) h = h
finds_next x false true (Some v) h = h
finds_next x true false None h = refl
finds_next x false false None h = tt
finds_next x b false (Some v) h = absurd h

-- the integers of these names
finds : (names : List (List ℕ)) (x : List ℕ) → Finds (is_among names x) (newest (map int_var names) x)
finds [] x = tt
finds (w ∷ names) x = finds_next w (bytes_eq w x) (is_among names x) (newest (map int_var names) x) (finds names x)

-- ---- all variables

-- two variables, and integers of these names
abbrev pub variables : Var → Var → List (List ℕ) → Env
variables this args names = this ∷ args ∷ map int_var names

-- a name that is there is that of an integer
pub usable_among : (this args : Var) (names : List (List ℕ)) (x : List ℕ) → is_among names x ≡ true → usable (variables this args names) x ≡ Some ty.Int
usable_among this args names x h = ap usable_of (find_newest (variables this args names) x) ∙ go (is_among names x) (newest (map int_var names) x) (finds names x) h
  where
    go : (a : Bool) (v : Option Var) → Finds a v → a ≡ true → usable_of (or_else (or_else v (cond (bytes_eq args.word x) (Some args) None)) (cond (bytes_eq this.word x) (Some this) None)) ≡ Some ty.Int
    go true None f h = absurd f
    go true (Some v) f h = f
    go false v f h = absurd (grind arith)

-- no variable has another name
find_none : (this args : Var) (names : List (List ℕ)) (x : List ℕ) → is_among names x ≡ false → bytes_eq args.word x ≡ false → bytes_eq this.word x ≡ false → is_some (find (variables this args names) x) ≡ false
find_none this args names x h a t = ap is_some (find_newest (variables this args names) x) ∙ go (is_among names x) (newest (map int_var names) x) (bytes_eq args.word x) (bytes_eq this.word x) (finds names x) h a t
  where
    go : (a : Bool) (v : Option Var) (b c : Bool) → Finds a v → a ≡ false → b ≡ false → c ≡ false → is_some (or_else (or_else v (cond b (Some args) None)) (cond c (Some this) None)) ≡ false
    go true v b c f h i j = absurd (grind arith)
    go false None false false f h i j = refl
    go false None true c f h i j = absurd (grind arith)
    go false None false true f h i j = absurd (grind arith)
    go false (Some v) b c f h i j = absurd f

-- "this" is a word of the language
this_word_kept : (x : List ℕ) → is_keyword x ≡ false → bytes_eq this_word x ≡ false
this_word_kept x h = false_from_ne_true (bytes_eq this_word x) (λ e.
    let q : this_word ≡ x = (bytes_eq-Decides this_word x).0 e in
    let k : is_keyword x ≡ true = subst (λ z. is_keyword z ≡ true) q refl in
    absurd (grind (arith, h, k)))

-- a name that is another than that of the parameter
args_kept : (args x : List ℕ) → args ≡ codes "args" → bytes_eq x (codes "args") ≡ false → bytes_eq args x ≡ false
args_kept args x e h = false_from_ne_true (bytes_eq args x) (λ b.
    let q : x ≡ codes "args" = sym ((bytes_eq-Decides args x).0 b) ∙ e in
    let k : bytes_eq x (codes "args") ≡ true = (bytes_eq-Decides x (codes "args")).1 q in
    absurd (grind (arith, h, k)))

-- no variable has a free name
pub find_free : (this args : Var) (names : List (List ℕ)) (x : List ℕ) → this.word ≡ this_word → args.word ≡ codes "args" → is_free names x ≡ true → is_some (find (variables this args names) x) ≡ false
find_free this args names x t a h =
    let p = both (not (is_among names x) && not (bytes_eq x (codes "args"))) (not (is_keyword x)) h in
    let q = both (not (is_among names x)) (not (bytes_eq x (codes "args"))) p.0 in
    find_none this args names x (isnt (is_among names x) q.0) (args_kept args.word x a (isnt (bytes_eq x (codes "args")) q.1)) (subst (λ z. bytes_eq z x ≡ false) (sym t) (this_word_kept x (isnt (is_keyword x) p.1)))

-- one more integer, behind the others
ints_more : (names : List (List ℕ)) (x : List ℕ) → map int_var names ++ int_var x ∷ [] ≡ map int_var (names ++ x ∷ [])
ints_more [] x = refl
ints_more (w ∷ names) x = ap (λ z. int_var w ∷ z) (ints_more names x)

-- one more name
pub variables_more : (this args : Var) (names : List (List ℕ)) (x : List ℕ) → declares (variables this args names) x (Some ty.Int) ≡ variables this args (names ++ x ∷ [])
variables_more this args names x = ap (λ z. this ∷ args ∷ z) (ints_more names x)
