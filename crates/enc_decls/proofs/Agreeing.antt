-- Fields agree where those of their name have their type.
use Rattle.std.proofs.Common.{◌≡◌, inl, inr, ◌==◌, ℕ, ◌+◌, ◌<◌, Bool, true, false, not, ◌&&◌, ◌||◌, cond, List, [], ◌∷◌, length, drop, Option, Some, None, String, slice_index_or, refl, sym, ap, ◌∙◌}
use Rattle.std.proofs.lemmas.Bool.Decides.{eqb_tells}
use Rattle.std.proofs.lemmas.Slice.Eq.{bytes_eq-Decides}
use Rattle.std.specs.HashMap.{HashMap, get_by_text}
use Rattle.std.specs.Map.{update}
use Rattle.std.specs.Str.{bytes_eq}
use Rattle.enc_ast.specs.declared.decls.Decl.{Decl}
use Rattle.enc_modes.specs.declared.ty.Alt.{Alt}
use Rattle.enc_modes.specs.declared.ty.Ty.{Ty}
use Rattle.enc_modes.specs.Equality.{same}
use Rattle.enc_modes.proofs.Equal.{same_is_equal}
use Rattle.enc_premises.proofs.Loops.{drop_at}
use Rattle.enc_types.specs.Names.{Names}
use Rattle.enc_types.specs.Words.{every}
use Rattle.enc_decls.specs.Conflicts.{agree, each_agrees, entries_of, fit, one_or_fit}
use Rattle.enc_decls.specs.declared.known.Entry.{Entry}
use Rattle.enc_decls.specs.Known.{has_all, narrowed}
use Rattle.enc_decls.proofs.Words.{eq_comm}

-- ---- agreement turned round

-- tests are one where each holds if the other does
one_test : (a b : Bool) → (a ≡ true → b ≡ true) → (b ≡ true → a ≡ true) → a ≡ b
one_test true b f g = sym (f refl)
one_test false true f g = g refl
one_test false false f g = refl

-- sameness of types turned round
same_comm : (t u : Ty) → same t u ≡ same u t
same_comm t u = one_test (same t u) (same u t) (λ h. (same_is_equal u t).1 (sym ((same_is_equal t u).0 h))) (λ h. (same_is_equal t u).1 (sym ((same_is_equal u t).0 h)))

agree_comm : (d e : Entry) → agree d e ≡ agree e d
agree_comm d e = rw (eq_comm d.word e.word, same_comm d.ty e.ty) refl

-- one test for all where it is one for each
every_same : {A : Type 0} (f g : A → Bool) → ((x : A) → f x ≡ g x) → (xs : List A) → every f xs ≡ every g xs
every_same f g h [] = refl
every_same f g h (x ∷ xs) = rw (h x, every_same f g h xs) refl

-- what is a conjunction for each is one for all
every_both : {A : Type 0} (f g : A → Bool) (xs : List A) → every (λ x. f x && g x) xs ≡ (every f xs && every g xs)
every_both f g [] = refl
every_both f g (x ∷ xs) = rw (every_both f g xs) (go (f x) (g x) (every f xs) (every g xs))
  where
    go : (a b c d : Bool) → ((a && b) && (c && d)) ≡ ((a && c) && (b && d))
    go true true c d = refl
    go true false true d = refl
    go true false false d = refl
    go false b c d = refl

every_true : {A : Type 0} (xs : List A) → every (λ x. true) xs ≡ true
every_true [] = refl
every_true (x ∷ xs) = every_true xs

-- each of the one agrees with each of the other where each of the other agrees with each of the one
pub turned : (ds es : List Entry) → each_agrees ds es ≡ each_agrees es ds
turned [] es = sym (every_true es)
turned (d ∷ ds) es = rw (turned ds es, every_same (agree d) (λ e. agree e d) (agree_comm d) es) (sym (every_both (λ e. agree e d) (λ e. every (agree e) ds) es))

-- traits fit turned round
fit_turned : (ds : List Decl) (names : Names) (a b : Alt) → fit ds names a b ≡ fit ds names b a
fit_turned ds names a b = turned (entries_of ds names a) (entries_of ds names b)

-- of two traits it is asked whether the second fits the first
pub apart_turned : (ds : List Decl) (names : Names) (a b : Alt) → (a.number ≡ b.number → ⊥) → fit ds names b a ≡ one_or_fit ds names a b
apart_turned ds names a b h =
    let e : (a.number == b.number) ≡ false = elim (eqb_tells a.number b.number) [ inl w ↦ absurd (h (w.1)) | inr w ↦ w.0 ] in
    rw e (fit_turned ds names b a)

-- ---- what is known of the fields of each name

-- what fields of one name have as their type behind one more
narrowed_has : (known : Option (Option Ty)) (t u : Ty) → has_all (Some (narrowed known t)) u ≡ (same u t && has_all known u)
narrowed_has None t u = same_comm t u ∙ and_true (same u t)
  where
    and_true : (a : Bool) → a ≡ (a && true)
    and_true true = refl
    and_true false = refl
narrowed_has (Some None) t u = and_false (same u t)
  where
    and_false : (a : Bool) → false ≡ (a && false)
    and_false true = refl
    and_false false = refl
narrowed_has (Some (Some v)) t u = go (same u t) (same v t) refl refl
  where
    go : (a b : Bool) → same u t ≡ a → same v t ≡ b → has_all (Some (cond b (Some t) None)) u ≡ (a && same v u)
    go true true p q = same_comm t u ∙ (p ∙ (sym q ∙ ap (same v) (sym ((same_is_equal u t).0 p))))
    go true false p q = sym q ∙ ap (same v) (sym ((same_is_equal u t).0 p))
    go false true p q = same_comm t u ∙ p
    go false false p q = refl

-- one more field is one more that the others are to agree with
one_more : (m n : List ℕ → Option (Option Ty)) (e d : Entry) → ((x : List ℕ) → n x ≡ update bytes_eq m e.word (Some (narrowed (m e.word) e.ty)) x) → has_all (n d.word) d.ty ≡ (agree d e && has_all (m d.word) d.ty)
one_more m n e d h = rw (h d.word, eq_comm d.word e.word) (go (bytes_eq e.word d.word) refl)
  where
    go : (b : Bool) → bytes_eq e.word d.word ≡ b → has_all (cond b (Some (narrowed (m e.word) e.ty)) (m d.word)) d.ty ≡ ((not b || same d.ty e.ty) && has_all (m d.word) d.ty)
    go true p = narrowed_has (m e.word) e.ty d.ty ∙ ap (λ x. same d.ty e.ty && has_all (m x) d.ty) ((bytes_eq-Decides e.word d.word).0 p)
    go false p = refl

-- The map tells of each field whether it agrees with those before the i-th.
abbrev pub IndexedTo : {Y S : Type 0} → HashMap (String Y) (Option Ty) S → List Entry → ℕ → Type 0
IndexedTo types es i = (d : Entry) → (has_all (get_by_text types d.word) d.ty && every (agree d) (drop i es)) ≡ every (agree d) es

-- one more field
pub index_more : {Y S : Type 0} (types more : HashMap (String Y) (Option Ty) S) (es : List Entry) (i : ℕ) (e : Entry) → i < length es → e ≡ slice_index_or es i e → IndexedTo types es i → (w : List ℕ) (o : Option Ty) → w ≡ e.word → o ≡ narrowed (get_by_text types e.word) e.ty → ((x : List ℕ) → get_by_text more x ≡ update bytes_eq (get_by_text types) w (Some o) x) → IndexedTo more es (i + 1)
index_more types more es i e h is to w o word ty u d =
    rw (one_more (get_by_text types) (get_by_text more) e d (rw (word, ty) at u)) (go (agree d e) (has_all (get_by_text types d.word) d.ty) (every (agree d) (drop (i + 1) es)) ∙ (rw (drop_at es i e h is) at (to d)))
  where
    go : (a b c : Bool) → ((a && b) && c) ≡ (b && (a && c))
    go true b c = refl
    go false true c = refl
    go false false c = refl
