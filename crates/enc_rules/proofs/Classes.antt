-- In a program whose declarations keep all rules, the groups of each class are known.
use Rattle.std.proofs.Common.{◌≡◌, ◌∙◌, ℕ, zero, suc, Bool, true, ◌&&◌, List, [], ◌∷◌, ◌++◌, map, Option, Some, None, is_some, option_map, option_and_then, slice_get, refl, sym, ap, subst, arith}
use Rattle.std.proofs.lemmas.Option.{slice_get-map}
use Rattle.enc_ast.specs.declared.decls.Decl.{Decl}
use Rattle.enc_ast.specs.declared.decls.Decl.TheVariants.{Trait, Class, Active, Fun}
use Rattle.enc_ast.specs.declared.decls.ClassDecl.{ClassDecl}
use Rattle.enc_ast.specs.declared.decls.GroupText.{GroupText}
use Rattle.enc_ast.specs.declared.decls.Program.{Program}
use Rattle.enc_modes.specs.Order.{in_order}
use Rattle.enc_premises.specs.Premises.{Premises, each, each_after}
use Rattle.enc_premises.specs.First.{AllHold, one, join}
use Rattle.enc_types.specs.declared.names.Meaning.{Meaning}
use Rattle.enc_types.specs.declared.names.Meaning.TheVariants as is
use Rattle.enc_types.specs.declared.names.Named.{Named}
use Rattle.enc_types.specs.Words.{place_in, every}
use Rattle.enc_types.specs.Names.{word_of, alt_by, alt_in, found, found_at, number_of, trait_of, trait_named, group_of, groups_of, meaning_of, names_of}
use Rattle.enc_types.specs.Written.{are_traits}
use Rattle.enc_decls.specs.Rules.{group_premises, decl_premises, table_premises, HasTables}
use Rattle.enc_rules.proofs.TypesKnown.{AreKnown, ClassesKnown, all_there_known, mapped_known, types_known}

-- ---- traits by their names

-- what a declaration stands for
abbrev named : (Decl → Meaning) → Decl → Named
named g d = record { word = word_of d; is = g d }

-- names have the words of their declarations
words_named : (g : Decl → Meaning) (ds : List Decl) → map (λ (n : Named). n.word) (map (named g) ds) ≡ map word_of ds
words_named g [] = refl
words_named g (d ∷ ds) = ap (λ z. word_of d ∷ z) (words_named g ds)

-- what is declared with a number
pub named_at : (ds : List Decl) (k : ℕ) → slice_get (names_of ds) k ≡ option_map (named (meaning_of ds)) (slice_get ds k)
unfolding names_of
named_at ds k = slice_get-map (named (meaning_of ds)) ds k

-- the trait that a declaration is
alt_same : (ds : List Decl) (k : ℕ) (d : Option Decl) → option_and_then alt_in (option_map {T = Named} {U = ℕ × Meaning} (λ n. (k, n.is)) (option_map (named (meaning_of ds)) d)) ≡ alt_by k d
alt_same ds k None = refl
alt_same ds k (Some (Trait d)) = refl
alt_same ds k (Some (Class d)) = refl
alt_same ds k (Some (Active d)) = refl
alt_same ds k (Some (Fun d)) = refl

-- a trait by its name is the one that is declared
trait_same : (ds : List Decl) (x : List ℕ) → trait_named (names_of ds) x ≡ trait_of ds x
unfolding trait_named found number_of names_of
trait_same ds x = ap (λ ws. option_and_then alt_in (option_and_then (found_at (names_of ds)) (place_in ws x))) (words_named (meaning_of ds) ds) ∙ go (place_in (map word_of ds) x)
  where
    go : (o : Option ℕ) → option_and_then alt_in (option_and_then (found_at (names_of ds)) o) ≡ option_and_then (λ k. alt_by k (slice_get ds k)) o
    go None = refl
    go (Some k) = ap (λ z. option_and_then alt_in (option_map {T = Named} {U = ℕ × Meaning} (λ n. (k, n.is)) z)) (named_at ds k) ∙ alt_same ds k (slice_get ds k)

-- ---- groups of classes

-- what is asked in other words
every_same : {A : Type 0} (f g : A → Bool) → ((x : A) → f x ≡ g x) → (xs : List A) → every f xs ≡ every g xs
every_same f g e [] = refl
every_same f g e (x ∷ xs) = ap (λ b. b && every f xs) (e x) ∙ ap (λ b. g x && b) (every_same f g e xs)

-- the traits of a group
group_known : (ds : List Decl) (g : GroupText) → are_traits (names_of ds) g ≡ true → is_some (group_of ds g) ≡ true
unfolding are_traits
group_known ds g h = all_there_known (λ n. trait_of ds n.word) g.names (sym (every_same _ _ (λ n. ap is_some (trait_same ds n.word)) g.names) ∙ h)

-- the traits of all groups
all_groups_known : (ds : List Decl) (gs : List GroupText) → AllHold (each (group_premises ds (names_of ds)) gs) → every (λ g. is_some (group_of ds g)) gs ≡ true
all_groups_known ds [] h = refl
all_groups_known ds (g ∷ gs) (join (join (one a) o) i) = rw (group_known ds g a, all_groups_known ds gs i) refl

-- the groups of a class
class_known : (ds : List Decl) (before : List Decl) (c : ClassDecl) → AllHold (decl_premises ds (names_of ds) before (Class c)) → is_some (groups_of ds c) ≡ true
class_known ds before c (join h i) = mapped_known in_order _ (all_there_known (group_of ds) c.groups (all_groups_known ds c.groups h))

-- ---- all classes

-- what is asked of one of them holds, where all of it does
each_holds : {A : Type 0} (f : List A → A → Premises) (xs before : List A) (k : ℕ) (x : A) → slice_get xs k ≡ Some x → AllHold (each_after f before xs) → (b : List A) × AllHold (f b x)
each_holds f [] before k x e h = absurd (grind arith)
each_holds f (y ∷ xs) before zero x e (join h i) = let q : y ≡ x = grind arith in (before, subst (λ z. AllHold (f before z)) q h)
each_holds f (y ∷ xs) before (suc k) x e (join h i) = each_holds f xs (before ++ y ∷ []) k x e i

-- what was found stands for its declaration
found_declared : (ds : List Decl) (x : List ℕ) (k : ℕ) (m : Meaning) → found (names_of ds) x ≡ Some (k, m) → (d : Decl) × (slice_get ds k ≡ Some d) × (meaning_of ds d ≡ m)
unfolding found
found_declared ds x k m e = go (number_of (names_of ds) x) e
  where
    at : (j : ℕ) (o : Option Decl) → slice_get ds j ≡ o → option_map {T = Named} {U = ℕ × Meaning} (λ n. (j, n.is)) (option_map (named (meaning_of ds)) o) ≡ Some (k, m) → (d : Decl) × (slice_get ds k ≡ Some d) × (meaning_of ds d ≡ m)
    at j None q h = absurd (grind arith)
    at j (Some d) q h =
        let i : j ≡ k = grind arith in
        (d, subst (λ z. slice_get ds z ≡ Some d) i q, grind arith)

    go : (o : Option ℕ) → option_and_then (found_at (names_of ds)) o ≡ Some (k, m) → (d : Decl) × (slice_get ds k ≡ Some d) × (meaning_of ds d ≡ m)
    go None h = absurd (grind arith)
    go (Some j) h = at j (slice_get ds j) refl (ap (option_map {T = Named} {U = ℕ × Meaning} (λ n. (j, n.is))) (sym (named_at ds j)) ∙ h)

-- the groups of all classes
classes_known : (ds : List Decl) → AllHold (each_after (decl_premises ds (names_of ds)) [] ds) → ClassesKnown (names_of ds)
classes_known ds h x k c e =
    let d = found_declared ds x k (is.Class c) e in
    let p = each_holds (decl_premises ds (names_of ds)) ds [] k d.0 d.1 h in
    go d.0 p.0 d.2 p.1
  where
    go : (d : Decl) (b : List Decl) → meaning_of ds d ≡ is.Class c → AllHold (decl_premises ds (names_of ds) b d) → is_some c ≡ true
    go (Trait d) b e h = absurd (grind arith)
    go (Class d) b e h = let q : groups_of ds d ≡ c = grind arith in subst (λ z. is_some z ≡ true) q (class_known ds b d h)
    go (Active d) b e h = absurd (grind arith)
    go (Fun d) b e h = absurd (grind arith)

-- a written type that may be written is known
pub written_known : (p : Program) → HasTables p → AreKnown (names_of p.decls)
unfolding table_premises
written_known p (join h i) = types_known (names_of p.decls) (classes_known p.decls h)
