-- Where the name of a class is new, it stands for the class.
use Rattle.std.proofs.Common.{◌≡◌, ℕ, zero, suc, ◌<◌, Bool, true, false, not, cond, ◌||◌, List, [], ◌∷◌, length, take, map, Some, option_map, option_and_then, slice_index_or, refl, sym, ap, ◌∙◌, arith}
use Rattle.std.specs.List.{slice_get}
use Rattle.std.specs.Str.{bytes_eq}
use Rattle.std.proofs.lemmas.Slice.Eq.{bytes_eq-Decides}
use Rattle.enc_ast.specs.declared.decls.Decl.{Decl}
use Rattle.enc_ast.specs.declared.decls.Decl.TheVariants.{Trait, Class, Active, Fun}
use Rattle.enc_types.specs.declared.names.Meaning.{Meaning}
use Rattle.enc_types.specs.declared.names.Named.{Named}
use Rattle.enc_types.specs.Words.{has, place_in}
use Rattle.enc_types.specs.Names.{Names, names_of, word_of, found, number_of}
use Rattle.enc_decls.specs.Nodes.{StandsForItself, groups_in, decl_node}
use Rattle.enc_decls.specs.Rules.{decl_premises}

-- a word that is not among those before it has its own place
own_place : (ws : List (List ℕ)) (i : ℕ) (w : List ℕ) → i < length ws → w ≡ slice_index_or ws i w → not (has (take i ws) w) ≡ true → place_in ws w ≡ Some i
own_place [] i w h e n = absurd (omega arith)
own_place (v ∷ ws) zero w h e n = ap (λ b. cond b (Some 0) (option_map suc (place_in ws w))) ((bytes_eq-Decides v w).1 (sym e))
own_place (v ∷ ws) (suc i) w h e n = go (own_place ws i w (omega arith) e) (bytes_eq v w) n
  where
    go : (not (has (take i ws) w) ≡ true → place_in ws w ≡ Some i) → (b : Bool) → not (b || has (take i ws) w) ≡ true → cond b (Some 0) (option_map suc (place_in ws w)) ≡ Some (suc i)
    go k true n = absurd (grind arith)
    go k false n = ap (option_map suc) (k n)

-- what stands at a place stands there after a map
mapped_at : {A B : Type 0} (f : A → B) (xs : List A) (i : ℕ) (x : A) → i < length xs → x ≡ slice_index_or xs i x → (slice_get (map f xs) i ≡ Some (f x)) × (f x ≡ slice_index_or (map f xs) i (f x))
mapped_at f [] i x h e = absurd (omega arith)
mapped_at f (y ∷ xs) zero x h e = (ap (λ z. Some (f z)) (sym e), ap f e)
mapped_at f (y ∷ xs) (suc i) x h e = mapped_at f xs i x (omega arith) e

-- those before a place, after a map
before_mapped : {A B : Type 0} (f : A → B) (xs : List A) (i : ℕ) (x : A) → i < length xs → x ≡ slice_index_or xs i x → (i < length (map f xs)) × (take i (map f xs) ≡ map f (take i xs))
before_mapped f [] i x h e = absurd (omega arith)
before_mapped f (y ∷ xs) zero x h e = (omega arith, refl)
before_mapped f (y ∷ xs) (suc i) x h e = let p = before_mapped f xs i x (omega arith) e in (omega (arith, p.0), ap (λ z. f y ∷ z) p.1)

-- a declaration by its name, with a meaning
abbrev named : (Decl → Meaning) → Decl → Named
named g d = record { word = word_of d; is = g d }

-- the names are those of the declarations
words_named : (g : Decl → Meaning) (ds : List Decl) → map (λ n. n.word) (map (named g) ds) ≡ map word_of ds
words_named g [] = refl
words_named g (d ∷ ds) = ap (λ z. word_of d ∷ z) (words_named g ds)

-- what stands at its own place under its own word is found there
own_found : (g : Decl → Meaning) (ds : List Decl) (i : ℕ) (d : Decl) → i < length ds → d ≡ slice_index_or ds i d → place_in (map word_of ds) (word_of d) ≡ Some i → found (map (named g) ds) (word_of d) ≡ Some (i, g d)
unfolding found number_of
own_found g ds i d h e p = rw (words_named g ds, p, (mapped_at (named g) ds i d h e).0) refl

-- a new name is found where its declaration stands
word_at : (ds : List Decl) (i : ℕ) (d : Decl) → i < length ds → d ≡ slice_index_or ds i d → not (has (map word_of (take i ds)) (word_of d)) ≡ true → place_in (map word_of ds) (word_of d) ≡ Some i
word_at ds i d h e n = let p = before_mapped word_of ds i d h e in own_place (map word_of ds) i (word_of d) p.0 (mapped_at word_of ds i d h e).1 (ap (λ z. not (has z (word_of d))) p.1 ∙ n)

-- a class whose name is new is found by it
pub stands : (ds : List Decl) (i : ℕ) (d : Decl) (b : Bool) → i < length ds → d ≡ slice_index_or ds i d → b ≡ has (map word_of (take i ds)) (word_of d) → StandsForItself ds (names_of ds) (not b) d
unfolding names_of
stands ds i (Trait d) b h e n = tt
stands ds i (Class d) b h e n = λ k. ap (option_and_then groups_in) (own_found _ ds i (Class d) h e (word_at ds i (Class d) h e (sym (ap not n) ∙ k)))
stands ds i (Active d) b h e n = tt
stands ds i (Fun d) b h e n = tt

-- a declaration with what is known of its name
pub known_new : (ds : List Decl) (names : Names) (before : List Decl) (d : Decl) (b : Bool) → b ≡ has (map word_of before) (word_of d) → decl_node ds names (not b) d ≡ decl_premises ds names before d
known_new ds names before (Trait d) b e = ap (λ z. decl_node ds names (not z) (Trait d)) e
known_new ds names before (Class d) b e = ap (λ z. decl_node ds names (not z) (Class d)) e
known_new ds names before (Active d) b e = ap (λ z. decl_node ds names (not z) (Active d)) e
known_new ds names before (Fun d) b e = ap (λ z. decl_node ds names (not z) (Fun d)) e
