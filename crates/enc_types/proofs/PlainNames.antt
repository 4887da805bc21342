-- Names before the groups of classes are known have the same traits.
use Rattle.std.proofs.Common.{◌≡◌, ◌∙◌, ℕ, List, [], ◌∷◌, map, Option, Some, None, option_map, option_and_then, slice_get, refl, ap}
use Rattle.std.proofs.lemmas.Option.{slice_get-map}
use Rattle.enc_ast.specs.declared.decls.Decl.{Decl}
use Rattle.enc_ast.specs.declared.decls.Decl.TheVariants.{Trait, Class, Active, Fun}
use Rattle.enc_modes.specs.declared.ty.Alt.{Alt}
use Rattle.enc_types.specs.declared.names.Named.{Named}
use Rattle.enc_types.specs.Words.{place_in}
use Rattle.enc_types.specs.Names.{word_of, alt_by, alt_in, found, found_at, number_of, trait_of, trait_named, meaning_of, names_of}
use Rattle.enc_types.specs.Plain.{meaning_by, named_by, plain_named, plain_names}

-- what is declared by names that keep their words has these words
words-map : (f : Decl → Named) → ((d : Decl) → (f d).word ≡ word_of d) → (ds : List Decl) → map (λ n. n.word) (map f ds) ≡ map word_of ds
words-map f e [] = refl
words-map f e (d ∷ ds) = ap (λ z. z ∷ map (λ n. n.word) (map f ds)) (e d) ∙ ap (λ z. word_of d ∷ z) (words-map f e ds)

-- the words of names, with or without groups
pub plain_words : (ds : List Decl) → map (λ n. n.word) (plain_names ds) ≡ map word_of ds
plain_words = words-map plain_named (λ d. refl)

-- the words of names with their groups
pub named_words : (t : List ℕ → Option Alt) (ds : List Decl) → map (λ n. n.word) (map (named_by t) ds) ≡ map word_of ds
named_words t = words-map (named_by t) (λ d. refl)

-- a plain name stands for a trait where its declaration is one
alt_plain : (k : ℕ) (d : Option Decl) → option_and_then alt_in (option_map (λ n. (k, n.is)) (option_map plain_named d)) ≡ alt_by k d
alt_plain k None = refl
alt_plain k (Some (Trait d)) = refl
alt_plain k (Some (Class d)) = refl
alt_plain k (Some (Active d)) = refl
alt_plain k (Some (Fun d)) = refl

-- plain names have the traits of the declarations
trait_plain : (ds : List Decl) (x : List ℕ) → trait_named (plain_names ds) x ≡ trait_of ds x
unfolding trait_named found number_of
trait_plain ds x = ap (λ ws. option_and_then alt_in (option_and_then (found_at (plain_names ds)) (place_in ws x))) (plain_words ds) ∙ go (place_in (map word_of ds) x)
  where
    go : (o : Option ℕ) → option_and_then alt_in (option_and_then (found_at (plain_names ds)) o) ≡ option_and_then (λ k. alt_by k (slice_get ds k)) o
    go None = refl
    go (Some k) = ap (λ z. option_and_then alt_in (option_map (λ n. (k, n.is)) z)) (slice_get-map plain_named ds k) ∙ alt_plain k (slice_get ds k)

-- by the traits of declarations, a declaration means what it means
meaning_same : (ds : List Decl) (d : Decl) → meaning_by (trait_of ds) d ≡ meaning_of ds d
meaning_same ds (Trait d) = refl
meaning_same ds (Class d) = refl
meaning_same ds (Active d) = refl
meaning_same ds (Fun d) = refl

-- what the declarations stand for, by the traits of plain names
pub named_all : (ds : List Decl) → map (named_by (trait_named (plain_names ds))) ds ≡ names_of ds
unfolding names_of
named_all ds = ap (λ (t : List ℕ → Option Alt). map (named_by t) ds) (λ j. λ x. trait_plain ds x j) ∙ ap (λ (f : Decl → Named). map f ds) (λ j. λ d. record { word = word_of d; is = meaning_same ds d j })
