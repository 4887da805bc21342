-- The types that a text spells are within the limits.
use Rattle.std.proofs.Common.{◌≡◌, ℕ, suc, ◌+◌, Bool, true, false, ◌&&◌, List, [], ◌∷◌, length, refl, sym, ap, ◌∙◌, subst, arith, nat_le, le-leb, add-one, Option, Some}
use Rattle.std.proofs.lemmas.Bool.{and_parts}
use Rattle.enc_ast.specs.declared.rules.Span.{Span}
use Rattle.enc_ast.specs.declared.decls.Name.{Name}
use Rattle.enc_ast.specs.declared.decls.GroupText.{GroupText}
use Rattle.enc_ast.specs.declared.TypeText.{TypeText}
use Rattle.enc_ast.specs.declared.TypeForm.{TypeForm, out-TypeForm}
use Rattle.enc_ast.specs.declared.TypeForm.TheVariants as ty
use Rattle.enc_ast.specs.declared.TypeForm.TheOpen.{TypeForm-F}
use Rattle.enc_ast.specs.declared.TypeForm.TheFolds.{map-TypeForm, fold-TypeForm, fold_out-TypeForm, fold_out-TypeText}
use Rattle.enc_lex.specs.declared.tokens.Token.{Token}
use Rattle.enc_lex.specs.declared.kinds.Kind.{Kind}
use Rattle.enc_lex.specs.declared.kinds.Kind.TheVariants as k
use Rattle.enc_cursor.specs.Counts.{Counts, end_groups, end_traits, bracketed_group, with_groups, with_traits}
use Rattle.enc_cursor.specs.Limits.{standard, allowed}
use Rattle.enc_cursor.specs.Place.{Place}
use Rattle.enc_cursor.specs.Stretch.{Stretch, IsMarked, After, Separated}
use Rattle.enc_terms.specs.Words.{plain_type, wrapped}
use Rattle.enc_terms.specs.declared.words.Wrapper.{Wrapper}
use Rattle.enc_terms.specs.declared.words.Wrapper.TheVariants as wrappers
use Rattle.enc_terms.specs.Types.{IsDisjunction, IsGroup, IsClassGroups, IsCap, IsType, type_of, group_of}
use Rattle.enc_terms.specs.Types as gr
use Rattle.enc_limits.specs.Numbers.{max_groups, every, name_fits, opens}
use Rattle.enc_limits.specs.Types.{group_fits, inside, type_form, type_node, type_fits}
use Rattle.enc_within.proofs.Leads.{Leads, here, then, before, also, said, reaches, closed, each}
use Rattle.enc_within.proofs.Tokens.{at_most_le, marked, token, opening}
use Rattle.enc_within.proofs.Names.{word_is, group_name_is, trait_is}

-- ---- lists

-- one or more with a token between, with counts that go up by one at each
pub separated : {A : Type 0} {S : A → Stretch} {f : A → Bool} {text : List ℕ} (k : Kind) (s : ℕ → Counts) → ((n : ℕ) (x : A) (a b : Place) → S x a b → Leads text (s n) (s (suc n)) (f x) a b) → (xs : List A) (n : ℕ) (a b : Place) → Separated k S xs a b → Leads text (s n) (s (n + length xs)) (every f xs) a b
separated k s step [] n a b m = absurd m
separated {S = S} k s step (x ∷ xs) n a b m = reaches s (omega arith) (then (step n x a m.0 m.1) (each {S = After k S} s (λ i y c d t. then (token t.1) (step i y t.0 d t.2)) xs (suc n) m.0 b m.2))

-- the same, with the same counts at each
pub listed : {A : Type 0} {S : A → Stretch} {f : A → Bool} {text : List ℕ} {c : Counts} (k : Kind) → ((x : A) (a b : Place) → S x a b → Leads text c c (f x) a b) → (xs : List A) (a b : Place) → Separated k S xs a b → Leads text c c (every f xs) a b
listed {c = c} k step xs a b m = separated k (λ n. c) (λ n. step) xs 0 a b m

-- ---- groups

-- a disjunction has not too many traits
disjunction_is : {text : List ℕ} (c : Counts) (xs : List Name) (a b : Place) → IsDisjunction text xs a b → Leads text (with_traits 0 c) (with_traits 0 c) (every name_fits xs && nat_le (length xs) max_groups) a b
disjunction_is c xs a b m =
    closed end_traits (λ v w. record { variables = w.variables; operators = w.operators; names = w.names; groups = w.groups; traits = v.traits })
    (also (nat_le (length xs) max_groups) (λ w. le-leb (length xs) max_groups (omega (arith, w.traits))) (separated k.Or (λ n. with_traits n c) (λ n x d e t. trait_is t) xs 0 a m.0 m.1)) m.2

-- an opening bracket by which a group of a class begins
group_opening : {X : Type 0} {text : List ℕ} {f : Token → Option X} {x : X} {a b : Place} (n : ℕ) (c : Counts) → IsMarked (bracketed_group n) f x a b → Leads text c (with_groups (suc c.groups) c) (opens n) a b
unfolding allowed
group_opening {f = f} n c m = marked (bracketed_group n) f c (with_groups (suc c.groups) c) (opens n) (λ v. ap (λ g. with_groups g c) (add-one c.groups))
    (λ t s e h w.
    let p = and_parts _ _ h in
    let g = at_most_le (c.groups + 1) max_groups p.0 in
    (record { variables = w.variables; operators = w.operators; names = w.names; groups = omega arith; traits = w.traits }, le-leb _ _ (at_most_le (suc n) standard.brackets p.1)))
    m

-- so many are counted, and no traits
abbrev pub counts : ℕ → ℕ → ℕ → ℕ → Counts
counts variables operators names groups = record { variables = variables; operators = operators; names = names; groups = groups; traits = 0 }

-- the second of three tests, first
swap : (p q r : Bool) → (p && (q && r)) ≡ (q && (p && r))
swap true q r = refl
swap false true r = refl
swap false false r = refl

module _ (text : List ℕ) (i o m : ℕ) where
  -- a group of a written type
  group_is : (g n : ℕ) (x : GroupText) (a b : Place) → IsGroup text false n x a b → Leads text (counts i o m g) (counts i o m g) (group_fits n x) a b
  group_is g n _ a b (gr.single {x = x} s) = then (then (word_is s) here) here
  group_is g n _ a b (gr.several {x = x} {y} {xs} c s d t) =
      said (group_fits n (group_of (x ∷ y ∷ xs) a b)) (swap (opens n) (every name_fits (x ∷ y ∷ xs)) (nat_le (length (x ∷ y ∷ xs)) max_groups))
      (then (opening n s) (before (disjunction_is (counts i o m g) (x ∷ y ∷ xs) _ c d) (token t)))

  -- a group of a class
  class_group_is : (g : ℕ) (x : GroupText) (a b : Place) → IsGroup text true 0 x a b → Leads text (counts i o m g) (counts i o m (suc g)) (group_fits 0 x) a b
  class_group_is g _ a b (gr.single {x = x} s) = then (then (group_name_is s) here) here
  class_group_is g _ a b (gr.several {x = x} {y} {xs} c s d t) =
      said (group_fits 0 (group_of (x ∷ y ∷ xs) a b)) (swap (opens 0) (every name_fits (x ∷ y ∷ xs)) (nat_le (length (x ∷ y ∷ xs)) max_groups))
      (then (group_opening 0 (counts i o m g) s) (before (disjunction_is (counts i o m (suc g)) (x ∷ y ∷ xs) _ c d) (token t)))

  -- the groups of a class are not too many
  pub class_groups_are : (xs : List GroupText) (a b : Place) → IsClassGroups text xs a b → Leads text (counts i o m 0) (counts i o m 0) (every (group_fits 0) xs && nat_le (length xs) max_groups) a b
  class_groups_are xs a b s =
      closed end_groups (λ v w. record { variables = w.variables; operators = w.operators; names = w.names; groups = v.groups; traits = w.traits })
      (also (nat_le (length xs) max_groups) (λ w. le-leb (length xs) max_groups (omega (arith, w.groups))) (separated k.And (counts i o m) class_group_is xs 0 a s.0 s.1)) s.2

-- ---- layers of types

-- a level of a type, with whether its parts fit
abbrev parts : TypeForm-F TypeForm TypeText → TypeForm-F (ℕ → Bool) (ℕ → Bool)
parts l = map-TypeForm TypeForm TypeText (ℕ → Bool) (ℕ → Bool) (fold-TypeForm (ℕ → Bool) (ℕ → Bool) type_form type_node) type_fits l

-- a type fits by its outer level
type_layer : (f : TypeForm) (v : Span) (l : TypeForm-F TypeForm TypeText) → out-TypeForm f ≡ l → type_fits (record { form = f; span = v }) ≡ type_form (parts l)
unfolding type_fits
type_layer f v l e = fold_out-TypeText (ℕ → Bool) (ℕ → Bool) type_form type_node (record { form = f; span = v }) ∙ (fold_out-TypeForm (ℕ → Bool) (ℕ → Bool) type_form type_node f ∙ ap (λ z. type_form (parts z)) e)

-- a type in brackets
wrapped_fits : (w : Wrapper) (x : TypeText) (v : Span) (n : ℕ) → inside (type_fits x) n ≡ type_fits (record { form = wrapped w x; span = v }) n
wrapped_fits wrappers.Fut x v n = sym (ap (λ f. f n) (type_layer _ v _ (ty.outs-Fut x)))
wrapped_fits wrappers.Par x v n = sym (ap (λ f. f n) (type_layer _ v _ (ty.outs-Par x)))
wrapped_fits wrappers.List x v n = sym (ap (λ f. f n) (type_layer _ v _ (ty.outs-List x)))
wrapped_fits wrappers.Bestowed x v n = sym (ap (λ f. f n) (type_layer _ v _ (ty.outs-Bestowed x)))

-- a type that is a word
word_fits : (kind : Kind) (f : TypeForm) (v : Span) (n : ℕ) → plain_type kind ≡ Some f → true ≡ type_fits (record { form = f; span = v }) n
word_fits kind f v n e = go kind e
  where
    at : (g : TypeForm) → Some g ≡ Some f → true ≡ type_fits (record { form = g; span = v }) n → true ≡ type_fits (record { form = f; span = v }) n
    at g e h = let same : g ≡ f = cc in subst (λ z. true ≡ type_fits (record { form = z; span = v }) n) same h

    go : (kind : Kind) → plain_type kind ≡ Some f → true ≡ type_fits (record { form = f; span = v }) n
    go k.TypeInt e = at _ e (sym (ap (λ f. f n) (type_layer _ v _ ty.outs-Int)))
    go k.TypeBool e = at _ e (sym (ap (λ f. f n) (type_layer _ v _ ty.outs-Bool)))
    go k.TypeText e = at _ e (sym (ap (λ f. f n) (type_layer _ v _ ty.outs-Text)))
    go k.Unit e = at _ e (sym (ap (λ f. f n) (type_layer _ v _ ty.outs-Unit)))
    go _ e = absurd cc

-- ---- types

module _ {text : List ℕ} {i o m : ℕ} where
  -- groups, all of which a type has
  pub cap_is : (n : ℕ) (x : TypeText) (a b : Place) → IsCap text n x a b → Leads text (counts i o m 0) (counts i o m 0) (type_fits x n) a b
  cap_is n x a b s =
      said (type_fits x n) (sym (ap (λ f. f n) (type_layer _ _ _ (ty.outs-Cap s.0))) ∙ ap (λ z. type_fits z n) s.1)
      (listed k.And (group_is text i o m 0 n) s.0 a b s.2)

  -- a written type
  pub type_is : {n : ℕ} {x : TypeText} {a b : Place} → IsType text n x a b → Leads text (counts i o m 0) (counts i o m 0) (type_fits x n) a b
  type_is (gr.simple {n = n} s) = said _ (word_fits s.0.kind _ _ n s.3) (token s)
  type_is (gr.of_type {n = n} {w} {x} s t u v) = said _ (wrapped_fits w x _ n) (then (token s) (then (opening n t) (before (type_is u) (token v))))
  type_is (gr.cap {n = n} {x} {a} {b} s) = cap_is n x a b s
