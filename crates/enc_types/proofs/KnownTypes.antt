-- A written type that stands for a type may be written.
use Rattle.std.proofs.Common.{◌≡◌, ◌∙◌, ℕ, Bool, true, false, ◌&&◌, cond, List, [], ◌∷◌, Option, Some, None, is_some, option_map, option_and_then, refl, sym, ap, subst}
use Rattle.enc_ast.specs.declared.rules.Rule.TheVariants as rule
use Rattle.enc_ast.specs.declared.rules.Span.{Span}
use Rattle.enc_ast.specs.declared.decls.Name.{Name}
use Rattle.enc_ast.specs.declared.decls.GroupText.{GroupText}
use Rattle.enc_ast.specs.declared.TypeText.{TypeText}
use Rattle.enc_ast.specs.declared.TypeForm.{TypeForm, out-TypeForm}
use Rattle.enc_ast.specs.declared.TypeForm.TheOpen.{TypeForm-F}
use Rattle.enc_ast.specs.declared.TypeForm.TheViews.{out-roll-TypeForm}
use Rattle.enc_ast.specs.declared.TypeForm.TheFolds.{map-TypeForm, fold-TypeForm, fold-TypeText, fold_out-TypeForm, fold_out-TypeText, ind-TypeForm}
use Rattle.enc_modes.specs.declared.ty.Ty.{Ty}
use Rattle.enc_modes.specs.declared.ty.Ty.TheVariants as ty
use Rattle.enc_modes.specs.Order.{Group, Cap, in_order}
use Rattle.enc_premises.specs.Premises.{premise, ◌⨾◌, each, if_known}
use Rattle.enc_ast.specs.declared.rules.Reject.{Reject}
use Rattle.enc_ast.specs.declared.rules.Fail.TheVariants as fail
use Rattle.enc_premises.specs.Passing.{Agrees, first}
use Rattle.enc_premises.proofs.Listed.{hold_first}
use Rattle.enc_premises.specs.First.{AllHold, nothing, one, join}
use Rattle.enc_types.specs.declared.names.Meaning.{Meaning}
use Rattle.enc_types.specs.declared.names.Meaning.TheVariants as is
use Rattle.enc_types.specs.Words.{every, all_there, add_one}
use Rattle.enc_types.specs.Names.{Names, found, trait_named}
use Rattle.enc_types.specs.Written.{Written, written, write_form, write_node, made, where_it, named_type, only_group, type_named, type_of_groups, alone_layer, is_type, is_composed, are_traits, are_types, names_fit, many_names, group_premises, several, cap_written, type_of, type_premises}

-- ---- names

-- where all are there, each is there
every_there : {A B : Type 0} (f : A → Option B) (xs : List A) (ys : List B) → all_there f xs ≡ Some ys → every (λ x. is_some (f x)) xs ≡ true
every_there f [] ys e = refl
every_there {B = B} f (x ∷ xs) ys e = go (f x) (all_there f xs) (every_there f xs) e
  where
    go : (o : Option B) (p : Option (List B)) → ((zs : List B) → p ≡ Some zs → every (λ x. is_some (f x)) xs ≡ true) → add_one o p ≡ Some ys → (is_some o && every (λ x. is_some (f x)) xs) ≡ true
    go None p k r = absurd (cc)
    go (Some y) None k r = absurd (cc)
    go (Some y) (Some zs) k r = k zs refl

-- what has a type by itself is a trait or a class
alone_type : (p : Option (ℕ × Meaning)) (t : Ty) → option_and_then alone_layer p ≡ Some t → is_type p ≡ true
alone_type None t e = absurd (cc)
alone_type (Some (k, is.Trait m)) t e = refl
alone_type (Some (k, is.Class c)) t e = refl
alone_type (Some (k, is.Active)) t e = refl
alone_type (Some (k, is.Fun)) t e = absurd (cc)

-- a name that stands for a type is one of a trait or a class
named_is_type : (names : Names) (x : List ℕ) (t : Ty) → type_named names x ≡ Some t → is_type (found names x) ≡ true
unfolding type_named
named_is_type names x t e = alone_type (found names x) t e

-- where each name of a group has its trait, each is one of a trait
traits_there : (names : Names) (g : GroupText) (alts : Group) → all_there (λ n. trait_named names n.word) g.names ≡ Some alts → are_traits names g ≡ true
unfolding are_traits
traits_there names g alts e = every_there (λ n. trait_named names n.word) g.names alts e

-- a group whose names fit may be written
group_holds : (names : Names) (many : Bool) (g : GroupText) → names_fit names many g ≡ true → AllHold (group_premises names many g)
unfolding group_premises
group_holds names many g e = one e

-- where all traits are there, the groups may be written
groups_hold : (names : Names) (gs : List GroupText) (cap : Cap) → all_there (λ g. all_there (λ n. trait_named names n.word) g.names) gs ≡ Some cap → AllHold (each (group_premises names true) gs)
groups_hold names [] all e = nothing
groups_hold names (g ∷ gs) all e = go (all_there (λ n. trait_named names n.word) g.names) (all_there (λ g. all_there (λ n. trait_named names n.word) g.names) gs) refl (groups_hold names gs) e
  where
    go : (o : Option Group) (p : Option Cap) → all_there (λ n. trait_named names n.word) g.names ≡ o → ((rest : Cap) → p ≡ Some rest → AllHold (each (group_premises names true) gs)) → add_one o p ≡ Some all → AllHold (group_premises names true g ⨾ each (group_premises names true) gs)
    go None p q k r = absurd (cc)
    go (Some alts) None q k r = absurd (cc)
    go (Some alts) (Some rest) q k r = join (group_holds names true g (traits_there names g alts q)) (k rest refl)

-- the traits of several groups, whose type is known
groups_there : (names : Names) (gs : List GroupText) (t : Ty) → type_of_groups names gs ≡ Some t → (cap : Cap) × (all_there (λ g. all_there (λ n. trait_named names n.word) g.names) gs ≡ Some cap)
groups_there names gs t e = go (λ groups. ty.Cap (in_order groups)) (all_there (λ g. all_there (λ n. trait_named names n.word) g.names) gs) refl e
  where
    go : (f : Cap → Ty) (o : Option Cap) → all_there (λ g. all_there (λ n. trait_named names n.word) g.names) gs ≡ o → option_map f o ≡ Some t → (cap : Cap) × (all_there (λ g. all_there (λ n. trait_named names n.word) g.names) gs ≡ Some cap)
    go f None q r = absurd (cc)
    go f (Some groups) q r = (groups, q)

-- several names in one group, whose type is known, are of traits
group_there : (names : Names) (g : GroupText) (t : Ty) → type_of_groups names (g ∷ []) ≡ Some t → are_traits names g ≡ true
group_there names g t e = let known = groups_there names (g ∷ []) t e in go (all_there (λ n. trait_named names n.word) g.names) known.0 refl known.1
  where
    go : (o : Option Group) (cap : Cap) → all_there (λ n. trait_named names n.word) g.names ≡ o → add_one o (Some []) ≡ Some cap → are_traits names g ≡ true
    go None cap q r = absurd (cc)
    go (Some alts) cap q r = traits_there names g alts q

-- a single name that stands for a type may be written, and several where each is one of a trait
one_group : (names : Names) (g : GroupText) (ns : List Name) (t : Ty) → g.names ≡ ns → only_group names g ns ≡ Some t → names_fit names (many_names ns) g ≡ true
unfolding are_types
one_group names g [] t q e = ap (every (λ n. is_type (found names n.word))) q
one_group names g (x ∷ []) t q e = ap (every (λ n. is_type (found names n.word))) q ∙ ap (λ z. z && true) (named_is_type names x.word t e)
one_group names g (x ∷ y ∷ ns) t q e = group_there names g t e

-- what groups stand for is known only where they may be written
named_holds : (names : Names) (gs : List GroupText) (t : Ty) → named_type names gs ≡ Some t → AllHold (each (group_premises names (several gs)) gs)
named_holds names [] t e = nothing
named_holds names (g ∷ []) t e = join (group_holds names (many_names g.names) g (one_group names g g.names t refl e)) nothing
named_holds names (g ∷ h ∷ gs) t e = let known = groups_there names (g ∷ h ∷ gs) t e in groups_hold names (g ∷ h ∷ gs) known.0 known.1

-- ---- types

-- it is known only where what is asked of it holds
abbrev Known : Written → Type 0
Known w = (t : Ty) → w.ty ≡ Some t → AllHold w.premises

-- what is made of a part that is known is known only where the part holds
known_made : (f : Ty → Bool) (make : Ty → Option Ty) (w : Written) (s : Span) → Known w → Known (made f make w s)
known_made f make w s k t e = go w.ty (k) e
  where
    held : (b : Bool) (v : Ty) → option_and_then make (cond b (Some v) None) ≡ Some t → b ≡ true
    held true v e = refl
    held false v e = absurd (cc)

    go : (o : Option Ty) → ((v : Ty) → o ≡ Some v → AllHold w.premises) → option_and_then make (where_it f o) ≡ Some t → AllHold (w.premises ⨾ premise rule.KSig s (if_known f o))
    go None k e = absurd (cc)
    go (Some v) k e = join (k v refl) (one (held (f v) v e))

-- a capability type is known only where its groups may be written
known_cap : (names : Names) (gs : List GroupText) (s : Span) → Known (cap_written names gs s)
known_cap names gs s t e = go (named_type names gs) refl e
  where
    held : (b : Bool) (v : Ty) → cond b (Some v) None ≡ Some t → b ≡ true
    held true v e = refl
    held false v e = absurd (cc)

    go : (o : Option Ty) → named_type names gs ≡ o → where_it is_composed o ≡ Some t → AllHold (each (group_premises names (several gs)) gs ⨾ premise rule.KSig s (if_known is_composed o))
    go None q e = absurd (cc)
    go (Some v) q e = join (named_holds names gs v q) (one (held (is_composed v) v e))

-- by induction on the text of the type
module _ (names : Names) where
  -- what is written by a form
  abbrev form_written : TypeForm → Span → Written
  form_written = fold-TypeForm (Span → Written) Written (write_form names) write_node

  -- what is written by an outer level is known only where it holds
  abbrev KnownLayer : TypeForm-F TypeForm TypeText → Type 0
  KnownLayer l = (s : Span) → Known (write_form names (map-TypeForm TypeForm TypeText (Span → Written) Written form_written (fold-TypeText (Span → Written) Written (write_form names) write_node) l) s)

  -- the same of a whole type, by its outer level
  known_text : (t : TypeText) → KnownLayer (out-TypeForm t.form) → Known (fold-TypeText (Span → Written) Written (write_form names) write_node t)
  known_text t k = subst Known (sym (fold_out-TypeText (Span → Written) Written (write_form names) write_node t ∙ ap (λ z. z t.span) (fold_out-TypeForm (Span → Written) Written (write_form names) write_node t.form))) (k t.span)

  -- forms of which it is so
  abbrev F : Type 0
  F = (form : TypeForm) × KnownLayer (out-TypeForm form)

  -- types of which it is so
  abbrev E : Type 0
  E = (t : TypeText) × KnownLayer (out-TypeForm t.form)

  -- it is so of a level whose parts are so
  known_form : (y : TypeForm-F F E) → KnownLayer (map-TypeForm F E TypeForm TypeText (λ z. z.0) (λ z. z.0) y)
  known_form TypeForm-F.Int = λ s t e. nothing
  known_form TypeForm-F.Bool = λ s t e. nothing
  known_form TypeForm-F.Text = λ s t e. nothing
  known_form TypeForm-F.Unit = λ s t e. nothing
  known_form (TypeForm-F.Fut p) = λ s. known_made _ _ _ s (known_text p.0 p.1)
  known_form (TypeForm-F.Par p) = λ s. known_made _ _ _ s (known_text p.0 p.1)
  known_form (TypeForm-F.List p) = λ s. known_made _ _ _ s (known_text p.0 p.1)
  known_form (TypeForm-F.Bestowed p) = λ s. known_made _ _ _ s (known_text p.0 p.1)
  known_form (TypeForm-F.Cap gs) = known_cap names gs

  -- it is so of each form
  known_all : (form : TypeForm) → KnownLayer (out-TypeForm form)
  known_all = ind-TypeForm (λ form. KnownLayer (out-TypeForm form)) (λ t. KnownLayer (out-TypeForm t.form))
      (λ x y is. subst KnownLayer (is ∙ sym (out-roll-TypeForm x)) (known_form y))
      (λ x y is. subst (λ z. KnownLayer (out-TypeForm z.form)) is y.form.1)

-- where a written type stands for a type, all that is asked of it holds
pub known_holds : (names : Names) (text : TypeText) (t : Ty) → type_of names text ≡ Some t → AllHold (type_premises names text)
unfolding written
known_holds names text t e = known_text names text (known_all names text.form) t e

-- a written type that is refused stands for no type
pub refused : (names : Names) (text : TypeText) (r : Reject) → Agrees (Some (fail.Reject r)) (type_premises names text) → type_of names text ≡ None
unfolding Agrees
refused names text r p = go (type_of names text) (λ t e. hold_first (type_premises names text) (known_holds names text t e))
  where
    go : (o : Option Ty) → ((t : Ty) → o ≡ Some t → first (type_premises names text) ≡ None) → o ≡ None
    go None k = refl
    go (Some t) k = let q : None ≡ Some r = sym (k t refl) ∙ p in absurd (cc)

pub ruleset refusals = (refused)
