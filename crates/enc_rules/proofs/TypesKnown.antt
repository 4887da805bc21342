-- A written type that may be written is known, where the groups of all classes are.
use Rattle.std.proofs.Common.{◌≡◌, ◌∙◌, ℕ, Bool, true, ◌&&◌, cond, List, [], ◌∷◌, Option, Some, None, is_some, option_map, option_and_then, refl, sym, ap, subst, arith}
use Rattle.enc_ast.specs.declared.rules.Span.{Span}
use Rattle.enc_ast.specs.declared.decls.Name.{Name}
use Rattle.enc_ast.specs.declared.decls.GroupText.{GroupText}
use Rattle.enc_ast.specs.declared.TypeText.{TypeText}
use Rattle.enc_ast.specs.declared.TypeForm.{TypeForm, out-TypeForm}
use Rattle.enc_ast.specs.declared.TypeForm.TheOpen.{TypeForm-F}
use Rattle.enc_ast.specs.declared.TypeForm.TheViews.{out-roll-TypeForm}
use Rattle.enc_ast.specs.declared.TypeForm.TheFolds.{map-TypeForm, fold-TypeForm, fold-TypeText, fold_out-TypeForm, fold_out-TypeText, ind-TypeForm}
use Rattle.enc_modes.specs.declared.ty.Ty.{Ty}
use Rattle.enc_modes.specs.declared.ty.Ty.TheVariants as ty
use Rattle.enc_modes.specs.Order.{Cap}
use Rattle.enc_premises.specs.Premises.{each, if_known}
use Rattle.enc_premises.specs.First.{AllHold, nothing, one, join}
use Rattle.enc_types.specs.declared.names.Meaning.{Meaning}
use Rattle.enc_types.specs.declared.names.Meaning.TheVariants as is
use Rattle.enc_types.specs.Words.{every, all_there, add_one}
use Rattle.enc_types.specs.Names.{Names, found, trait_named}
use Rattle.enc_types.specs.Written.{type_of, type_premises, Written, written, write_form, write_node, made, where_it, named_type, only_group, type_named, type_of_groups, alone_layer, is_type, is_composed, are_traits, are_types, many_names, group_premises, several, cap_written, local_of}
use Rattle.enc_rules.proofs.SourcesSound.{both_true}

-- a written type that may be written is known
abbrev pub AreKnown : Names → Type 0
AreKnown names = (t : TypeText) → AllHold (type_premises names t) → is_some (type_of names t) ≡ true

-- the groups of each class are known
abbrev pub ClassesKnown : Names → Type 0
ClassesKnown names = (x : List ℕ) (k : ℕ) (c : Option Cap) → found names x ≡ Some (k, is.Class c) → is_some c ≡ true

-- ---- names

-- where each is there, all are there
pub all_there_known : {A B : Type 0} (f : A → Option B) (xs : List A) → every (λ x. is_some (f x)) xs ≡ true → is_some (all_there f xs) ≡ true
all_there_known f [] h = refl
all_there_known {B = B} f (x ∷ xs) h =
    let b = both_true (is_some (f x)) (every (λ z. is_some (f z)) xs) h in
    go (f x) (all_there f xs) b.0 (all_there_known f xs b.1)
  where
    go : (o : Option B) (p : Option (List B)) → is_some o ≡ true → is_some p ≡ true → is_some (add_one o p) ≡ true
    go None p e q = absurd (grind arith)
    go (Some y) None e q = absurd (grind arith)
    go (Some y) (Some ys) e q = refl

-- what is made of what is there is there
pub mapped_known : {A B : Type 0} (f : A → B) (o : Option A) → is_some o ≡ true → is_some (option_map f o) ≡ true
mapped_known f None h = absurd (grind arith)
mapped_known f (Some x) h = refl

-- a trait or a class by itself
alone_known : (o : Option (ℕ × Meaning)) → ((k : ℕ) (c : Option Cap) → o ≡ Some (k, is.Class c) → is_some c ≡ true) → is_type o ≡ true → is_some (option_and_then alone_layer o) ≡ true
alone_known None k h = absurd (grind arith)
alone_known (Some (n, is.Trait m)) k h = refl
alone_known (Some (n, is.Class c)) k h = mapped_known ty.Cap c (k n c refl)
alone_known (Some (n, is.Active)) k h = refl
alone_known (Some (n, is.Fun)) k h = absurd (grind arith)

-- traits in groups
groups_known : (names : Names) (gs : List GroupText) → AllHold (each (group_premises names true) gs) → every (λ g. is_some (all_there (λ n. trait_named names n.word) g.names)) gs ≡ true
unfolding group_premises are_traits
groups_known names [] h = refl
groups_known names (g ∷ gs) (join (one h) i) = rw (all_there_known (λ n. trait_named names n.word) g.names h, groups_known names gs i) refl

-- the type of several traits
several_known : (names : Names) (gs : List GroupText) → AllHold (each (group_premises names true) gs) → is_some (type_of_groups names gs) ≡ true
several_known names gs h = mapped_known _ _ (all_there_known _ gs (groups_known names gs h))

-- the type of one group
only_known : (names : Names) (k : ClassesKnown names) (g : GroupText) → AllHold (group_premises names (many_names g.names) g) → is_some (only_group names g g.names) ≡ true
unfolding group_premises are_types type_named
only_known names k g h = go g.names refl h
  where
    go : (ns : List Name) → g.names ≡ ns → AllHold (group_premises names (many_names ns) g) → is_some (only_group names g ns) ≡ true
    go [] e h = rw e refl
    go (x ∷ []) e (one h) =
        let t : (is_type (found names x.word) && true) ≡ true = rw e at h in
        alone_known (found names x.word) (k x.word) (both_true (is_type (found names x.word)) true t).0
    go (x ∷ y ∷ ns) e h = several_known names (g ∷ []) (join h nothing)

-- the type of groups
named_known : (names : Names) (k : ClassesKnown names) (gs : List GroupText) → AllHold (each (group_premises names (several gs)) gs) → is_some (named_type names gs) ≡ true
named_known names k [] h = refl
named_known names k (g ∷ []) (join h i) = only_known names k g h
named_known names k (g ∷ j ∷ gs) h = several_known names (g ∷ j ∷ gs) h

-- ---- written types

-- it is known where what is asked of it holds
abbrev Known : Written → Type 0
Known w = AllHold w.premises → is_some w.ty ≡ true

-- what is made of a known type of which something holds
where_known : (f : Ty → Bool) (make : Ty → Option Ty) → ((v : Ty) → f v ≡ true → is_some (make v) ≡ true) → (o : Option Ty) → is_some o ≡ true → if_known f o ≡ true → is_some (option_and_then make (where_it f o)) ≡ true
where_known f make k None h m = absurd (grind arith)
where_known f make k (Some v) h m = subst (λ b. is_some (option_and_then make (cond b (Some v) None)) ≡ true) (sym m) (k v m)

-- a type that is made of a part
made_known : (f : Ty → Bool) (make : Ty → Option Ty) (w : Written) (s : Span) → ((v : Ty) → f v ≡ true → is_some (make v) ≡ true) → Known w → Known (made f make w s)
made_known f make w s k j (join h (one m)) = where_known f make k w.ty (j h) m

-- nothing is made of it
same_option : (o : Option Ty) → option_and_then (λ v. Some v) o ≡ o
same_option None = refl
same_option (Some v) = refl

-- a capability type, or a class
cap_known : (names : Names) (k : ClassesKnown names) (gs : List GroupText) (s : Span) → Known (cap_written names gs s)
cap_known names k gs s (join h (one m)) = subst (λ o. is_some o ≡ true) (same_option _) (where_known is_composed (λ v. Some v) (λ v e. refl) (named_type names gs) (named_known names k gs h) m)

module _ (names : Names) (classes : ClassesKnown names) where
  -- what a form is written as
  abbrev form_written : TypeForm → Span → Written
  form_written = fold-TypeForm (Span → Written) Written (write_form names) write_node

  -- a layer is known where what is asked of it holds
  abbrev KnownLayer : TypeForm-F TypeForm TypeText → Type 0
  KnownLayer l = (s : Span) → Known (write_form names (map-TypeForm TypeForm TypeText (Span → Written) Written form_written (fold-TypeText (Span → Written) Written (write_form names) write_node) l) s)

  -- a written type by its layer
  known_text : (t : TypeText) → KnownLayer (out-TypeForm t.form) → Known (fold-TypeText (Span → Written) Written (write_form names) write_node t)
  known_text t k = subst Known (sym (fold_out-TypeText (Span → Written) Written (write_form names) write_node t ∙ ap (λ z. z t.span) (fold_out-TypeForm (Span → Written) Written (write_form names) write_node t.form))) (k t.span)

  -- forms that are known
  abbrev F : Type 0
  F = (form : TypeForm) × KnownLayer (out-TypeForm form)

  -- written types that are known
  abbrev E : Type 0
  E = (t : TypeText) × KnownLayer (out-TypeForm t.form)

  -- a layer of what is known
  known_form : (y : TypeForm-F F E) → KnownLayer (map-TypeForm F E TypeForm TypeText (λ z. z.0) (λ z. z.0) y)
  known_form TypeForm-F.Int = λ s h. refl
  known_form TypeForm-F.Bool = λ s h. refl
  known_form TypeForm-F.Text = λ s h. refl
  known_form TypeForm-F.Unit = λ s h. refl
  known_form (TypeForm-F.Fut p) = λ s. made_known _ _ _ s (λ v e. refl) (known_text p.0 p.1)
  known_form (TypeForm-F.Par p) = λ s. made_known _ _ _ s (λ v e. refl) (known_text p.0 p.1)
  known_form (TypeForm-F.List p) = λ s. made_known _ _ _ s (λ v e. refl) (known_text p.0 p.1)
  known_form (TypeForm-F.Bestowed p) = λ s. made_known _ _ _ s (λ v e. mapped_known ty.Bestowed (local_of v) e) (known_text p.0 p.1)
  known_form (TypeForm-F.Cap gs) = cap_known names classes gs

  -- each form is known
  known_all : (form : TypeForm) → KnownLayer (out-TypeForm form)
  known_all = ind-TypeForm (λ form. KnownLayer (out-TypeForm form)) (λ t. KnownLayer (out-TypeForm t.form))
      (λ x y is. subst KnownLayer (is ∙ sym (out-roll-TypeForm x)) (known_form y))
      (λ x y is. subst (λ z. KnownLayer (out-TypeForm z.form)) is y.form.1)

  -- a written type that may be written
  pub types_known : AreKnown names
  unfolding written
  types_known text h = known_text text (known_all text.form) h
