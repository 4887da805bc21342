-- The parsers of types are lawful.
use Rattle.std.proofs.Common.{◌≡◌, ℕ, zero, suc, ◌+◌, Bool, true, false, List, [], ◌∷◌, refl, sym, ap, subst, ◌∙◌, inl, inr, arith}
use Rattle.enc_ast.specs.declared.rules.Span.{Span}
use Rattle.enc_lex.specs.declared.kinds.Kind.TheVariants as k
use Rattle.enc_ast.specs.declared.decls.Name.{Name}
use Rattle.enc_ast.specs.declared.decls.GroupText.{GroupText}
use Rattle.enc_ast.specs.declared.TypeText.{TypeText}
use Rattle.enc_ast.specs.declared.TypeForm.{TypeForm}
use Rattle.enc_ast.specs.declared.TypeForm.TheVariants as ty
use Rattle.enc_cursor.specs.Counts.{plain, trait_, group_rules, end_groups, end_traits}
use Rattle.enc_cursor.specs.Limits.{Limits, with_brackets, allowed}
use Rattle.enc_cursor.specs.Place.{Place, is, extent}
use Rattle.enc_cursor.specs.Stretch.{Stretch, IsMarked, by_kind, the, IsToken, IsOpeningBy, Separated, After, Before, OpenedBy, Opened, Closed, Spanned}
use Rattle.enc_cursor.specs.Steps.{Parser, can}
use Rattle.enc_cursor.proofs.Lawful.{Lawful, Later, later_then, Sample, none_of, with_sets}
use Rattle.enc_cursor.proofs.Sequence.{as_lawful}
use Rattle.enc_cursor.proofs.Tokens.{marked_later}
use Rattle.enc_cursor.proofs.Names.{kind_token_lawful, token_later, opening_later, later3}
use Rattle.enc_cursor.proofs.Openings.{Inside, opener_of, opened_by_lawful, opened_lawful}
use Rattle.enc_cursor.proofs.Endings.{closed_lawful, closed_later}
use Rattle.enc_cursor.proofs.Sets.{clear, within}
use Rattle.enc_cursor.proofs.Words.{Image, Union, Made, made_lawful, after_lawful, before_lawful, image_lawful, union_lawful, separated_lawful, spanned_law}
use Rattle.enc_cursor.proofs.Inside.{inside_of, inside_before, separated_later}
use Rattle.enc_terms.specs.Names.{IsNameAs}
use Rattle.enc_terms.specs.Words.{plain_type, wrapper, wrapped}
use Rattle.enc_terms.specs.declared.words.Wrapper.TheVariants as wrappers
use Rattle.enc_terms.specs.Types as g
use Rattle.enc_terms.specs.Types.{IsGroup, IsDisjunction, IsClassGroups, IsCap, IsType, group_of, type_of}
use Rattle.enc_terms.specs.Sets.{begins_group, begins_type, extends_type}
use Rattle.enc_terms.specs.TypeReading.{or_names, disjunction, several, single, group_names, group, groups, class_groups, with_span, cap_form, cap, of_type, type_form, type_within, type_inside, type_text}
use Rattle.enc_terms.proofs.NameLaws.{trait_law, group_name_law, named_later}

-- ---- groups

-- two names or more, within brackets
abbrev SeveralOf : List ℕ → List Name → Stretch
SeveralOf text = Before k.CloseParen (Closed end_traits (Made (λ x xs. x ∷ xs) (IsNameAs trait_ text) (After k.Or (Separated k.Or (IsNameAs trait_ text)))))

-- the names of a group
abbrev GroupNames : List ℕ → Bool → ℕ → List Name → Stretch
GroupNames text of_a_class n = Union (OpenedBy ((group_rules of_a_class).opener n) k.OpenParen (SeveralOf text)) (Image (λ x. x ∷ []) (IsNameAs (group_rules of_a_class).name text))

module _ (text : List ℕ) (of_a_class : Bool) where
  -- close makes a disjunction of the names that were read
  several_made : (n : ℕ) (x : Name) (xs : List Name) (a o d f c m b : Place) → IsOpeningBy ((group_rules of_a_class).opener n) k.OpenParen tt a o → IsNameAs trait_ text x o d → IsToken k.Or d f → Separated k.Or (IsNameAs trait_ text) xs f c
      → ((l : List Name) → Separated k.Or (IsNameAs trait_ text) l o c → IsDisjunction text l o m) → IsToken k.CloseParen m b → IsGroup text of_a_class n (group_of (x ∷ xs) a b) a b
  several_made n x [] a o d f c m b t s u v close w = absurd v
  several_made n x (y ∷ ys) a o d f c m b t s u v close w = g.several m t (close (x ∷ y ∷ ys) (d, s, (v.0, (f, u, v.1), v.2))) w

  group_made : (n : ℕ) (names : List Name) (a b : Place) → GroupNames text of_a_class n names a b → IsGroup text of_a_class n (group_of names a b) a b
  group_made n names a b (inl (o, t, (m, (c, (x, xs, d, e, s, (f, u, v)), r), w))) =
      subst (λ (l : List Name). IsGroup text of_a_class n (group_of l a b) a b) e (several_made n x xs a o d f c m b t s u v (λ l h. (c, h, r)) w)
  group_made n names a b (inr (x, e, s)) = subst (λ (l : List Name). IsGroup text of_a_class n (group_of l a b) a b) e (g.single s)

  group_cases : {n : ℕ} {x : GroupText} {a b : Place} → IsGroup text of_a_class n x a b → Image (λ x. record { names = x.0; span = x.1 }) (Spanned (GroupNames text of_a_class n)) x a b
  group_cases (g.single {n} {x} {a} {b} s) = ((x ∷ [], extent a b), refl, (inr (x, refl, s), refl))
  group_cases (g.several {n} {x} {y} {xs} {a} {b} c {d} t (m, s, r) u) = ((x ∷ y ∷ xs, extent a d), refl, (inl (b, t, (c, (m, (x, y ∷ xs, s.0, refl, s.1, (s.2.1.0, s.2.1.1, (s.2.0, s.2.1.2, s.2.2))), r), u)), refl))

  pub group_later : {n : ℕ} {x : GroupText} {a b : Place} → IsGroup text of_a_class n x a b → Later a b
  group_later (g.single {n} {x} {a} {b} s) = named_later (group_rules of_a_class).name text a b x s
  group_later (g.several {n} {x} {y} {xs} {a} {b} c {d} t s u) = later3 a b c d (marked_later ((group_rules of_a_class).opener n) (the k.OpenParen) tt a b t) (closed_later (λ a b xs s. separated_later (named_later trait_ text) k.Or a b xs s) end_traits b c (x ∷ y ∷ xs) s) (token_later k.CloseParen c d u)

pub or_names_law : {L : Limits} (text : List ℕ) → Lawful L (Separated k.Or (IsNameAs trait_ text)) (is k.Name) (is k.Or) (or_names text L.counts)
unfolding or_names
or_names_law text = with_sets (separated_lawful k.Or (trait_law text) refl (clear _ _ refl)) (within _ _ refl) (clear _ _ refl)

module _ (L : Limits) (text : List ℕ) (n room : ℕ) (fits : n + room ≡ L.brackets) where
  pub group_law : (of_a_class : Bool) → Lawful L (IsGroup text of_a_class n) begins_group none_of (group text L.counts of_a_class room)
  unfolding group group_names several single disjunction
  group_law of_a_class = with_sets (as_lawful (λ x. record { names = x.0; span = x.1 }) (IsGroup text of_a_class n)
      (λ x a b s. subst (λ (v : Span). IsGroup text of_a_class n (record { names = x.0; span = v }) a b) (sym s.1) (group_made text of_a_class n x.0 a b s.0)) (λ x a b s. group_cases text of_a_class s)
      (spanned_law (union_lawful (is k.OpenParen)
      (opened_by_lawful (opener_of of_a_class n room k.OpenParen fits) (inside_of room (before_lawful k.CloseParen (closed_lawful end_traits (made_lawful (λ x xs. x ∷ xs) (trait_law text) (after_lawful k.Or (or_names_law text)) (clear _ _ refl))) (clear _ _ refl))))
      (image_lawful (λ x. x ∷ []) (group_name_law text of_a_class)) (within _ _ refl) (clear _ _ refl)) refl refl)) (within _ _ refl) (clear _ _ refl)

  pub groups_law : (of_a_class : Bool) → Lawful L (Separated k.And (IsGroup text of_a_class n)) begins_group extends_type (groups text L.counts of_a_class room)
  unfolding groups
  groups_law of_a_class = with_sets (separated_lawful k.And (group_law of_a_class) refl (clear _ _ refl)) (within _ _ refl) (clear _ _ refl)

  cap_made : (x : TypeForm × Span) (a b : Place) → Spanned (Image ty.Cap (Separated k.And (IsGroup text false n))) x a b → IsCap text n (with_span x) a b
  cap_made x a b s = (s.0.0, ap (λ (f : TypeForm). type_of f a b) s.0.1 ∙ ap (λ (v : Span). with_span (x.0, v)) (sym s.1), s.0.2)

  pub cap_law : Lawful L (IsCap text n) begins_group extends_type (cap text L.counts room)
  unfolding cap cap_form
  cap_law = as_lawful with_span (IsCap text n) cap_made (λ x a b s. ((ty.Cap s.0, extent a b), s.1, ((s.0, refl, s.2), refl))) (spanned_law (image_lawful ty.Cap (groups_law false)) refl refl)

-- the groups of a class
pub class_groups_law : (L : Limits) (text : List ℕ) (room : ℕ) → 0 + room ≡ L.brackets → Lawful L (IsClassGroups text) begins_group extends_type (class_groups text L.counts room)
unfolding class_groups
class_groups_law L text room fits = closed_lawful end_groups (groups_law L text 0 room fits true)

-- ---- types

-- what a type says
abbrev TypeFormOf : List ℕ → ℕ → TypeForm → Stretch
TypeFormOf text n = Union (IsMarked plain (by_kind plain_type)) (Union (Made wrapped (IsMarked plain (by_kind wrapper)) (Opened n k.OpenBracket (Before k.CloseBracket (IsType text (suc n))))) (Image ty.Cap (Separated k.And (IsGroup text false n))))

module _ (text : List ℕ) where
  type_made : (n : ℕ) (f : TypeForm) (a b : Place) → TypeFormOf text n f a b → IsType text n (type_of f a b) a b
  type_made n f a b (inl s) = g.simple s
  type_made n f a b (inr (inl (w, x, c, e, s, (d, t, (m, u, v))))) = subst (λ (f : TypeForm). IsType text n (type_of f a b) a b) e (g.of_type s t u v)
  type_made n f a b (inr (inr (xs, e, s))) = g.cap (xs, ap (λ (f : TypeForm). type_of f a b) e, s)

  type_cases : {n : ℕ} {x : TypeText} {a b : Place} → IsType text n x a b → Image with_span (Spanned (TypeFormOf text n)) x a b
  type_cases (g.simple {n} {form} {a} {b} s) = ((form, extent a b), refl, (inl s, refl))
  type_cases (g.of_type {n} {w} {x} {a} {b} {c} {d} {e} s t u v) = ((wrapped w x, extent a e), refl, (inr (inl (w, x, b, refl, s, (c, t, (d, u, v)))), refl))
  type_cases (g.cap {n} {x} {a} {b} (xs, e, s)) = ((ty.Cap xs, extent a b), e, (inr (inr (xs, refl, s)), refl))

  pub type_later : {n : ℕ} {x : TypeText} {a b : Place} → IsType text n x a b → Later a b
  type_later (g.simple {n} {form} {a} {b} s) = marked_later plain (by_kind plain_type) form a b s
  type_later (g.of_type {n} {w} {x} {a} {b} {c} {d} {e} s t u v) = later3 a b c e (marked_later plain (by_kind wrapper) w a b s) (opening_later n k.OpenBracket b c t) (later_then c d e (type_later u) (token_later k.CloseBracket d e v))
  type_later (g.cap {n} {x} {a} {b} (xs, e, s)) = separated_later (λ a b x s. group_later text false s) k.And a b xs s

  pub type_sample : (n : ℕ) → Sample (IsType text n)
  type_sample n = let s = (kind_token_lawful {L = with_brackets 0 allowed} plain_type k.TypeInt ty.Int refl).sample in (s.0, λ a r l. let h = s.1 a r l in (_, h.1, h.2, g.simple h.3))

pub type_within_law : (L : Limits) (text : List ℕ) (n room : ℕ) → n + room ≡ L.brackets → {inner : Parser TypeText} → Inside L room (IsType text (suc n)) begins_type extends_type inner → Lawful L (IsType text n) begins_type extends_type (type_within text L.counts room inner)
unfolding type_within type_form of_type cap_form
type_within_law L text n room fits law = with_sets (as_lawful with_span (IsType text n)
    (λ x a b s. subst (λ (v : Span). IsType text n (with_span (x.0, v)) a b) (sym s.1) (type_made text n x.0 a b s.0)) (λ x a b s. type_cases text s)
    (spanned_law (union_lawful (can plain_type) (kind_token_lawful plain_type k.TypeInt ty.Int refl)
    (union_lawful (can wrapper) (made_lawful wrapped (kind_token_lawful wrapper k.Fut wrappers.Fut refl) (opened_lawful n room k.OpenBracket fits (inside_before k.CloseBracket law (clear _ _ refl))) (clear _ _ refl))
    (image_lawful ty.Cap (groups_law L text n room fits false)) (within _ _ refl) (clear _ _ refl)) (within _ _ refl) (clear _ _ refl)) refl refl)) (within _ _ refl) (clear _ _ refl)

-- a type inside brackets
pub type_inside_law : (L : Limits) (text : List ℕ) (n room : ℕ) → n + room ≡ L.brackets → Inside L room (IsType text (suc n)) begins_type extends_type (type_inside text L.counts room)
unfolding type_inside
type_inside_law L text n zero fits = record { law = λ r e. absurd (omega arith); later = λ a b x s. type_later text s; sample = type_sample text (suc n) }
type_inside_law L text n (suc m) fits = inside_of (suc m) (let h : suc n + m ≡ L.brackets = omega arith in type_within_law L text (suc n) m h (type_inside_law L text (suc n) m h))

pub type_law : (L : Limits) (text : List ℕ) (n room : ℕ) → n + room ≡ L.brackets → Lawful L (IsType text n) begins_type extends_type (type_text text L.counts room)
unfolding type_text
type_law L text n room fits = type_within_law L text n room fits (type_inside_law L text n room fits)
