-- The parsers of atoms, and of what an operator makes of one, are lawful.
use Rattle.std.proofs.Common.{◌≡◌, ℕ, suc, pos, ◌+◌, Bool, true, false, List, Some, refl, sym, ap, subst, ◌∙◌, inl, inr, ◌⊎◌}
use Rattle.std.specs.Prelude.{◌||◌}
use Rattle.enc_ast.specs.declared.rules.Span.{Span}
use Rattle.enc_ast.specs.declared.Expr.{Expr}
use Rattle.enc_ast.specs.declared.ExprForm.{ExprForm}
use Rattle.enc_ast.specs.declared.ExprForm.TheVariants as e
use Rattle.enc_lex.specs.declared.kinds.Kind.{Kind}
use Rattle.enc_lex.specs.declared.kinds.Kind.TheVariants as k
use Rattle.enc_lex.specs.Values.{bytes_at, int_of, text_of, word_of}
use Rattle.enc_cursor.specs.Counts.{Rule, plain, word}
use Rattle.enc_cursor.specs.Limits.{Limits}
use Rattle.enc_cursor.specs.Place.{Tokens, Spot, Place, same_kind, is, start, start_at, extent}
use Rattle.enc_cursor.specs.Stretch.{Stretch, given, span_of, by_kind, IsMarked, IsToken, IsSpan, IsOneOf, After, Before, Separated, Opened, Spanned}
use Rattle.enc_cursor.specs.Steps.{Outcome, Got, Wrong, Over, Parser, Set, and_then, ◌<$>◌, ◌>>=◌, ◌▹◌, ◌◃◌, ◌⊗◌, can}
use Rattle.enc_cursor.specs.Counted.{kind_token, opened}
use Rattle.enc_cursor.proofs.Lawful.{Lawful, none_of, with_sets, law_of_same}
use Rattle.enc_cursor.proofs.Tokens.{span_token_lawful}
use Rattle.enc_cursor.proofs.Names.{kind_token_lawful, operator_lawful}
use Rattle.enc_cursor.proofs.Choice.{pick_lawful, only_lawful}
use Rattle.enc_cursor.proofs.Words.{Pair, Image, Union, pair_lawful, image_lawful, union_lawful, spanned_law}
use Rattle.enc_cursor.proofs.Openings.{Inside, opened_lawful}
use Rattle.enc_cursor.proofs.Inside.{inside_before, inside_after, inside_pair, inside_separated}
use Rattle.enc_cursor.proofs.Sets.{clear, within}
use Rattle.enc_terms.specs.declared.words.Prefix.TheVariants as prefixes
use Rattle.enc_terms.specs.declared.words.Typed.TheVariants as typeds
use Rattle.enc_terms.specs.declared.words.Single.TheVariants as singles
use Rattle.enc_terms.specs.declared.words.Double.TheVariants as doubles
use Rattle.enc_terms.specs.Words.{prefix, prefixed, constant, typed, value_of_type, single, of_one, double, of_two}
use Rattle.enc_terms.specs.Names.{name_at, IsNameAs}
use Rattle.enc_terms.specs.Types.{IsType}
use Rattle.enc_terms.specs.TypeReading.{type_inside}
use Rattle.enc_terms.specs.Sets.{begins_other_atom, begins_other, begins_expr, extends_expr}
use Rattle.enc_terms.specs.Exprs as gr
use Rattle.enc_terms.specs.Exprs.{expr_of, IsExpr, IsUnary, IsAtom}
use Rattle.enc_terms.specs.ExprReading.{with_span, named, this_at, int_form, quoted_form, typed_form, exprs, parens_form, list_form, single_form, double_form, word_form, other_atom_form, other_atom, atom, prefixed_form, prefixed_atom, unary, other_unary}
use Rattle.enc_terms.proofs.NameLaws.{word_law}
use Rattle.enc_terms.proofs.TypeLaws.{type_inside_law}
use Rattle.enc_terms.proofs.ExprLater.{exprs_to, exprs_from}

-- ---- one token is all from its first place to its last

given_value : {X : Type 0} (b : Bool) (x y : X) → given b x ≡ Some y → x ≡ y
given_value true x y e = cc
given_value false x y e = absurd cc

given_if : {X : Type 0} (b : Bool) (x y : X) → given b x ≡ Some y → b ≡ true
given_if true x y e = refl
given_if false x y e = absurd cc

-- the span of a token is that of its places
pub extent_of : (r : Rule) (k : Kind) (v : Span) (a b : Place) → IsMarked r (span_of k) v a b → v ≡ extent a b
extent_of r k v a b s = sym (given_value (same_kind s.0.kind k) s.0.span v s.3)
    ∙ ap (λ (w : Tokens). record { start = start_at w; end = s.0.span.end }) (sym s.2)
    ∙ ap (λ (c : Place). record { start = start a.spot; end = c.spot.last.end }) (sym s.4)

-- a token with its span
pub span_from : (k : Kind) (a b : Place) → IsToken k a b → IsSpan k (extent a b) a b
span_from k a b s = let t : IsSpan k s.0.span a b = (s.0, s.1, s.2, ap (λ (d : Bool). given d s.0.span) (given_if (same_kind s.0.kind k) tt tt s.3), s.4) in
    subst (λ (v : Span). IsSpan k v a b) (extent_of plain k s.0.span a b t) t

-- a token without its span
pub token_from : (k : Kind) (v : Span) (a b : Place) → IsSpan k v a b → IsToken k a b
token_from k v a b s = (s.0, s.1, s.2, ap (λ (d : Bool). given d tt) (given_if (same_kind s.0.kind k) s.0.span v s.3), s.4)

-- ---- atoms by the words of grammars

abbrev pub int_of_span : List ℕ → Span → ExprForm
int_of_span text v = e.Int (pos (int_of (bytes_at text v)))

abbrev pub text_of_span : List ℕ → Span → ExprForm
text_of_span text v = e.Text (text_of (bytes_at text v))

abbrev TypedForm : List ℕ → ℕ → ExprForm → Stretch
TypedForm text n = Image (λ x. value_of_type x.0 x.1) (Pair (IsMarked plain (by_kind typed)) (Opened n k.OpenBracket (Before k.CloseBracket (IsType text (suc n)))))

abbrev SingleForm : List ℕ → ℕ → ExprForm → Stretch
SingleForm text n = Image (λ x. of_one x.0 x.1) (Pair (IsMarked plain (by_kind single)) (Opened n k.OpenParen (Before k.CloseParen (IsExpr text (suc n)))))

abbrev DoubleForm : List ℕ → ℕ → ExprForm → Stretch
DoubleForm text n = Image (λ x. of_two x.0 x.1.0 x.1.1) (Pair (IsMarked plain (by_kind double)) (Opened n k.OpenParen (Pair (IsExpr text (suc n)) (After k.Comma (Before k.CloseParen (IsExpr text (suc n)))))))

abbrev WordForm : List ℕ → ℕ → ExprForm → Stretch
WordForm text n = Union (IsMarked plain (by_kind constant)) (Union (TypedForm text n) (Union (SingleForm text n) (DoubleForm text n)))

abbrev OtherForm : List ℕ → ℕ → ExprForm → Stretch
OtherForm text n =
    Union (Image (int_of_span text) (IsSpan k.Int))
    (Union (Image (text_of_span text) (IsSpan k.Text))
    (Union (Image e.Parens (Opened n k.OpenParen (Before k.CloseParen (IsExpr text (suc n)))))
    (Union (Image e.List (Opened n k.OpenBracket (Before k.CloseBracket (Separated k.Comma (IsExpr text (suc n))))))
    (WordForm text n))))

-- an atom that is neither a name nor "this"
abbrev pub Other : List ℕ → ℕ → Expr → Stretch
Other text n = Image with_span (Spanned (OtherForm text n))

-- what an operator makes of an atom
abbrev pub Prefixed : List ℕ → ℕ → Expr → Stretch
Prefixed text n = Image with_span (Spanned (Image (λ x. prefixed x.0 x.1) (Pair (IsOneOf prefix) (IsAtom text n))))

-- an operand that begins with neither a name nor "this"
abbrev pub OtherUnary : List ℕ → ℕ → Expr → Stretch
OtherUnary text n = Union (Prefixed text n) (Other text n)

module _ (text : List ℕ) (n : ℕ) where
  abbrev atom_at : Place → Place → ExprForm → Type 0
  atom_at a b f = IsAtom text n (expr_of f a b) a b

  word_atom : (f : ExprForm) (a b : Place) → WordForm text n f a b → IsAtom text n (expr_of f a b) a b
  word_atom f a b (inl s) = gr.fixed s
  word_atom f a b (inr (inl (x, e, (c, t, (d, u, (g, v, w)))))) = subst (atom_at a b) e (gr.of_type t u v w)
  word_atom f a b (inr (inr (inl (x, e, (c, t, (d, u, (g, v, w))))))) = subst (atom_at a b) e (gr.on_one t u v w)
  word_atom f a b (inr (inr (inr (x, e, (c, t, (d, u, (g, v, (h, w, (i, y, z))))))))) = subst (atom_at a b) e (gr.on_two t u v w y z)

  other_atom_made : (f : ExprForm) (a b : Place) → OtherForm text n f a b → IsAtom text n (expr_of f a b) a b
  other_atom_made f a b (inl (v, e, s)) = subst (atom_at a b) e (gr.int s)
  other_atom_made f a b (inr (inl (v, e, s))) = subst (atom_at a b) e (gr.quoted s)
  other_atom_made f a b (inr (inr (inl (x, e, (c, t, (d, s, u)))))) = subst (atom_at a b) e (gr.parens t s u)
  other_atom_made f a b (inr (inr (inr (inl (xs, e, (c, t, (d, s, u))))))) = subst (atom_at a b) e (gr.list t (exprs_from text (suc n) xs c d s) u)
  other_atom_made f a b (inr (inr (inr (inr s)))) = word_atom f a b s

  -- a name is an atom
  pub atom_of_name : (x : Expr) (a b : Place) → Image named (IsNameAs word text) x a b → IsAtom text n x a b
  atom_of_name x a b (m, i, (v, h, s)) = subst (λ (x : Expr). IsAtom text n x a b) (ap (λ (w : Span). record { form = e.Name (word_of (bytes_at text v)); span = w }) (sym (extent_of word k.Name v a b s)) ∙ ap named h ∙ i) (gr.name s)

  -- "this" is an atom
  pub atom_of_this : (x : Expr) (a b : Place) → Image this_at (IsSpan k.This) x a b → IsAtom text n x a b
  atom_of_this x a b (v, e, s) = subst (λ (x : Expr). IsAtom text n x a b) (ap this_at (sym (extent_of plain k.This v a b s)) ∙ e) (gr.this (token_from k.This v a b s))

  pub atom_of_other : (x : Expr) (a b : Place) → Other text n x a b → IsAtom text n x a b
  atom_of_other x a b s = subst (λ (x : Expr). IsAtom text n x a b) (ap (λ (v : Span). with_span (s.0.0, v)) (sym s.2.1) ∙ s.1) (other_atom_made s.0.0 a b s.2.0)

  other_case : (f : ExprForm) (a b : Place) → OtherForm text n f a b → Other text n (expr_of f a b) a b
  other_case f a b s = ((f, extent a b), refl, (s, refl))

  word_case : (f : ExprForm) (a b : Place) → WordForm text n f a b → Other text n (expr_of f a b) a b
  word_case f a b s = other_case f a b (inr (inr (inr (inr s))))

  -- an atom is a name, "this" or another
  pub atom_cases : {x : Expr} {a b : Place} → IsAtom text n x a b → Image named (IsNameAs word text) x a b ⊎ (Image this_at (IsSpan k.This) x a b ⊎ Other text n x a b)
  atom_cases (gr.name {n} {v} {a} {b} s) = inl (name_at text v, ap (λ (w : Span). record { form = e.Name (word_of (bytes_at text v)); span = w }) (extent_of word k.Name v a b s), (v, refl, s))
  atom_cases (gr.this {n} {a} {b} s) = inr (inl (extent a b, refl, span_from k.This a b s))
  atom_cases (gr.int {n} {v} {a} {b} s) = inr (inr (other_case (int_of_span text v) a b (inl (v, refl, s))))
  atom_cases (gr.quoted {n} {v} {a} {b} s) = inr (inr (other_case (text_of_span text v) a b (inr (inl (v, refl, s)))))
  atom_cases (gr.parens {n} {x} {a} {b} {c} {d} t s u) = inr (inr (other_case (e.Parens x) a d (inr (inr (inl (x, refl, (b, t, (c, s, u))))))))
  atom_cases (gr.list {n} {xs} {a} {b} {c} {d} t s u) = inr (inr (other_case (e.List xs) a d (inr (inr (inr (inl (xs, refl, (b, t, (c, exprs_to s, u)))))))))
  atom_cases (gr.fixed {n} {form} {a} {b} s) = inr (inr (word_case form a b (inl s)))
  atom_cases (gr.of_type {n} {w} {t} {a} {b} {c} {d} {f} s u v z) = inr (inr (word_case (value_of_type w t) a f (inr (inl ((w, t), refl, (b, s, (c, u, (d, v, z))))))))
  atom_cases (gr.on_one {n} {w} {x} {a} {b} {c} {d} {f} s u v z) = inr (inr (word_case (of_one w x) a f (inr (inr (inl ((w, x), refl, (b, s, (c, u, (d, v, z)))))))))
  atom_cases (gr.on_two {n} {w} {x} {y} {a} {b} {c} {d} {f} {g} {h} s t u v z o) = inr (inr (word_case (of_two w x y) a h (inr (inr (inr ((w, (x, y)), refl, (b, s, (c, t, (d, u, (f, v, (g, z, o)))))))))))

  unary_of_prefixed : (x : Expr) (a b : Place) → Prefixed text n x a b → IsUnary text n x a b
  unary_of_prefixed x a b ((f, v), e, ((y, h, (c, s, t)), i)) = subst (λ (x : Expr). IsUnary text n x a b) (ap (λ (g : ExprForm). expr_of g a b) h ∙ ap (λ (w : Span). with_span (f, w)) (sym i) ∙ e) (gr.before s t)

  unary_cases : {x : Expr} {a b : Place} → IsUnary text n x a b → Prefixed text n x a b ⊎ IsAtom text n x a b
  unary_cases (gr.atom s) = inr s
  unary_cases (gr.before {n} {p} {x} {a} {b} {c} s t) = inl ((prefixed p x, extent a c), refl, (((p, x), refl, (b, s, t)), refl))

  -- an operand that begins with neither is one
  pub unary_of_other : (x : Expr) (a b : Place) → OtherUnary text n x a b → IsUnary text n x a b
  unary_of_other x a b (inl s) = unary_of_prefixed x a b s
  unary_of_other x a b (inr s) = gr.atom (atom_of_other x a b s)

  -- an operand is a name, "this" or another
  pub unary_split : (x : Expr) (a b : Place) → IsUnary text n x a b → Image named (IsNameAs word text) x a b ⊎ (Image this_at (IsSpan k.This) x a b ⊎ OtherUnary text n x a b)
  unary_split x a b s = elim (unary_cases s) [
    | inl t ↦ inr (inr (inl t))
    | inr t ↦ elim (atom_cases t) [
      | inl u ↦ inl u
      | inr u ↦ elim u [
        | inl v ↦ inr (inl v)
        | inr v ↦ inr (inr (inr v))
      ]
    ]
  ]

abbrev tuple : {A B : Type 0} → A → B → A × B
tuple x y = (x, y)

-- a part that is chosen by a word before, and a pair
paired : {A B C : Type 0} (p : Parser A) (q : Parser B) (g : A → B → C) (a : Spot) → ((λ x. g x.0 x.1) <$> (p ⊗ q)) a ≡ (p >>= (λ x. g x <$> q)) a
paired {A} {B} {C} p q g a = go (p a)
  where
    second : (x : A) (o : Outcome B) → and_then (and_then o (λ y c. Got (tuple x y) c)) (λ r c. Got (g r.0 r.1) c) ≡ and_then o (λ y c. Got (g x y) c)
    second x (Got y c) = refl
    second x (Wrong c) = refl
    second x (Over c) = refl

    go : (o : Outcome A) → and_then (and_then o (λ x b. and_then (q b) (λ y c. Got (tuple x y) c))) (λ r c. Got (g r.0 r.1) c) ≡ and_then o (λ x. g x <$> q)
    go (Got x b) = second x (q b)
    go (Wrong b) = refl
    go (Over b) = refl

-- ---- the laws, from that of the parser inside brackets

module _ (L : Limits) (text : List ℕ) (n room : ℕ) (fits : n + room ≡ L.brackets) {inner : Parser Expr} (law : Inside L room (IsExpr text (suc n)) begins_expr extends_expr inner) where
  typed_law : Lawful L (TypedForm text n) (can typed) none_of (kind_token typed >>= typed_form text L.counts room)
  unfolding typed_form
  typed_law = law_of_same _ (paired (kind_token typed) (opened room k.OpenBracket (type_inside text L.counts room ◃ k.CloseBracket)) value_of_type)
      (image_lawful (λ x. value_of_type x.0 x.1) (pair_lawful (kind_token_lawful typed k.Null typeds.Null refl)
      (opened_lawful n room k.OpenBracket fits (inside_before k.CloseBracket (type_inside_law L text n room fits) (clear _ _ refl))) (clear _ _ refl)))

  single_law : Lawful L (SingleForm text n) (can single) none_of (kind_token single >>= single_form room inner)
  unfolding single_form
  single_law = law_of_same _ (paired (kind_token single) (opened room k.OpenParen (inner ◃ k.CloseParen)) of_one)
      (image_lawful (λ x. of_one x.0 x.1) (pair_lawful (kind_token_lawful single k.Len singles.Len refl)
      (opened_lawful n room k.OpenParen fits (inside_before k.CloseParen law (clear _ _ refl))) (clear _ _ refl)))

  double_law : Lawful L (DoubleForm text n) (can double) none_of (kind_token double >>= double_form room inner)
  unfolding double_form
  double_law = law_of_same _ (paired (kind_token double) (opened room k.OpenParen (inner ⊗ k.Comma ▹ inner ◃ k.CloseParen)) (λ w x. of_two w x.0 x.1))
      (image_lawful (λ x. of_two x.0 x.1.0 x.1.1) (pair_lawful (kind_token_lawful double k.At doubles.At refl)
      (opened_lawful n room k.OpenParen fits (inside_pair law (inside_after k.Comma (inside_before k.CloseParen law (clear _ _ refl))) (clear _ _ refl))) (clear _ _ refl)))

  abbrev begins_word : Set
  begins_word l = can constant l || (can typed l || (can single l || can double l))

  word_form_law : Lawful L (WordForm text n) begins_word none_of (word_form text L.counts room inner)
  unfolding word_form
  word_form_law = with_sets (union_lawful (can constant) (kind_token_lawful constant k.True e.True refl)
      (union_lawful (can typed) typed_law
      (union_lawful (can single) single_law (only_lawful (can double) double_law (within _ _ refl))
      (within _ _ refl) (clear _ _ refl)) (within _ _ refl) (clear _ _ refl)) (within _ _ refl) (clear _ _ refl)) (within _ _ refl) (clear _ _ refl)

  int_law : Lawful L (Image (int_of_span text) (IsSpan k.Int)) (is k.Int) none_of (int_form text)
  unfolding int_form
  int_law = image_lawful (int_of_span text) (span_token_lawful k.Int)

  quoted_law : Lawful L (Image (text_of_span text) (IsSpan k.Text)) (is k.Text) none_of (quoted_form text)
  unfolding quoted_form
  quoted_law = image_lawful (text_of_span text) (span_token_lawful k.Text)

  parens_law : Lawful L (Image e.Parens (Opened n k.OpenParen (Before k.CloseParen (IsExpr text (suc n))))) (is k.OpenParen) none_of (parens_form room inner)
  unfolding parens_form
  parens_law = image_lawful e.Parens (opened_lawful n room k.OpenParen fits (inside_before k.CloseParen law (clear _ _ refl)))

  list_law : Lawful L (Image e.List (Opened n k.OpenBracket (Before k.CloseBracket (Separated k.Comma (IsExpr text (suc n)))))) (is k.OpenBracket) none_of (list_form room inner)
  unfolding list_form exprs
  list_law = image_lawful e.List (opened_lawful n room k.OpenBracket fits (inside_before k.CloseBracket (inside_separated k.Comma law refl (clear _ _ refl)) (clear _ _ refl)))

  other_form_law : Lawful L (OtherForm text n) begins_other_atom none_of (other_atom_form text L.counts room inner)
  unfolding other_atom_form
  other_form_law = with_sets (union_lawful (is k.Int) int_law
      (union_lawful (is k.Text) quoted_law
      (union_lawful (is k.OpenParen) parens_law
      (union_lawful (is k.OpenBracket) list_law word_form_law
      (within _ _ refl) (clear _ _ refl)) (within _ _ refl) (clear _ _ refl)) (within _ _ refl) (clear _ _ refl)) (within _ _ refl) (clear _ _ refl)) (within _ _ refl) (clear _ _ refl)

  pub other_atom_law : Lawful L (Other text n) begins_other_atom none_of (other_atom text L.counts room inner)
  unfolding other_atom
  other_atom_law = image_lawful with_span (spanned_law other_form_law refl refl)

  abbrev begins_atom : Set
  begins_atom l = is k.Name l || (is k.This l || begins_other_atom l)

  pub atom_law : Lawful L (IsAtom text n) begins_atom none_of (atom text L.counts room inner)
  unfolding atom
  atom_law = with_sets (pick_lawful (is k.Name) (IsAtom text n) (atom_of_name text n)
      (λ x a b s. elim s [ inl t ↦ atom_of_this text n x a b t | inr t ↦ atom_of_other text n x a b t ])
      (λ x a b s. atom_cases text n s) (within _ _ refl) (clear _ _ refl) (image_lawful named (word_law text))
      (union_lawful (is k.This) (image_lawful this_at (span_token_lawful k.This)) other_atom_law (within _ _ refl) (clear _ _ refl))) (within _ _ refl) (clear _ _ refl)

  prefixed_law : Lawful L (Prefixed text n) (can prefix) none_of (prefixed_atom text L.counts room inner)
  unfolding prefixed_atom prefixed_form
  prefixed_law = image_lawful with_span (spanned_law (image_lawful (λ x. prefixed x.0 x.1) (pair_lawful (operator_lawful prefix k.Minus prefixes.Minus refl) atom_law (clear _ _ refl))) refl refl)

  pub unary_law : Lawful L (IsUnary text n) begins_expr none_of (unary text L.counts room inner)
  unfolding unary
  unary_law = with_sets (pick_lawful (can prefix) (IsUnary text n) (unary_of_prefixed text n) (λ x a b s. gr.atom s) (λ x a b s. unary_cases text n s)
      (within _ _ refl) (clear _ _ refl) prefixed_law atom_law) (within _ _ refl) (clear _ _ refl)

  pub other_unary_law : Lawful L (OtherUnary text n) begins_other none_of (other_unary text L.counts room inner)
  unfolding other_unary
  other_unary_law = with_sets (union_lawful (can prefix) prefixed_law other_atom_law (within _ _ refl) (clear _ _ refl)) (within _ _ refl) (clear _ _ refl)
