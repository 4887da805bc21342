-- Whole expressions by their first token, and what else may stand behind a name or "this".
use Rattle.std.proofs.Common.{◌≡◌, ℕ, ◌+◌, Bool, true, false, cond, List, refl, sym, ap, subst, ◌∙◌, inl, inr, ◌⊎◌}
use Rattle.enc_ast.specs.declared.rules.Span.{Span}
use Rattle.enc_ast.specs.declared.decls.Name.{Name}
use Rattle.enc_ast.specs.declared.Expr.{Expr}
use Rattle.enc_lex.specs.declared.kinds.Kind.{Kind}
use Rattle.enc_lex.specs.declared.kinds.Kind.TheVariants as k
use Rattle.enc_cursor.specs.Counts.{plain, word, finish}
use Rattle.enc_cursor.specs.Limits.{Allowed, Limits}
use Rattle.enc_cursor.specs.Place.{Spot, Place, recounted, peek, is, start, extent}
use Rattle.enc_cursor.specs.Stretch.{Stretch, IsSpan, Closed, Spanned}
use Rattle.enc_cursor.specs.Steps.{Outcome, Got, Parser, Set, and_then, ◌<$>◌, ◌>>=◌, ◌⊗◌, pick, spanned, closed}
use Rattle.enc_cursor.specs.Counted.{span_token}
use Rattle.enc_cursor.proofs.Lawful.{Lawful, Clear, Within, or, none_of, clear_none, law_of_same}
use Rattle.enc_cursor.proofs.Sequence.{as_lawful}
use Rattle.enc_cursor.proofs.Tokens.{span_token_lawful}
use Rattle.enc_cursor.proofs.Endings.{closed_lawful}
use Rattle.enc_cursor.proofs.Words.{Pair, Image, Union, pair_lawful, image_lawful, union_lawful, spanned_law}
use Rattle.enc_cursor.proofs.Same.{spanned_pair, then_same, map_twice, either_of, parted, closed_map}
use Rattle.enc_cursor.proofs.Sets.{clear}
use Rattle.enc_terms.specs.Names.{name_as, IsNameAs}
use Rattle.enc_terms.specs.Sets.{begins_other, extends_expr}
use Rattle.enc_terms.specs.Exprs as gr
use Rattle.enc_terms.specs.Exprs.{IsExpr, IsUnary, IsWhole}
use Rattle.enc_terms.specs.ExprReading.{named, this_at, Rest, whole_of, other_unary, expr_inside, rest, whole_after, other_whole}
use Rattle.enc_terms.proofs.NameLaws.{word_law}
use Rattle.enc_terms.proofs.ExprAtoms.{OtherUnary, extent_of, atom_of_name, atom_of_this, unary_of_other, unary_split, other_unary_law}
use Rattle.enc_terms.proofs.ExprLevels.{leads, expr_inside_law}
use Rattle.enc_terms.proofs.ExprRest.{RestOf, expr_made, expr_cases, expr_after_is, begins_rest, rest_law}

-- what stands there begins with such a token
abbrev pub Begun : {A : Type 0} → Set → (A → Stretch) → A → Stretch
Begun t S x a b = S x a b × (t (peek a.spot) ≡ true)

-- all that may stand behind the first operand of a whole expression
abbrev LastOf : List ℕ → ℕ → Rest → Stretch
LastOf text n = Closed finish (RestOf text n)

-- the parser of it
abbrev last : List ℕ → Allowed → ℕ → Parser Rest
last text C room = closed finish (rest text C room (expr_inside text C room))

clash : {b : Bool} → b ≡ true → b ≡ false → ⊥
clash e f = cc

-- what is apart from all of a set is apart from each part of it
clear_within : (F G t : Set) → Clear F G → Within t G → Clear F t
clear_within F G t apart on l e = go (t l) refl
  where
    go : (b : Bool) → t l ≡ b → b ≡ false
    go false f = refl
    go true f = absurd (clash (on l f) (apart l e))

-- ---- the steps

whole_after_is : (L : Limits) (text : List ℕ) (room from : ℕ) (x : Expr) (a : Spot) → whole_after text L.counts room from x a ≡ (whole_of from x <$> last text L.counts room) a
unfolding whole_after
whole_after_is L text room from x a =
    ap (λ (o : Outcome Expr). and_then o (λ y c. Got y (recounted (finish a.counts c.counts) c))) (expr_after_is L text room (expr_inside text L.counts room) from x a)
    ∙ closed_map (whole_of from x) finish (rest text L.counts room (expr_inside text L.counts room)) a

module _ (L : Limits) (text : List ℕ) (n room : ℕ) (fits : n + room ≡ L.brackets) where
  last_law : Lawful L (LastOf text n) begins_rest extends_expr (last text L.counts room)
  last_law = closed_lawful finish (rest_law L text n room fits (expr_inside_law L text n room fits))

  other_begins : (x : Expr) (a b : Place) → OtherUnary text n x a b → begins_other (peek a.spot) ≡ true
  other_begins x a b s = (other_unary_law L text n room fits (expr_inside_law L text n room fits)).begins a b x s refl

  name_begins : (x : Expr) (a b : Place) → Image named (IsNameAs word text) x a b → is k.Name (peek a.spot) ≡ true
  name_begins x a b s = (word_law {L = L} text).begins a b s.0 s.2 refl

  this_begins : (x : Expr) (a b : Place) → Image this_at (IsSpan k.This) x a b → is k.This (peek a.spot) ≡ true
  this_begins x a b s = (span_token_lawful {L = L} k.This).begins a b s.0 s.2 refl

  -- ---- a whole expression by its first token

  -- it begins with a name, "this" or another
  pub whole_split : (x : Expr) (a b : Place) → IsWhole text n x a b → Begun (is k.Name) (IsWhole text n) x a b ⊎ (Begun (is k.This) (IsWhole text n) x a b ⊎ Begun begins_other (IsWhole text n) x a b)
  whole_split x a b s = let p = expr_cases text n s.1 in
      elim (unary_split text n p.0 a p.2 p.4) [
        | inl t ↦ inl (s, name_begins p.0 a p.2 t)
        | inr t ↦ elim t [
          | inl u ↦ inr (inl (s, this_begins p.0 a p.2 u))
          | inr u ↦ inr (inr (s, other_begins p.0 a p.2 u))
        ]
      ]

  -- ---- one that begins with neither a name nor "this"

  other_made : (x : (Expr × Rest) × Span) (a d : Place) → Spanned (Pair (OtherUnary text n) (LastOf text n)) x a d → Begun begins_other (IsWhole text n) (whole_of x.1.start x.0.0 x.0.1) a d
  other_made x a d ((c, s, (b, i, j)), v) =
      ((b, subst (λ (w : Span). IsExpr text n (whole_of w.start x.0.0 x.0.1) a b) (sym v) (expr_made text n x.0.0 x.0.1 a c b (unary_of_other text n x.0.0 a c s) i), j), other_begins x.0.0 a c s)

  other_operand : (x : Expr) (a b : Place) → IsUnary text n x a b → begins_other (peek a.spot) ≡ true → OtherUnary text n x a b
  other_operand x a b s h = elim (unary_split text n x a b s) [
    | inl t ↦ absurd (clash h (clear (is k.Name) begins_other refl (peek a.spot) (name_begins x a b t)))
    | inr t ↦ elim t [
      | inl u ↦ absurd (clash h (clear (is k.This) begins_other refl (peek a.spot) (this_begins x a b u)))
      | inr u ↦ u
    ]
  ]

  other_cases : (x : Expr) (a d : Place) → Begun begins_other (IsWhole text n) x a d → (y : (Expr × Rest) × Span) × (whole_of y.1.start y.0.0 y.0.1 ≡ x) × Spanned (Pair (OtherUnary text n) (LastOf text n)) y a d
  other_cases x a d ((b, s, j), h) = let p = expr_cases text n s in
      (((p.0, p.1), extent a d), p.3, ((p.2, other_operand p.0 a p.2 p.4 h, (b, p.5, j)), refl))

  other_is : (a : Spot) → ((λ x. whole_of x.1.start x.0.0 x.0.1) <$> spanned (other_unary text L.counts room (expr_inside text L.counts room) ⊗ last text L.counts room)) a ≡ other_whole text L.counts room a
  unfolding other_whole
  other_is a = spanned_pair (λ x. whole_of x.1.start x.0.0 x.0.1) (other_unary text L.counts room (expr_inside text L.counts room)) (last text L.counts room) a
      ∙ then_same (other_unary text L.counts room (expr_inside text L.counts room) a) _ _ (λ x b. sym (whole_after_is L text room (start a) x b))

  pub other_whole_law : Lawful L (Begun begins_other (IsWhole text n)) begins_other extends_expr (other_whole text L.counts room)
  other_whole_law = law_of_same (other_whole text L.counts room) other_is (as_lawful (λ x. whole_of x.1.start x.0.0 x.0.1) (Begun begins_other (IsWhole text n)) other_made other_cases
      (spanned_law (pair_lawful (other_unary_law L text n room fits (expr_inside_law L text n room fits)) last_law (clear_none begins_rest)) refl refl))

-- ---- behind a name or "this"

-- behind v comes what begins with a token of the set, or the rest of a whole expression
abbrev pub led : {N B A : Type 0} → List ℕ → Allowed → ℕ → (N → ℕ) → (N → Expr) → Set → (N → B → A) → (Expr → A) → Parser B → N → Parser A
led text C room from first t f h q v = pick t (f v <$> q) (h <$> whole_after text C room (from v) (first v))

-- the sentences of it
abbrev pub LedOf : {N B A : Type 0} → List ℕ → ℕ → Kind → (N → Stretch) → (B → Stretch) → (N → B → A) → (Expr → A) → A → Stretch
LedOf {N} {B} text n k Lead T f h z a d = ((v : N) × (y : B) × (c : Place) × (f v y ≡ z) × Lead v a c × T y c d) ⊎ ((x : Expr) × (h x ≡ z) × Begun (is k) (IsWhole text n) x a d)

module _ (L : Limits) (text : List ℕ) (n room : ℕ) (fits : n + room ≡ L.brackets) {N B A : Type 0} (k : Kind) {Lead : N → Stretch} {p : Parser N} (from : N → ℕ) (first : N → Expr)
    (operand : (v : N) (a b : Place) → Lead v a b → IsUnary text n (first v) a b) (starts : (v : N) (a b : Place) → Lead v a b → from v ≡ start a.spot)
    (split : (x : Expr) (a b : Place) → IsUnary text n x a b → is k (peek a.spot) ≡ true → Image first Lead x a b) (one : Lawful L Lead (is k) none_of p)
    {T : B → Stretch} {F M : Set} {q : Parser B} (t : Set) (two : Lawful L T F M q) (on : Within F t) (off : Within t leads) (f : N → B → A) (h : Expr → A) where
  abbrev as_whole : N → Rest → A
  as_whole v r = h (whole_of (from v) (first v) r)

  abbrev LedParts : N × (B ⊎ Rest) → Stretch
  LedParts = Pair Lead (Union (Image inl T) (Image inr (LastOf text n)))

  led_made : (x : N × (B ⊎ Rest)) (a d : Place) → LedParts x a d → LedOf text n k Lead T f h (either_of f as_whole x.0 x.1) a d
  led_made (v, u) a d (c, s, inl (y, e, i)) = inl (v, y, c, ap (either_of f as_whole v) e, s, i)
  led_made (v, u) a d (c, s, inr (r, e, (b, i, j))) = inr (
    whole_of (from v) (first v) r,
    ap (either_of f as_whole v) e,
    ((b, subst (λ (m : ℕ). IsExpr text n (whole_of m (first v) r) a b) (sym (starts v a c s)) (expr_made text n (first v) r a c b (operand v a c s) i), j), one.begins a c v s refl),
  )

  led_cases : (z : A) (a d : Place) → LedOf text n k Lead T f h z a d → (x : N × (B ⊎ Rest)) × (either_of f as_whole x.0 x.1 ≡ z) × LedParts x a d
  led_cases z a d (inl (v, y, c, e, s, i)) = ((v, inl y), e, (c, s, inl (y, refl, i)))
  led_cases z a d (inr (x, e, ((b, s, j), i))) = let p = expr_cases text n s in
      let m = split p.0 a p.2 p.4 i in
      ((m.0, inr p.1), ap h (ap (λ (w : ℕ). whole_of w (first m.0) p.1) (starts m.0 a p.2 m.2) ∙ ap (λ (w : Expr). whole_of (start a.spot) w p.1) m.1 ∙ p.3) ∙ e, (p.2, m.2, inr (p.1, refl, (b, p.5, j))))

  led_is : (a : Spot) → ((λ x. either_of f as_whole x.0 x.1) <$> (p ⊗ pick t (inl <$> q) (inr <$> last text L.counts room))) a ≡ (p >>= led text L.counts room from first t f h q) a
  led_is a = parted p t q (last text L.counts room) f as_whole a ∙ then_same (p a) _ _ step
    where
      step : (v : N) (b : Spot) → pick t (f v <$> q) (as_whole v <$> last text L.counts room) b ≡ led text L.counts room from first t f h q v b
      step v b = ap (λ (o : Outcome A). cond (t (peek b)) ((f v <$> q) b) o)
          (sym (map_twice (whole_of (from v) (first v)) h (last text L.counts room) b) ∙ ap (λ (o : Outcome Expr). and_then o (λ x c. Got (h x) c)) (sym (whole_after_is L text room (from v) (first v) b)))

  led_law : Lawful L (LedOf text n k Lead T f h) (is k) (or M extends_expr) (p >>= led text L.counts room from first t f h q)
  led_law = law_of_same (p >>= led text L.counts room from first t f h q) led_is (as_lawful (λ x. either_of f as_whole x.0 x.1) (LedOf text n k Lead T f h) led_made led_cases
      (pair_lawful one (union_lawful t (image_lawful inl two) (image_lawful inr (last_law L text n room fits)) on (clear_within begins_rest leads t (clear _ _ refl) off)) (clear_none _)))

-- a name, and what begins with a token of the set, or the rest of a whole expression
abbrev pub name_led : {B A : Type 0} → List ℕ → Allowed → ℕ → Set → (Name → B → A) → (Expr → A) → Parser B → Parser A
name_led text C room t f h q = name_as word text C >>= (λ x. pick t (f x <$> q) (h <$> whole_after text C room x.span.start (named x)))

-- the same behind "this"
abbrev pub this_led : {B A : Type 0} → List ℕ → Allowed → ℕ → Set → (Span → B → A) → (Expr → A) → Parser B → Parser A
this_led text C room t f h q = span_token k.This >>= (λ v. pick t (f v <$> q) (h <$> whole_after text C room v.start (this_at v)))

module _ (L : Limits) (text : List ℕ) (n room : ℕ) (fits : n + room ≡ L.brackets) where
  name_starts : (v : Name) (a b : Place) → IsNameAs word text v a b → v.span.start ≡ start a.spot
  name_starts v a b s = ap (λ (m : Name). m.span.start) (sym s.1) ∙ ap (λ (w : Span). w.start) (extent_of word k.Name s.0 a b s.2)

  this_starts : (v : Span) (a b : Place) → IsSpan k.This v a b → v.start ≡ start a.spot
  this_starts v a b s = ap (λ (w : Span). w.start) (extent_of plain k.This v a b s)

  name_operand : (x : Expr) (a b : Place) → IsUnary text n x a b → is k.Name (peek a.spot) ≡ true → Image named (IsNameAs word text) x a b
  name_operand x a b s h = elim (unary_split text n x a b s) [
    | inl t ↦ t
    | inr t ↦ elim t [
      | inl u ↦ absurd (clash h (clear (is k.This) (is k.Name) refl (peek a.spot) (this_begins L text n room fits x a b u)))
      | inr u ↦ absurd (clash h (clear begins_other (is k.Name) refl (peek a.spot) (other_begins L text n room fits x a b u)))
    ]
  ]

  this_operand : (x : Expr) (a b : Place) → IsUnary text n x a b → is k.This (peek a.spot) ≡ true → Image this_at (IsSpan k.This) x a b
  this_operand x a b s h = elim (unary_split text n x a b s) [
    | inl t ↦ absurd (clash h (clear (is k.Name) (is k.This) refl (peek a.spot) (name_begins L text n room fits x a b t)))
    | inr t ↦ elim t [
      | inl u ↦ u
      | inr u ↦ absurd (clash h (clear begins_other (is k.This) refl (peek a.spot) (other_begins L text n room fits x a b u)))
    ]
  ]

  -- t holds of all that q begins with, and only of "." and "!"
  module _ {B A : Type 0} {T : B → Stretch} {F M : Set} {q : Parser B} (t : Set) (law : Lawful L T F M q) (on : Within F t) (off : Within t leads) where
    pub name_led_law : (f : Name → B → A) (h : Expr → A) → Lawful L (LedOf text n k.Name (IsNameAs word text) T f h) (is k.Name) (or M extends_expr) (name_led text L.counts room t f h q)
    name_led_law f h = led_law L text n room fits k.Name (λ x. x.span.start) named (λ v a b s. gr.atom (atom_of_name text n (named v) a b (v, refl, s))) name_starts name_operand (word_law text) t law on off f h

    pub this_led_law : (f : Span → B → A) (h : Expr → A) → Lawful L (LedOf text n k.This (IsSpan k.This) T f h) (is k.This) (or M extends_expr) (this_led text L.counts room t f h q)
    this_led_law f h = led_law L text n room fits k.This (λ v. v.start) this_at (λ v a b s. gr.atom (atom_of_this text n (this_at v) a b (v, refl, s))) this_starts this_operand (span_token_lawful k.This) t law on off f h
