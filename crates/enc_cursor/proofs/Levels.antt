-- A level of operators that group to the left.
use Rattle.std.proofs.Common.{◌≡◌, ℕ, false, List, [], ◌∷◌, ◌++◌, Option, Some, None, refl, sym, ap, subst, ◌∙◌}
use Rattle.enc_ast.specs.declared.rules.Span.{Span}
use Rattle.enc_lex.specs.declared.kinds.Kind.{Kind}
use Rattle.enc_cursor.specs.Limits.{Limits}
use Rattle.enc_cursor.specs.Place.{Spot, Place, start, extent}
use Rattle.enc_cursor.specs.Stretch.{Stretch, IsOneOf, Each, Spanned}
use Rattle.enc_cursor.specs.Steps.{Parser, Set, Item, joined, ◌<$>◌, ◌⊗◌, many, spanned, can}
use Rattle.enc_cursor.specs.Counted.{operator_of, level}
use Rattle.enc_cursor.proofs.Lawful.{Lawful, Clear, or, clear_none, law_of_same}
use Rattle.enc_cursor.proofs.Sequence.{as_lawful}
use Rattle.enc_cursor.proofs.Names.{operator_lawful}
use Rattle.enc_cursor.proofs.Many.{TurnsSo, many_turn, past_item}
use Rattle.enc_cursor.proofs.Words.{Pair, pair_lawful, many_law, spanned_law}
use Rattle.enc_cursor.proofs.Same.{spanned_pair}

-- an operator, its right operand, and their span
abbrev pub ItemOf : {O E : Type 0} → (Kind → Option O) → (E → Stretch) → Item O E → Stretch
ItemOf w S = Spanned (Pair (IsOneOf w) S)

each_snoc : {A : Type 0} (S : A → Stretch) (xs : List A) (x : A) (a b c : Place) → Each S xs a b → S x b c → Each S (xs ++ x ∷ []) a c
each_snoc S [] x a b c s t = (c, subst (λ (b : Place). S x b c) (sym s) t, refl)
each_snoc S (y ∷ xs) x a b c s t = (s.0, s.1, each_snoc S xs x s.0 b c s.2 t)

joined_snoc : {O E : Type 0} (join : ℕ → E → Item O E → E) (n : ℕ) (x : E) (js : List (Item O E)) (i : Item O E) → joined join n x (js ++ i ∷ []) ≡ join n (joined join n x js) i
joined_snoc join n x [] i = refl
joined_snoc join n x (j ∷ js) i = joined_snoc join n (join n x j) js i

-- the first operand, and the items behind it
abbrev pub Parts : {O E : Type 0} → (ℕ → E → Item O E → E) → (Kind → Option O) → (E → Stretch) → E → Stretch
Parts {O} {E} join w Base x a d = (y : E) × (items : List (Item O E)) × (c : Place) × (joined join (start a.spot) y items ≡ x) × Base y a c × Each (ItemOf w Base) items c d

module _ {O E : Type 0} (join : ℕ → E → Item O E → E) (w : Kind → Option O) (Base : E → Stretch) where
  -- one more item at the end
  pub parts_more : (x y : E) (o : O) (a b c d : Place) → Parts join w Base x a b → IsOneOf w o b c → Base y c d → Parts join w Base (join (start a.spot) x ((o, y), extent b d)) a d
  parts_more x y o a b c d p s t = let i : Item O E = ((o, y), extent b d) in
      (p.0, p.1 ++ i ∷ [], p.2, joined_snoc join (start a.spot) p.0 p.1 i ∙ ap (λ (z : E). join (start a.spot) z i) p.3, p.4, each_snoc (ItemOf w Base) p.1 i p.2 b d p.5 ((c, s, t), refl))

  -- items behind what is of the level are of the level
  pub grown : (Whole : E → Stretch) → ((x y : E) (o : O) (a b c d : Place) → Whole x a b → IsOneOf w o b c → Base y c d → Whole (join (start a.spot) x ((o, y), extent b d)) a d)
      → (items : List (Item O E)) (x : E) (a b d : Place) → Whole x a b → Each (ItemOf w Base) items b d → Whole (joined join (start a.spot) x items) a d
  grown Whole step [] x a b d s t = subst (λ (c : Place). Whole x a c) t s
  grown Whole step (i ∷ js) x a b d s t = grown Whole step js (join (start a.spot) x i) a t.0 d
      (subst (λ (v : Span). Whole (join (start a.spot) x (i.0, v)) a t.0) (sym t.1.1) (step x i.0.1 i.0.0 a b t.1.0.0 t.0 s t.1.0.1 t.1.0.2)) t.2

-- ---- the parser of a level

-- an operator and its right operand; k is one of the operators
pub item_lawful : {O E : Type 0} {L : Limits} {Base : E → Stretch} {F M : Set} {p : Parser E} (w : Kind → Option O) (k : Kind) (o : O) → w k ≡ Some o → Lawful L Base F M p → M None ≡ false → Lawful L (ItemOf w Base) (can w) M (spanned (operator_of L.counts w ⊗ p))
item_lawful {F = F} w k o has law end = spanned_law (pair_lawful (operator_lawful w k o has) law (clear_none F)) refl end

-- one turn of the loop over operators
pub operator_turns : {O E : Type 0} {L : Limits} {Base : E → Stretch} {F M : Set} {p : Parser E} (w : Kind → Option O) (k : Kind) (o : O) → w k ≡ Some o → Lawful L Base F M p → M None ≡ false → Clear (can w) M → TurnsSo (can w) (spanned (operator_of L.counts w ⊗ p))
operator_turns w k o has law end clear = many_turn (can w) refl end (λ l e. e) clear (item_lawful w k o has law end)

-- Base are the operands, and Whole is the level: one operand (one), or what is of the level, an operator, and an operand (step). And each has its parts.
module _ {O E : Type 0} {L : Limits} {Base Whole : E → Stretch} {F M : Set} {p : Parser E} (join : ℕ → E → Item O E → E) (w : Kind → Option O) (k : Kind) (o : O) (has : w k ≡ Some o)
    (one : (x : E) (a b : Place) → Base x a b → Whole x a b)
    (step : (x y : E) (o : O) (a b c d : Place) → Whole x a b → IsOneOf w o b c → Base y c d → Whole (join (start a.spot) x ((o, y), extent b d)) a d)
    (parts : (x : E) (a d : Place) → Whole x a d → Parts join w Base x a d)
    (law : Lawful L Base F M p) where
  level_is : (a : Spot) → ((λ x. joined join x.1.start x.0.0 x.0.1) <$> spanned (p ⊗ many (can w) (spanned (operator_of L.counts w ⊗ p)))) a ≡ level join L.counts w p a
  level_is a = spanned_pair (λ x. joined join x.1.start x.0.0 x.0.1) p (many (can w) (spanned (operator_of L.counts w ⊗ p))) a

  pub level_lawful : F None ≡ false → M None ≡ false → Clear (can w) M → Lawful L Whole F (or (can w) M) (level join L.counts w p)
  level_lawful first end clear = law_of_same (level join L.counts w p) level_is (as_lawful (λ x. joined join x.1.start x.0.0 x.0.1) Whole
      (λ x a b s. subst (λ (v : Span). Whole (joined join v.start x.0.0 x.0.1) a b) (sym s.1) (grown join w Base Whole step x.0.1 x.0.0 a s.0.0 b (one x.0.0 a s.0.0 s.0.1) s.0.2))
      (λ x a b s. let q = parts x a b s in (((q.0, q.1), extent a b), q.3, ((q.2, q.4, q.5), refl)))
      (spanned_law (pair_lawful law (many_law (can w) (item_lawful w k o has law end) refl end (λ l e. e) clear) (λ l h. past_item (can w) (can w) M clear l h)) first end))
