-- The laws of the words that grammars are made of.
use Rattle.std.proofs.Common.{◌≡◌, false, List, [], ◌∷◌, None, refl, inl, inr, ◌⊎◌}
use Rattle.enc_lex.specs.declared.kinds.Kind.{Kind}
use Rattle.enc_cursor.specs.Limits.{Limits}
use Rattle.enc_cursor.specs.Place.{Place, is}
use Rattle.enc_cursor.specs.Stretch.{Stretch, Each, After, Before, Separated, Maybe, Spanned}
use Rattle.enc_cursor.specs.Steps.{Parser, Set, both, ◌<$>◌, ◌▹◌, ◌◃◌, ◌⊗◌, pick, optional, many, separated, spanned}
use Rattle.enc_cursor.proofs.Lawful.{Lawful, Clear, none_of, clear_none, or, Within}
use Rattle.enc_cursor.proofs.Sequence.{both_lawful, as_lawful}
use Rattle.enc_cursor.proofs.Choice.{pick_lawful, or_past, optional_lawful}
use Rattle.enc_cursor.proofs.Spans.{spanned_lawful}
use Rattle.enc_cursor.proofs.Many.{item_past, many_lawful}
use Rattle.enc_cursor.proofs.Tokens.{token_lawful}

-- two parts
abbrev pub Pair : {A B : Type 0} → (A → Stretch) → (B → Stretch) → A × B → Stretch
Pair S1 S2 x a c = (b : Place) × S1 x.0 a b × S2 x.1 b c

-- what f makes of x
abbrev pub Image : {A B : Type 0} → (A → B) → (A → Stretch) → B → Stretch
Image {A} f S y a b = (x : A) × (f x ≡ y) × S x a b

-- either
abbrev pub Union : {A : Type 0} → (A → Stretch) → (A → Stretch) → A → Stretch
Union S1 S2 x a b = S1 x a b ⊎ S2 x a b

-- two parts seen as one value
abbrev pub Made : {A B C : Type 0} → (A → B → C) → (A → Stretch) → (B → Stretch) → C → Stretch
Made {A} {B} g S1 S2 z a c = (x : A) × (y : B) × (b : Place) × (g x y ≡ z) × S1 x a b × S2 y b c

pub pair_lawful : {A B : Type 0} {S1 : A → Stretch} {S2 : B → Stretch} {F1 M1 F2 M2 : Set} {p : Parser A} {q : Parser B} {L : Limits} → Lawful L S1 F1 M1 p → Lawful L S2 F2 M2 q → Clear F2 M1 → Lawful L (Pair S1 S2) F1 M2 (p ⊗ q)
pair_lawful {A} {B} {S1} {S2} one two clear = both_lawful (λ x y. (x, y)) (Pair S1 S2) (λ x y a b c s t. (b, s, t)) (λ z a c s. (z.0, z.1, s.0, refl, s.1, s.2)) clear one two

pub after_lawful : {A : Type 0} {S : A → Stretch} {F M : Set} {p : Parser A} {L : Limits} (k : Kind) → Lawful L S F M p → Lawful L (After k S) (is k) M (k ▹ p)
after_lawful {A} {S} {F} k law = both_lawful (λ _ x. x) (After k S) (λ x y a b c s t. (b, s, t)) (λ z a c s. (tt, z, s.0, refl, s.1, s.2)) (clear_none F) (token_lawful k) law

pub before_lawful : {A : Type 0} {S : A → Stretch} {F M : Set} {p : Parser A} {L : Limits} (k : Kind) → Lawful L S F M p → Clear (is k) M → Lawful L (Before k S) F none_of (p ◃ k)
before_lawful {A} {S} k law clear = both_lawful (λ x _. x) (Before k S) (λ x y a b c s t. (b, s, t)) (λ z a c s. (z, tt, s.0, refl, s.1, s.2)) clear law (token_lawful k)

pub image_lawful : {A B : Type 0} {S : A → Stretch} {F M : Set} {p : Parser A} {L : Limits} (f : A → B) → Lawful L S F M p → Lawful L (Image f S) F M (f <$> p)
image_lawful {A} {B} {S} f law = as_lawful f (Image f S) (λ x a b s. (x, refl, s)) (λ y a b s. s) law

pub union_lawful : {A : Type 0} {S1 S2 : A → Stretch} {F1 M1 F2 M2 : Set} {p q : Parser A} {L : Limits} (t : Set) → Lawful L S1 F1 M1 p → Lawful L S2 F2 M2 q → Within F1 t → Clear F2 t → Lawful L (Union S1 S2) (or F1 F2) (or M1 M2) (pick t p q)
union_lawful {A} {S1} {S2} t one two on off = pick_lawful t (Union S1 S2) (λ x a b s. inl s) (λ x a b s. inr s) (λ x a b s. s) on off one two

pub made_lawful : {A B C : Type 0} {S1 : A → Stretch} {S2 : B → Stretch} {F1 M1 F2 M2 : Set} {p : Parser A} {q : Parser B} {L : Limits} (g : A → B → C) → Lawful L S1 F1 M1 p → Lawful L S2 F2 M2 q → Clear F2 M1 → Lawful L (Made g S1 S2) F1 M2 (both g p q)
made_lawful {A} {B} {C} {S1} {S2} g one two clear = both_lawful g (Made g S1 S2) (λ x y a b c s t. (x, y, b, refl, s, t)) (λ z a c s. s) clear one two

-- one or more, with a token between
pub separated_lawful : {A : Type 0} {S : A → Stretch} {F M : Set} {p : Parser A} {L : Limits} (k : Kind) → Lawful L S F M p → M None ≡ false → Clear (is k) M → Lawful L (Separated k S) F (or (is k) M) (separated k p)
separated_lawful {A} {S} {F} {M} {p} k law end clear =
    let items = many_lawful (is k) refl end (λ l e. e) clear (after_lawful k law) in
    both_lawful (λ x xs. x ∷ xs) (Separated k S) (λ x xs a b c s t. (b, s, t)) parts (λ l h. item_past (is k) refl end (λ l e. e) clear (after_lawful k law) l h) law items
  where
    parts : (z : List A) (a c : Place) → Separated k S z a c → (x : A) × (xs : List A) × (b : Place) × (x ∷ xs ≡ z) × S x a b × Each (After k S) xs b c
    parts [] a c s = absurd s
    parts (x ∷ xs) a c s = (x, xs, s.0, refl, s.1, s.2)

-- many and optional, with the law first
pub many_law : {A : Type 0} {S : A → Stretch} {F M : Set} {p : Parser A} {L : Limits} (t : Set) → Lawful L S F M p → F None ≡ false → M None ≡ false → Within F t → Clear F M → Lawful L (Each S) (or_past F (or t M)) (or t M) (many t p)
many_law t law first last on clear = many_lawful t first last on clear law

pub optional_law : {A : Type 0} {S : A → Stretch} {F M : Set} {p : Parser A} {L : Limits} (t : Set) → Lawful L S F M p → Within F t → Lawful L (Maybe S) (or_past F (or t M)) (or t M) (optional t p)
optional_law t law on = optional_lawful t on law

pub spanned_law : {A : Type 0} {S : A → Stretch} {F M : Set} {p : Parser A} {L : Limits} → Lawful L S F M p → F None ≡ false → M None ≡ false → Lawful L (Spanned S) F M (spanned p)
spanned_law law first last = spanned_lawful first last law
