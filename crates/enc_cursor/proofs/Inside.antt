-- The laws of what stands inside brackets.
use Rattle.std.proofs.Common.{◌≡◌, ℕ, true, false, List, [], ◌∷◌, ◌++◌, Option, None, refl, sym, subst, append_assoc, inl, inr}
use Rattle.std.specs.Prelude.{not}
use Rattle.enc_lex.specs.declared.kinds.Kind.{Kind}
use Rattle.enc_cursor.specs.Counts.{plain, Ending}
use Rattle.enc_cursor.specs.Limits.{Limits}
use Rattle.enc_cursor.specs.Place.{Tokens, Place, place, upon, recounted, is, between}
use Rattle.enc_cursor.specs.Stretch.{Stretch, the, Each, After, Before, Separated, Maybe, Closed, Spanned}
use Rattle.enc_cursor.specs.Steps.{Parser, Set, both, ◌<$>◌, ◌▹◌, ◌◃◌, ◌⊗◌, pick, optional, many, separated, spanned, closed}
use Rattle.enc_cursor.proofs.Lawful.{Later, Lawful, Clear, none_of, clear_none, or, Within, later_then, with_sets}
use Rattle.enc_cursor.proofs.Sequence.{both_lawful, as_lawful}
use Rattle.enc_cursor.proofs.Choice.{or_past, maybe_later, optional_lawful}
use Rattle.enc_cursor.proofs.Endings.{closed_later, closed_lawful}
use Rattle.enc_cursor.proofs.Spans.{spanned_lawful}
use Rattle.enc_cursor.proofs.Many.{each_later, past_item, many_lawful}
use Rattle.enc_cursor.proofs.Words.{Image, Pair, Union, union_lawful}
use Rattle.enc_cursor.proofs.Tokens.{marked_later, token_lawful}
use Rattle.enc_cursor.proofs.Openings.{Inside}

-- what is lawful anyway
pub inside_of : {A : Type 0} {L : Limits} {S : A → Stretch} {F M : Set} {p : Parser A} (room : ℕ) → Lawful L S F M p → Inside L room S F M p
inside_of room law = record { law = λ r e. law; later = law.later; sample = law.sample }

-- as `both_lawful`
module _ {A B C : Type 0} {L : Limits} {room : ℕ} {S1 : A → Stretch} {S2 : B → Stretch} {F1 M1 F2 M2 : Set} {p : Parser A} {q : Parser B}
    (g : A → B → C) (S : C → Stretch)
    (intro : (x : A) (y : B) (a b c : Place) → S1 x a b → S2 y b c → S (g x y) a c)
    (elim_to : (z : C) (a c : Place) → S z a c → (x : A) × (y : B) × (b : Place) × (g x y ≡ z) × S1 x a b × S2 y b c)
    (clear : Clear F2 M1) (one : Inside L room S1 F1 M1 p) (two : Inside L room S2 F2 M2 q) where
  pub inside_both : Inside L room S F1 M2 (both g p q)
  inside_both = record {
    law = λ r e. both_lawful g S intro elim_to clear (one.law r e) (two.law r e);
    later = λ a c z s. let e = elim_to z a c s in later_then a e.2 c (one.later a e.2 e.0 e.4) (two.later e.2 c e.1 e.5);
    sample = (
      one.sample.0 ++ two.sample.0,
      λ a r l.
          let h = one.sample.1 a (two.sample.0 ++ r) l in let k = two.sample.1 h.1 r h.2 in
          (g h.0 k.0, k.1, k.2, subst (λ (v : Tokens). S (g h.0 k.0) (place (upon a v) l) (place (upon k.1 r) k.2)) (sym (append_assoc one.sample.0 two.sample.0 r)) (intro h.0 k.0 _ _ _ h.3 k.3)),
    );
  }

-- two parts
pub inside_pair : {A B : Type 0} {L : Limits} {room : ℕ} {S1 : A → Stretch} {S2 : B → Stretch} {F1 M1 F2 M2 : Set} {p : Parser A} {q : Parser B} → Inside L room S1 F1 M1 p → Inside L room S2 F2 M2 q → Clear F2 M1 → Inside L room (Pair S1 S2) F1 M2 (p ⊗ q)
inside_pair {A} {B} {L} {room} {S1} {S2} one two clear = inside_both (λ x y. (x, y)) (Pair S1 S2) (λ x y a b c s t. (b, s, t)) (λ z a c s. (z.0, z.1, s.0, refl, s.1, s.2)) clear one two

-- a choice by the next token
pub inside_union : {A : Type 0} {L : Limits} {room : ℕ} {S1 S2 : A → Stretch} {F1 M1 F2 M2 : Set} {p q : Parser A} (t : Set) → Inside L room S1 F1 M1 p → Inside L room S2 F2 M2 q → Within F1 t → Clear F2 t → Inside L room (Union S1 S2) (or F1 F2) (or M1 M2) (pick t p q)
inside_union {A} {L} {room} {S1} {S2} t one two on off = record {
  law = λ r e. union_lawful t (one.law r e) (two.law r e) on off;
  later = later;
  sample = (one.sample.0, λ a r l. let h = one.sample.1 a r l in (h.0, h.1, h.2, inl h.3));
}
  where
    later : (a b : Place) (x : A) → Union S1 S2 x a b → Later a b
    later a b x (inl s) = one.later a b x s
    later a b x (inr s) = two.later a b x s

pub inside_before : {A : Type 0} {L : Limits} {room : ℕ} {S : A → Stretch} {F M : Set} {p : Parser A} (k : Kind) → Inside L room S F M p → Clear (is k) M → Inside L room (Before k S) F none_of (p ◃ k)
inside_before {A} {L} {room} {S} k law clear = inside_both (λ x _. x) (Before k S) (λ x y a b c s t. (b, s, t)) (λ z a c s. (z, tt, s.0, refl, s.1, s.2)) clear law (inside_of room (token_lawful k))

pub inside_after : {A : Type 0} {L : Limits} {room : ℕ} {S : A → Stretch} {F M : Set} {p : Parser A} (k : Kind) → Inside L room S F M p → Inside L room (After k S) (is k) M (k ▹ p)
inside_after {A} {L} {room} {S} {F} k law = inside_both (λ _ x. x) (After k S) (λ x y a b c s t. (b, s, t)) (λ z a c s. (tt, z, s.0, refl, s.1, s.2)) (clear_none F) (inside_of room (token_lawful k)) law

pub inside_as : {A B : Type 0} {L : Limits} {room : ℕ} {S1 : A → Stretch} {F M : Set} {p : Parser A} (f : A → B) (S : B → Stretch) → ((x : A) (a b : Place) → S1 x a b → S (f x) a b)
    → ((y : B) (a b : Place) → S y a b → (x : A) × (f x ≡ y) × S1 x a b) → Inside L room S1 F M p → Inside L room S F M (f <$> p)
inside_as f S intro elim_to law = record {
  law = λ r e. as_lawful f S intro elim_to (law.law r e);
  later = λ a b y s. let e = elim_to y a b s in law.later a b e.0 e.2;
  sample = (law.sample.0, λ a r l. let h = law.sample.1 a r l in (f h.0, h.1, h.2, intro h.0 _ _ h.3));
}

pub inside_image : {A B : Type 0} {L : Limits} {room : ℕ} {S : A → Stretch} {F M : Set} {p : Parser A} (f : A → B) → Inside L room S F M p → Inside L room (Image f S) F M (f <$> p)
inside_image {A} {B} {L} {room} {S} f law = inside_as f (Image f S) (λ x a b s. (x, refl, s)) (λ y a b s. s) law

pub inside_many : {A : Type 0} {L : Limits} {room : ℕ} {S : A → Stretch} {F M : Set} {p : Parser A} (t : Set) → F None ≡ false → M None ≡ false → Within F t → Clear F M → Inside L room S F M p
    → Inside L room (Each S) (or_past F (or t M)) (or t M) (many t p)
inside_many t first last on clear law = record {
  law = λ r e. many_lawful t first last on clear (law.law r e);
  later = each_later law.later;
  sample = ([], λ a r l. ([], a, l, refl));
}

pub inside_optional : {A : Type 0} {L : Limits} {room : ℕ} {S : A → Stretch} {F M : Set} {p : Parser A} (t : Set) → Within F t → Inside L room S F M p → Inside L room (Maybe S) (or_past F (or t M)) (or t M) (optional t p)
inside_optional t on law = record {
  law = λ r e. optional_lawful t on (law.law r e);
  later = maybe_later law.later;
  sample = ([], λ a r l. (None, a, l, refl));
}

pub inside_closed : {A : Type 0} {L : Limits} {room : ℕ} {S : A → Stretch} {F M : Set} {p : Parser A} (g : Ending) → Inside L room S F M p → Inside L room (Closed g S) F M (closed g p)
inside_closed {A} {L} {room} {S} {F} {M} {p} g law = record {
  law = λ r e. closed_lawful g (law.law r e);
  later = λ a b x s. closed_later law.later g a b x s;
  sample = (law.sample.0, λ a r l. let h = law.sample.1 a r l in (h.0, recounted (g a.counts h.1.counts) h.1, h.2, (place (upon h.1 r) h.2, h.3, refl)));
}

pub inside_sets : {A : Type 0} {L : Limits} {room : ℕ} {S : A → Stretch} {F M G N : Set} {p : Parser A} → Inside L room S F M p → Within F G → Clear (λ k. not (N k)) M → Inside L room S G N p
inside_sets law wide narrow = record { law = λ r e. with_sets (law.law r e) wide narrow; later = law.later; sample = law.sample }

-- one or more, with a token between
pub inside_separated : {A : Type 0} {L : Limits} {room : ℕ} {S : A → Stretch} {F M : Set} {p : Parser A} (k : Kind) → Inside L room S F M p → M None ≡ false → Clear (is k) M → Inside L room (Separated k S) F (or (is k) M) (separated k p)
inside_separated {A} {L} {room} {S} {F} {M} {p} k law end clear =
    inside_both (λ x xs. x ∷ xs) (Separated k S) (λ x xs a b c s t. (b, s, t)) parts (λ l h. past l h) law (inside_many (is k) refl end (λ l e. e) clear (inside_after k law))
  where
    parts : (z : List A) (a c : Place) → Separated k S z a c → (x : A) × (xs : List A) × (b : Place) × (x ∷ xs ≡ z) × S x a b × Each (After k S) xs b c
    parts [] a c s = absurd s
    parts (x ∷ xs) a c s = (x, xs, s.0, refl, s.1, s.2)

    past : (l : Option Kind) → or_past (is k) (or (is k) M) l ≡ true → M l ≡ false
    past l h = past_item (is k) (is k) M (λ l e. clear l e) l h

pub separated_later : {A : Type 0} {S : A → Stretch} → ((a b : Place) (x : A) → S x a b → Later a b) → (k : Kind) (a b : Place) (xs : List A) → Separated k S xs a b → Later a b
separated_later later k a b [] s = absurd s
separated_later later k a b (x ∷ xs) s = later_then a s.0 b (later a s.0 x s.1) (each_later (λ a b x s. later_then a s.0 b (marked_later plain (the k) tt a s.0 s.1) (later s.0 b x s.2)) s.0 b xs s.2)

pub inside_spanned : {A : Type 0} {L : Limits} {room : ℕ} {S : A → Stretch} {F M : Set} {p : Parser A} → Inside L room S F M p → F None ≡ false → M None ≡ false → Inside L room (Spanned S) F M (spanned p)
inside_spanned law first last = record {
  law = λ r e. spanned_lawful first last (law.law r e);
  later = λ a b x s. law.later a b x.0 s.0;
  sample = (law.sample.0, λ a r l. let h = law.sample.1 a r l in ((h.0, between (upon a (law.sample.0 ++ r)) (upon h.1 r)), h.1, h.2, (h.3, refl)));
}
