-- What a parser owes.
use Rattle.std.proofs.Common.{◌≡◌, ℕ, suc, ◌+◌, Bool, true, false, List, [], ◌∷◌, ◌++◌, length, Option, Some, None, refl, sym, ap, subst, ◌∙◌, append_assoc, ◌⊎◌}
use Rattle.std.specs.Prelude.{not, ◌||◌}
use Rattle.enc_lex.specs.declared.kinds.Kind.{Kind}
use Rattle.enc_cursor.specs.Counts.{Mark}
use Rattle.enc_cursor.specs.Limits.{Limits, fits, Log, earlier, unless, passed}
use Rattle.enc_cursor.specs.Place.{Tokens, Spot, Place, place, upon, head, peek}
use Rattle.enc_cursor.specs.Stretch.{Stretch}
use Rattle.enc_cursor.specs.Steps.{Outcome, Got, Wrong, Over, Parser, Set, and_then}

-- where the parser stands
abbrev pub place_of : {A : Type 0} → Outcome A → Spot
place_of (Got x b) = b
place_of (Wrong b) = b
place_of (Over b) = b

-- the same outcome before other tokens
abbrev pub moved : {A : Type 0} → Outcome A → Tokens → Outcome A
moved (Got x b) w = Got x (upon b w)
moved (Wrong b) w = Wrong (upon b w)
moved (Over b) w = Over (upon b w)

-- Tokens before which the outcome is the same: the next one has been looked at, unless a limit was passed.
abbrev pub Near : {A : Type 0} → Outcome A → Tokens → Type 0
Near (Got x b) w = head w ≡ head b.ahead
Near (Wrong b) w = head w ≡ head b.ahead
Near (Over b) w = Unit {0}

-- no limit is passed before the place
abbrev pub Fine : Limits → Place → Type 0
Fine L a = passed L a.log ≡ None

-- how many tokens there are in all
abbrev pub count : Place → ℕ
count a = length a.log + length a.spot.ahead

-- The parser stands behind the first token by which a limit is passed, of so many tokens, which are counted so at the end.
abbrev pub IsPast : {A : Type 0} → Limits → ℕ → Log → Outcome A → Type 0
IsPast L n log (Got x b) = ⊥
IsPast L n log (Wrong b) = ⊥
IsPast L n log (Over b) = (m : List Mark) × (l u : Log) × (log ≡ u ++ (m ∷ l)) × (passed L (m ∷ l) ≡ Some (length l)) × (suc (length l) + length b.ahead ≡ n)

-- the outcome where x is spelled from a to b
abbrev pub Meets : {A : Type 0} → Limits → Place → Place → A → Outcome A → Type 0
Meets L a b x o = ((o ≡ Got x b.spot) × Fine L b) ⊎ IsPast L (count a) b.log o

-- each token is counted once
abbrev pub Later : Place → Place → Type 0
Later a b = (u : Log) × (b.log ≡ u ++ a.log) × (count b ≡ count a)

-- some tokens after the front end a sentence, whatever follows
abbrev pub Ends : {A : Type 0} → (A → Stretch) → Spot → Tokens → Type 0
Ends {A} S a front = (z : Tokens) × ((r : Tokens) (l : Log) → (x : A) × (b : Spot) × (m : Log) × S x (place (upon a (front ++ (z ++ r))) l) (place (upon b r) m))

-- some tokens are a sentence, whatever follows
abbrev pub Sample : {A : Type 0} → (A → Stretch) → Type 0
Sample {A} S = (z : Tokens) × ((a : Spot) (r : Tokens) (l : Log) → (x : A) × (b : Spot) × (m : Log) × S x (place (upon a (z ++ r)) l) (place (upon b r) m))

-- What was found is spelled there, whatever follows. What was read where nothing was found begins a sentence.
abbrev pub Tells : {A : Type 0} → (A → Stretch) → Spot → Tokens → Outcome A → Type 0
Tells S a front (Got x b) = (w : Tokens) (l : Log) → (m : Log) × S x (place (upon a (front ++ w)) l) (place (upon b w) m)
Tells S a front (Wrong b) = Ends S a front
Tells S a front (Over b) = Ends S a front

-- Of one outcome: which tokens were read, that only they and the next one matter, and what they are of the relation.
pub record Stays {A : Type 0} (S : A → Stretch) (p : Parser A) (a : Spot) (o : Outcome A) : Type 0 where
  pub front : Tokens
  pub split : a.ahead ≡ front ++ (place_of o).ahead
  pub peeks : (w : Tokens) → Near o w → head (front ++ w) ≡ head a.ahead
  -- only the tokens before, and the next one, matter
  pub same : (w : Tokens) → Near o w → p (upon a (front ++ w)) ≡ moved o w
  pub tells : Tells S a front o

-- A parser is lawful for a relation where it finds each sentence, within the limits, and says only what is so.
-- F holds of each token that begins a sentence, and M of each that may go on with one.
pub record Lawful {A : Type 0} (L : Limits) (S : A → Stretch) (F M : Set) (p : Parser A) : Type 0 where
  pub finds : (a b : Place) (x : A) → S x a b → M (peek b.spot) ≡ false → Fine L a → Meets L a b x (p a.spot)
  pub begins : (a b : Place) (x : A) → S x a b → M (peek b.spot) ≡ false → F (peek a.spot) ≡ true
  pub later : (a b : Place) (x : A) → S x a b → Later a b
  pub stays : (a : Spot) → Stays S p a (p a)
  pub sample : Sample S

-- what is in F is not in M
abbrev pub Clear : (F M : Set) → Type 0
Clear F M = (k : Option Kind) → F k ≡ true → M k ≡ false

-- no kind, and not the end
abbrev pub none_of : Set
none_of k = false

pub clear_none : (F : Set) → Clear F none_of
clear_none F k e = refl

-- what is in either
abbrev pub or : Set → Set → Set
or F G = λ k. F k || G k

pub or_left : (b c : Bool) → b ≡ true → (b || c) ≡ true
or_left true c e = refl
or_left false c e = absurd cc

pub or_right : (b c : Bool) → c ≡ true → (b || c) ≡ true
or_right true c e = refl
or_right false c e = e

pub or_false : (b c : Bool) → (b || c) ≡ false → (b ≡ false) × (c ≡ false)
or_false true c e = absurd cc
or_false false c e = (refl, e)

-- what is in F is in G
abbrev pub Within : Set → Set → Type 0
Within F G = (k : Option Kind) → F k ≡ true → G k ≡ true

-- ---- counted once

pub later_same : (a b : Place) → a ≡ b → Later a b
later_same a b e = ([], ap (λ (c : Place). c.log) (sym e), ap count (sym e))

pub later_then : (a b c : Place) → Later a b → Later b c → Later a c
later_then a b c s t = (t.0 ++ s.0, t.1 ∙ ap (λ (l : Log). t.0 ++ l) s.1 ∙ sym (append_assoc t.0 s.0 a.log), t.2 ∙ s.2)

-- what passes a limit first does so in every longer log
pub passed_on : (L : Limits) (u l : Log) (n : ℕ) → passed L l ≡ Some n → passed L (u ++ l) ≡ Some n
passed_on L [] l n e = e
passed_on L (m ∷ u) l n e = ap (λ (o : Option ℕ). earlier o (unless (fits L m) (length (u ++ l)))) (passed_on L u l n e)

-- a limit is passed, so nothing more is read
pub past_then : {A B : Type 0} (L : Limits) (n : ℕ) (l : Log) (o : Outcome A) (f : A → Parser B) → IsPast L n l o → IsPast L n l (and_then o f)
past_then L n l (Got x b) f d = absurd d
past_then L n l (Wrong b) f d = absurd d
past_then L n l (Over b) f d = d

-- more is read behind
pub past_on : {A : Type 0} (L : Limits) (n : ℕ) (b c : Place) (o : Outcome A) → Later b c → IsPast L n b.log o → IsPast L n c.log o
past_on L n b c (Got x d) s h = absurd h
past_on L n b c (Wrong d) s h = absurd h
past_on L n b c (Over d) s h = (h.0, h.1, s.0 ++ h.2, s.1 ∙ ap (λ (l : Log). s.0 ++ l) h.3 ∙ sym (append_assoc s.0 h.2 (h.0 ∷ h.1)), h.4, h.5)

-- more was read before
pub past_from : {A : Type 0} (L : Limits) (l : Log) (a b : Place) (o : Outcome A) → Later a b → IsPast L (count b) l o → IsPast L (count a) l o
past_from {A} L l a b o s h = subst (λ (n : ℕ). IsPast L n l o) s.2 h

-- ---- inversion

-- what was found behind another part
pub then_got : {A B : Type 0} (o : Outcome A) (f : A → Parser B) (y : B) (c : Spot) → and_then o f ≡ Got y c → (x : A) × (b : Spot) × (o ≡ Got x b) × (f x b ≡ Got y c)
then_got (Got x b) f y c e = (x, b, refl, e)
then_got (Wrong b) f y c e = absurd cc
then_got (Over b) f y c e = absurd cc

abbrev pub got : {A : Type 0} → A → Spot → Outcome A
got x b = Got x b

pub got_value : {A : Type 0} (x y : A) (b c : Spot) → Got x b ≡ Got y c → x ≡ y
got_value x y b c e = cc

pub got_place : {A : Type 0} (x y : A) (b c : Spot) → Got x b ≡ Got y c → b ≡ c
got_place x y b c e = cc

-- what is found is spelled there
pub sound : {A : Type 0} {L : Limits} {S : A → Stretch} {F M : Set} {p : Parser A} → Lawful L S F M p → (a b : Spot) (x : A) → p a ≡ Got x b → (l : Log) → (m : Log) × S x (place a l) (place b m)
sound {A} {L} {S} {F} {M} {p} law a b x e l = go (p a) e (law.stays a)
  where
    go : (o : Outcome A) → o ≡ Got x b → Stays S p a o → (m : Log) × S x (place a l) (place b m)
    go (Got y c) e s =
        let h = s.tells c.ahead l in
        let one : S y (place a l) (place c h.0) = subst (λ (w : Tokens). S y (place (upon a w) l) (place c h.0)) (sym s.split) h.1 in
        (h.0, subst (λ (c : Spot). S x (place a l) (place c h.0)) (got_place y x c b e) (subst (λ (y : A). S y (place a l) (place c h.0)) (got_value y x c b e) one))
    go (Wrong c) e s = absurd cc
    go (Over c) e s = absurd cc

-- ---- the same law, in other words

-- with more kinds that may begin, and more that may go on
pub with_sets : {A : Type 0} {L : Limits} {S : A → Stretch} {F M G N : Set} {p : Parser A} → Lawful L S F M p → Within F G → Clear (λ k. not (N k)) M → Lawful L S G N p
with_sets {A} {L} {S} {F} {M} {G} {N} {p} law wide narrow = record {
  finds = λ a b x s m fine. law.finds a b x s (narrow (peek b.spot) (not_true (N (peek b.spot)) m)) fine;
  begins = λ a b x s m. wide (peek a.spot) (law.begins a b x s (narrow (peek b.spot) (not_true (N (peek b.spot)) m)));
  later = law.later;
  stays = law.stays;
  sample = law.sample;
}
  where
    not_true : (b : Bool) → b ≡ false → not b ≡ true
    not_true true e = absurd cc
    not_true false e = refl

-- the same sentences
pub same_sentences : {A : Type 0} {L : Limits} {S : A → Stretch} {F M : Set} {p : Parser A} (T : A → Stretch) → ((x : A) (a b : Place) → S x a b → T x a b) → ((x : A) (a b : Place) → T x a b → S x a b) → Lawful L S F M p → Lawful L T F M p
same_sentences {A} {L} {S} {F} {M} {p} T to back law = record {
  finds = λ a b x s m fine. law.finds a b x (back x a b s) m fine;
  begins = λ a b x s m. law.begins a b x (back x a b s) m;
  later = λ a b x s. law.later a b x (back x a b s);
  stays = λ a. let s = law.stays a in record { front = s.front; split = s.split; peeks = s.peeks; same = s.same; tells = tells a s.front (p a) s.tells };
  sample = (law.sample.0, λ a r l. let h = law.sample.1 a r l in (h.0, h.1, h.2, to h.0 _ _ h.3));
}
  where
    tells : (a : Spot) (u : Tokens) (o : Outcome A) → Tells S a u o → Tells T a u o
    tells a u (Got x b) t = λ w l. let h = t w l in (h.0, to x _ _ h.1)
    tells a u (Wrong b) t = (t.0, λ r l. let h = t.1 r l in (h.0, h.1, h.2, to h.0 _ _ h.3))
    tells a u (Over b) t = (t.0, λ r l. let h = t.1 r l in (h.0, h.1, h.2, to h.0 _ _ h.3))

-- a parser of the same outcomes
pub law_of_same : {A : Type 0} {L : Limits} {S : A → Stretch} {F M : Set} {p : Parser A} (q : Parser A) → ((a : Spot) → p a ≡ q a) → Lawful L S F M p → Lawful L S F M q
law_of_same {A} {L} {S} {F} {M} {p} q same law = record {
  finds = λ a b x s m fine. subst (λ (o : Outcome A). Meets L a b x o) (same a.spot) (law.finds a b x s m fine);
  begins = law.begins;
  later = law.later;
  stays = λ a. moves a (law.stays a);
  sample = law.sample;
}
  where
    moves : (a : Spot) → Stays S p a (p a) → Stays S q a (q a)
    moves a s = subst (λ (o : Outcome A). Stays S q a o) (same a) (record {
      front = s.front;
      split = s.split;
      peeks = s.peeks;
      tells = s.tells;
      same = λ w h. sym (same (upon a (s.front ++ w))) ∙ s.same w h;
    })
