-- Opening brackets, and what stands behind them.
use Rattle.std.proofs.Common.{◌≡◌, ℕ, zero, suc, ◌+◌, Bool, true, false, cond, ◌++◌, refl, sym, ap, subst, append_assoc, inl, inr, arith}
use Rattle.std.specs.Prelude.{◌&&◌}
use Rattle.enc_lex.specs.declared.kinds.Kind.{Kind}
use Rattle.enc_cursor.specs.Counts.{Rule, bracket, bracketed_group, group_rules}
use Rattle.enc_cursor.specs.Limits.{Allowed, Limits, at_most, fits}
use Rattle.enc_cursor.specs.Place.{Tokens, Spot, Place, place, upon, peek, is}
use Rattle.enc_cursor.specs.Stretch.{Stretch, IsOpeningBy, OpenedBy, Opened}
use Rattle.enc_cursor.specs.Steps.{Outcome, Got, Wrong, Over, Parser, Set, and_then, ◌<$>◌, next}
use Rattle.enc_cursor.specs.Counted.{go_on, counted_next, seen, is_positive, opening, opened_by, opened, group_room, opening_group, group_opening}
use Rattle.enc_cursor.proofs.Lawful.{Fine, Meets, Later, Ends, Sample, Stays, Lawful, none_of, clear_none, later_then, past_then, past_on, law_of_same}
use Rattle.enc_cursor.proofs.Sequence.{both_lawful}
use Rattle.enc_cursor.proofs.Tokens.{counts_on, counted_at, seen_lawful, unit_law}

-- What stands inside brackets. Where there is no room for them nothing is asked of its parser.
pub record Inside {A : Type 0} (L : Limits) (room : ℕ) (S : A → Stretch) (F M : Set) (p : Parser A) : Type 0 where
  pub law : (r : ℕ) → room ≡ suc r → Lawful L S F M p
  pub later : (a b : Place) (x : A) → S x a b → Later a b
  pub sample : Sample S

-- A parser of an opening bracket that is counted by the rule. Where there is no room it finds none.
pub record Opener (L : Limits) (room : ℕ) (r : Rule) (k : Kind) (q : Parser (Unit {0})) : Type 0 where
  pub law : Lawful L (IsOpeningBy r k) (is k) none_of q
  pub shut : room ≡ 0 → (a b : Spot) (x : Unit {0}) → q a ≡ Got x b → ⊥

-- one more bracket is allowed where there is room
pub room_agrees : (n room m : ℕ) → n + room ≡ m → is_positive room ≡ at_most (suc n) m
room_agrees zero zero zero e = refl
room_agrees zero zero (suc m) e = absurd (omega arith)
room_agrees zero (suc r) zero e = absurd (omega arith)
room_agrees zero (suc r) (suc m) e = refl
room_agrees (suc n) room zero e = absurd (omega arith)
room_agrees (suc n) room (suc m) e = let h : n + room ≡ m = omega arith in room_agrees n room m h

-- ---- brackets that count as nothing else

opening_is : (n room : ℕ) (k : Kind) (a : Spot) → ((λ v. tt) <$> seen (bracket n) (λ v c. is_positive room) k) a ≡ opening room k a
unfolding seen opening
opening_is n room k a = go (is k (peek a)) (is_positive room)
  where
    go : (b d : Bool) → and_then (cond b (go_on d (next a).last (next a) (next a)) (Wrong a)) (λ v b. counted_at b) ≡ cond b (counts_on d (next a) (next a)) (Wrong a)
    go true true = refl
    go true false = refl
    go false d = refl

pub opening_lawful : {L : Limits} (n room : ℕ) (k : Kind) → n + room ≡ L.brackets → Lawful L (IsOpeningBy (bracket n) k) (is k) none_of (opening room k)
opening_lawful {L} n room k fits = law_of_same (opening room k) (opening_is n room k)
    (unit_law (bracket n) k (seen_lawful (bracket n) (λ v c. is_positive room) k (λ v. tt) (λ v c. room_agrees n room L.brackets fits)))

-- there is no room
opening_shut : (k : Kind) (a b : Spot) (x : Unit {0}) → opening 0 k a ≡ Got x b → ⊥
unfolding opening
opening_shut k a b x e = go (is k (peek a)) e
  where
    go : (c : Bool) → cond c (counts_on false (next a) (next a)) (Wrong a) ≡ Got x b → ⊥
    go true e = cc
    go false e = cc

pub bracket_opener : {L : Limits} (n room : ℕ) (k : Kind) → n + room ≡ L.brackets → Opener L room (bracket n) k (opening room k)
bracket_opener n room k fits = record { law = opening_lawful n room k fits; shut = λ e a b x. subst (λ (m : ℕ). opening m k a ≡ Got x b → ⊥) (sym e) (opening_shut k a b x) }

-- ---- brackets by which a group of a class begins

group_is : (C : Allowed) (n room : ℕ) (k : Kind) (a : Spot) → ((λ v. tt) <$> seen (bracketed_group n) (group_room C room) k) a ≡ opening_group C room k a
unfolding seen opening_group
group_is C n room k a = go (is k (peek a)) (group_room C room (next a).last (next a).counts)
  where
    go : (b d : Bool) → and_then (cond b (go_on d (next a).last (counted_next (bracketed_group n) a) (next a)) (Wrong a)) (λ v b. counted_at b) ≡ cond b (counts_on d (counted_next (bracketed_group 0) a) (next a)) (Wrong a)
    go true true = refl
    go true false = refl
    go false d = refl

pub opening_group_lawful : {L : Limits} (n room : ℕ) (k : Kind) → n + room ≡ L.brackets → Lawful L (IsOpeningBy (bracketed_group n) k) (is k) none_of (opening_group L.counts room k)
opening_group_lawful {L} n room k fits = law_of_same (opening_group L.counts room k) (group_is L.counts n room k)
    (unit_law (bracketed_group n) k (seen_lawful (bracketed_group n) (group_room L.counts room) k (λ v. tt) (λ v c. ap (λ (b : Bool). at_most (c.groups + 1) L.counts.groups && b) (room_agrees n room L.brackets fits))))

-- there is no room
group_shut : (C : Allowed) (k : Kind) (a b : Spot) (x : Unit {0}) → opening_group C 0 k a ≡ Got x b → ⊥
unfolding opening_group
group_shut C k a b x e = go (is k (peek a)) (at_most ((next a).counts.groups + 1) C.groups) e
  where
    go : (c d : Bool) → cond c (counts_on (d && false) (counted_next (bracketed_group 0) a) (next a)) (Wrong a) ≡ Got x b → ⊥
    go true true e = cc
    go true false e = cc
    go false d e = cc

pub group_opener : {L : Limits} (n room : ℕ) (k : Kind) → n + room ≡ L.brackets → Opener L room (bracketed_group n) k (opening_group L.counts room k)
group_opener {L} n room k fits = record { law = opening_group_lawful n room k fits; shut = λ e a b x. subst (λ (m : ℕ). opening_group L.counts m k a ≡ Got x b → ⊥) (sym e) (group_shut L.counts k a b x) }

-- a bracket by which a group begins
pub opener_of : {L : Limits} (of_a_class : Bool) (n room : ℕ) (k : Kind) → n + room ≡ L.brackets → Opener L room ((group_rules of_a_class).opener n) k (group_opening L.counts of_a_class room k)
unfolding group_opening
opener_of true n room k fits = group_opener n room k fits
opener_of false n room k fits = bracket_opener n room k fits

-- behind a bracket for which there is no room
abbrev shut : {A : Type 0} → Parser A → Outcome (Unit {0}) → Outcome A
shut p o = and_then o (λ x b. and_then (p b) (λ y c. Got y c))

-- no room
module _ {A : Type 0} {S : A → Stretch} {L : Limits} {rule : Rule} {k : Kind} {q : Parser (Unit {0})} (opener : Opener L 0 rule k q) (p : Parser A) (later : (a b : Place) (x : A) → S x a b → Later a b) (sample : Sample S) where
  shut_finds : (a c : Place) (x : A) → OpenedBy rule k S x a c → Fine L a → Meets L a c x (opened_by q p a.spot)
  shut_finds a c x s fine = elim (opener.law.finds a s.0 tt s.1 refl fine) [
    | inl e ↦ absurd (opener.shut refl a.spot s.0.spot tt e.0)
    | inr d ↦ inr (past_then L _ _ (q a.spot) _ (past_on L _ s.0 c (q a.spot) (later s.0 c x s.2) d))
  ]

  shut_ends : (a : Spot) (u : Tokens) → Ends (IsOpeningBy rule k) a u → Ends (OpenedBy rule k S) a u
  shut_ends a u t = (
    t.0 ++ sample.0,
    λ r l.
        let h = t.1 (sample.0 ++ r) l in let m = sample.1 h.1 r h.2 in
        (m.0, m.1, m.2, subst (λ (v : Tokens). OpenedBy rule k S m.0 (place (upon a (u ++ v)) l) (place (upon m.1 r) m.2)) (sym (append_assoc t.0 sample.0 r)) (_, h.3, m.3)),
  )

  shut_stays : (a : Spot) (o : Outcome (Unit {0})) → q a ≡ o → Stays (IsOpeningBy rule k) q a o → Stays (OpenedBy rule k S) (opened_by q p) a (shut p o)
  shut_stays a (Got x b) e s = absurd (opener.shut refl a b x e)
  shut_stays a (Wrong b) e s = record { front = s.front; split = s.split; peeks = s.peeks; same = λ w h. ap (shut p) (s.same w h); tells = shut_ends a s.front s.tells }
  shut_stays a (Over b) e s = record { front = s.front; split = s.split; peeks = s.peeks; same = λ w h. ap (shut p) (s.same w h); tells = shut_ends a s.front s.tells }

  shut_lawful : {M : Set} → Lawful L (OpenedBy rule k S) (is k) M (opened_by q p)
  shut_lawful = record {
    finds = λ a c x s m fine. shut_finds a c x s fine;
    begins = λ a c x s m. opener.law.begins a s.0 tt s.1 refl;
    later = λ a c x s. later_then a s.0 c (opener.law.later a s.0 tt s.1) (later s.0 c x s.2);
    stays = λ a. shut_stays a (q a) refl (opener.law.stays a);
    sample = (
      opener.law.sample.0 ++ sample.0,
      λ a r l.
          let h = opener.law.sample.1 a (sample.0 ++ r) l in let m = sample.1 h.1 r h.2 in
          (m.0, m.1, m.2, subst (λ (v : Tokens). OpenedBy rule k S m.0 (place (upon a v) l) (place (upon m.1 r) m.2)) (sym (append_assoc opener.law.sample.0 sample.0 r)) (_, h.3, m.3)),
    );
  }

-- behind an opening bracket of any rule
pub opened_by_lawful : {A : Type 0} {L : Limits} {S : A → Stretch} {F M : Set} {p : Parser A} {room : ℕ} {r : Rule} {k : Kind} {q : Parser (Unit {0})} → Opener L room r k q → Inside L room S F M p → Lawful L (OpenedBy r k S) (is k) M (opened_by q p)
opened_by_lawful {A} {L} {S} {F} {M} {p} {room = zero} {r} {k} {q} opener inside = shut_lawful opener p inside.later inside.sample
opened_by_lawful {A} {L} {S} {F} {M} {p} {room = suc m} {r} {k} {q} opener inside = both_lawful (λ _ x. x) (OpenedBy r k S) (λ x y a b c s t. (b, s, t)) (λ z a c s. (tt, z, s.0, refl, s.1, s.2)) (clear_none F) opener.law (inside.law m refl)

-- behind an opening bracket that counts as nothing else
pub opened_lawful : {A : Type 0} {L : Limits} {S : A → Stretch} {F M : Set} {p : Parser A} (n room : ℕ) (k : Kind) → n + room ≡ L.brackets → Inside L room S F M p → Lawful L (Opened n k S) (is k) M (opened room k p)
opened_lawful n room k fits inside = opened_by_lawful (bracket_opener n room k fits) inside

-- the limits with so much room for brackets and none open around
pub zero_fits : (n : ℕ) → 0 + n ≡ n
zero_fits n = omega arith
