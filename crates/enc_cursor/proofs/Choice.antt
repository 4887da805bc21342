-- A choice by the next token.
use Rattle.std.proofs.Common.{◌≡◌, Bool, true, false, cond, [], ◌++◌, Option, Some, None, refl, sym, ap, subst, ◌∙◌, inl, inr, ◌⊎◌}
use Rattle.std.specs.Prelude.{not, ◌||◌}
use Rattle.enc_lex.specs.declared.tokens.Token.{Token}
use Rattle.enc_cursor.specs.Limits.{Limits}
use Rattle.enc_cursor.specs.Place.{Tokens, Spot, Place, upon, kind_of, peek}
use Rattle.enc_cursor.specs.Stretch.{Stretch, Maybe}
use Rattle.enc_cursor.specs.Steps.{Outcome, Got, Wrong, Over, Parser, Set, and_then, wrong, pick, optional}
use Rattle.enc_cursor.proofs.Lawful.{Fine, Meets, Later, Tells, Stays, Lawful, Clear, or, or_left, or_right, or_false, Within, later_same, past_then}
use Rattle.enc_cursor.proofs.Sequence.{moved_then, place_then, near_then}

-- The test t holds of all that begins the first, and of nothing that begins the second.
module _ {A : Type 0} {L : Limits} {S1 S2 : A → Stretch} {F1 M1 F2 M2 : Set} {p q : Parser A} (t : Set) (S : A → Stretch)
    (left : (x : A) (a b : Place) → S1 x a b → S x a b) (right : (x : A) (a b : Place) → S2 x a b → S x a b)
    (elim_to : (x : A) (a b : Place) → S x a b → S1 x a b ⊎ S2 x a b)
    (on : Within F1 t) (off : Clear F2 t) (one : Lawful L S1 F1 M1 p) (two : Lawful L S2 F2 M2 q) where
  pick_tells_left : (a : Spot) (u : Tokens) (o : Outcome A) → Tells S1 a u o → Tells S a u o
  pick_tells_left a u (Got x b) h = λ w l. let e = h w l in (e.0, left x _ _ e.1)
  pick_tells_left a u (Wrong b) h = (h.0, λ r l. let e = h.1 r l in (e.0, e.1, e.2, left e.0 _ _ e.3))
  pick_tells_left a u (Over b) h = (h.0, λ r l. let e = h.1 r l in (e.0, e.1, e.2, left e.0 _ _ e.3))

  pick_tells_right : (a : Spot) (u : Tokens) (o : Outcome A) → Tells S2 a u o → Tells S a u o
  pick_tells_right a u (Got x b) h = λ w l. let e = h w l in (e.0, right x _ _ e.1)
  pick_tells_right a u (Wrong b) h = (h.0, λ r l. let e = h.1 r l in (e.0, e.1, e.2, right e.0 _ _ e.3))
  pick_tells_right a u (Over b) h = (h.0, λ r l. let e = h.1 r l in (e.0, e.1, e.2, right e.0 _ _ e.3))

  pick_stays : (a : Spot) (b : Bool) → t (peek a) ≡ b → Stays S (pick t p q) a (cond b (p a) (q a))
  pick_stays a true e = let s = one.stays a in record {
    front = s.front;
    split = s.split;
    peeks = s.peeks;
    same = λ w h. ap (λ (b : Bool). cond b (p (upon a (s.front ++ w))) (q (upon a (s.front ++ w)))) (ap (λ (o : Option Token). t (kind_of o)) (s.peeks w h) ∙ e) ∙ s.same w h;
    tells = pick_tells_left a s.front (p a) s.tells;
  }
  pick_stays a false e = let s = two.stays a in record {
    front = s.front;
    split = s.split;
    peeks = s.peeks;
    same = λ w h. ap (λ (b : Bool). cond b (p (upon a (s.front ++ w))) (q (upon a (s.front ++ w)))) (ap (λ (o : Option Token). t (kind_of o)) (s.peeks w h) ∙ e) ∙ s.same w h;
    tells = pick_tells_right a s.front (q a) s.tells;
  }

  pick_finds : (a b : Place) (x : A) → S1 x a b ⊎ S2 x a b → or M1 M2 (peek b.spot) ≡ false → Fine L a → Meets L a b x (pick t p q a.spot)
  pick_finds a b x (inl s) m fine = let n = (or_false (M1 (peek b.spot)) (M2 (peek b.spot)) m).0 in
      subst (λ (c : Bool). Meets L a b x (cond c (p a.spot) (q a.spot))) (sym (on (peek a.spot) (one.begins a b x s n))) (one.finds a b x s n fine)
  pick_finds a b x (inr s) m fine = let n = (or_false (M1 (peek b.spot)) (M2 (peek b.spot)) m).1 in
      subst (λ (c : Bool). Meets L a b x (cond c (p a.spot) (q a.spot))) (sym (off (peek a.spot) (two.begins a b x s n))) (two.finds a b x s n fine)

  pick_begins : (a b : Place) (x : A) → S1 x a b ⊎ S2 x a b → or M1 M2 (peek b.spot) ≡ false → or F1 F2 (peek a.spot) ≡ true
  pick_begins a b x (inl s) m = or_left (F1 (peek a.spot)) (F2 (peek a.spot)) (one.begins a b x s (or_false (M1 (peek b.spot)) (M2 (peek b.spot)) m).0)
  pick_begins a b x (inr s) m = or_right (F1 (peek a.spot)) (F2 (peek a.spot)) (two.begins a b x s (or_false (M1 (peek b.spot)) (M2 (peek b.spot)) m).1)

  pick_later : (a b : Place) (x : A) → S1 x a b ⊎ S2 x a b → Later a b
  pick_later a b x (inl s) = one.later a b x s
  pick_later a b x (inr s) = two.later a b x s

  pub pick_lawful : Lawful L S (or F1 F2) (or M1 M2) (pick t p q)
  pick_lawful = record {
    finds = λ a b x s m fine. pick_finds a b x (elim_to x a b s) m fine;
    begins = λ a b x s m. pick_begins a b x (elim_to x a b s) m;
    later = λ a b x s. pick_later a b x (elim_to x a b s);
    stays = λ a. pick_stays a (t (peek a)) refl;
    sample = (one.sample.0, λ a r l. let h = one.sample.1 a r l in (h.0, h.1, h.2, left h.0 _ _ h.3));
  }

-- where nothing else may come
module _ {A : Type 0} {S : A → Stretch} {F M : Set} {p : Parser A} {L : Limits} (t : Set) (law : Lawful L S F M p) (on : Within F t) where
  only_stays : (a : Spot) (b : Bool) → t (peek a) ≡ b → Stays S (pick t p wrong) a (cond b (p a) (Wrong a))
  only_stays a true e = let s = law.stays a in record {
    front = s.front;
    split = s.split;
    peeks = s.peeks;
    tells = s.tells;
    same = λ w h. ap (λ (b : Bool). cond b (p (upon a (s.front ++ w))) (Wrong (upon a (s.front ++ w)))) (ap (λ (o : Option Token). t (kind_of o)) (s.peeks w h) ∙ e) ∙ s.same w h;
  }
  only_stays a false e = record {
    front = [];
    split = refl;
    peeks = λ w h. h;
    same = λ w h. ap (λ (b : Bool). cond b (p (upon a w)) (Wrong (upon a w))) (ap (λ (o : Option Token). t (kind_of o)) h ∙ e);
    tells = (law.sample.0, λ r l. law.sample.1 a r l);
  }

  pub only_lawful : Lawful L S F M (pick t p wrong)
  only_lawful = record {
    finds = λ a b x s m fine. subst (λ (c : Bool). Meets L a b x (cond c (p a.spot) (Wrong a.spot))) (sym (on (peek a.spot) (law.begins a b x s m))) (law.finds a b x s m fine);
    begins = law.begins;
    later = law.later;
    stays = λ a. only_stays a (t (peek a)) refl;
    sample = law.sample;
  }

-- ---- what the token introduces, if it comes next

-- F, or whatever may not go on
abbrev pub or_past : Set → Set → Set
or_past F M = λ k. F k || not (M k)

pub not_false : (b : Bool) → b ≡ false → not b ≡ true
not_false true e = absurd cc
not_false false e = refl

pub maybe_later : {A : Type 0} {S : A → Stretch} → ((a b : Place) (x : A) → S x a b → Later a b) → (a b : Place) (x : Option A) → Maybe S x a b → Later a b
maybe_later later a b None s = later_same a b s
maybe_later later a b (Some x) s = later a b x s

module _ {A : Type 0} {L : Limits} {S : A → Stretch} {F M : Set} {p : Parser A} (t : Set) (on : Within F t) (law : Lawful L S F M p) where
  optional_stays : (a : Spot) (b : Bool) → t (peek a) ≡ b → Stays (Maybe S) (optional t p) a (cond b (and_then (p a) (λ x b. Got (Some x) b)) (Got None a))
  optional_stays a true e = go (p a) (law.stays a)
    where
      tells : (u : Tokens) (o : Outcome A) → Tells S a u o → Tells (Maybe S) a u (and_then o (λ x b. Got (Some x) b))
      tells u (Got x b) h = h
      tells u (Wrong b) h = (h.0, λ r l. let e = h.1 r l in (Some e.0, e.1, e.2, e.3))
      tells u (Over b) h = (h.0, λ r l. let e = h.1 r l in (Some e.0, e.1, e.2, e.3))

      go : (o : Outcome A) → Stays S p a o → Stays (Maybe S) (optional t p) a (and_then o (λ x b. Got (Some x) b))
      go o s = record {
        front = s.front;
        split = rw (place_then o Some) s.split;
        peeks = λ w h. s.peeks w (near_then o Some w h);
        same = λ w h. let near = near_then o Some w h in
            ap (λ (b : Bool). cond b (and_then (p (upon a (s.front ++ w))) (λ x b. Got (Some x) b)) (Got None (upon a (s.front ++ w)))) (ap (λ (o : Option Token). t (kind_of o)) (s.peeks w near) ∙ e)
            ∙ ap (λ (r : Outcome A). and_then r (λ x b. Got (Some x) b)) (s.same w near) ∙ moved_then o Some w;
        tells = tells s.front o s.tells;
      }
  optional_stays a false e = record {
    front = [];
    split = refl;
    peeks = λ w h. h;
    same = λ w h. ap (λ (b : Bool). cond b (and_then (p (upon a w)) (λ x b. Got (Some x) b)) (Got None (upon a w))) (ap (λ (o : Option Token). t (kind_of o)) h ∙ e);
    tells = λ w l. (l, refl);
  }

  optional_finds : (a b : Place) (x : Option A) → Maybe S x a b → or t M (peek b.spot) ≡ false → Fine L a → Meets L a b x (optional t p a.spot)
  optional_finds a b None s m fine = inl (ap (λ (c : Bool). cond c (and_then (p a.spot) (λ x b. Got (Some x) b)) (Got None a.spot)) (ap (λ (c : Place). t (peek c.spot)) s ∙ (or_false (t (peek b.spot)) (M (peek b.spot)) m).0) ∙ ap (λ (c : Place). Got None c.spot) s, subst (Fine L) s fine)
  optional_finds a b (Some x) s m fine =
      let n = (or_false (t (peek b.spot)) (M (peek b.spot)) m).1 in
      subst (λ (c : Bool). Meets L a b (Some x) (cond c (and_then (p a.spot) (λ x b. Got (Some x) b)) (Got None a.spot))) (sym (on (peek a.spot) (law.begins a b x s n)))
      (elim (law.finds a b x s n fine) [
        | inl e ↦ inl (ap (λ (r : Outcome A). and_then r (λ x b. Got (Some x) b)) e.0, e.1)
        | inr d ↦ inr (past_then L _ _ (p a.spot) _ d)
      ])

  optional_begins : (a b : Place) (x : Option A) → Maybe S x a b → or t M (peek b.spot) ≡ false → or_past F (or t M) (peek a.spot) ≡ true
  optional_begins a b None s m = or_right (F (peek a.spot)) _ (not_false (or t M (peek a.spot)) (ap (λ (c : Place). or t M (peek c.spot)) s ∙ m))
  optional_begins a b (Some x) s m = or_left (F (peek a.spot)) _ (law.begins a b x s (or_false (t (peek b.spot)) (M (peek b.spot)) m).1)

  pub optional_lawful : Lawful L (Maybe S) (or_past F (or t M)) (or t M) (optional t p)
  optional_lawful = record {
    finds = optional_finds;
    begins = optional_begins;
    later = maybe_later law.later;
    stays = λ a. optional_stays a (t (peek a)) refl;
    sample = ([], λ a r l. (None, a, l, refl));
  }
