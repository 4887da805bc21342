-- One part after the other, and what is made of it.
use Rattle.std.proofs.Common.{◌≡◌, false, ◌++◌, refl, sym, ap, subst, ◌∙◌, append_assoc, inl, inr}
use Rattle.enc_cursor.specs.Limits.{Limits, Log}
use Rattle.enc_cursor.specs.Place.{Tokens, Spot, Place, place, upon, head, peek}
use Rattle.enc_cursor.specs.Stretch.{Stretch}
use Rattle.enc_cursor.specs.Steps.{Outcome, Got, Wrong, Over, Parser, Set, and_then, both, ◌<$>◌}
use Rattle.enc_cursor.proofs.Lawful.{place_of, moved, Near, Fine, count, IsPast, Meets, Ends, Tells, Stays, Lawful, Clear, later_then, past_then, past_on, past_from}

pub moved_then : {A B : Type 0} (o : Outcome A) (g : A → B) (w : Tokens) → and_then (moved o w) (λ y c. Got (g y) c) ≡ moved (and_then o (λ y c. Got (g y) c)) w
moved_then (Got x b) g w = refl
moved_then (Wrong b) g w = refl
moved_then (Over b) g w = refl

pub place_then : {A B : Type 0} (o : Outcome A) (g : A → B) → place_of (and_then o (λ y c. Got (g y) c)) ≡ place_of o
place_then (Got x b) g = refl
place_then (Wrong b) g = refl
place_then (Over b) g = refl

pub near_then : {A B : Type 0} (o : Outcome A) (g : A → B) (w : Tokens) → Near (and_then o (λ y c. Got (g y) c)) w → Near o w
near_then (Got x b) g w h = h
near_then (Wrong b) g w h = h
near_then (Over b) g w h = tt

-- g makes the value of the two parts. The parts make the whole (intro), and each whole has its parts (elim_to).
module _ {A B C : Type 0} {L : Limits} {S1 : A → Stretch} {S2 : B → Stretch} {F1 M1 F2 M2 : Set} {p : Parser A} {q : Parser B}
    (g : A → B → C) (S : C → Stretch)
    (intro : (x : A) (y : B) (a b c : Place) → S1 x a b → S2 y b c → S (g x y) a c)
    (elim_to : (z : C) (a c : Place) → S z a c → (x : A) × (y : B) × (b : Place) × (g x y ≡ z) × S1 x a b × S2 y b c)
    (clear : Clear F2 M1) (one : Lawful L S1 F1 M1 p) (two : Lawful L S2 F2 M2 q) where
  second_stays : (a b : Spot) (x : A) (u : Tokens) → a.ahead ≡ u ++ b.ahead → ((w : Tokens) → head w ≡ head b.ahead → head (u ++ w) ≡ head a.ahead)
      → ((w : Tokens) → head w ≡ head b.ahead → p (upon a (u ++ w)) ≡ Got x (upon b w))
      → ((w : Tokens) (l : Log) → (m : Log) × S1 x (place (upon a (u ++ w)) l) (place (upon b w) m)) → (o : Outcome B) → Stays S2 q b o → Stays S (both g p q) a (and_then o (λ y c. Got (g x y) c))
  second_stays a b x u split peeks same reads o s = record {
    front = u ++ s.front;
    split = rw (place_then o (g x)) (split ∙ ap (λ (v : Tokens). u ++ v) s.split ∙ sym (append_assoc u s.front (place_of o).ahead));
    peeks = λ w h. ap head (append_assoc u s.front w) ∙ peeks (s.front ++ w) (s.peeks w (near_then o (g x) w h));
    same = λ w h. let near = near_then o (g x) w h in
        ap (λ (v : Tokens). both g p q (upon a v)) (append_assoc u s.front w)
        ∙ ap (λ (r : Outcome A). and_then r (λ x b. and_then (q b) (λ y c. Got (g x y) c))) (same (s.front ++ w) (s.peeks w near))
        ∙ ap (λ (r : Outcome B). and_then r (λ y c. Got (g x y) c)) (s.same w near) ∙ moved_then o (g x) w;
    tells = tells o s.front s.tells;
  }
    where
      tells : (o : Outcome B) (v : Tokens) → Tells S2 b v o → Tells S a (u ++ v) (and_then o (λ y c. Got (g x y) c))
      tells (Got y c) v t = λ w l. let h = reads (v ++ w) l in let k = t w h.0 in (k.0, subst (λ (t : Tokens). S (g x y) (place (upon a t) l) (place (upon c w) k.0)) (sym (append_assoc u v w)) (intro x y _ _ _ h.1 k.1))
      tells (Wrong c) v t = (t.0, λ r l. let h = reads (v ++ (t.0 ++ r)) l in let k = t.1 r h.0 in (g x k.0, k.1, k.2, subst (λ (t : Tokens). S (g x k.0) (place (upon a t) l) (place (upon k.1 r) k.2)) (sym (append_assoc u v (t.0 ++ r))) (intro x k.0 _ _ _ h.1 k.3)))
      tells (Over c) v t = (t.0, λ r l. let h = reads (v ++ (t.0 ++ r)) l in let k = t.1 r h.0 in (g x k.0, k.1, k.2, subst (λ (t : Tokens). S (g x k.0) (place (upon a t) l) (place (upon k.1 r) k.2)) (sym (append_assoc u v (t.0 ++ r))) (intro x k.0 _ _ _ h.1 k.3)))

  first_ends : (a : Spot) (u : Tokens) → Ends S1 a u → Ends S a u
  first_ends a u t = (
    t.0 ++ two.sample.0,
    λ r l.
        let h = t.1 (two.sample.0 ++ r) l in let k = two.sample.1 h.1 r h.2 in
        (g h.0 k.0, k.1, k.2, subst (λ (v : Tokens). S (g h.0 k.0) (place (upon a (u ++ v)) l) (place (upon k.1 r) k.2)) (sym (append_assoc t.0 two.sample.0 r)) (intro h.0 k.0 _ _ _ h.3 k.3)),
  )

  first_stays : (a : Spot) (o : Outcome A) → Stays S1 p a o → Stays S (both g p q) a (and_then o (λ x b. and_then (q b) (λ y c. Got (g x y) c)))
  first_stays a (Got x b) s = second_stays a b x s.front s.split s.peeks s.same s.tells (q b) (two.stays b)
  first_stays a (Wrong b) s = record {
    front = s.front;
    split = s.split;
    peeks = s.peeks;
    same = λ w h. ap (λ (r : Outcome A). and_then r (λ x b. and_then (q b) (λ y c. Got (g x y) c))) (s.same w h);
    tells = first_ends a s.front s.tells;
  }
  first_stays a (Over b) s = record {
    front = s.front;
    split = s.split;
    peeks = s.peeks;
    same = λ w h. ap (λ (r : Outcome A). and_then r (λ x b. and_then (q b) (λ y c. Got (g x y) c))) (s.same w h);
    tells = first_ends a s.front s.tells;
  }

  both_finds : (a b c : Place) (x : A) (y : B) → S1 x a b → S2 y b c → M2 (peek c.spot) ≡ false → Fine L a → Meets L a c (g x y) (both g p q a.spot)
  both_finds a b c x y s1 s2 m fine = elim (one.finds a b x s1 (clear (peek b.spot) (two.begins b c y s2 m)) fine) [
    | inl e ↦ elim (two.finds b c y s2 m e.1) [
      | inl e2 ↦ inl (ap (λ (r : Outcome A). and_then r (λ x b. and_then (q b) (λ y c. Got (g x y) c))) e.0 ∙ ap (λ (r : Outcome B). and_then r (λ y c. Got (g x y) c)) e2.0, e2.1)
      | inr d ↦ inr (subst (λ (r : Outcome A). IsPast L (count a) c.log (and_then r (λ x b. and_then (q b) (λ y c. Got (g x y) c)))) (sym e.0) (past_then L _ _ (q b.spot) _ (past_from L _ a b (q b.spot) (one.later a b x s1) d)))
    ]
    | inr d ↦ inr (past_then L _ _ (p a.spot) _ (past_on L _ b c (p a.spot) (two.later b c y s2) d))
  ]

  pub both_lawful : Lawful L S F1 M2 (both g p q)
  both_lawful = record {
    finds = λ a c z s m f. let e = elim_to z a c s in
        subst (λ (z : C). Meets L a c z (both g p q a.spot)) e.3 (both_finds a e.2 c e.0 e.1 e.4 e.5 m f);
    begins = λ a c z s m. let e = elim_to z a c s in one.begins a e.2 e.0 e.4 (clear (peek e.2.spot) (two.begins e.2 c e.1 e.5 m));
    later = λ a c z s. let e = elim_to z a c s in later_then a e.2 c (one.later a e.2 e.0 e.4) (two.later e.2 c e.1 e.5);
    stays = λ a. first_stays a (p a) (one.stays a);
    sample = (
      one.sample.0 ++ two.sample.0,
      λ a r l.
          let h = one.sample.1 a (two.sample.0 ++ r) l in let k = two.sample.1 h.1 r h.2 in
          (g h.0 k.0, k.1, k.2, subst (λ (v : Tokens). S (g h.0 k.0) (place (upon a v) l) (place (upon k.1 r) k.2)) (sym (append_assoc one.sample.0 two.sample.0 r)) (intro h.0 k.0 _ _ _ h.3 k.3)),
    );
  }

-- ---- under another name

-- f makes the value.
module _ {A B : Type 0} {L : Limits} {S1 : A → Stretch} {F M : Set} {p : Parser A} (f : A → B) (S : B → Stretch)
    (intro : (x : A) (a b : Place) → S1 x a b → S (f x) a b)
    (elim_to : (y : B) (a b : Place) → S y a b → (x : A) × (f x ≡ y) × S1 x a b)
    (law : Lawful L S1 F M p) where
  as_finds : (a b : Place) (x : A) → S1 x a b → M (peek b.spot) ≡ false → Fine L a → Meets L a b (f x) ((f <$> p) a.spot)
  as_finds a b x s m fine = elim (law.finds a b x s m fine) [
    | inl e ↦ inl (ap (λ (r : Outcome A). and_then r (λ x b. Got (f x) b)) e.0, e.1)
    | inr d ↦ inr (past_then L _ _ (p a.spot) _ d)
  ]

  as_ends : (a : Spot) (u : Tokens) → Ends S1 a u → Ends S a u
  as_ends a u t = (t.0, λ r l. let h = t.1 r l in (f h.0, h.1, h.2, intro h.0 _ _ h.3))

  as_tells : (a : Spot) (u : Tokens) (o : Outcome A) → Tells S1 a u o → Tells S a u (and_then o (λ x b. Got (f x) b))
  as_tells a u (Got x b) t = λ w l. let h = t w l in (h.0, intro x _ _ h.1)
  as_tells a u (Wrong b) t = as_ends a u t
  as_tells a u (Over b) t = as_ends a u t

  as_stays : (a : Spot) (o : Outcome A) → Stays S1 p a o → Stays S (f <$> p) a (and_then o (λ x b. Got (f x) b))
  as_stays a o s = record {
    front = s.front;
    split = rw (place_then o f) s.split;
    peeks = λ w h. s.peeks w (near_then o f w h);
    same = λ w h. ap (λ (r : Outcome A). and_then r (λ x b. Got (f x) b)) (s.same w (near_then o f w h)) ∙ moved_then o f w;
    tells = as_tells a s.front o s.tells;
  }

  pub as_lawful : Lawful L S F M (f <$> p)
  as_lawful = record {
    finds = λ a b y s m fine. let e = elim_to y a b s in
        subst (λ (y : B). Meets L a b y ((f <$> p) a.spot)) e.1 (as_finds a b e.0 e.2 m fine);
    begins = λ a b y s m. let e = elim_to y a b s in law.begins a b e.0 e.2 m;
    later = λ a b y s. let e = elim_to y a b s in law.later a b e.0 e.2;
    stays = λ a. as_stays a (p a) (law.stays a);
    sample = (law.sample.0, λ a r l. let h = law.sample.1 a r l in (f h.0, h.1, h.2, intro h.0 _ _ h.3));
  }
