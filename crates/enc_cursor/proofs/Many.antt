-- As many as there are.
use Rattle.std.proofs.Common.{◌≡◌, ℕ, zero, suc, ◌<◌, Bool, true, false, cond, List, [], ◌∷◌, ◌++◌, length, length-append, Option, None, refl, sym, ap, subst, ◌∙◌, append_assoc, inl, inr, arith}
use Rattle.std.specs.Prelude.{not, ◌||◌}
use Rattle.enc_lex.specs.declared.tokens.Token.{Token}
use Rattle.enc_lex.specs.declared.kinds.Kind.{Kind}
use Rattle.enc_cursor.specs.Limits.{Limits, Log}
use Rattle.enc_cursor.specs.Place.{Tokens, Spot, Place, place, upon, head, kind_of, peek}
use Rattle.enc_cursor.specs.Stretch.{Stretch, Each}
use Rattle.enc_cursor.specs.Steps.{Outcome, Got, Wrong, Over, Parser, Set, and_then, many_from, many}
use Rattle.enc_cursor.proofs.Lawful.{place_of, moved, Near, Fine, Meets, Later, Ends, Tells, Stays, Lawful, Clear, or, or_left, or_right, or_false, Within, later_same, later_then, past_then, past_on, past_from, then_got, got_place}
use Rattle.enc_cursor.proofs.Sequence.{moved_then, place_then, near_then}
use Rattle.enc_cursor.proofs.Choice.{or_past, not_false}
use Rattle.enc_cursor.proofs.Spans.{solid}

-- one turn of a loop
abbrev pub TurnsSo : {A : Type 0} → Set → Parser A → Type 0
TurnsSo t q = (a : Spot) → many t q a ≡ cond (t (peek a)) (and_then (q a) (λ x b. and_then (many t q b) (λ xs c. Got (x ∷ xs) c))) (Got [] a)

pub each_later : {A : Type 0} {S : A → Stretch} → ((a b : Place) (x : A) → S x a b → Later a b) → (a b : Place) (xs : List A) → Each S xs a b → Later a b
each_later later a b [] s = later_same a b s
each_later later a b (x ∷ xs) s = later_then a s.0 b (later a s.0 x s.1) (each_later later s.0 b xs s.2)

-- what begins an item, or comes behind the last, does not go on with the one before
pub past_item : (F t M : Set) → Clear F M → (k : Option Kind) → or_past F (or t M) k ≡ true → M k ≡ false
past_item F t M clear k h = go (F k) (or t M k) refl refl h
  where
    go : (b d : Bool) → F k ≡ b → or t M k ≡ d → (b || not d) ≡ true → M k ≡ false
    go true d e f h = clear k e
    go false true e f h = absurd cc
    go false false e f h = (or_false (t k) (M k) f).1

-- Of the outcome of a loop with any number of turns that is large enough.
record Turns {A : Type 0} (S : A → Stretch) (t : Set) (p : Parser A) (a : Spot) (o : Outcome (List A)) : Type 0 where
  front : Tokens
  split : a.ahead ≡ front ++ (place_of o).ahead
  peeks : (w : Tokens) → Near o w → head (front ++ w) ≡ head a.ahead
  same : (w : Tokens) → Near o w → (n : ℕ) → length (front ++ w) < n → many_from t p n (upon a (front ++ w)) ≡ moved o w
  tells : Tells (Each S) a front o

-- Each item begins with a kind of the set t, and is not empty.
module _ {A : Type 0} {L : Limits} {S : A → Stretch} {F M : Set} {p : Parser A} (t : Set) (F-end : F None ≡ false) (M-end : M None ≡ false)
    (on : Within F t) (clear : Clear F M) (law : Lawful L S F M p) where
  abbrev turn : Parser (List A) → Bool → Parser (List A)
  turn q b a = cond b (and_then (p a) (λ x b. and_then (q b) (λ xs c. Got (x ∷ xs) c))) (Got [] a)

  -- an item takes a token
  shorter : (x : A) (a b : Spot) (u : Tokens) → ((w : Tokens) (l : Log) → (m : Log) × S x (place (upon a (u ++ w)) l) (place (upon b w) m)) → (w : Tokens) → length w < length (u ++ w)
  shorter x a b u h w = let e = solid F-end M-end law x u a b h in
      rw (e.2, length-append) (omega arith)

  many_suc : (n : ℕ) (a : Spot) → many_from t p (suc n) a ≡ turn (many_from t p n) (t (peek a)) a
  unfolding many_from
  many_suc n a = refl

  again : (a : Spot) (x : A) (b : Spot) (u : Tokens) → a.ahead ≡ u ++ b.ahead → t (peek a) ≡ true → ((w : Tokens) → head w ≡ head b.ahead → head (u ++ w) ≡ head a.ahead) → ((w : Tokens) → head w ≡ head b.ahead → p (upon a (u ++ w)) ≡ Got x (upon b w))
      → ((w : Tokens) (l : Log) → (m : Log) × S x (place (upon a (u ++ w)) l) (place (upon b w) m)) → (o : Outcome (List A)) → Turns S t p b o → Turns S t p a (and_then o (λ xs c. Got (x ∷ xs) c))
  again a x b u split e peeks same reads o s = record {
    front = u ++ s.front;
    split = rw (place_then o (λ xs. x ∷ xs)) (split ∙ ap (λ (v : Tokens). u ++ v) s.split ∙ sym (append_assoc u s.front (place_of o).ahead));
    peeks = λ w h. ap head (append_assoc u s.front w) ∙ peeks (s.front ++ w) (s.peeks w (near_then o (λ xs. x ∷ xs) w h));
    same = λ w h n lt. let near = near_then o (λ xs. x ∷ xs) w h in
        ap (λ (v : Tokens). many_from t p n (upon a v)) (append_assoc u s.front w) ∙ steps w near n (subst (λ (v : Tokens). length v < n) (append_assoc u s.front w) lt);
    tells = tells o s.front s.tells;
  }
    where
      steps : (w : Tokens) → Near o w → (n : ℕ) → length (u ++ (s.front ++ w)) < n → many_from t p n (upon a (u ++ (s.front ++ w))) ≡ moved (and_then o (λ xs c. Got (x ∷ xs) c)) w
      steps w h zero lt = absurd (omega arith)
      steps w h (suc n) lt =
          let near_rest = s.peeks w h in
          let less : length (s.front ++ w) < length (u ++ (s.front ++ w)) = shorter x a b u reads (s.front ++ w) in
          let fits : length (s.front ++ w) < n = omega arith in
          many_suc n (upon a (u ++ (s.front ++ w)))
          ∙ ap (λ (b : Bool). turn (many_from t p n) b (upon a (u ++ (s.front ++ w)))) (ap (λ (o : Option Token). t (kind_of o)) (peeks (s.front ++ w) near_rest) ∙ e)
          ∙ ap (λ (r : Outcome A). and_then r (λ x b. and_then (many_from t p n b) (λ xs c. Got (x ∷ xs) c))) (same (s.front ++ w) near_rest)
          ∙ ap (λ (r : Outcome (List A)). and_then r (λ xs c. Got (x ∷ xs) c)) (s.same w h n fits)
          ∙ moved_then o (λ xs. x ∷ xs) w

      ends : (v : Tokens) → Ends (Each S) b v → Ends (Each S) a (u ++ v)
      ends v h = (h.0, λ r l. let i = reads (v ++ (h.0 ++ r)) l in let k = h.1 r i.0 in (x ∷ k.0, k.1, k.2, (place (upon b (v ++ (h.0 ++ r))) i.0, subst (λ (t : Tokens). S x (place (upon a t) l) (place (upon b (v ++ (h.0 ++ r))) i.0)) (sym (append_assoc u v (h.0 ++ r))) i.1, k.3)))

      tells : (o : Outcome (List A)) (v : Tokens) → Tells (Each S) b v o → Tells (Each S) a (u ++ v) (and_then o (λ xs c. Got (x ∷ xs) c))
      tells (Got xs c) v h = λ w l. let i = reads (v ++ w) l in let k = h w i.0 in (k.0, (place (upon b (v ++ w)) i.0, subst (λ (t : Tokens). S x (place (upon a t) l) (place (upon b (v ++ w)) i.0)) (sym (append_assoc u v w)) i.1, k.1))
      tells (Wrong c) v h = ends v h
      tells (Over c) v h = ends v h

  stopped : (a : Spot) (u : Tokens) (o : Outcome (List A)) (r : Outcome A) → t (peek a) ≡ true → ((w : Tokens) → Near r w → head (u ++ w) ≡ head a.ahead)
      → ((q : Parser (List A)) (w : Tokens) → Near r w → and_then (p (upon a (u ++ w))) (λ x b. and_then (q b) (λ xs c. Got (x ∷ xs) c)) ≡ moved o w)
      → (w : Tokens) → Near r w → (n : ℕ) → length (u ++ w) < n → many_from t p n (upon a (u ++ w)) ≡ moved o w
  stopped a u o r e peeks each w h zero lt = absurd (omega arith)
  stopped a u o r e peeks each w h (suc n) lt =
      many_suc n (upon a (u ++ w))
      ∙ ap (λ (b : Bool). turn (many_from t p n) b (upon a (u ++ w))) (ap (λ (o : Option Token). t (kind_of o)) (peeks w h) ∙ e)
      ∙ each (many_from t p n) w h

  turns : (n : ℕ) (a : Spot) → length a.ahead < n → Turns S t p a (many_from t p n a)
  turns zero a lt = absurd (omega arith)
  turns (suc n) a lt = subst (λ (o : Outcome (List A)). Turns S t p a o) (sym (many_suc n a)) (go (turns n) (t (peek a)) refl)
    where
      ends : (u : Tokens) → Ends S a u → Ends (Each S) a u
      ends u h = (h.0, λ r l. let k = h.1 r l in (k.0 ∷ [], k.1, k.2, (place (upon k.1 r) k.2, k.3, refl)))

      item : t (peek a) ≡ true → (o : Outcome A) → Stays S p a o → ((b : Spot) → length b.ahead < n → Turns S t p b (many_from t p n b)) → Turns S t p a (and_then o (λ x b. and_then (many_from t p n b) (λ xs c. Got (x ∷ xs) c)))
      item e (Got x b) s rest =
          let less : length b.ahead < length (s.front ++ b.ahead) = shorter x a b s.front s.tells b.ahead in
          let fits : length b.ahead < n = omega (arith, ap length s.split) in
          again a x b s.front s.split e s.peeks s.same s.tells (many_from t p n b) (rest b fits)
      item e (Wrong b) s rest = record {
        front = s.front;
        split = s.split;
        peeks = s.peeks;
        same = stopped a s.front (Wrong b) (Wrong b) e s.peeks (λ q w h. ap (λ (r : Outcome A). and_then r (λ x b. and_then (q b) (λ xs c. Got (x ∷ xs) c))) (s.same w h));
        tells = ends s.front s.tells;
      }
      item e (Over b) s rest = record {
        front = s.front;
        split = s.split;
        peeks = s.peeks;
        same = stopped a s.front (Over b) (Over b) e s.peeks (λ q w h. ap (λ (r : Outcome A). and_then r (λ x b. and_then (q b) (λ xs c. Got (x ∷ xs) c))) (s.same w h));
        tells = ends s.front s.tells;
      }

      go : ((b : Spot) → length b.ahead < n → Turns S t p b (many_from t p n b)) → (b : Bool) → t (peek a) ≡ b → Turns S t p a (turn (many_from t p n) b a)
      go rest true e = item e (p a) (law.stays a) rest
      go rest false e = record {
        front = [];
        split = refl;
        peeks = λ w h. h;
        same = none;
        tells = λ w l. (l, refl);
      }
        where
          none : (w : Tokens) → head w ≡ head a.ahead → (m : ℕ) → length w < m → many_from t p m (upon a w) ≡ Got [] (upon a w)
          none w h zero lt = absurd (omega arith)
          none w h (suc m) lt = many_suc m (upon a w) ∙ ap (λ (b : Bool). turn (many_from t p m) b (upon a w)) (ap (λ (o : Option Token). t (kind_of o)) h ∙ e)

  -- the number of turns does not matter
  turns_enough : (n m : ℕ) (a : Spot) → length a.ahead < n → length a.ahead < m → many_from t p m a ≡ many_from t p n a
  turns_enough n m a lt more = let s = turns n a lt in
      ap (λ (v : Tokens). many_from t p m (upon a v)) s.split ∙ s.same (place_of (many_from t p n a)).ahead (near_self (many_from t p n a)) m (subst (λ (v : Tokens). length v < m) s.split more) ∙ moved_back (many_from t p n a)
    where
      near_self : (o : Outcome (List A)) → Near o (place_of o).ahead
      near_self (Got x b) = refl
      near_self (Wrong b) = refl
      near_self (Over b) = tt

      moved_back : (o : Outcome (List A)) → moved o (place_of o).ahead ≡ o
      moved_back (Got x b) = refl
      moved_back (Wrong b) = refl
      moved_back (Over b) = refl

  many_stays : (a : Spot) → Stays (Each S) (many t p) a (many t p a)
  unfolding many
  many_stays a = let s = turns (suc (length a.ahead)) a (omega arith) in record {
    front = s.front;
    split = s.split;
    peeks = s.peeks;
    tells = s.tells;
    same = λ w h. s.same w h (suc (length (s.front ++ w))) (omega arith);
  }

  pub item_past : (k : Option Kind) → or_past F (or t M) k ≡ true → M k ≡ false
  item_past k h = past_item F t M clear k h

  each_begins : (a b : Place) (xs : List A) → Each S xs a b → or t M (peek b.spot) ≡ false → or_past F (or t M) (peek a.spot) ≡ true
  each_begins a b [] s m = or_right (F (peek a.spot)) _ (not_false (or t M (peek a.spot)) (ap (λ (c : Place). or t M (peek c.spot)) s ∙ m))
  each_begins a c (x ∷ xs) s m = or_left (F (peek a.spot)) _ (law.begins a s.0 x s.1 (item_past (peek s.0.spot) (each_begins s.0 c xs s.2 m)))

  abbrev turned : ℕ → Outcome A → Outcome (List A)
  turned n o = and_then o (λ x b. and_then (many_from t p n b) (λ xs c. Got (x ∷ xs) c))

  from_finds : (n : ℕ) (a b : Place) (xs : List A) → length a.spot.ahead < n → Each S xs a b → or t M (peek b.spot) ≡ false → Fine L a → Meets L a b xs (many_from t p n a.spot)
  from_finds zero a b xs lt s m fine = absurd (omega arith)
  from_finds (suc n) a b [] lt s m fine = inl (many_suc n a.spot ∙ ap (λ (c : Bool). turn (many_from t p n) c a.spot) (ap (λ (c : Place). t (peek c.spot)) s ∙ (or_false (t (peek b.spot)) (M (peek b.spot)) m).0) ∙ ap (λ (c : Place). Got [] c.spot) s, subst (Fine L) s fine)
  from_finds (suc n) a c (x ∷ xs) lt s m fine =
      let b = s.0 in
      let past : M (peek b.spot) ≡ false = item_past (peek b.spot) (each_begins b c xs s.2 m) in
      let on_a : t (peek a.spot) ≡ true = on (peek a.spot) (law.begins a b x s.1 past) in
      subst (λ (o : Outcome (List A)). Meets L a c (x ∷ xs) o) (sym (many_suc n a.spot ∙ ap (λ (b : Bool). turn (many_from t p n) b a.spot) on_a))
      (go (p a.spot) refl (law.finds a b x s.1 past fine) (law.stays a.spot) (λ lt1 ok. from_finds n b c xs lt1 s.2 m ok))
    where
      go : (o : Outcome A) → p a.spot ≡ o → Meets L a s.0 x o → Stays S p a.spot o
          → (length s.0.spot.ahead < n → Fine L s.0 → Meets L s.0 c xs (many_from t p n s.0.spot))
          → Meets L a c (x ∷ xs) (turned n o)
      go (Wrong d) e (inl f) st rest = let bad = f.0 in absurd cc
      go (Wrong d) e (inr f) st rest = absurd f
      go (Over d) e (inl f) st rest = let bad = f.0 in absurd cc
      go (Over d) e (inr f) st rest = inr (past_on L _ s.0 c (turned n (Over d)) (each_later law.later s.0 c xs s.2) f)
      go (Got y d) e (inr f) st rest = absurd f
      go (Got y d) e (inl f) st rest =
          let less : length d.ahead < length (st.front ++ d.ahead) = shorter y a.spot d st.front st.tells d.ahead in
          let same_d : d ≡ s.0.spot = got_place y x d s.0.spot f.0 in
          let fits : length s.0.spot.ahead < n = omega (arith, ap length st.split, ap (λ (c : Spot). length c.ahead) same_d) in
          subst (λ (r : Outcome A). Meets L a c (x ∷ xs) (turned n r)) (sym f.0)
          (elim (rest fits f.1) [
            | inl g ↦ inl (ap (λ (r : Outcome (List A)). and_then r (λ xs c. Got (x ∷ xs) c)) g.0, g.1)
            | inr g ↦ inr (past_then L _ _ (many_from t p n s.0.spot) _ (past_from L _ a s.0 (many_from t p n s.0.spot) (law.later a s.0 x s.1) g))
          ])

  pub many_lawful : Lawful L (Each S) (or_past F (or t M)) (or t M) (many t p)
  unfolding many
  many_lawful = record {
    finds = λ a b xs s m fine. from_finds (suc (length a.spot.ahead)) a b xs (omega arith) s m fine;
    begins = each_begins;
    later = each_later law.later;
    stays = many_stays;
    sample = ([], λ a r l. ([], a, l, refl));
  }

  -- what a loop does in one turn
  pub many_turn : (a : Spot) → many t p a ≡ turn (many t p) (t (peek a)) a
  unfolding many
  many_turn a = many_suc (length a.ahead) a ∙ go (t (peek a)) (p a) (law.stays a)
    where
      go : (b : Bool) (o : Outcome A) → Stays S p a o → cond b (and_then o (λ x b. and_then (many_from t p (length a.ahead) b) (λ xs c. Got (x ∷ xs) c))) (Got [] a)
          ≡ cond b (and_then o (λ x b. and_then (many t p b) (λ xs c. Got (x ∷ xs) c))) (Got [] a)
      go false o s = refl
      go true (Wrong d) s = refl
      go true (Over d) s = refl
      go true (Got x d) s =
          let less : length d.ahead < length (s.front ++ d.ahead) = shorter x a d s.front s.tells d.ahead in
          let fits : length d.ahead < length a.ahead = omega (arith, ap length s.split) in
          ap (λ (r : Outcome (List A)). and_then r (λ xs c. Got (x ∷ xs) c)) (turns_enough (suc (length d.ahead)) (length a.ahead) d (omega arith) fits)

-- a loop stops where its test fails
pub from_stops : {A : Type 0} (t : Set) (p : Parser A) (n : ℕ) (a b : Spot) (xs : List A) → many_from t p n a ≡ Got xs b → t (peek b) ≡ false
unfolding many_from
from_stops t p zero a b xs e = absurd cc
from_stops {A} t p (suc n) a b xs e = go (t (peek a)) refl e (λ c ys. from_stops t p n c b ys)
  where
    go : (d : Bool) → t (peek a) ≡ d → cond d (and_then (p a) (λ x b. and_then (many_from t p n b) (λ xs c. Got (x ∷ xs) c))) (Got [] a) ≡ Got xs b
        → ((c : Spot) (ys : List A) → many_from t p n c ≡ Got ys b → t (peek b) ≡ false) → t (peek b) ≡ false
    go false f e rest = let same : a ≡ b = got_place [] xs a b e in ap (λ (c : Spot). t (peek c)) (sym same) ∙ f
    go true f e rest =
        let one = then_got (p a) (λ x b. and_then (many_from t p n b) (λ xs c. Got (x ∷ xs) c)) xs b e in
        let two = then_got (many_from t p n one.1) (λ ys c. Got (one.0 ∷ ys) c) xs b one.3 in
        rest one.1 two.0 (two.2 ∙ ap (λ (c : Spot). Got two.0 c) (got_place (one.0 ∷ two.0) xs two.1 b two.3))

pub many_stops : {A : Type 0} (t : Set) (p : Parser A) (a b : Spot) (xs : List A) → many t p a ≡ Got xs b → t (peek b) ≡ false
unfolding many
many_stops t p a b xs e = from_stops t p (suc (length a.ahead)) a b xs e
