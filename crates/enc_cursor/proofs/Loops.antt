-- What loops over lists keep: the outcome of what is left is the outcome of all.
use Rattle.std.proofs.Common.{◌≡◌, ◌<◌, ◌≤◌, Bool, true, false, cond, List, [], ◌∷◌, ◌++◌, length, length-append, Option, Some, None, Err, refl, sym, ap, subst, ◌∙◌, append_assoc, arith}
use Rattle.std.proofs.lemmas.List.{append-nil}
use Rattle.enc_lex.specs.declared.tokens.Token.{Token}
use Rattle.enc_lex.specs.declared.kinds.Kind.{Kind}
use Rattle.enc_cursor.specs.declared.error.ParseError.{ParseError}
use Rattle.enc_cursor.specs.Limits.{Limits}
use Rattle.enc_cursor.specs.Place.{Tokens, Spot, upon, head, kind_of, peek, is}
use Rattle.enc_cursor.specs.Stretch.{Stretch}
use Rattle.enc_cursor.specs.Steps.{Outcome, Got, Wrong, Over, Parser, Set, and_then, next, token, ◌▹◌, many, stands_for}
use Rattle.enc_cursor.specs.Cursor.{Reads}
use Rattle.enc_cursor.proofs.Lawful.{place_of, Stays, Lawful, got_place}
use Rattle.enc_cursor.proofs.Spans.{solid}
use Rattle.enc_cursor.proofs.Many.{TurnsSo}
use Rattle.enc_lex.specs.declared.kinds.Kind.TheVariants as k
use Rattle.enc_cursor.specs.declared.error.ParseError.TheVariants as errors

-- a parser that fails as another does
pub fails_as : {A B : Type 0} (o : Outcome A) (f : A → Parser B) (e : ParseError) (new : Spot) → Reads o (Err e) new → Reads (and_then o f) (Err e) new
fails_as {A} {B} o f errors.Memory new h = tt
fails_as {A} {B} o f errors.Form new h = ap (λ (o : Outcome A). and_then o f) h
fails_as {A} {B} o f errors.Over new h = ap (λ (o : Outcome A). and_then o f) h

pub fails_so : {A : Type 0} (o r : Outcome A) (e : ParseError) (new : Spot) → o ≡ r → Reads o (Err e) new → Reads r (Err e) new
fails_so {A} o r e new same h = subst (λ (o : Outcome A). Reads o (Err e) new) same h

-- ---- lists

-- what was read before, and then the rest
abbrev pub front_of : {A : Type 0} → List A → Outcome (List A) → Outcome (List A)
front_of xs o = and_then o (λ ys c. Got (xs ++ ys) c)

module _ {A : Type 0} (t : Set) (q : Parser A) (turns : TurnsSo t q) where
  list_turn : (xs : List A) (a : Spot) (o : Outcome A) → t (peek a) ≡ true → q a ≡ o → front_of xs (many t q a) ≡ and_then o (λ x b. front_of (xs ++ x ∷ []) (many t q b))
  list_turn xs a o e h = ap (front_of xs) (turns a
      ∙ ap (λ (b : Bool). cond b (and_then (q a) (λ x b. and_then (many t q b) (λ xs c. Got (x ∷ xs) c))) (Got [] a)) e
      ∙ ap (λ (m : Outcome A). and_then m (λ x b. and_then (many t q b) (λ xs c. Got (x ∷ xs) c))) h)
      ∙ flat o
    where
      regroup : (x : A) (m : Outcome (List A)) → front_of xs (and_then m (λ ys c. Got (x ∷ ys) c)) ≡ front_of (xs ++ x ∷ []) m
      regroup x (Got ys c) = ap (λ (zs : List A). Got zs c) (sym (append_assoc xs (x ∷ []) ys))
      regroup x (Wrong c) = refl
      regroup x (Over c) = refl

      flat : (o : Outcome A) → front_of xs (and_then o (λ x b. and_then (many t q b) (λ xs c. Got (x ∷ xs) c))) ≡ and_then o (λ x b. front_of (xs ++ x ∷ []) (many t q b))
      flat (Got x b) = regroup x (many t q b)
      flat (Wrong b) = refl
      flat (Over b) = refl

  -- a turn
  pub list_kept : (xs : List A) (x : A) (a b : Spot) (total : Outcome (List A)) → t (peek a) ≡ true → q a ≡ Got x b → front_of xs (many t q a) ≡ total → front_of (xs ++ x ∷ []) (many t q b) ≡ total
  list_kept xs x a b total e h so_far = sym (list_turn xs a (Got x b) e h) ∙ so_far

  -- an item fails
  pub list_failed : (xs : List A) (a b : Spot) (total : Outcome (List A)) (err : ParseError) → t (peek a) ≡ true → Reads (q a) (Err err) b → front_of xs (many t q a) ≡ total → Reads total (Err err) b
  list_failed xs a b total err e h so_far = fails_so _ _ err b (sym (list_turn xs a (q a) e refl) ∙ so_far) (fails_as (q a) _ err b h)

  -- the end
  pub list_done : (xs : List A) (a : Spot) (total : Outcome (List A)) → t (peek a) ≡ false → front_of xs (many t q a) ≡ total → total ≡ Got xs a
  list_done xs a total e so_far = sym so_far ∙ ap (front_of xs) (turns a
      ∙ ap (λ (b : Bool). cond b (and_then (q a) (λ x b. and_then (many t q b) (λ xs c. Got (x ∷ xs) c))) (Got [] a)) e) ∙ ap (λ (ys : List A). Got ys a) (append-nil xs)

-- what was read before, and then the rest, with commas between
abbrev pub list_after : {A : Type 0} → List A → Parser A → Parser (List A)
list_after xs p = λ a. front_of xs (many (is k.Comma) (k.Comma ▹ p) a)

-- a parser does not go back
pub never_back : {A : Type 0} {L : Limits} {S : A → Stretch} {F M : Set} {p : Parser A} → Lawful L S F M p → (a b : Spot) (x : A) → p a ≡ Got x b → length b.ahead ≤ length a.ahead
never_back {A} {L} {S} {F} {M} {p} law a b x e =
    let s = law.stays a in
    let here : place_of (p a) ≡ b = ap place_of e in
    omega (arith, ap length s.split, length-append s.front (place_of (p a)).ahead, ap (λ (c : Spot). length c.ahead) here)

-- ---- items behind a token

skipped : {A : Type 0} (k : Kind) (p : Parser A) (a : Spot) → is k (peek a) ≡ true → (k ▹ p) a ≡ p (next a)
unfolding token
skipped {A} k p a e = ap (λ (b : Bool). and_then (cond b (skip (next a)) (Wrong a)) (λ x b. and_then (p b) (λ y c. Got y c))) e ∙ whole (p (next a))
  where
    skip : Spot → Outcome (Unit {0})
    skip b = Got tt b

    whole : (o : Outcome A) → and_then o (λ y c. Got y c) ≡ o
    whole (Got y c) = refl
    whole (Wrong c) = refl
    whole (Over c) = refl

module _ {A : Type 0} (k : Kind) (p : Parser A) (turns : TurnsSo (is k) (k ▹ p)) where
  -- a turn
  pub sep_kept : (xs : List A) (x : A) (a m b : Spot) (total : Outcome (List A)) → is k (peek a) ≡ true → m ≡ next a → p m ≡ Got x b → front_of xs (many (is k) (k ▹ p) a) ≡ total → front_of (xs ++ x ∷ []) (many (is k) (k ▹ p) b) ≡ total
  sep_kept xs x a m b total e n h so_far = list_kept (is k) (k ▹ p) turns xs x a b total e (skipped k p a e ∙ ap p (sym n) ∙ h) so_far

  -- an item fails
  pub sep_failed : (xs : List A) (a m b : Spot) (total : Outcome (List A)) (err : ParseError) → is k (peek a) ≡ true → m ≡ next a → Reads (p m) (Err err) b → front_of xs (many (is k) (k ▹ p) a) ≡ total → Reads total (Err err) b
  sep_failed xs a m b total err e n h so_far = list_failed (is k) (k ▹ p) turns xs a b total err e (fails_so _ _ err b (ap p n ∙ sym (skipped k p a e)) h) so_far

  -- the end
  pub sep_done : (xs : List A) (a : Spot) (total : Outcome (List A)) → is k (peek a) ≡ false → front_of xs (many (is k) (k ▹ p) a) ≡ total → total ≡ Got xs a
  sep_done = list_done (is k) (k ▹ p) turns

-- ---- loops end

-- a token that is there is taken
pub next_shorter : (a : Spot) (t : Token) → head a.ahead ≡ Some t → length (next a).ahead < length a.ahead
unfolding next
next_shorter a t e = go a.ahead e
  where
    go : (w : Tokens) → head w ≡ Some t → length (next (upon a w)).ahead < length w
    go [] e = absurd cc
    go (s ∷ w) e = omega arith

-- a kind stands for something, so there is a token
pub there_is : {X : Type 0} (f : Kind → Option X) (x : X) (w : Tokens) → Some x ≡ stands_for f (kind_of (head w)) → (t : Token) × (head w ≡ Some t)
there_is f x [] e = absurd cc
there_is f x (t ∷ w) e = (t, refl)

-- a kind is seen, so there is a token
pub there_is_kind : (k : Kind) (w : Tokens) → is k (kind_of (head w)) ≡ true → (t : Token) × (head w ≡ Some t)
there_is_kind k [] e = absurd cc
there_is_kind k (t ∷ w) e = (t, refl)

-- an item behind a token takes a token
pub kind_shorter : {A : Type 0} {L : Limits} {S : A → Stretch} {F M : Set} {p : Parser A} → Lawful L S F M p → (k : Kind) (a m b : Spot) (x : A) → is k (peek a) ≡ true → m ≡ next a → p m ≡ Got x b → length b.ahead < length a.ahead
kind_shorter law k a m b x e n h = let t = there_is_kind k a.ahead e in
    let one : length (next a).ahead < length a.ahead = next_shorter a t.0 t.1 in
    let two = never_back law m b x h in
    let same = ap (λ (c : Spot). length c.ahead) n in omega arith

-- an item takes a token
pub item_shorter : {A : Type 0} {L : Limits} {S : A → Stretch} {F M : Set} {p : Parser A} → Lawful L S F M p → F None ≡ false → M None ≡ false → (a b : Spot) (x : A) → p a ≡ Got x b → length b.ahead < length a.ahead
item_shorter {A} {L} {S} {F} {M} {p} law first last a b x e = go (p a) e (law.stays a)
  where
    go : (o : Outcome A) → o ≡ Got x b → Stays S p a o → length b.ahead < length a.ahead
    go (Wrong c) f s = absurd cc
    go (Over c) f s = absurd cc
    go (Got y c) f s =
        let u = solid first last law y s.front a c s.tells in
        let same : c ≡ b = got_place y x c b f in
        let long : length a.ahead ≡ length (u.0 ∷ u.1 ++ c.ahead) = ap length s.split ∙ ap (λ (v : Tokens). length (v ++ c.ahead)) u.2 in
        omega (arith, ap (λ (c : Spot). length c.ahead) same, length-append u.1 c.ahead)
