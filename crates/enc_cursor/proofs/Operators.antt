-- What loops over operators keep: the outcome of what is left is the outcome of all.
use Rattle.std.proofs.Common.{◌≡◌, ℕ, ◌<◌, Bool, true, false, cond, List, [], ◌∷◌, length, Option, Some, None, Err, refl, sym, ap, ◌∙◌, arith}
use Rattle.enc_lex.specs.declared.tokens.Token.{Token}
use Rattle.enc_lex.specs.declared.kinds.Kind.{Kind}
use Rattle.enc_cursor.specs.declared.error.ParseError.{ParseError}
use Rattle.enc_cursor.specs.Counts.{operator}
use Rattle.enc_cursor.specs.Limits.{Allowed, Limits}
use Rattle.enc_cursor.specs.Place.{Spot, head, peek, between}
use Rattle.enc_cursor.specs.Stretch.{Stretch}
use Rattle.enc_cursor.specs.Steps.{Outcome, Got, Wrong, Over, Parser, Set, and_then, ◌<$>◌, next, ◌⊗◌, optional, many, spanned, stands_for, is_some, can, Item, joined, join_any}
use Rattle.enc_cursor.specs.Counted.{room_for, go_on, counted_next, marked_if, marked, operator_of, counted_operator}
use Rattle.enc_cursor.specs.Cursor.{Reads}
use Rattle.enc_cursor.proofs.Lawful.{Lawful, got_place}
use Rattle.enc_cursor.proofs.Many.{TurnsSo}
use Rattle.enc_cursor.proofs.Tokens.{counts_on, counted_at}
use Rattle.enc_cursor.proofs.Names.{by_kind_is}
use Rattle.enc_cursor.proofs.Loops.{fails_as, fails_so, never_back, next_shorter, there_is}

-- an operator that is seen is counted
pub accepts_at : {O : Type 0} (C : Allowed) (w : Kind → Option O) (a : Spot) (o : O) → stands_for w (peek a) ≡ Some o → operator_of C w a ≡ and_then (counted_operator C a) (λ u b. Got o b)
unfolding operator_of marked counted_operator
accepts_at {O} C w a o e = ap (λ (m : Option O). marked_if operator (room_for C operator) m a) (by_kind_is w (head a.ahead) ∙ e) ∙ go (room_for C operator (next a).last (next a).counts)
  where
    go : (b : Bool) → go_on b o (counted_next operator a) (next a) ≡ and_then (counts_on b (counted_next operator a) (next a)) (λ u b. Got o b)
    go true = refl
    go false = refl

module _ {O E : Type 0} (join : ℕ → E → Item O E → E) (C : Allowed) (w : Kind → Option O) (p : Parser E) where
  -- all operators
  abbrev after : ℕ → E → Parser E
  after from x = joined join from x <$> many (can w) (spanned (operator_of C w ⊗ p))

  abbrev pair : O → E → O × E
  pair o y = (o, y)

  abbrev spread : Spot → O × E → Spot → Item O E
  spread a x b = (x, between a b)

  -- an operator is counted, then its operand read
  accepts : (a : Spot) (o : O) → stands_for w (peek a) ≡ Some o → operator_of C w a ≡ and_then (counted_operator C a) (λ u b. Got o b)
  accepts a o e = accepts_at C w a o e

  item_of : (a : Spot) (o : O) → stands_for w (peek a) ≡ Some o → spanned (operator_of C w ⊗ p) a ≡ and_then (counted_operator C a) (λ u m. and_then (p m) (λ y b. Got (spread a (pair o y) b) b))
  item_of a o e = ap (λ (m : Outcome O). and_then (and_then m (λ x b. and_then (p b) (λ y c. Got (pair x y) c))) (λ x b. Got (spread a x b) b)) (accepts a o e)
      ∙ first (counted_operator C a)
    where
      flat : (r : Outcome E) → and_then (and_then r (λ y c. Got (pair o y) c)) (λ x b. Got (spread a x b) b) ≡ and_then r (λ y b. Got (spread a (pair o y) b) b)
      flat (Got y b) = refl
      flat (Wrong b) = refl
      flat (Over b) = refl

      first : (c : Outcome (Unit {0})) → and_then (and_then (and_then c (λ u b. Got o b)) (λ x b. and_then (p b) (λ y c. Got (pair x y) c))) (λ x b. Got (spread a x b) b) ≡ and_then c (λ u m. and_then (p m) (λ y b. Got (spread a (pair o y) b) b))
      first (Got u m) = flat (p m)
      first (Wrong m) = refl
      first (Over m) = refl

  -- one operator, or none
  abbrev once : ℕ → E → Parser E
  once from x = join_any join from x <$> optional (can w) (spanned (operator_of C w ⊗ p))

  once_at : (from : ℕ) (x : E) (a : Spot) (o : O) → stands_for w (peek a) ≡ Some o
      → once from x a ≡ and_then (counted_operator C a) (λ u m. and_then (p m) (λ y b. Got (join from x ((o, y), between a b)) b))
  once_at from x a o e =
      ap (λ (b : Bool). and_then (cond b (and_then (spanned (operator_of C w ⊗ p) a) (λ x b. Got (Some x) b)) (Got None a)) (λ i c. Got (join_any join from x i) c)) (ap is_some e)
      ∙ ap (λ (m : Outcome (Item O E)). and_then (and_then m (λ x b. Got (Some x) b)) (λ i c. Got (join_any join from x i) c)) (item_of a o e)
      ∙ first (counted_operator C a)
    where
      flat : (r : Outcome E) → and_then (and_then (and_then r (λ y b. Got (spread a (pair o y) b) b)) (λ x b. Got (Some x) b)) (λ i c. Got (join_any join from x i) c) ≡ and_then r (λ y b. Got (join from x ((o, y), between a b)) b)
      flat (Got y b) = refl
      flat (Wrong b) = refl
      flat (Over b) = refl

      first : (c : Outcome (Unit {0})) → and_then (and_then (and_then c (λ u m. and_then (p m) (λ y b. Got (spread a (pair o y) b) b))) (λ x b. Got (Some x) b)) (λ i c. Got (join_any join from x i) c) ≡ and_then c (λ u m. and_then (p m) (λ y b. Got (join from x ((o, y), between a b)) b))
      first (Got u m) = flat (p m)
      first (Wrong m) = refl
      first (Over m) = refl

  -- the operator and its operand are read
  pub once_kept : (from : ℕ) (x y : E) (a m b : Spot) (o : O) → Some o ≡ stands_for w (peek a) → counted_operator C a ≡ Got tt m → p m ≡ Got y b → once from x a ≡ Got (join from x ((o, y), between a b)) b
  once_kept from x y a m b o e n h = once_at from x a o (sym e) ∙ ap (λ (c : Outcome (Unit {0})). and_then c (λ u m. and_then (p m) (λ y b. Got (join from x ((o, y), between a b)) b))) n ∙ ap (λ (r : Outcome E). and_then r (λ y b. Got (join from x ((o, y), between a b)) b)) h

  -- the operand fails
  pub once_failed : (from : ℕ) (x : E) (a m b : Spot) (o : O) (err : ParseError) → Some o ≡ stands_for w (peek a) → counted_operator C a ≡ Got tt m → Reads (p m) (Err err) b → Reads (once from x a) (Err err) b
  once_failed from x a m b o err e n g = fails_so _ _ err b (sym (once_at from x a o (sym e) ∙ ap (λ (c : Outcome (Unit {0})). and_then c (λ u m. and_then (p m) (λ y b. Got (join from x ((o, y), between a b)) b))) n)) (fails_as (p m) _ err b g)

  -- the operator passes a limit
  pub once_stopped : (from : ℕ) (x : E) (a b : Spot) (o : O) (err : ParseError) → Some o ≡ stands_for w (peek a) → Reads (counted_operator C a) (Err err) b → Reads (once from x a) (Err err) b
  once_stopped from x a b o err e g = fails_so _ _ err b (sym (once_at from x a o (sym e))) (fails_as (counted_operator C a) _ err b g)

module _ {O E : Type 0} (join : ℕ → E → Item O E → E) (C : Allowed) (w : Kind → Option O) (p : Parser E) (turns : TurnsSo (can w) (spanned (operator_of C w ⊗ p))) where
  turn_at : (from : ℕ) (x : E) (a : Spot) (o : O) → stands_for w (peek a) ≡ Some o
      → after join C w p from x a ≡ and_then (counted_operator C a) (λ u m. and_then (p m) (λ y b. after join C w p from (join from x ((o, y), between a b)) b))
  turn_at from x a o e =
      ap (λ (m : Outcome (List (Item O E))). and_then m (λ is c. Got (joined join from x is) c)) (turns a
      ∙ ap (λ (b : Bool). cond b (and_then (spanned (operator_of C w ⊗ p) a) (λ x b. and_then (many (can w) (spanned (operator_of C w ⊗ p)) b) (λ xs c. Got (x ∷ xs) c))) (Got [] a)) (ap is_some e)
      ∙ ap (λ (m : Outcome (Item O E)). and_then m (λ x b. and_then (many (can w) (spanned (operator_of C w ⊗ p)) b) (λ xs c. Got (x ∷ xs) c))) (item_of join C w p a o e))
      ∙ first (counted_operator C a)
    where
      deeper : (i : Item O E) (m : Outcome (List (Item O E))) → and_then (and_then m (λ xs c. Got (i ∷ xs) c)) (λ is c. Got (joined join from x is) c) ≡ and_then m (λ is c. Got (joined join from (join from x i) is) c)
      deeper i (Got xs c) = refl
      deeper i (Wrong c) = refl
      deeper i (Over c) = refl

      flat : (r : Outcome E) → and_then (and_then (and_then r (λ y b. Got ((o, y), between a b) b)) (λ x b. and_then (many (can w) (spanned (operator_of C w ⊗ p)) b) (λ xs c. Got (x ∷ xs) c))) (λ is c. Got (joined join from x is) c)
          ≡ and_then r (λ y b. after join C w p from (join from x ((o, y), between a b)) b)
      flat (Got y b) = deeper ((o, y), between a b) (many (can w) (spanned (operator_of C w ⊗ p)) b)
      flat (Wrong b) = refl
      flat (Over b) = refl

      first : (c : Outcome (Unit {0})) → and_then (and_then (and_then c (λ u m. and_then (p m) (λ y b. Got (spread join C w p a (pair join C w p o y) b) b))) (λ x b. and_then (many (can w) (spanned (operator_of C w ⊗ p)) b) (λ xs c. Got (x ∷ xs) c))) (λ is c. Got (joined join from x is) c)
          ≡ and_then c (λ u m. and_then (p m) (λ y b. after join C w p from (join from x ((o, y), between a b)) b))
      first (Got u m) = flat (p m)
      first (Wrong m) = refl
      first (Over m) = refl

  -- a turn
  pub kept : (from : ℕ) (x y : E) (a m b : Spot) (o : O) (total : Outcome E) → Some o ≡ stands_for w (peek a) → counted_operator C a ≡ Got tt m → p m ≡ Got y b → after join C w p from x a ≡ total
      → after join C w p from (join from x ((o, y), between a b)) b ≡ total
  kept from x y a m b o total e n h so_far = sym (turn_at from x a o (sym e) ∙ ap (λ (c : Outcome (Unit {0})). and_then c (λ u m. and_then (p m) (λ y b. after join C w p from (join from x ((o, y), between a b)) b))) n
      ∙ ap (λ (r : Outcome E). and_then r (λ y b. after join C w p from (join from x ((o, y), between a b)) b)) h) ∙ so_far

  -- an operand fails
  pub failed : (from : ℕ) (x : E) (a m b : Spot) (o : O) (total : Outcome E) (err : ParseError) → Some o ≡ stands_for w (peek a) → counted_operator C a ≡ Got tt m → Reads (p m) (Err err) b → after join C w p from x a ≡ total → Reads total (Err err) b
  failed from x a m b o total err e n g so_far = fails_so _ _ err b (sym (turn_at from x a o (sym e) ∙ ap (λ (c : Outcome (Unit {0})). and_then c (λ u m. and_then (p m) (λ y b. after join C w p from (join from x ((o, y), between a b)) b))) n) ∙ so_far) (fails_as (p m) _ err b g)

  -- an operator passes a limit
  pub stopped : (from : ℕ) (x : E) (a b : Spot) (o : O) (total : Outcome E) (err : ParseError) → Some o ≡ stands_for w (peek a) → Reads (counted_operator C a) (Err err) b → after join C w p from x a ≡ total → Reads total (Err err) b
  stopped from x a b o total err e g so_far = fails_so _ _ err b (sym (turn_at from x a o (sym e)) ∙ so_far) (fails_as (counted_operator C a) _ err b g)

  -- the end
  pub done : (from : ℕ) (x : E) (a : Spot) (total : Outcome E) → None ≡ stands_for w (peek a) → after join C w p from x a ≡ total → total ≡ Got x a
  done from x a total e so_far = sym so_far ∙ ap (λ (m : Outcome (List (Item O E))). and_then m (λ is c. Got (joined join from x is) c)) (turns a
      ∙ ap (λ (b : Bool). cond b (and_then (spanned (operator_of C w ⊗ p) a) (λ x b. and_then (many (can w) (spanned (operator_of C w ⊗ p)) b) (λ xs c. Got (x ∷ xs) c))) (Got [] a)) (ap is_some (sym e)))

-- ---- loops end

counted_shorter : (C : Allowed) (a m : Spot) (t : Token) → head a.ahead ≡ Some t → counted_operator C a ≡ Got tt m → length m.ahead < length a.ahead
unfolding counted_operator
counted_shorter C a m t h e = go (room_for C operator (next a).last (next a).counts) e
  where
    short : length (next a).ahead < length a.ahead
    short = next_shorter a t h

    there : counted_next operator a ≡ m → length m.ahead < length a.ahead
    there f = let same = ap (λ (c : Spot). length c.ahead) f in omega (arith, short, same)

    go : (b : Bool) → counts_on b (counted_next operator a) (next a) ≡ counted_at m → length m.ahead < length a.ahead
    go true f = there (got_place tt tt (counted_next operator a) m f)
    go false f = absurd (never f)
      where
        never : Over (next a) ≡ counted_at m → ⊥
        never f = cc

-- an operator takes a token
pub word_shorter : {A : Type 0} {L : Limits} {S : A → Stretch} {F M : Set} {p : Parser A} → Lawful L S F M p → {O : Type 0} (C : Allowed) (w : Kind → Option O) (a m b : Spot) (x : A) (o : O) → Some o ≡ stands_for w (peek a) → counted_operator C a ≡ Got tt m → p m ≡ Got x b → length b.ahead < length a.ahead
word_shorter {A} {L} law C w a m b x o e n h = let t = there_is w o a.ahead e in
    let one : length m.ahead < length a.ahead = counted_shorter C a m t.0 t.1 n in
    let two = never_back law m b x h in omega arith
