-- A token, counted by a rule.
use Rattle.std.proofs.Common.{◌≡◌, ℕ, suc, ◌+◌, Bool, true, false, cond, [], ◌∷◌, length, Option, Some, None, refl, sym, ap, subst, ◌∙◌, inl, inr, arith}
use denote.Enum.Bare.{same_true, true_same}
use Rattle.enc_lex.specs.contracts.kinds.Kind.{the_type}
use Rattle.enc_ast.specs.declared.rules.Span.{Span}
use Rattle.enc_lex.specs.declared.tokens.Token.{Token}
use Rattle.enc_lex.specs.declared.kinds.Kind.{Kind}
use Rattle.enc_cursor.specs.Counts.{Counts, Rule, plain}
use Rattle.enc_cursor.specs.Limits.{Limits, fits, Log, earlier, unless, passed}
use Rattle.enc_cursor.specs.Place.{Tokens, Spot, Place, upon, head, kind_of, peek, same_kind, is}
use Rattle.enc_cursor.specs.Stretch.{Stretch, given, of_kind, span_of, the, IsMarked, IsToken, IsSpan}
use Rattle.enc_cursor.specs.Steps.{Outcome, Got, Wrong, Over, Parser, Set, and_then, ◌<$>◌, next, token}
use Rattle.enc_cursor.specs.Counted.{Test, always, go_on, counted_next, marked_if, marked, seen, span_token}
use Rattle.enc_cursor.proofs.Lawful.{Fine, count, IsPast, Meets, Later, Sample, Stays, Lawful, none_of, got, law_of_same}

-- a token is counted once
pub marked_later : {X : Type 0} (r : Rule) (f : Token → Option X) (x : X) (a b : Place) → IsMarked r f x a b → Later a b
marked_later r f x a b s = ((r s.0.span a.spot.counts).1 ∷ [], ap (λ (c : Place). c.log) s.4, ap count s.4 ∙ counted s.1 ∙ ap (λ (w : Tokens). length a.log + length w) (sym s.2))
  where
    counted : (w : Tokens) → suc (length a.log) + length w ≡ length a.log + suc (length w)
    counted w = omega arith

-- F holds of each kind of token that stands for something, and there is such a token.
module _ {X : Type 0} (r : Rule) (ok : Test) (f : Token → Option X) (F : Set) (starts : (t : Token) (x : X) → f t ≡ Some x → F (Some t.kind) ≡ true) (some_token : Token) (x : X) (has : f some_token ≡ Some x) where
  abbrev reader : Parser X
  reader = marked r ok f

  abbrev behind : Spot → Token → Tokens → Spot
  behind a t w = record { last = t.span; ahead = w; counts = (r t.span a.counts).0 }

  abbrev skipped : Spot → Token → Tokens → Spot
  skipped a t w = record { last = t.span; ahead = w; counts = a.counts }

  marked_sample : Sample (IsMarked r f)
  marked_sample = (some_token ∷ [], λ a v l. (x, behind a some_token v, (r some_token.span a.counts).1 ∷ l, (some_token, v, refl, has, refl)))

  marked_here : (y : X) (a : Spot) (t : Token) (w : Tokens) → f t ≡ Some y → reader (upon a (t ∷ w)) ≡ go_on (ok t.span a.counts) y (behind a t w) (skipped a t w)
  unfolding marked next
  marked_here y a t w e = ap (λ (o : Option X). marked_if r ok o (upon a (t ∷ w))) e

  marked_stays : (w : Tokens) (a : Spot) → Stays (IsMarked r f) reader (upon a w) (reader (upon a w))
  unfolding marked next
  marked_stays [] a = record {
    front = [];
    split = refl;
    peeks = λ w h. h;
    same = no_token;
    tells = (marked_sample.0, λ r l. marked_sample.1 a r l);
  }
    where
      no_token : (w : Tokens) → head w ≡ None → reader (upon a w) ≡ Wrong (upon a w)
      no_token [] h = refl
      no_token (t ∷ w) h = absurd cc
  marked_stays (t ∷ w) a = go (f t) refl
    where
      differs : (v : Tokens) → head v ≡ Some t → f t ≡ None → reader (upon a v) ≡ Wrong (upon a v)
      differs [] h off = absurd cc
      differs (s ∷ v) h off = let e : s ≡ t = cc in ap (λ (o : Option X). marked_if r ok o (upon a (s ∷ v))) (ap f e ∙ off)

      here : (y : X) → f t ≡ Some y → (b : Bool) → ok t.span a.counts ≡ b → Stays (IsMarked r f) reader (upon a (t ∷ w)) (go_on b y (behind a t w) (skipped a t w))
      here y e true is_ok = record {
        front = t ∷ [];
        split = refl;
        peeks = λ v h. refl;
        same = λ v h. marked_here y a t v e ∙ ap (λ (b : Bool). go_on b y (behind a t v) (skipped a t v)) is_ok;
        tells = λ v l. ((r t.span a.counts).1 ∷ l, (t, v, refl, e, refl));
      }
      here y e false is_ok = record {
        front = t ∷ [];
        split = refl;
        peeks = λ v h. refl;
        same = λ v h. marked_here y a t v e ∙ ap (λ (b : Bool). go_on b y (behind a t v) (skipped a t v)) is_ok;
        tells = ([], λ v l. (y, behind a t v, (r t.span a.counts).1 ∷ l, (t, v, refl, e, refl)));
      }

      go : (o : Option X) → f t ≡ o → Stays (IsMarked r f) reader (upon a (t ∷ w)) (marked_if r ok o (upon a (t ∷ w)))
      go (Some y) e = here y e (ok t.span a.counts) refl
      go None e = record {
        front = [];
        split = refl;
        peeks = λ v h. h;
        same = λ v h. differs v h e;
        tells = (marked_sample.0, λ r l. marked_sample.1 a r l);
      }

  pub marked_begins : (a b : Place) (y : X) → IsMarked r f y a b → F (peek a.spot) ≡ true
  marked_begins a b y s = ap (λ (w : Tokens). F (kind_of (head w))) s.2 ∙ starts s.0 y s.3

  module _ (L : Limits) (agree : (v : Span) (c : Counts) → ok v c ≡ fits L (r v c).1) where
    marked_finds : (a b : Place) (y : X) → IsMarked r f y a b → Fine L a → Meets L a b y (reader a.spot)
    marked_finds a b y s fine = go (ok s.0.span a.spot.counts) refl
      where
        at_it : (b : Bool) → ok s.0.span a.spot.counts ≡ b → reader a.spot ≡ go_on b y (behind a.spot s.0 s.1) (skipped a.spot s.0 s.1)
        at_it b e = ap (λ (w : Tokens). reader (upon a.spot w)) s.2 ∙ marked_here y a.spot s.0 s.1 s.3 ∙ ap (λ (b : Bool). go_on b y (behind a.spot s.0 s.1) (skipped a.spot s.0 s.1)) e

        log_is : (c : Bool) → ok s.0.span a.spot.counts ≡ c → passed L ((r s.0.span a.spot.counts).1 ∷ a.log) ≡ unless c (length a.log)
        log_is c e = ap (λ (o : Option ℕ). earlier o (unless (fits L (r s.0.span a.spot.counts).1) (length a.log))) fine ∙ ap (λ (b : Bool). unless b (length a.log)) (sym (agree s.0.span a.spot.counts) ∙ e)

        total : (l : Log) (w v : Tokens) (t : Token) → w ≡ t ∷ v → suc (length l) + length v ≡ length l + length w
        total l w v t e = let h = ap length e in omega arith

        go : (c : Bool) → ok s.0.span a.spot.counts ≡ c → Meets L a b y (reader a.spot)
        go true e = inl (at_it true e ∙ ap (λ (b : Place). got y b.spot) (sym s.4), ap (λ (b : Place). passed L b.log) s.4 ∙ log_is true e)
        go false e = inr (subst (λ (o : Outcome X). IsPast L (count a) b.log o) (sym (at_it false e))
            ((r s.0.span a.spot.counts).1, a.log, [], ap (λ (b : Place). b.log) s.4, log_is false e, total a.log a.spot.ahead s.1 s.0 s.2))

    pub marked_lawful : Lawful L (IsMarked r f) F none_of reader
    marked_lawful = record {
      finds = λ a b y s m fine. marked_finds a b y s fine;
      begins = λ a b y s m. marked_begins a b y s;
      later = λ a b y s. marked_later r f y a b s;
      stays = λ a. marked_stays a.ahead a;
      sample = marked_sample;
    }

-- ---- a token of one kind

pub same_is : (k l : Kind) → same_kind l k ≡ true → l ≡ k
same_is k l e = same_true the_type tt l k e

pub is_same : (k l : Kind) → l ≡ k → same_kind l k ≡ true
is_same k l e = true_same the_type l k e

-- found, or past a limit
abbrev pub counts_on : Bool → Spot → Spot → Outcome (Unit {0})
counts_on b m n = go_on b tt m n

-- found
abbrev pub counted_at : Spot → Outcome (Unit {0})
counted_at m = Got tt m

-- some token of this kind
abbrev some_of : Kind → Token
some_of k = record { kind = k; span = record { start = 0; end = 0 } }

given_if : {X : Type 0} (b : Bool) (x y : X) → given b x ≡ Some y → b ≡ true
given_if true x y e = refl
given_if false x y e = absurd cc

-- the kind of the next token
pub token_begins : {X : Type 0} (r : Rule) (k : Kind) (g : Span → X) (x : X) (a b : Place) → IsMarked r (of_kind k g) x a b → peek a.spot ≡ Some k
token_begins r k g x a b s = ap (λ (w : Tokens). kind_of (head w)) s.2 ∙ ap Some (same_is k s.0.kind (given_if (same_kind s.0.kind k) (g s.0.span) x s.3))

-- the two ways in which such a token is read
seen_is : {X : Type 0} (r : Rule) (ok : Test) (k : Kind) (g : Span → X) (a : Spot) → marked r ok (of_kind k g) a ≡ (g <$> seen r ok k) a
unfolding marked seen next
seen_is {X} r ok k g a = go a.ahead
  where
    found : (t : Token) (w : Tokens) (d : Bool) → go_on d (g t.span) (counted_next r (upon a (t ∷ w))) (next (upon a (t ∷ w))) ≡ and_then (go_on d t.span (counted_next r (upon a (t ∷ w))) (next (upon a (t ∷ w)))) (λ v b. Got (g v) b)
    found t w true = refl
    found t w false = refl

    inner : (t : Token) (w : Tokens) (b : Bool) → marked_if r ok (given b (g t.span)) (upon a (t ∷ w)) ≡ and_then (cond b (go_on (ok t.span a.counts) t.span (counted_next r (upon a (t ∷ w))) (next (upon a (t ∷ w)))) (Wrong (upon a (t ∷ w)))) (λ v b. Got (g v) b)
    inner t w true = found t w (ok t.span a.counts)
    inner t w false = refl

    go : (w : Tokens) → marked r ok (of_kind k g) (upon a w) ≡ (g <$> seen r ok k) (upon a w)
    go [] = refl
    go (t ∷ w) = inner t w (same_kind t.kind k)

-- what the span of a token of this kind stands for
pub seen_lawful : {X : Type 0} {L : Limits} (r : Rule) (ok : Test) (k : Kind) (g : Span → X) → ((v : Span) (c : Counts) → ok v c ≡ fits L (r v c).1) → Lawful L (IsMarked r (of_kind k g)) (is k) none_of (g <$> seen r ok k)
seen_lawful {X} {L} r ok k g agree = law_of_same (g <$> seen r ok k) (seen_is r ok k g)
    (marked_lawful r ok (of_kind k g) (is k) (λ t x e. given_if (same_kind t.kind k) (g t.span) x e) (some_of k) (g (some_of k).span) (ap (λ (b : Bool). given b (g (some_of k).span)) (is_same k k refl)) L agree)

seen_map : (r : Rule) (ok : Test) (k : Kind) (a : Spot) → ((λ v. v) <$> seen r ok k) a ≡ seen r ok k a
seen_map r ok k a = go (seen r ok k a)
  where
    go : (o : Outcome Span) → and_then o (λ v b. Got v b) ≡ o
    go (Got v b) = refl
    go (Wrong b) = refl
    go (Over b) = refl

-- the span itself
pub span_lawful : {L : Limits} (r : Rule) (ok : Test) (k : Kind) → ((v : Span) (c : Counts) → ok v c ≡ fits L (r v c).1) → Lawful L (IsMarked r (span_of k)) (is k) none_of (seen r ok k)
span_lawful r ok k agree = law_of_same (seen r ok k) (seen_map r ok k) (seen_lawful r ok k (λ v. v) agree)

-- ---- tokens that count as nothing

-- a token of this kind, as a relation of the value that says nothing
abbrev pub IsTokenOf : Kind → Unit {0} → Stretch
IsTokenOf k x a b = IsToken k a b

pub unit_law : {L : Limits} {F M : Set} {p : Parser (Unit {0})} (r : Rule) (k : Kind) → Lawful L (IsMarked r (the k)) F M p → Lawful L (λ x. IsMarked r (the k) tt) F M p
unit_law r k law = law

token_is : (k : Kind) (a : Spot) → ((λ v. tt) <$> seen plain always k) a ≡ token k a
unfolding seen token
token_is k a = go (is k (peek a))
  where
    go : (b : Bool) → and_then (cond b (got (next a).last (next a)) (Wrong a)) (λ v b. counted_at b) ≡ cond b (counted_at (next a)) (Wrong a)
    go true = refl
    go false = refl

-- a token of this kind
pub token_lawful : {L : Limits} (k : Kind) → Lawful L (IsTokenOf k) (is k) none_of (token k)
token_lawful {L} k = law_of_same (token k) (token_is k) (unit_law plain k (seen_lawful plain always k (λ v. tt) (λ v c. refl)))

-- a token of this kind, and what its span stands for
pub value_lawful : {X : Type 0} {L : Limits} (k : Kind) (g : Span → X) → Lawful L (IsMarked plain (of_kind k g)) (is k) none_of (g <$> span_token k)
unfolding span_token
value_lawful k g = seen_lawful plain always k g (λ v c. refl)

-- a token of this kind, and its span
pub span_token_lawful : {L : Limits} (k : Kind) → Lawful L (IsSpan k) (is k) none_of (span_token k)
unfolding span_token
span_token_lawful k = span_lawful plain always k (λ v c. refl)
