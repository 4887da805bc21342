-- What is so along a stretch of a text that passes no limit.
use Rattle.std.proofs.Common.{◌≡◌, ℕ, suc, ◌+◌, ◌≤◌, Bool, true, ◌&&◌, List, [], ◌∷◌, length, refl, sym, ap₂, subst, arith}
use Rattle.std.specs.List.{AllByRecursion}
use Rattle.std.proofs.lemmas.Bool.{and_from}
use Rattle.enc_lex.specs.Lexes.{StandsIn}
use Rattle.enc_cursor.specs.Counts.{Counts, Ending}
use Rattle.enc_cursor.specs.Limits.{standard}
use Rattle.enc_cursor.specs.Place.{Place, place, recounted}
use Rattle.enc_cursor.specs.Stretch.{Stretch, Each}
use Rattle.enc_cursor.proofs.Lawful.{Fine}
use Rattle.enc_limits.specs.Numbers.{max_variables, max_operators, max_declared, max_groups, every}

-- No count is more than may be.
pub record IsWithin (c : Counts) : Type 0 where
  pub variables : c.variables ≤ max_variables
  pub operators : c.operators ≤ max_operators
  pub names : c.names ≤ max_declared
  pub groups : c.groups ≤ max_groups
  pub traits : c.traits ≤ max_groups

-- The place has these counts, none of which is more than may be, and each token ahead is what the text has at its span.
pub record Stands (text : List ℕ) (c : Counts) (a : Place) : Type 0 where
  pub tokens : AllByRecursion (StandsIn text) a.spot.ahead
  pub counts : a.spot.counts ≡ c
  pub within : IsWithin c

-- A stretch leads from these counts to those, and this is so, where no limit is passed at its end.
pub record Leads (text : List ℕ) (c d : Counts) (so : Bool) (a b : Place) : Type 0 where
  pub fine : Fine standard b → Fine standard a
  pub stands : Fine standard b → Stands text c a → Stands text d b
  pub holds : Fine standard b → Stands text c a → so ≡ true

-- at one place nothing is said
pub here : {text : List ℕ} {c : Counts} {a : Place} → Leads text c c true a a
here = record { fine = λ f. f; stands = λ f s. s; holds = λ f s. refl }

-- one stretch behind another
pub then : {text : List ℕ} {c d e : Counts} {p q : Bool} {a b z : Place} → Leads text c d p a b → Leads text d e q b z → Leads text c e (p && q) a z
then {p = p} {q = q} s t = record {
  fine = λ f. s.fine (t.fine f);
  stands = λ f h. t.stands f (s.stands (t.fine f) h);
  holds = λ f h. and_from p q (s.holds (t.fine f) h) (t.holds f (s.stands (t.fine f) h));
}

-- a stretch of which nothing is said, behind another
pub before : {text : List ℕ} {c d e : Counts} {p : Bool} {a b z : Place} → Leads text c d p a b → Leads text d e true b z → Leads text c e p a z
before s t = record {
  fine = λ f. s.fine (t.fine f);
  stands = λ f h. t.stands f (s.stands (t.fine f) h);
  holds = λ f h. s.holds (t.fine f) h;
}

-- what is so of the counts at the end, since none is more than may be
pub also : {text : List ℕ} {c d : Counts} {p : Bool} {a b : Place} (q : Bool) → (IsWithin d → q ≡ true) → Leads text c d p a b → Leads text c d (p && q) a b
also {p = p} q at_end s = record { fine = s.fine; stands = s.stands; holds = λ f h. and_from p q (s.holds f h) (at_end (s.stands f h).within) }

-- the same, as another fact
pub said : {text : List ℕ} {c d : Counts} {p : Bool} {a b : Place} (q : Bool) → p ≡ q → Leads text c d p a b → Leads text c d q a b
said {text} {c} {d} {p} {a} {b} q e s = subst (λ so. Leads text c d so a b) e s

-- the same, to a number that is written otherwise
pub reaches : {text : List ℕ} {c : Counts} {p : Bool} {a b : Place} {j k : ℕ} (s : ℕ → Counts) → j ≡ k → Leads text c (s j) p a b → Leads text c (s k) p a b
reaches {text} {c} {p} {a} {b} s e t = subst (λ n. Leads text c (s n) p a b) e t

-- with other counts at the end
pub closed : {text : List ℕ} {c d : Counts} {p : Bool} {a b : Place} (g : Ending) → (IsWithin c → IsWithin d → IsWithin (g c d)) → Leads text c d p a b → {z : Place} → z ≡ place (recounted (g a.spot.counts b.spot.counts) b.spot) b.log → Leads text c (g c d) p a z
closed {text} {c} {d} {p} {a} {b} g small s {z} e =
    subst (λ y. Leads text c (g c d) p a y) (sym e) (record {
      fine = s.fine;
      stands = λ f h. let t = s.stands f h in record { tokens = t.tokens; counts = ap₂ g h.counts t.counts; within = small h.within t.within };
      holds = s.holds;
    })

-- one after the other, with counts that go up by one at each
pub each : {A : Type 0} {S : A → Stretch} {f : A → Bool} {text : List ℕ} (s : ℕ → Counts) → ((n : ℕ) (x : A) (a b : Place) → S x a b → Leads text (s n) (s (suc n)) (f x) a b) → (xs : List A) (n : ℕ) (a b : Place) → Each S xs a b → Leads text (s n) (s (n + length xs)) (every f xs) a b
each {text = text} s step [] n a b e = subst (λ z. Leads text (s n) (s (n + 0)) true a z) e (reaches s (omega arith) here)
each s step (x ∷ xs) n a z t = reaches s (omega arith) (then (step n x a t.0 t.1) (each s step xs (suc n) t.0 z t.2))
