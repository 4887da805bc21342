-- Two ways to write the same steps.
use Rattle.std.proofs.Common.{◌≡◌, Bool, true, false, cond, refl, inl, inr, ◌⊎◌}
use Rattle.enc_ast.specs.declared.rules.Span.{Span}
use Rattle.enc_cursor.specs.Counts.{Ending}
use Rattle.enc_cursor.specs.Place.{Spot, recounted, peek, between}
use Rattle.enc_cursor.specs.Limits.{Limits}
use Rattle.enc_cursor.specs.Stretch.{Stretch}
use Rattle.enc_cursor.proofs.Lawful.{Lawful, law_of_same}
use Rattle.enc_cursor.specs.Steps.{Outcome, Got, Wrong, Over, Parser, Set, and_then, ◌<$>◌, wrong, ◌⊗◌, pick, spanned, closed}

abbrev tuple : {A B : Type 0} → A → B → A × B
tuple x y = (x, y)

abbrev stretched : {A : Type 0} → Spot → A → Spot → A × Span
stretched a x b = (x, between a b)

pub then_same : {A B : Type 0} (o : Outcome A) (f h : A → Parser B) → ((x : A) (b : Spot) → f x b ≡ h x b) → and_then o f ≡ and_then o h
then_same (Got x b) f h e = e x b
then_same (Wrong b) f h e = refl
then_same (Over b) f h e = refl

-- a pair with its span, and the steps
pub spanned_pair : {A B C : Type 0} (f : (A × B) × Span → C) (p : Parser A) (q : Parser B) (a : Spot) → (f <$> spanned (p ⊗ q)) a ≡ and_then (p a) (λ x b. and_then (q b) (λ y c. Got (f ((x, y), between a c)) c))
spanned_pair {A} {B} {C} f p q a = go (p a)
  where
    second : (x : A) (r : Outcome B) → and_then (and_then (and_then r (λ y c. Got (tuple x y) c)) (λ x b. Got (stretched a x b) b)) (λ x b. Got (f x) b) ≡ and_then r (λ y c. Got (f ((x, y), between a c)) c)
    second x (Got y c) = refl
    second x (Wrong c) = refl
    second x (Over c) = refl

    go : (o : Outcome A) → and_then (and_then (and_then o (λ x b. and_then (q b) (λ y c. Got (tuple x y) c))) (λ x b. Got (stretched a x b) b)) (λ x b. Got (f x) b) ≡ and_then o (λ x b. and_then (q b) (λ y c. Got (f ((x, y), between a c)) c))
    go (Got x b) = second x (q b)
    go (Wrong b) = refl
    go (Over b) = refl

-- a part that is chosen by the value before, and a pair
pub chained : {A B C X : Type 0} (f : A → X) (h : X → B → C) (p : Parser A) (q : Parser B) (a : Spot) → and_then ((f <$> p) a) (λ y. h y <$> q) ≡ and_then ((p ⊗ q) a) (λ r c. Got (h (f r.0) r.1) c)
chained {A} {B} {C} {X} f h p q a = go (p a)
  where
    second : (x : A) (r : Outcome B) → and_then r (λ y c. Got (h (f x) y) c) ≡ and_then (and_then r (λ y c. Got (tuple x y) c)) (λ r c. Got (h (f r.0) r.1) c)
    second x (Got y c) = refl
    second x (Wrong c) = refl
    second x (Over c) = refl

    go : (o : Outcome A) → and_then (and_then o (λ x b. Got (f x) b)) (λ y. h y <$> q) ≡ and_then (and_then o (λ x b. and_then (q b) (λ y c. Got (tuple x y) c))) (λ r c. Got (h (f r.0) r.1) c)
    go (Got x b) = second x (q b)
    go (Wrong b) = refl
    go (Over b) = refl

map_map : {A B C : Type 0} (f : A → B) (h : B → C) (o : Outcome A) → and_then (and_then o (λ x b. Got (f x) b)) (λ x b. Got (h x) b) ≡ and_then o (λ x b. Got (h (f x)) b)
map_map f h (Got x b) = refl
map_map f h (Wrong b) = refl
map_map f h (Over b) = refl

pub map_twice : {A B C : Type 0} (f : A → B) (h : B → C) (p : Parser A) (a : Spot) → (h <$> (f <$> p)) a ≡ ((λ x. h (f x)) <$> p) a
map_twice f h p a = map_map f h (p a)

-- one function behind another, as one
pub composed_lawful : {A B C : Type 0} {L : Limits} {S : C → Stretch} {F M : Set} (f : A → B) (h : B → C) (p : Parser A) → Lawful L S F M (h <$> (f <$> p)) → Lawful L S F M ((λ x. h (f x)) <$> p)
composed_lawful f h p law = law_of_same ((λ x. h (f x)) <$> p) (map_twice f h p) law

-- a function behind a choice with one arm
pub map_only : {A B : Type 0} (f : A → B) (t : Set) (p : Parser A) (a : Spot) → (f <$> pick t p wrong) a ≡ pick t (f <$> p) wrong a
map_only {A} {B} f t p a = go (t (peek a))
  where
    go : (b : Bool) → and_then (cond b (p a) (Wrong a)) (λ x b. Got (f x) b) ≡ cond b (and_then (p a) (λ x b. Got (f x) b)) (Wrong a)
    go true = refl
    go false = refl

-- what goes on with a name, in two ways
abbrev pub either_of : {N A B C : Type 0} → (N → A → C) → (N → B → C) → N → A ⊎ B → C
either_of f h n (inl x) = f n x
either_of f h n (inr y) = h n y

abbrev in_left : {A B : Type 0} → A → A ⊎ B
in_left x = inl x

abbrev in_right : {A B : Type 0} → B → A ⊎ B
in_right x = inr x

-- choice behind a common part, and a pair with a choice
pub parted : {N A B C : Type 0} (p : Parser N) (t : Set) (q : Parser A) (r : Parser B) (f : N → A → C) (h : N → B → C) (a : Spot)
    → ((λ x. either_of f h x.0 x.1) <$> (p ⊗ pick t (inl <$> q) (inr <$> r))) a ≡ and_then (p a) (λ n. pick t (f n <$> q) (h n <$> r))
parted {N} {A} {B} {C} p t q r f h a = go (p a)
  where
    left : (n : N) (o : Outcome A) → and_then (and_then (and_then o (λ x b. Got (in_left {A = A} {B = B} x) b)) (λ y c. Got (tuple n y) c)) (λ x b. Got (either_of f h x.0 x.1) b) ≡ and_then o (λ x b. Got (f n x) b)
    left n (Got x b) = refl
    left n (Wrong b) = refl
    left n (Over b) = refl

    right : (n : N) (o : Outcome B) → and_then (and_then (and_then o (λ x b. Got (in_right {A = A} {B = B} x) b)) (λ y c. Got (tuple n y) c)) (λ x b. Got (either_of f h x.0 x.1) b) ≡ and_then o (λ x b. Got (h n x) b)
    right n (Got x b) = refl
    right n (Wrong b) = refl
    right n (Over b) = refl

    both_ways : (n : N) (b : Spot) (c : Bool) → and_then (and_then (cond c (and_then (q b) (λ x b. Got (in_left {A = A} {B = B} x) b)) (and_then (r b) (λ x b. Got (in_right {A = A} {B = B} x) b))) (λ y c. Got (tuple n y) c)) (λ x b. Got (either_of f h x.0 x.1) b)
        ≡ cond c (and_then (q b) (λ x b. Got (f n x) b)) (and_then (r b) (λ x b. Got (h n x) b))
    both_ways n b true = left n (q b)
    both_ways n b false = right n (r b)

    go : (o : Outcome N) → and_then (and_then o (λ n b. and_then (pick t (inl <$> q) (inr <$> r) b) (λ y c. Got (tuple n y) c))) (λ x b. Got (either_of f h x.0 x.1) b) ≡ and_then o (λ n. pick t (f n <$> q) (h n <$> r))
    go (Got n b) = both_ways n b (t (peek b))
    go (Wrong b) = refl
    go (Over b) = refl

-- what ends a stretch does not look at the value
pub closed_map : {A B : Type 0} (f : A → B) (g : Ending) (p : Parser A) (a : Spot) → and_then ((f <$> p) a) (λ x c. Got x (recounted (g a.counts c.counts) c)) ≡ (f <$> closed g p) a
closed_map {A} {B} f g p a = go (p a)
  where
    go : (o : Outcome A) → and_then (and_then o (λ x b. Got (f x) b)) (λ x c. Got x (recounted (g a.counts c.counts) c)) ≡ and_then (and_then o (λ x c. Got x (recounted (g a.counts c.counts) c))) (λ x b. Got (f x) b)
    go (Got x b) = refl
    go (Wrong b) = refl
    go (Over b) = refl
