-- The steps that parsers are made of.
use Rattle.std.specs.Prelude.{ℕ, zero, suc, Bool, true, false, List, [], ◌∷◌, length, Option, Some, None, if◌then◌else◌, not}
use Rattle.enc_ast.specs.declared.rules.Span.{Span}
use Rattle.enc_lex.specs.declared.kinds.Kind.{Kind}
use Rattle.enc_cursor.specs.Counts.{Ending}
use Rattle.enc_cursor.specs.Place.{Spot, Tokens, recounted, peek, is, between}

-- What a parser found, and where it stands then. Wrong is before the first token that no sentence has there,
-- and Over behind the first token by which a limit is passed.
pub data Outcome (A : Type 0) : Type 0 where
  Got : A → Spot → Outcome A
  Wrong : Spot → Outcome A
  Over : Spot → Outcome A

-- what is found at each spot
abbrev pub Parser : Type 0 → Type 0
Parser A = Spot → Outcome A

-- sets of kinds, and of the end
abbrev pub Set : Type 0
Set = Option Kind → Bool

-- goes on behind what was found
abbrev pub and_then : {A B : Type 0} → Outcome A → (A → Parser B) → Outcome B
and_then (Got x b) f = f x b
and_then (Wrong b) f = Wrong b
and_then (Over b) f = Over b

-- one part, then the other
abbrev pub both : {A B C : Type 0} → (A → B → C) → Parser A → Parser B → Parser C
both g p q = λ a. and_then (p a) (λ x b. and_then (q b) (λ y c. Got (g x y) c))

infixr 11 ◌<$>◌
-- with the value that a function makes of what was found
abbrev pub ◌<$>◌ : {A B : Type 0} → (A → B) → Parser A → Parser B
f <$> p = λ a. and_then (p a) (λ x b. Got (f x) b)

infixl 10 ◌>>=◌
-- one part, then one that is chosen by what was found
abbrev pub ◌>>=◌ : {A B : Type 0} → Parser A → (A → Parser B) → Parser B
p >>= f = λ a. and_then (p a) f

-- ---- tokens

-- the spot behind the first of these tokens
abbrev pub next_at : Tokens → Spot → Spot
next_at [] a = a
next_at (t ∷ w) a = record { last = t.span; ahead = w; counts = a.counts }

-- the spot behind the next token
unfoldable pub next : Spot → Spot
next a = next_at a.ahead a

-- a token of this kind
unfoldable pub token : Kind → Parser (Unit {0})
token k = λ a. if is k (peek a) then Got tt (next a) else Wrong a

-- where nothing more may come
abbrev pub wrong : {A : Type 0} → Parser A
wrong = λ a. Wrong a

infixr 12 ◌▹◌
-- behind a token
abbrev pub ◌▹◌ : {A : Type 0} → Kind → Parser A → Parser A
k ▹ p = both (λ _ x. x) (token k) p

infixl 13 ◌◃◌
-- before a token
abbrev pub ◌◃◌ : {A : Type 0} → Parser A → Kind → Parser A
p ◃ k = both (λ x _. x) p (token k)

infixr 12 ◌⊗◌
-- a pair
abbrev pub ◌⊗◌ : {A B : Type 0} → Parser A → Parser B → Parser (A × B)
p ⊗ q = both (λ x y. (x, y)) p q

-- ---- choice by the next token

-- the first, where the next token is in the set, else the second
abbrev pub pick : {A : Type 0} → Set → Parser A → Parser A → Parser A
pick t p q = λ a. if t (peek a) then p a else q a

-- what the token introduces, if it comes next
abbrev pub optional : {A : Type 0} → Set → Parser A → Parser (Option A)
optional t p = λ a. if t (peek a) then and_then (p a) (λ x b. Got (Some x) b) else Got None a

-- The number bounds the turns, and each turn takes a token, so the count of tokens is enough.
unfoldable pub many_from : {A : Type 0} → Set → Parser A → ℕ → Parser (List A)
many_from t p zero = wrong
many_from t p (suc n) = λ a. if t (peek a) then and_then (p a) (λ x b. and_then (many_from t p n b) (λ xs c. Got (x ∷ xs) c)) else Got [] a

-- as many as there are
unfoldable pub many : {A : Type 0} → Set → Parser A → Parser (List A)
many t p = λ a. many_from t p (suc (length a.ahead)) a

-- one or more, with a token between
abbrev pub separated : {A : Type 0} → Kind → Parser A → Parser (List A)
separated k p = both (λ x xs. x ∷ xs) p (many (is k) (k ▹ p))

-- ---- what is added at the end

-- with the span of what was read
abbrev pub spanned : {A : Type 0} → Parser A → Parser (A × Span)
spanned p = λ a. and_then (p a) (λ x b. Got (x, between a b) b)

-- with other counts at the end
abbrev pub closed : {A : Type 0} → Ending → Parser A → Parser A
closed g p = λ a. and_then (p a) (λ x b. Got x (recounted (g a.counts b.counts) b))

-- ---- sets of kinds

-- what a kind stands for, if there is one
abbrev pub stands_for : {X : Type 0} → (Kind → Option X) → Option Kind → Option X
stands_for w None = None
stands_for w (Some k) = w k

-- whether there is a value
abbrev pub is_some : {X : Type 0} → Option X → Bool
is_some None = false
is_some (Some x) = true

-- the kinds that stand for something
abbrev pub can : {X : Type 0} → (Kind → Option X) → Set
can w l = is_some (stands_for w l)

-- any token but this, or the end
abbrev pub but : Kind → Set
but k l = not (is k l)

-- any token
abbrev pub some : Set
some None = false
some (Some k) = true

-- ---- operators that group to the left

-- an operator, its right operand, and the span of both
abbrev pub Item : Type 0 → Type 0 → Type 0
Item O E = (O × E) × Span

-- what becomes of a left operand that starts there and the items behind it
abbrev pub joined : {O E : Type 0} → (ℕ → E → Item O E → E) → ℕ → E → List (Item O E) → E
joined join from x [] = x
joined join from x (i ∷ is) = joined join from (join from x i) is

-- the same of one item, or none
abbrev pub join_any : {O E : Type 0} → (ℕ → E → Item O E → E) → ℕ → E → Option (Item O E) → E
join_any join from x None = x
join_any join from x (Some i) = join from x i
