-- Words for grammars: what stands between two places.
use Rattle.std.specs.Prelude.{◌≡◌, ℕ, Bool, true, false, List, [], ◌∷◌, Option, Some, None}
use Rattle.enc_ast.specs.declared.rules.Span.{Span}
use Rattle.enc_lex.specs.declared.tokens.Token.{Token}
use Rattle.enc_lex.specs.declared.kinds.Kind.{Kind}
use Rattle.enc_lex.specs.declared.kinds.Kind.TheVariants as k
use Rattle.enc_cursor.specs.Counts.{Rule, plain, bracket, operator, Ending}
use Rattle.enc_cursor.specs.Place.{Tokens, Place, place, recounted, same_kind, extent}

-- What stands between two places.
abbrev pub Stretch : Type 1
Stretch = Place → Place → Type 0

-- ---- tokens

-- the value, where that is so
abbrev pub given : {X : Type 0} → Bool → X → Option X
given true x = Some x
given false x = None

-- what the span of a token of this kind stands for
abbrev pub of_kind : {X : Type 0} → Kind → (Span → X) → Token → Option X
of_kind k g t = given (same_kind t.kind k) (g t.span)

-- the span of a token of this kind
abbrev pub span_of : Kind → Token → Option Span
span_of k = of_kind k (λ v. v)

-- whether a token is of this kind
abbrev pub the : Kind → Token → Option (Unit {0})
the k = of_kind k (λ v. tt)

-- what a token stands for by its kind
abbrev pub by_kind : {X : Type 0} → (Kind → Option X) → Token → Option X
by_kind w t = w t.kind

-- the place behind a token
abbrev pub beyond : Rule → Token → Tokens → Place → Place
beyond r t w a = record { spot = record { last = t.span; ahead = w; counts = (r t.span a.spot.counts).0 }; log = (r t.span a.spot.counts).1 ∷ a.log }

-- a token that stands for x, counted by the rule
abbrev pub IsMarked : {X : Type 0} → Rule → (Token → Option X) → X → Stretch
IsMarked r f x a b = (t : Token) × (w : Tokens) × (a.spot.ahead ≡ t ∷ w) × (f t ≡ Some x) × (b ≡ beyond r t w a)

-- a token of this kind
abbrev pub IsToken : Kind → Stretch
IsToken k = IsMarked plain (the k) tt

-- a token of this kind, with its span
abbrev pub IsSpan : Kind → Span → Stretch
IsSpan k = IsMarked plain (span_of k)

-- an opening bracket of this kind, where n are open
abbrev pub IsOpening : ℕ → Kind → Stretch
IsOpening n k = IsMarked (bracket n) (the k) tt

-- an opening bracket of this kind, counted by the rule
abbrev pub IsOpeningBy : Rule → Kind → Unit {0} → Stretch
IsOpeningBy r k x = IsMarked r (the k) tt

-- an operator
abbrev pub IsOneOf : {X : Type 0} → (Kind → Option X) → X → Stretch
IsOneOf w = IsMarked operator (by_kind w)

-- a name that is counted by the rule, with its span
abbrev pub IsNameBy : Rule → Span → Stretch
IsNameBy r = IsMarked r (span_of k.Name)

-- ---- more than one

-- one after the other
abbrev pub Each : {A : Type 0} → (A → Stretch) → List A → Stretch
Each S [] a b = a ≡ b
Each S (x ∷ xs) a c = (b : Place) × S x a b × Each S xs b c

-- behind a token
abbrev pub After : {A : Type 0} → Kind → (A → Stretch) → A → Stretch
After k S x a c = (b : Place) × IsToken k a b × S x b c

-- before a token
abbrev pub Before : {A : Type 0} → Kind → (A → Stretch) → A → Stretch
Before k S x a c = (b : Place) × S x a b × IsToken k b c

-- one or more, with a token between
abbrev pub Separated : {A : Type 0} → Kind → (A → Stretch) → List A → Stretch
Separated k S [] a b = ⊥
Separated k S (x ∷ xs) a c = (b : Place) × S x a b × Each (After k S) xs b c

-- one, or none
abbrev pub Maybe : {A : Type 0} → (A → Stretch) → Option A → Stretch
Maybe S None a b = a ≡ b
Maybe S (Some x) a b = S x a b

-- behind an opening bracket that is counted by the rule
abbrev pub OpenedBy : {A : Type 0} → Rule → Kind → (A → Stretch) → A → Stretch
OpenedBy r k S x a c = (b : Place) × IsMarked r (the k) tt a b × S x b c

-- behind an opening bracket, where n are open before
abbrev pub Opened : {A : Type 0} → ℕ → Kind → (A → Stretch) → A → Stretch
Opened n = OpenedBy (bracket n)

-- with other counts at the end
abbrev pub Closed : {A : Type 0} → Ending → (A → Stretch) → A → Stretch
Closed g S x a b = (c : Place) × S x a c × (b ≡ place (recounted (g a.spot.counts c.spot.counts) c.spot) c.log)

-- with the span of the whole
abbrev pub Spanned : {A : Type 0} → (A → Stretch) → A × Span → Stretch
Spanned S x a b = S x.0 a b × (x.1 ≡ extent a b)
