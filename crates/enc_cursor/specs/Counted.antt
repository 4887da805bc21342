-- Parsers of tokens that are counted.
use Rattle.std.specs.Prelude.{◌&&◌, ℕ, zero, suc, Bool, true, false, Option, Some, None, if◌then◌else◌, ◌+◌}
use Rattle.enc_ast.specs.declared.rules.Span.{Span}
use Rattle.enc_lex.specs.declared.tokens.Token.{Token}
use Rattle.enc_lex.specs.declared.kinds.Kind.{Kind}
use Rattle.enc_lex.specs.declared.kinds.Kind.TheVariants as k
use Rattle.enc_cursor.specs.Counts.{Counts, Rule, plain, operator, bracketed_group}
use Rattle.enc_cursor.specs.Limits.{Allowed, with_brackets, at_most, fits}
use Rattle.enc_cursor.specs.Place.{Spot, recounted, head, peek, is, start}
use Rattle.enc_cursor.specs.Stretch.{by_kind}
use Rattle.enc_cursor.specs.Steps.{Outcome, Got, Wrong, Over, Parser, Item, joined, both, next, ◌<$>◌, ◌>>=◌, ◌⊗◌, many, spanned, can, stands_for}

-- whether a token has room
abbrev pub Test : Type 0
Test = Span → Counts → Bool

-- no limit is passed
abbrev pub always : Test
always v c = true

-- none of the marks, which are not those of brackets, passes a limit
abbrev pub room_for : Allowed → Rule → Test
room_for C r v c = fits (with_brackets 0 C) (r v c).1

-- what the first token stands for
abbrev pub meaning : {X : Type 0} → (Token → Option X) → Option Token → Option X
meaning f None = None
meaning f (Some t) = f t

-- found at b, or a limit is passed and the parser stands at c
abbrev pub go_on : {X : Type 0} → Bool → X → Spot → Spot → Outcome X
go_on true x b c = Got x b
go_on false x b c = Over c

-- behind the next token, with its counts
abbrev pub counted_next : Rule → Spot → Spot
counted_next r a = recounted (r (next a).last (next a).counts).0 (next a)

-- the next token, which stands for this, is counted
abbrev pub marked_if : {X : Type 0} → Rule → Test → Option X → Parser X
marked_if r ok None = λ a. Wrong a
marked_if r ok (Some x) = λ a. go_on (ok (next a).last (next a).counts) x (counted_next r a) (next a)

-- a token that stands for something, counted by the rule
unfoldable pub marked : {X : Type 0} → Rule → Test → (Token → Option X) → Parser X
marked r ok f = λ a. marked_if r ok (meaning f (head a.ahead)) a

-- the next token, whose kind stands for this
abbrev pub found_if : {X : Type 0} → Option X → Parser X
found_if None = λ a. Wrong a
found_if (Some x) = λ a. Got x (next a)

-- a token whose kind stands for something
unfoldable pub kind_token : {X : Type 0} → (Kind → Option X) → Parser X
kind_token w = λ a. found_if (stands_for w (peek a)) a

-- a token of this kind, counted by the rule, and its span
unfoldable pub seen : Rule → Test → Kind → Parser Span
seen r ok k = λ a. if is k (peek a) then go_on (ok (next a).last (next a).counts) (next a).last (counted_next r a) (next a) else Wrong a

-- a token of this kind, and its span
unfoldable pub span_token : Kind → Parser Span
span_token = seen plain always

-- a name that is counted by the rule
unfoldable pub name_by : Allowed → Rule → Parser Span
name_by C r = seen r (room_for C r) k.Name

-- ---- brackets

-- whether there is room for one more
abbrev pub is_positive : ℕ → Bool
is_positive zero = false
is_positive (suc n) = true

-- an opening bracket, where so many may still be opened
unfoldable pub opening : ℕ → Kind → Parser (Unit {0})
opening room k = λ a. if is k (peek a) then go_on (is_positive room) tt (next a) (next a) else Wrong a

-- behind what this parser reads
abbrev pub opened_by : {A : Type 0} → Parser (Unit {0}) → Parser A → Parser A
opened_by q p = both (λ _ x. x) q p

-- behind an opening bracket
abbrev pub opened : {A : Type 0} → ℕ → Kind → Parser A → Parser A
opened room k = opened_by (opening room k)

-- whether there is room for one more group, and one more bracket
abbrev pub group_room : Allowed → ℕ → Test
group_room C room v c = at_most (c.groups + 1) C.groups && is_positive room

-- an opening bracket by which a group of a class begins
unfoldable pub opening_group : Allowed → ℕ → Kind → Parser (Unit {0})
opening_group C room k = λ a. if is k (peek a) then go_on (group_room C room (next a).last (next a).counts) tt (counted_next (bracketed_group 0) a) (next a) else Wrong a

-- an opening bracket by which a group of a class begins, or one of a written type
unfoldable pub group_opening : Allowed → Bool → ℕ → Kind → Parser (Unit {0})
group_opening C true room k = opening_group C room k
group_opening C false room k = opening room k

-- ---- operators

-- an operator
unfoldable pub operator_of : {X : Type 0} → Allowed → (Kind → Option X) → Parser X
operator_of C w = marked operator (room_for C operator) (by_kind w)

-- an operator that has been seen
unfoldable pub counted_operator : Allowed → Parser (Unit {0})
counted_operator C = λ a. go_on (room_for C operator (next a).last (next a).counts) tt (counted_next operator a) (next a)

-- the operators behind a left operand that starts there, each with its right operand
abbrev pub level_after : {O E : Type 0} → (ℕ → E → Item O E → E) → Allowed → (Kind → Option O) → Parser E → ℕ → E → Parser E
level_after join C w p from x = joined join from x <$> many (can w) (spanned (operator_of C w ⊗ p))

-- an operand, and the operators behind it
abbrev pub level : {O E : Type 0} → (ℕ → E → Item O E → E) → Allowed → (Kind → Option O) → Parser E → Parser E
level join C w p = λ a. (p >>= level_after join C w p (start a)) a
