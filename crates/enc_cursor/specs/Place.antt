-- A place in a list of tokens.
use Rattle.std.specs.Prelude.{ℕ, Bool, false, List, [], ◌∷◌, Option, Some, None}
use denote.Enum.Bare.{sameb}
use Rattle.enc_ast.specs.declared.rules.Span.{Span}
use Rattle.enc_lex.specs.declared.tokens.Token.{Token}
use Rattle.enc_lex.specs.declared.kinds.Kind.{Kind}
use Rattle.enc_lex.specs.contracts.kinds.Kind.{the_type}
use Rattle.enc_cursor.specs.Counts.{Counts, no_counts}
use Rattle.enc_cursor.specs.Limits.{Log}

-- tokens, in order
abbrev pub Tokens : Type 0
Tokens = List Token

-- the span of the token before, the tokens from here on, and the counts
pub record Spot : Type 0 where
  pub last : Span
  pub ahead : Tokens
  pub counts : Counts

-- a spot, and what the tokens before it were counted as
pub record Place : Type 0 where
  pub spot : Spot
  pub log : Log

-- the place of these two
abbrev pub place : Spot → Log → Place
place a l = record { spot = a; log = l }

-- the spot before all tokens
abbrev pub first_spot : Tokens → Spot
first_spot tokens = record { last = record { start = 0; end = 0 }; ahead = tokens; counts = no_counts }

-- the place before all tokens
abbrev pub start_of : Tokens → Place
start_of tokens = place (first_spot tokens) []

-- the same before other tokens
abbrev pub upon : Spot → Tokens → Spot
upon a w = record { last = a.last; ahead = w; counts = a.counts }

-- the same with other counts
abbrev pub recounted : Counts → Spot → Spot
recounted c a = record { last = a.last; ahead = a.ahead; counts = c }

-- the first token
abbrev pub head : Tokens → Option Token
head [] = None
head (t ∷ w) = Some t

-- the kind of a token that is there
abbrev pub kind_of : Option Token → Option Kind
kind_of None = None
kind_of (Some t) = Some t.kind

-- the kind of the next token, or none at the end
abbrev pub peek : Spot → Option Kind
peek a = kind_of (head a.ahead)

-- whether two kinds are the same
abbrev pub same_kind : Kind → Kind → Bool
same_kind = sameb the_type

-- whether a kind is there, and is this one
abbrev pub is : Kind → Option Kind → Bool
is k None = false
is k (Some l) = same_kind l k

-- where the first token starts
abbrev pub start_at : Tokens → ℕ
start_at [] = 0
start_at (t ∷ w) = t.span.start

-- where the next token starts
abbrev pub start : Spot → ℕ
start a = start_at a.ahead

-- the span from the first token after a to the last one before b
abbrev pub between : Spot → Spot → Span
between a b = record { start = start a; end = b.last.end }

-- the span from the first token after a to the last one before b
abbrev pub extent : Place → Place → Span
extent a b = between a.spot b.spot
