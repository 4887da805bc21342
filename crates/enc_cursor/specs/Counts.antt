-- What is counted, and what each token is counted as.
use Rattle.std.specs.Prelude.{◌-◌, ℕ, Bool, true, false, suc, List, [], ◌∷◌, ◌+◌}
use Rattle.enc_ast.specs.declared.rules.Span.{Span}

-- How many variables are visible, how many operators the whole expression has so far, how many names are declared,
-- how many groups the class has so far, and how many traits the disjunction.
pub record Counts : Type 0 where
  pub variables : ℕ
  pub operators : ℕ
  pub names : ℕ
  pub groups : ℕ
  pub traits : ℕ

-- What a token is counted as: with it so many brackets are open, the whole expression has so many operators, and so on.
-- And a name has so many bytes.
pub data Mark : Type 0 where
  Bracket : ℕ → Mark
  Operator : ℕ → Mark
  Variable : ℕ → Mark
  Declared : ℕ → Mark
  Group : ℕ → Mark
  Trait : ℕ → Mark
  Letters : ℕ → Mark

-- the counts after a token, and all that it is counted as
abbrev pub Rule : Type 0
Rule = Span → Counts → Counts × List Mark

-- how many bytes a token has
abbrev pub letters : Span → ℕ
letters v = v.end - v.start

-- nothing is counted before the first token
abbrev pub no_counts : Counts
no_counts = record { variables = 0; operators = 0; names = 0; groups = 0; traits = 0 }

-- ---- counts with one more, or other ones

-- with so many variables
abbrev pub with_variables : ℕ → Counts → Counts
with_variables n c = record { variables = n; operators = c.operators; names = c.names; groups = c.groups; traits = c.traits }

-- with so many operators
abbrev pub with_operators : ℕ → Counts → Counts
with_operators n c = record { variables = c.variables; operators = n; names = c.names; groups = c.groups; traits = c.traits }

-- with so many names
abbrev pub with_names : ℕ → Counts → Counts
with_names n c = record { variables = c.variables; operators = c.operators; names = n; groups = c.groups; traits = c.traits }

-- with so many groups
abbrev pub with_groups : ℕ → Counts → Counts
with_groups n c = record { variables = c.variables; operators = c.operators; names = c.names; groups = n; traits = c.traits }

-- with so many traits
abbrev pub with_traits : ℕ → Counts → Counts
with_traits n c = record { variables = c.variables; operators = c.operators; names = c.names; groups = c.groups; traits = n }

-- ---- rules

-- a token that counts as nothing
abbrev pub plain : Rule
plain v c = (c, [])

-- a name
abbrev pub word : Rule
word v c = (c, Letters (letters v) ∷ [])

-- an opening bracket inside n open ones
abbrev pub bracket : ℕ → Rule
bracket n v c = (c, Bracket (suc n) ∷ [])

-- an operator
abbrev pub operator : Rule
operator v c = (with_operators (c.operators + 1) c, Operator (c.operators + 1) ∷ [])

-- a name by which a variable is made visible
abbrev pub variable : Rule
variable v c = (with_variables (c.variables + 1) c, Letters (letters v) ∷ Variable (c.variables + 1) ∷ [])

-- a name that is declared
abbrev pub declared : Rule
declared v c = (with_names (c.names + 1) c, Letters (letters v) ∷ Declared (c.names + 1) ∷ [])

-- a name that is a group of a class
abbrev pub group : Rule
group v c = (with_groups (c.groups + 1) c, Letters (letters v) ∷ Group (c.groups + 1) ∷ [])

-- an opening bracket inside n open ones, by which a group of a class begins
abbrev pub bracketed_group : ℕ → Rule
bracketed_group n v c = (with_groups (c.groups + 1) c, Bracket (suc n) ∷ Group (c.groups + 1) ∷ [])

-- a name in a disjunction
abbrev pub trait_ : Rule
trait_ v c = (with_traits (c.traits + 1) c, Letters (letters v) ∷ Trait (c.traits + 1) ∷ [])

-- a name, and an opening bracket inside n open ones, by either of which a group begins
pub record GroupRules : Type 0 where
  pub name : Rule
  pub opener : ℕ → Rule

-- how the groups of a class are counted, and otherwise those of a written type
abbrev pub group_rules : Bool → GroupRules
group_rules true = record { name = group; opener = bracketed_group }
group_rules false = record { name = word; opener = bracket }

-- ---- endings

-- Counts at the end of a stretch, from those at its start and at the end of what stands there.
abbrev pub Ending : Type 0
Ending = Counts → Counts → Counts

-- the variables that were made visible inside are so no longer
abbrev pub leave : Ending
leave a b = with_variables a.variables b

-- an expression is whole
abbrev pub finish : Ending
finish a b = with_operators 0 b

-- a class has all its groups
abbrev pub end_groups : Ending
end_groups a b = with_groups 0 b

-- a disjunction has all its traits
abbrev pub end_traits : Ending
end_traits a b = with_traits 0 b
