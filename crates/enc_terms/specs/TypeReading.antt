-- The parsers of types, as functions from spots to outcomes.
use Rattle.std.specs.Prelude.{ℕ, zero, suc, Bool, true, false, List, [], ◌∷◌}
use Rattle.enc_ast.specs.declared.rules.Span.{Span}
use Rattle.enc_lex.specs.declared.kinds.Kind.TheVariants as k
use Rattle.enc_ast.specs.declared.decls.Name.{Name}
use Rattle.enc_ast.specs.declared.decls.GroupText.{GroupText}
use Rattle.enc_ast.specs.declared.TypeText.{TypeText}
use Rattle.enc_ast.specs.declared.TypeForm.{TypeForm}
use Rattle.enc_ast.specs.declared.TypeForm.TheVariants as ty
use Rattle.enc_cursor.specs.Counts.{trait_, group_rules, end_groups, end_traits}
use Rattle.enc_cursor.specs.Limits.{Allowed}
use Rattle.enc_cursor.specs.Place.{is}
use Rattle.enc_cursor.specs.Steps.{Parser, both, wrong, pick, separated, spanned, closed, can, ◌<$>◌, ◌▹◌, ◌◃◌}
use Rattle.enc_cursor.specs.Counted.{kind_token, opened_by, opened, group_opening}
use Rattle.enc_terms.specs.Names.{name_as}
use Rattle.enc_terms.specs.Words.{plain_type, wrapper, wrapped}

-- the names of a disjunction behind the first "or"
unfoldable pub or_names : List ℕ → Allowed → Parser (List Name)
or_names text C = separated k.Or (name_as trait_ text C)

-- the names of a disjunction, of which there are two at least
unfoldable pub disjunction : List ℕ → Allowed → Parser (List Name)
disjunction text C = closed end_traits (both (λ x xs. x ∷ xs) (name_as trait_ text C) (k.Or ▹ or_names text C))

-- a group of several names
unfoldable pub several : List ℕ → Allowed → Bool → ℕ → Parser (List Name)
several text C of_a_class room = opened_by (group_opening C of_a_class room k.OpenParen) (disjunction text C ◃ k.CloseParen)

-- a group of one name
unfoldable pub single : List ℕ → Allowed → Bool → Parser (List Name)
single text C of_a_class = (λ x. x ∷ []) <$> name_as (group_rules of_a_class).name text C

-- the names of a group
unfoldable pub group_names : List ℕ → Allowed → Bool → ℕ → Parser (List Name)
group_names text C of_a_class room = pick (is k.OpenParen) (several text C of_a_class room) (single text C of_a_class)

-- a group, of a class or of a written type
unfoldable pub group : List ℕ → Allowed → Bool → ℕ → Parser GroupText
group text C of_a_class room = (λ x. record { names = x.0; span = x.1 }) <$> spanned (group_names text C of_a_class room)

-- groups with "and" between
unfoldable pub groups : List ℕ → Allowed → Bool → ℕ → Parser (List GroupText)
groups text C of_a_class room = separated k.And (group text C of_a_class room)

-- the groups of a class
unfoldable pub class_groups : List ℕ → Allowed → ℕ → Parser (List GroupText)
class_groups text C room = closed end_groups (groups text C true room)

-- a form, and where it stands
abbrev pub with_span : TypeForm × Span → TypeText
with_span x = record { form = x.0; span = x.1 }

-- a type that is made of groups
unfoldable pub cap_form : List ℕ → Allowed → ℕ → Parser TypeForm
cap_form text C room = ty.Cap <$> groups text C false room

-- a type that is made of groups, with its span
unfoldable pub cap : List ℕ → Allowed → ℕ → Parser TypeText
cap text C room = with_span <$> spanned (cap_form text C room)

-- inner reads a type inside brackets, of which so many may still be opened
module _ (text : List ℕ) (C : Allowed) (room : ℕ) (inner : Parser TypeText) where
  -- a type that a word makes of another
  unfoldable pub of_type : Parser TypeForm
  of_type = both wrapped (kind_token wrapper) (opened room k.OpenBracket (inner ◃ k.CloseBracket))

  -- what a type says
  unfoldable pub type_form : Parser TypeForm
  type_form = pick (can plain_type) (kind_token plain_type) (pick (can wrapper) of_type (cap_form text C room))

  -- a type
  unfoldable pub type_within : Parser TypeText
  type_within = with_span <$> spanned type_form

-- Inside brackets. Where none may be opened it is not asked.
unfoldable pub type_inside : List ℕ → Allowed → ℕ → Parser TypeText
type_inside text C zero = wrong
type_inside text C (suc n) = type_within text C n (type_inside text C n)

-- a type, where so many brackets may still be opened
unfoldable pub type_text : List ℕ → Allowed → ℕ → Parser TypeText
type_text text C room = type_within text C room (type_inside text C room)
