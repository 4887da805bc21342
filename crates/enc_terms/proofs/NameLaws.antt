-- The parsers of names are lawful.
use Rattle.std.proofs.Common.{◌≡◌, ℕ, Bool, List, refl}
use Rattle.enc_ast.specs.declared.rules.Span.{Span}
use Rattle.enc_lex.specs.declared.kinds.Kind.TheVariants as k
use Rattle.enc_ast.specs.declared.decls.Name.{Name}
use Rattle.enc_cursor.specs.Counts.{Counts, Rule, word, variable, declared, trait_, group_rules}
use Rattle.enc_cursor.specs.Limits.{Limits, fits}
use Rattle.enc_cursor.specs.Place.{Place, is}
use Rattle.enc_cursor.specs.Counted.{room_for}
use Rattle.enc_cursor.proofs.Lawful.{Lawful, Later, none_of}
use Rattle.enc_cursor.proofs.Names.{name_lawful, group_lawful, name_later}
use Rattle.enc_cursor.proofs.Words.{image_lawful}
use Rattle.enc_terms.specs.Names.{name_at, name_as, IsNameAs}

-- a name that is counted by the rule; the last argument is `λ v c. refl` for every rule of names
pub name_law : {L : Limits} (r : Rule) (text : List ℕ) → ((v : Span) (c : Counts) → room_for L.counts r v c ≡ fits L (r v c).1) → Lawful L (IsNameAs r text) (is k.Name) none_of (name_as r text L.counts)
unfolding name_as
name_law r text agree = image_lawful (name_at text) (name_lawful r agree)

pub word_law : {L : Limits} (text : List ℕ) → Lawful L (IsNameAs word text) (is k.Name) none_of (name_as word text L.counts)
word_law text = name_law word text (λ v c. refl)

pub variable_law : {L : Limits} (text : List ℕ) → Lawful L (IsNameAs variable text) (is k.Name) none_of (name_as variable text L.counts)
variable_law text = name_law variable text (λ v c. refl)

pub declared_law : {L : Limits} (text : List ℕ) → Lawful L (IsNameAs declared text) (is k.Name) none_of (name_as declared text L.counts)
declared_law text = name_law declared text (λ v c. refl)

pub trait_law : {L : Limits} (text : List ℕ) → Lawful L (IsNameAs trait_ text) (is k.Name) none_of (name_as trait_ text L.counts)
trait_law text = name_law trait_ text (λ v c. refl)

-- a name by which a group begins
pub group_name_law : {L : Limits} (text : List ℕ) (of_a_class : Bool) → Lawful L (IsNameAs (group_rules of_a_class).name text) (is k.Name) none_of (name_as (group_rules of_a_class).name text L.counts)
unfolding name_as
group_name_law text of_a_class = image_lawful (name_at text) (group_lawful of_a_class)

-- each token is counted once
pub named_later : (r : Rule) (text : List ℕ) (a b : Place) (x : Name) → IsNameAs r text x a b → Later a b
named_later r text a b x s = name_later r s.0 a b s.2
