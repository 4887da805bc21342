-- Names and operators, with what they count as.
use Rattle.std.proofs.Common.{◌≡◌, ℕ, Bool, true, false, Option, Some, None, refl, ap, ◌∙◌}
use Rattle.enc_ast.specs.declared.rules.Span.{Span}
use Rattle.enc_lex.specs.declared.tokens.Token.{Token}
use Rattle.enc_lex.specs.declared.kinds.Kind.{Kind}
use Rattle.enc_cursor.specs.Counts.{Counts, Rule, plain, word, bracket, operator, variable, declared, group, trait_, group_rules}
use Rattle.enc_cursor.specs.Limits.{Limits, fits}
use Rattle.enc_cursor.specs.Place.{Spot, Place, head, kind_of, peek, is}
use Rattle.enc_cursor.specs.Stretch.{of_kind, span_of, the, by_kind, IsMarked, IsToken, IsOpening, IsOneOf, IsNameBy}
use Rattle.enc_cursor.specs.Steps.{◌<$>◌, stands_for, is_some, can}
use Rattle.enc_cursor.specs.Counted.{always, meaning, marked_if, marked, found_if, kind_token, room_for, name_by, operator_of}
use Rattle.enc_cursor.proofs.Lawful.{Later, Lawful, none_of, later_then, law_of_same}
use Rattle.enc_cursor.proofs.Tokens.{marked_later, marked_lawful, seen_lawful, span_lawful}
use Rattle.enc_lex.specs.declared.kinds.Kind.TheVariants as k

-- a name, and what its span stands for; the last argument is `λ v c. refl` for every rule of names
pub named_lawful : {X : Type 0} {L : Limits} (r : Rule) (g : Span → X) → ((v : Span) (c : Counts) → room_for L.counts r v c ≡ fits L (r v c).1) → Lawful L (IsMarked r (of_kind k.Name g)) (is k.Name) none_of (g <$> name_by L.counts r)
unfolding name_by
named_lawful {X} {L} r g agree = seen_lawful r (room_for L.counts r) k.Name g agree

-- a name, by its span
pub name_lawful : {L : Limits} (r : Rule) → ((v : Span) (c : Counts) → room_for L.counts r v c ≡ fits L (r v c).1) → Lawful L (IsNameBy r) (is k.Name) none_of (name_by L.counts r)
unfolding name_by
name_lawful {L} r agree = span_lawful r (room_for L.counts r) k.Name agree

pub word_lawful : {L : Limits} → Lawful L (IsNameBy word) (is k.Name) none_of (name_by L.counts word)
word_lawful = name_lawful word (λ v c. refl)

pub variable_lawful : {L : Limits} → Lawful L (IsNameBy variable) (is k.Name) none_of (name_by L.counts variable)
variable_lawful = name_lawful variable (λ v c. refl)

pub declared_lawful : {L : Limits} → Lawful L (IsNameBy declared) (is k.Name) none_of (name_by L.counts declared)
declared_lawful = name_lawful declared (λ v c. refl)

pub group_name_lawful : {L : Limits} → Lawful L (IsNameBy group) (is k.Name) none_of (name_by L.counts group)
group_name_lawful = name_lawful group (λ v c. refl)

pub trait_lawful : {L : Limits} → Lawful L (IsNameBy trait_) (is k.Name) none_of (name_by L.counts trait_)
trait_lawful = name_lawful trait_ (λ v c. refl)

-- a name by which a group begins
pub group_lawful : {L : Limits} (of_a_class : Bool) → Lawful L (IsNameBy (group_rules of_a_class).name) (is k.Name) none_of (name_by L.counts (group_rules of_a_class).name)
group_lawful true = group_name_lawful
group_lawful false = word_lawful

-- ---- operators

-- an operator of these, of which k is one
pub operator_lawful : {X : Type 0} {L : Limits} (w : Kind → Option X) (k : Kind) (x : X) → w k ≡ Some x → Lawful L (IsOneOf w) (can w) none_of (operator_of L.counts w)
unfolding operator_of
operator_lawful {X} {L} w k x has = marked_lawful operator (room_for L.counts operator) (by_kind w) (can w) (λ t y e. ap is_some e) (record { kind = k; span = record { start = 0; end = 0 } }) x has L (λ v c. refl)

-- ---- tokens of several kinds

-- what the next token stands for by its kind
pub by_kind_is : {O : Type 0} (w : Kind → Option O) (t : Option Token) → meaning (by_kind w) t ≡ stands_for w (kind_of t)
by_kind_is w None = refl
by_kind_is w (Some t) = refl

kind_token_is : {X : Type 0} (w : Kind → Option X) (a : Spot) → marked plain always (by_kind w) a ≡ kind_token w a
unfolding marked kind_token
kind_token_is {X} w a = ap (λ (m : Option X). marked_if plain always m a) (by_kind_is w (head a.ahead)) ∙ go (stands_for w (peek a))
  where
    go : (m : Option X) → marked_if plain always m a ≡ found_if m a
    go None = refl
    go (Some x) = refl

-- a token of these kinds, of which k is one
pub kind_token_lawful : {X : Type 0} {L : Limits} (w : Kind → Option X) (k : Kind) (x : X) → w k ≡ Some x → Lawful L (IsMarked plain (by_kind w)) (can w) none_of (kind_token w)
kind_token_lawful w k x has = law_of_same (kind_token w) (kind_token_is w) (marked_lawful plain always (by_kind w) (can w) (λ t y e. ap is_some e) (record { kind = k; span = record { start = 0; end = 0 } }) x has _ (λ v c. refl))

-- ---- each token is counted once

pub token_later : (k : Kind) (a b : Place) → IsToken k a b → Later a b
token_later k a b s = marked_later plain (the k) tt a b s

pub name_later : (r : Rule) (v : Span) (a b : Place) → IsNameBy r v a b → Later a b
name_later r v a b s = marked_later r (span_of k.Name) v a b s

pub opening_later : (n : ℕ) (k : Kind) (a b : Place) → IsOpening n k a b → Later a b
opening_later n k a b s = marked_later (bracket n) (the k) tt a b s

pub operator_later : {X : Type 0} (w : Kind → Option X) (x : X) (a b : Place) → IsOneOf w x a b → Later a b
operator_later w x a b s = marked_later operator (by_kind w) x a b s

pub later3 : (a b c d : Place) → Later a b → Later b c → Later c d → Later a d
later3 a b c d s t u = later_then a b d s (later_then b c d t u)
