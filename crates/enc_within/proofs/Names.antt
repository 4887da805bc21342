-- What is so of names, by how they are counted.
use Rattle.std.proofs.Common.{◌≡◌, ℕ, suc, ◌-◌, ◌≤◌, Bool, true, false, List, [], ◌∷◌, length, drop, Some, refl, sym, ap, subst, arith, le-leb, add-one, length-drop}
use Rattle.std.proofs.lemmas.Bool.{and_parts, and_from, not_from_false}
use Rattle.std.proofs.lemmas.List.{length-take-le}
use Rattle.enc_ast.specs.declared.rules.Span.{Span}
use Rattle.enc_ast.specs.declared.decls.Name.{Name}
use Rattle.enc_lex.specs.declared.kinds.Kind.TheVariants as k
use Rattle.enc_lex.specs.declared.tokens.Token.{Token}
use Rattle.enc_lex.specs.Lexes.{StandsIn}
use Rattle.enc_lex.specs.Values.{bytes_at, word_of}
use Rattle.enc_lex.proofs.KindLaws.{name_token}
use Rattle.enc_cursor.specs.Counts.{Counts, Rule, Mark, Letters, Variable, Declared, Group, Trait, letters, word, variable, declared, group, trait_, with_variables, with_names, with_groups, with_traits}
use Rattle.enc_cursor.specs.Limits.{standard, allowed, at_most, fits}
use Rattle.enc_cursor.specs.Place.{Place, same_kind}
use Rattle.enc_cursor.specs.Stretch.{given, span_of, IsNameBy}
use Rattle.enc_cursor.proofs.Tokens.{same_is}
use Rattle.enc_terms.specs.Names.{IsNameAs}
use Rattle.enc_limits.specs.Numbers.{max_letters, max_variables, max_declared, max_groups, is_name, name_fits}
use Rattle.enc_limits.specs.Stmts.{variable_fits}
use Rattle.enc_within.proofs.Leads.{IsWithin, Leads, also}
use Rattle.enc_within.proofs.Tokens.{at_most_le, marked}

-- as many bytes as there are between the ends of the span
length_at : (text : List ℕ) (v : Span) → v.end ≤ length text → length (bytes_at text v) ≡ letters v
length_at text v le = length-take-le (v.end - v.start) (drop v.start text) (omega (arith, length-drop v.start text))

-- what is said of a name's token
word_fits : (text : List ℕ) (t : Token) → StandsIn text t → t.kind ≡ k.Name → at_most (letters t.span) max_letters ≡ true → is_name (word_of (bytes_at text t.span)) ≡ true
word_fits text t s kind short =
    let w = name_token text t s kind in
    let len : length (bytes_at text t.span) ≡ letters t.span = length_at text t.span s.within in
    let le = at_most_le (letters t.span) max_letters short in
    subst (λ z. is_name z ≡ true) (sym w.said) (and_from _ _ (le-leb (length (bytes_at text t.span)) max_letters (omega arith)) (not_from_false _ w.free))

-- the span of a name's token
name_of : (t : Token) (v : Span) (b : Bool) → same_kind t.kind k.Name ≡ b → given b t.span ≡ Some v → (t.kind ≡ k.Name) × (t.span ≡ v)
name_of t v true kind e = (same_is k.Name t.kind kind, cc)
name_of t v false kind e = absurd cc

-- What a name leads to that is counted by the rule r: as so many letters, and as ms.
spelled : {text : List ℕ} {v : Span} {a b : Place} (r : Rule) (c d : Counts) (ms : List Mark) → ((s : Span) → r s c ≡ (d, Letters (letters s) ∷ ms)) → (fits standard ms ≡ true → IsWithin c → IsWithin d) → IsNameBy r v a b → Leads text c d (is_name (word_of (bytes_at text v))) a b
unfolding allowed
spelled {text} {v} r c d ms is small m = marked r (span_of k.Name) c d (is_name (word_of (bytes_at text v))) (λ s. ap (λ (z : Counts × List Mark). z.0) (is s))
    (λ t s e h w.
    let n = name_of t v _ refl e in
    let p = and_parts (fits standard ms) (at_most (letters t.span) max_letters) (subst (λ (z : Counts × List Mark). fits standard z.1 ≡ true) (is t.span) h) in
    (small p.0 w, subst (λ z. is_name (word_of (bytes_at text z)) ≡ true) n.1 (word_fits text t s n.0 p.1)))
    m

-- the same of its word
named : {text : List ℕ} {x : Name} {a b : Place} (r : Rule) (c d : Counts) (ms : List Mark) → ((s : Span) → r s c ≡ (d, Letters (letters s) ∷ ms)) → (fits standard ms ≡ true → IsWithin c → IsWithin d) → IsNameAs r text x a b → Leads text c d (name_fits x) a b
named {text} {x} {a} {b} r c d ms is small m = subst (λ (y : Name). Leads text c d (name_fits y) a b) m.1 (spelled r c d ms is small m.2)

-- the span of a name
pub word_at : {text : List ℕ} {c : Counts} {v : Span} {a b : Place} → IsNameBy word v a b → Leads text c c (is_name (word_of (bytes_at text v))) a b
word_at {c = c} m = spelled word c c [] (λ s. refl) (λ h w. w) m

-- a name
pub word_is : {text : List ℕ} {c : Counts} {x : Name} {a b : Place} → IsNameAs word text x a b → Leads text c c (name_fits x) a b
word_is {c = c} m = named word c c [] (λ s. refl) (λ h w. w) m

-- a name by which a variable is made visible
pub visible_is : {text : List ℕ} {c : Counts} {x : Name} {a b : Place} → IsNameAs variable text x a b → Leads text c (with_variables (suc c.variables) c) (name_fits x) a b
unfolding allowed
visible_is {c = c} m = named variable c (with_variables (suc c.variables) c) (Variable (suc c.variables) ∷ [])
    (λ s. rw (add-one c.variables) refl)
    (λ h w. record { variables = at_most_le (suc c.variables) max_variables h; operators = w.operators; names = w.names; groups = w.groups; traits = w.traits }) m

-- and with it no more are visible than may be
pub variable_is : {text : List ℕ} {c : Counts} {x : Name} {a b : Place} → IsNameAs variable text x a b → Leads text c (with_variables (suc c.variables) c) (variable_fits (suc c.variables) x) a b
variable_is {c = c} m = also _ (λ w. le-leb (suc c.variables) max_variables w.variables) (visible_is m)

-- a name that is declared
pub declared_is : {text : List ℕ} {c : Counts} {x : Name} {a b : Place} → IsNameAs declared text x a b → Leads text c (with_names (suc c.names) c) (name_fits x) a b
unfolding allowed
declared_is {c = c} m = named declared c (with_names (suc c.names) c) (Declared (suc c.names) ∷ [])
    (λ s. rw (add-one c.names) refl)
    (λ h w. record { variables = w.variables; operators = w.operators; names = at_most_le (suc c.names) max_declared h; groups = w.groups; traits = w.traits }) m

-- a name that is a group of a class
pub group_name_is : {text : List ℕ} {c : Counts} {x : Name} {a b : Place} → IsNameAs group text x a b → Leads text c (with_groups (suc c.groups) c) (name_fits x) a b
unfolding allowed
group_name_is {c = c} m = named group c (with_groups (suc c.groups) c) (Group (suc c.groups) ∷ [])
    (λ s. rw (add-one c.groups) refl)
    (λ h w. record { variables = w.variables; operators = w.operators; names = w.names; groups = at_most_le (suc c.groups) max_groups h; traits = w.traits }) m

-- a name in a disjunction
pub trait_is : {text : List ℕ} {c : Counts} {x : Name} {a b : Place} → IsNameAs trait_ text x a b → Leads text c (with_traits (suc c.traits) c) (name_fits x) a b
unfolding allowed
trait_is {c = c} m = named trait_ c (with_traits (suc c.traits) c) (Trait (suc c.traits) ∷ [])
    (λ s. rw (add-one c.traits) refl)
    (λ h w. record { variables = w.variables; operators = w.operators; names = w.names; groups = w.groups; traits = at_most_le (suc c.traits) max_groups h }) m
