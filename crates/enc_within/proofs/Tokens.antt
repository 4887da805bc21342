-- What is so of tokens, by how they are counted.
use Rattle.std.proofs.Common.{◌≡◌, ℕ, zero, suc, ◌+◌, ◌≤◌, Bool, true, false, List, ◌∷◌, length, Option, Some, None, refl, sym, ap, ◌∙◌, subst, arith, le-leb}
use Rattle.std.specs.List.{AllByRecursion}
use Rattle.enc_ast.specs.declared.rules.Span.{Span}
use Rattle.enc_lex.specs.declared.tokens.Token.{Token}
use Rattle.enc_lex.specs.Lexes.{StandsIn}
use Rattle.enc_cursor.specs.Counts.{Counts, Rule, plain, bracket, operator, with_operators}
use Rattle.enc_cursor.specs.Limits.{standard, allowed, at_most, fits, passed, earlier, unless}
use Rattle.enc_cursor.specs.Place.{Place}
use Rattle.enc_cursor.specs.Stretch.{IsMarked, beyond}
use Rattle.enc_cursor.proofs.Lawful.{Fine}
use Rattle.enc_limits.specs.Numbers.{max_operators, opens}
use Rattle.enc_within.proofs.Leads.{IsWithin, Stands, Leads}

-- ---- limits

-- a number that passes no limit
pub at_most_le : (n m : ℕ) → at_most n m ≡ true → n ≤ m
at_most_le zero m h = omega arith
at_most_le (suc n) zero h = absurd cc
at_most_le (suc n) (suc m) h = let le = at_most_le n m h in omega arith

-- no limit is passed by the newest token, nor before
newest_fits : (o : Option ℕ) (b : Bool) (n : ℕ) → earlier o (unless b n) ≡ None → (o ≡ None) × (b ≡ true)
newest_fits None true n h = (refl, refl)
newest_fits None false n h = absurd cc
newest_fits (Some i) b n h = absurd cc

-- ---- a token

-- What a token that is counted by the rule r leads to: these counts, and this is so.
pub marked : {X : Type 0} {text : List ℕ} {x : X} {a b : Place} (r : Rule) (f : Token → Option X) (c d : Counts) (so : Bool)
    → ((v : Span) → (r v c).0 ≡ d)
    → ((t : Token) → StandsIn text t → f t ≡ Some x → fits standard (r t.span c).1 ≡ true → IsWithin c → IsWithin d × (so ≡ true))
    → IsMarked r f x a b → Leads text c d so a b
marked {X} {text} {x} {a} {b} r f c d so after tells m = subst (Leads text c d so a) (sym m.4) (record {
  fine = λ h. (fine h).0;
  stands = λ h s. record { tokens = (ahead s).1; counts = ap (λ z. (r m.0.span z).0) s.counts ∙ after m.0.span; within = (told h s).0 };
  holds = λ h s. (told h s).1;
})
  where
    fine : Fine standard (beyond r m.0 m.1 a) → Fine standard a × (fits standard (r m.0.span a.spot.counts).1 ≡ true)
    fine h = newest_fits (passed standard a.log) (fits standard (r m.0.span a.spot.counts).1) (length a.log) h

    ahead : Stands text c a → AllByRecursion (StandsIn text) (m.0 ∷ m.1)
    ahead s = subst (AllByRecursion (StandsIn text)) m.2 s.tokens

    told : Fine standard (beyond r m.0 m.1 a) → Stands text c a → IsWithin d × (so ≡ true)
    told h s = tells m.0 (ahead s).0 m.3 (subst (λ z. fits standard (r m.0.span z).1 ≡ true) s.counts (fine h).1) s.within

-- a token that counts as nothing
pub token : {X : Type 0} {text : List ℕ} {f : Token → Option X} {x : X} {c : Counts} {a b : Place} → IsMarked plain f x a b → Leads text c c true a b
token {f = f} {c = c} m = marked plain f c c true (λ v. refl) (λ t s e h w. (w, refl)) m

-- an opening bracket, where n are open
pub opening : {X : Type 0} {text : List ℕ} {f : Token → Option X} {x : X} {c : Counts} {a b : Place} (n : ℕ) → IsMarked (bracket n) f x a b → Leads text c c (opens n) a b
opening {f = f} {c = c} n m = marked (bracket n) f c c (opens n) (λ v. refl) (λ t s e h w. (w, le-leb _ _ (at_most_le (suc n) standard.brackets h))) m

-- an operator
pub operated : {X : Type 0} {text : List ℕ} {f : Token → Option X} {x : X} {c : Counts} {a b : Place} → IsMarked operator f x a b → Leads text c (with_operators (c.operators + 1) c) true a b
unfolding allowed
operated {f = f} {c = c} m = marked operator f c (with_operators (c.operators + 1) c) true (λ v. refl)
    (λ t s e h w. (record { variables = w.variables; operators = at_most_le (c.operators + 1) max_operators h; names = w.names; groups = w.groups; traits = w.traits }, refl)) m
