-- The first premise that doesn't hold.
use Rattle.std.specs.Prelude.{◌≡◌, Bool, true, false, List, [], ◌∷◌, ◌++◌}
use Rattle.std.specs.List.{AllByRecursion}
use Rattle.enc_ast.specs.declared.rules.Rule.{Rule}
use Rattle.enc_ast.specs.declared.rules.Span.{Span}
use Rattle.enc_ast.specs.declared.rules.Reject.{Reject}
use Rattle.enc_premises.specs.Premises.{Premises, none, premise, then}

-- Each premise holds.
pub data AllHold : Premises → Type 0 where
  nothing : AllHold none
  one : {r : Rule} {s : Span} {b : Bool} → b ≡ true → AllHold (premise r s b)
  join : {a b : Premises} → AllHold a → AllHold b → AllHold (then a b)

-- a premise by its rule and its node, and whether it holds
pub record Judged : Type 0 where
  pub is : Reject
  pub holds : Bool

-- all premises in a row
abbrev pub listed : Premises → List Judged
listed none = []
listed (premise r s b) = record { is = record { rule = r; span = s }; holds = b } ∷ []
listed (then a b) = listed a ++ listed b

-- The premise of this rule at this node doesn't hold, and each one before it does.
pub record FirstFailure (ps : Premises) (reject : Reject) : Type 0 where
  pub before : List Judged
  pub after : List Judged
  pub split : listed ps ≡ before ++ record { is = reject; holds = false } ∷ after
  pub hold : AllByRecursion (λ j. j.holds ≡ true) before
