-- What the rules ask of the nodes of a tree.
use Rattle.std.specs.Prelude.{Bool, true, List, [], ◌∷◌, ◌++◌, Option, Some, None}
use Rattle.enc_ast.specs.declared.rules.Span.{Span}
use Rattle.enc_ast.specs.declared.rules.Rule.{Rule}

-- Premises from left to right, whether or not the earlier ones hold: the rule, its node, and whether it holds there.
pub data Premises : Type 0 where
  none : Premises
  premise : Rule → Span → Bool → Premises
  then : Premises → Premises → Premises

infixr 10 ◌⨾◌
abbrev pub ◌⨾◌ : Premises → Premises → Premises
a ⨾ b = then a b

-- a rule of the tables, and whether it holds
abbrev pub Demand : Type 0
Demand = Rule × Bool

-- what the rules ask of one node, in the order of the tables
abbrev pub node : Span → List Demand → Premises
node s [] = none
node s (d ∷ []) = premise d.0 s d.1
node s (d ∷ c ∷ ds) = premise d.0 s d.1 ⨾ node s (c ∷ ds)

-- what is asked of each of them in turn
abbrev pub each : {A : Type 0} → (A → Premises) → List A → Premises
each f [] = none
each f (x ∷ xs) = f x ⨾ each f xs

-- what is asked of each of them in turn, with those before it
abbrev pub each_after : {A : Type 0} → (List A → A → Premises) → List A → List A → Premises
each_after f before [] = none
each_after f before (x ∷ xs) = f before x ⨾ each_after f (before ++ x ∷ []) xs

-- whether it holds of what is known; because of what isn't known no rule fails
abbrev pub if_known : {A : Type 0} → (A → Bool) → Option A → Bool
if_known f None = true
if_known f (Some x) = f x
