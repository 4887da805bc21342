-- Which texts run, and why the others are refused.
use Rattle.std.specs.Prelude.{◌≡◌, ◌⊎◌, ℕ, false, List, length, IsTrue}
use Rattle.enc_ast.specs.declared.Program.{Program}
use Rattle.enc_ast.specs.declared.Rule.{Rule}
use Rattle.enc_ast.specs.declared.Rule.TheVariants.{Stage}
use Rattle.enc_ast.specs.declared.Span.{Span}
use Rattle.enc_ast.specs.Thin.{is_thin}
use Rattle.enc_parse.specs.Failure.{Refuses}
use Rattle.enc_parse.specs.Spells.{Spells, whole}
use Rattle.enc_rules.specs.Programs.{IsFirstFailure}
use Rattle.enc_rules.specs.WellTyped.{WellTyped}

-- The text spells this program, which is well typed and of the form that runs.
pub record Runs (text : List ℕ) (program : Program) : Type 0 where
  pub spells : Spells text program
  pub typed : WellTyped program
  pub thin : IsTrue (is_thin program)

-- The text spells this program, which breaks a rule of the checker: this is its first failure.
pub record IsIllTyped (text : List ℕ) (rule : Rule) (span : Span) : Type 0 where
  pub program : Program
  pub spells : Spells text program
  pub first : IsFirstFailure program (record { rule = rule; span = span })

-- The text spells a program that is well typed, of a form that does not run yet. It is refused as a whole.
pub record IsUnbuilt (text : List ℕ) (rule : Rule) (span : Span) : Type 0 where
  pub program : Program
  pub spells : Spells text program
  pub typed : WellTyped program
  pub unbuilt : is_thin program ≡ false
  pub stage : rule ≡ Stage
  pub all : span ≡ whole (length text)

-- the first failure of the text is of this rule, at this part of it
abbrev pub FirstFailure : List ℕ → Rule → Span → Type 0
FirstFailure text rule span = Refuses text (record { rule = rule; span = span }) ⊎ (IsIllTyped text rule span ⊎ IsUnbuilt text rule span)

-- the text has a first failure
abbrev pub HasFailure : List ℕ → Type 0
HasFailure text = (rule : Rule) × (span : Span) × FirstFailure text rule span
