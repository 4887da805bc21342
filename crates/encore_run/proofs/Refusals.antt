-- Which programs of a text run, and in how many ways it can be refused.
use Rattle.std.proofs.Common.{◌≡◌, ◌∙◌, ℕ, Bool, true, false, List, sym, ap, subst, inl, inr}
use Rattle.std.specs.Prelude.{IsTrue}
use Rattle.std.proofs.lemmas.Bool.{false≢true}
use Rattle.enc_ast.specs.declared.Program.{Program}
use Rattle.enc_ast.specs.declared.Reject.{Reject}
use Rattle.enc_ast.specs.declared.Rule.{Rule}
use Rattle.enc_ast.specs.declared.Span.{Span}
use Rattle.enc_ast.specs.Thin.{is_thin}
use Rattle.enc_parse.specs.Failure.{Refuses}
use Rattle.enc_parse.specs.Spells.{Spells}
use Rattle.enc_parse.proofs.OneAnswer.{one_answer}
use Rattle.enc_premises.proofs.Telling.{not_both, unique}
use Rattle.enc_rules.specs.Programs.{program_premises, IsFirstFailure}
use Rattle.enc_rules.specs.WellTyped.{WellTyped}
use Rattle.enc_rules.proofs.ProgramsDone.{program_done}
use Rattle.encore_run.specs.Built.{Runs, IsIllTyped, FirstFailure}
use Rattle.encore_run.specs.Lines.{reject_line}

-- a text spells one program
pub one_spelled : (text : List ℕ) (p q : Program) → Spells text p → Spells text q → p ≡ q
one_spelled text p q one two = (one_answer text).one_program _ _ p q one two

-- one program of a text runs
pub one_run : (text : List ℕ) (p q : Program) → Runs text p → Runs text q → p ≡ q
one_run text p q one two = one_spelled text p q one.spells two.spells

built : (b : Bool) → IsTrue b → b ≡ false → ⊥
built true is not = absurd (cc not)
built false is not = false≢true is

-- a text with a well typed program breaks no rule of the checker
not_ill : (text : List ℕ) (program : Program) (rule : Rule) (span : Span) → Spells text program → WellTyped program → IsIllTyped text rule span → ⊥
not_ill text program rule span spells typed ill =
    not_both (program_premises ill.program) (record { rule = rule; span = span })
    (program_done ill.program (subst WellTyped (one_spelled text program ill.program spells ill.spells) typed)) ill.first

-- the parser refuses no text that spells a program
not_refused : (text : List ℕ) (program : Program) (rule : Rule) (span : Span) → Spells text program → Refuses text (record { rule = rule; span = span }) → ⊥
not_refused text program rule span = (one_answer text).never_both program (record { rule = rule; span = span })

-- a text of which a program runs has no failure
pub no_failure : (text : List ℕ) (program : Program) (rule : Rule) (span : Span) → Runs text program → FirstFailure text rule span → ⊥
no_failure text program rule span runs (inl refused) = not_refused text program rule span runs.spells refused
no_failure text program rule span runs (inr (inl ill)) = not_ill text program rule span runs.spells runs.typed ill
no_failure text program rule span runs (inr (inr stage)) =
    built (is_thin program) runs.thin (ap is_thin (one_spelled text program stage.program runs.spells stage.spells) ∙ stage.unbuilt)

-- one place of one rule is told in one line
line_of_reject : (file text : List ℕ) (f g : Reject) → f ≡ g → reject_line file text f.rule f.span ≡ reject_line file text g.rule g.span
line_of_reject file text f g e = ap (λ (r : Reject). reject_line file text r.rule r.span) e

-- all first failures of a text are told in one line
pub one_failure : (file text : List ℕ) (rule other : Rule) (span place : Span) → FirstFailure text rule span → FirstFailure text other place → reject_line file text rule span ≡ reject_line file text other place
one_failure file text rule other span place (inl f) (inl g) = line_of_reject file text (record { rule = rule; span = span }) (record { rule = other; span = place }) ((one_answer text).one_failure _ _ f g)
one_failure file text rule other span place (inl f) (inr (inl i)) = absurd (not_refused text i.program rule span i.spells f)
one_failure file text rule other span place (inl f) (inr (inr u)) = absurd (not_refused text u.program rule span u.spells f)
one_failure file text rule other span place (inr (inl i)) (inl g) = absurd (not_refused text i.program other place i.spells g)
one_failure file text rule other span place (inr (inl i)) (inr (inl j)) =
    line_of_reject file text (record { rule = rule; span = span }) (record { rule = other; span = place })
    (unique (program_premises j.program) _ _ (subst (λ (p : Program). IsFirstFailure p (record { rule = rule; span = span })) (one_spelled text i.program j.program i.spells j.spells) i.first) j.first)
one_failure file text rule other span place (inr (inl i)) (inr (inr u)) = absurd (not_ill text u.program rule span u.spells u.typed i)
one_failure file text rule other span place (inr (inr u)) (inl g) = absurd (not_refused text u.program other place u.spells g)
one_failure file text rule other span place (inr (inr u)) (inr (inl i)) = absurd (not_ill text u.program other place u.spells u.typed i)
one_failure file text rule other span place (inr (inr u)) (inr (inr v)) =
    ap (λ (r : Rule). reject_line file text r span) (u.stage ∙ sym v.stage) ∙ ap (reject_line file text other) (u.all ∙ sym v.all)
