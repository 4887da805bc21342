use Rattle.std.proofs.Common.{◌∙◌, sym, ap, arith, ◌≡◌}
use Rattle.std.specs.Prelude.{is_some}
use Rattle.enc_model.proofs.Phases.{answers-trapped, answers-blocked, answers-ended}
use Rattle.enc_model.proofs.plain.Plain.phase.Goals as goal

pub returns-then-is_some-2 : goal.returns-then-is_some-2
returns-then-is_some-2 c =
    answers-trapped c.args.self.now c.self.inside.program c.self.inside.config c.in_ok-least.field-0 c.self.view_is c.in_ok-least.ensures
    (sym c.is_some.ensures ∙ c.if-is_some.false)
    (ap is_some (sym c.first_trap.ensures) ∙ (sym c.is_some-2.ensures ∙ c.if-is_some-2.true))

pub returns-then-waiting-gt0 : goal.returns-then-waiting-gt0
returns-then-waiting-gt0 c =
    answers-blocked c.args.self.now c.self.inside.program c.self.inside.config c.in_ok-least.field-0 c.self.view_is c.in_ok-least.ensures
    (sym c.is_some.ensures ∙ c.if-is_some.false)
    (ap is_some (sym c.first_trap.ensures) ∙ (sym c.is_some-2.ensures ∙ c.if-is_some-2.false))
    (rw (← c.waiting.ensures) c.if-waiting-gt0.true)

pub returns : goal.returns
returns c =
    answers-ended c.args.self.now c.self.inside.program c.self.inside.config c.in_ok-least.field-0 c.self.view_is c.in_ok-least.ensures
    (sym c.is_some.ensures ∙ c.if-is_some.false)
    (ap is_some (sym c.first_trap.ensures) ∙ (sym c.is_some-2.ensures ∙ c.if-is_some-2.false))
    (let none : c.waiting.result ≡ 0 = omega arith in sym c.waiting.ensures ∙ none)
