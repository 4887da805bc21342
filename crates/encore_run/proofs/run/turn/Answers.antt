use Rattle.std.proofs.Common.{ap, Err}
use Rattle.enc_model.proofs.Runs.{exec-push, least_ready-not, some_steps-push}
use Rattle.encore_run.proofs.Found.{found}
use Rattle.encore_run.proofs.run.turn.Goals as goal

pub unreachable-requires : goal.unreachable-requires
unreachable-requires c =
    let plain = c.args.plain.now in
    let least = found _ _ _ c.in-Some.actor c.least.ensures c.in_ok-actor.was c.in-Some.is in
    least_ready-not plain.program plain.config c.in-Some.actor least
    (c.in-Err-NotReady.ensures.not_ready (ap (λ e. Err e) c.in-Err-NotReady.field-0-is))

pub returns-clause-exec : goal.returns-clause-exec
returns-clause-exec c =
    let plain = c.args.plain.now in
    rw (c.in-Ok.ensures.program, c.in_ok-push.ensures.ok)
    (exec-push plain.program c.args.schedule.now.pairs plain.config c.step.new.self.config c.in-Some.actor c.in-Ok.field-0 c.requires c.in-Ok.ensures.next)

pub returns-clause-some : goal.returns-clause-some
returns-clause-some c = λ h. rw c.in_ok-push.ensures.ok (some_steps-push c.args.schedule.now.pairs c.in-Some.actor h)
