use Rattle.std.proofs.Common.{◌≡◌, ℕ, List, refl}
use Rattle.encore_run.specs.Answer.{line_due}
use Rattle.encore_run.specs.declared.status.Status.TheVariants.{Usage, Memory, WriteFault}
use Rattle.encore_run.specs.Promises.{Got}
use Rattle.encore_run.proofs.Kept.{of_text, kept-rejected, kept-missing, kept-spelled, kept-legal, kept-settled, kept-written, kept-cut_short}
use Rattle.encore_run.proofs.Said.{said-ended, said-own, said-unread, said-rejected, said-stopped}
use Rattle.encore_run.proofs.top.encore_plain.Goals as goal

pub returns-clause-rejected : goal.returns-clause-rejected
returns-clause-rejected g c = λ command asked known text told is.
    rw c.code.ensures
    (kept-rejected _ text _ _ _ _ _ c.answer-reply.result c.deliver.result
    (of_text _ _ _ _ _ _ c.answer-reply.result command known text c.answer-reply.ensures.answer asked told is) c.deliver.ensures.delivery)

pub returns-clause-missing : goal.returns-clause-missing
returns-clause-missing g c = λ command known asked told none.
    rw c.code.ensures
    (kept-missing _ _ _ _ _ _ _ _ _ _ c.answer-reply.result c.deliver.result command known c.answer-reply.ensures.answer c.deliver.ensures.delivery asked told none)

pub returns-clause-spelled : goal.returns-clause-spelled
returns-clause-spelled g c = λ command asked known text told is.
    rw c.code.ensures
    (kept-spelled _ text _ _ _ _ _ c.answer-reply.result c.deliver.result
    (of_text _ _ _ _ _ _ c.answer-reply.result command known text c.answer-reply.ensures.answer asked told is) c.deliver.ensures.delivery)

pub returns-clause-quiet : goal.returns-clause-quiet
returns-clause-quiet g c = λ is.
    c.deliver.ensures.quiet
    (said-ended _ _ _ _ _ _ _ _ _ _ c.answer-reply.result c.deliver.result (λ line. line_due c.deliver.result c.answer-reply.result.line ≡ line) c.answer-reply.ensures.answer c.deliver.ensures.delivery refl (rw c.code.ensures at is))

pub returns-clause-legal : goal.returns-clause-legal
returns-clause-legal g c = λ command asked known text told is program spelled.
    rw c.code.ensures
    (kept-legal command text _ _ _ _ _ c.answer-reply.result c.deliver.result program
    (of_text _ _ _ _ _ _ c.answer-reply.result command known text c.answer-reply.ensures.answer asked told is) c.deliver.ensures.delivery spelled)

pub returns-clause-settled : goal.returns-clause-settled
returns-clause-settled g c = λ command asked known text told is program spelled.
    rw c.code.ensures
    (kept-settled command text _ _ _ _ _ c.answer-reply.result c.deliver.result program
    (of_text _ _ _ _ _ _ c.answer-reply.result command known text c.answer-reply.ensures.answer asked told is) c.deliver.ensures.delivery spelled)

pub returns-clause-written : goal.returns-clause-written
returns-clause-written g c = λ command asked known text told is program spelled.
    rw c.code.ensures
    (kept-written command text _ _ _ _ _ c.answer-reply.result c.deliver.result program
    (of_text _ _ _ _ _ _ c.answer-reply.result command known text c.answer-reply.ensures.answer asked told is) c.deliver.ensures.delivery spelled)

pub returns-clause-cut_short : goal.returns-clause-cut_short
returns-clause-cut_short g c = λ command asked known text told is program spelled.
    rw c.code.ensures
    (kept-cut_short command text _ _ _ _ _ _ c.answer-reply.result c.deliver.result program
    (of_text _ _ _ _ _ _ c.answer-reply.result command known text c.answer-reply.ensures.answer asked told is) c.deliver.ensures.delivery spelled)

pub returns-clause-said : goal.returns-clause-said
returns-clause-said g c =
    let S : List ℕ → Type 0 = Got (g.R.Sink.faults c.args.err.now) (g.R.Sink.faults c.deliver.new.err) (g.R.Sink.written c.args.err.now) (g.R.Sink.written c.deliver.new.err) in
    let reply = c.answer-reply.result in
    let status = c.deliver.result in
    let answer = c.answer-reply.ensures.answer in
    let delivery = c.deliver.ensures.delivery in
    let said = c.deliver.ensures.said in
    rw c.code.ensures record {
      ended = said-ended _ _ _ _ _ _ _ _ _ _ reply status S answer delivery said;
      usage = said-own Usage status reply.line S said;
      memory = said-own Memory status reply.line S said;
      write_fault = said-own WriteFault status reply.line S said;
      read_fault = said-unread _ _ _ _ _ _ _ _ _ _ reply status S answer delivery said;
      rejected = λ command asked known text told is.
          said-rejected _ text _ _ _ _ _ reply status S (of_text _ _ _ _ _ _ reply command known text answer asked told is) delivery said;
      stopped = λ command asked known text told is program spelled.
          said-stopped command text _ _ _ _ _ reply status S program (of_text _ _ _ _ _ _ reply command known text answer asked told is) delivery said spelled;
    }
