use Rattle.enc_model.proofs.Runs.{valid-made}
use Rattle.enc_model.proofs.plain.Plain.step.Goals as goal

pub invariant_of-self : goal.invariant_of-self
invariant_of-self c =
    valid-made c.self.inside.program c.self.inside.config c.make_step.new.config c.args.actor c.make_step.result c.self.invariant c.make_step.ensures.next c.make_step.ensures.err
