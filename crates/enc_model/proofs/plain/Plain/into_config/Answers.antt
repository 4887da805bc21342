use Rattle.enc_model.proofs.Runs.{valid-few}
use Rattle.enc_model.proofs.plain.Plain.into_config.Goals as goal

pub returns-clause-few : goal.returns-clause-few
returns-clause-few c = valid-few c.self.inside.program c.self.inside.config c.self.invariant
