use Rattle.std.proofs.Common.{◌∙◌, sym, arith, length}
use Rattle.enc_model.proofs.Runs.{first_ready-miss}
use Rattle.enc_model.proofs.plain.Plain.least.Goals as goal

pub loop-number-preserved : goal.loop-number-preserved
loop-number-preserved c =
    c.loop-number.invariant ∙ first_ready-miss c.self.inside.program c.self.inside.config c.loop-number.number (length c.self.inside.config.actors) (omega arith) (sym c.is_ready.ensures ∙ c.if-is_ready.false)
