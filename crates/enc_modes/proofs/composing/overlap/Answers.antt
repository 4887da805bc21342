use Rattle.std.proofs.Common.{◌∙◌}
use Rattle.enc_modes.proofs.Distinct.{overlap_of}
use Rattle.enc_modes.proofs.composing.overlap.Goals as goal

pub returns : goal.returns
returns c = overlap_of _ _ _ _ _ _ c.meets.ensures c.in_ok-seen.ensures (c.deref-2.ensures.value ∙ c.in_ok-traits_of-2.ensures) (c.deref.ensures.value ∙ c.in_ok-traits_of.ensures)
