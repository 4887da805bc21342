use Rattle.std.proofs.Common.{length}
use Rattle.enc_flow.proofs.Knowing.{knows_declares, knows_merged, knows_take}
use Rattle.enc_exprs.proofs.Knowing.{knows_lends, knows_regains, knows_consumes}
use Rattle.enc_exprs.proofs.laws.types_stay_known.Goals as goal

pub returns : goal.returns
returns c = record {
  lent = λ env word k. knows_lends k word;
  regained = λ env word k. knows_regains k word;
  consumed = λ env word k. knows_consumes k word;
  declared = λ env word t k. knows_declares k word t;
  merged = λ env other k. knows_merged k other;
  cut = λ env last k. knows_take k (length env);
}
