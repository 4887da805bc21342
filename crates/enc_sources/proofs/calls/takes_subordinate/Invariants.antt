use Rattle.std.proofs.Common.{◌≡◌, drop, not}
use Rattle.enc_rules.specs.Parts.{is_subordinate}
use Rattle.enc_types.specs.Words.{every}
use Rattle.enc_sources.proofs.calls.takes_subordinate.Given as goal

abbrev pub invariant-loop-param : goal.invariant-loop-param
invariant-loop-param l = every (λ p. not (is_subordinate p.ty)) (drop l.param-index l.params) ≡ every (λ p. not (is_subordinate p.ty)) l.params
