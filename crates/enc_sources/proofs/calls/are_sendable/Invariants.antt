use Rattle.std.proofs.Common.{◌≡◌, drop}
use Rattle.enc_modes.specs.Modes.{is_sendable}
use Rattle.enc_types.specs.Words.{every}
use Rattle.enc_sources.proofs.calls.are_sendable.Given as goal

abbrev pub invariant-loop-param : goal.invariant-loop-param
invariant-loop-param l = every (λ p. is_sendable p.ty) (drop l.param-index l.params) ≡ every (λ p. is_sendable p.ty) l.params
