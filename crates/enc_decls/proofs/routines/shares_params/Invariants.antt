use Rattle.std.proofs.Common.{◌≡◌, drop}
use Rattle.enc_modes.specs.Modes.{is_shareable}
use Rattle.enc_premises.specs.Premises.{if_known}
use Rattle.enc_types.specs.Words.{every}
use Rattle.enc_types.specs.Written.{type_of}
use Rattle.enc_decls.proofs.routines.shares_params.Given as goal

abbrev pub invariant-loop-param : goal.invariant-loop-param
invariant-loop-param l = every (λ p. if_known is_shareable (type_of l.names p.ty)) (drop l.param-index l.params) ≡ every (λ p. if_known is_shareable (type_of l.names p.ty)) l.params
