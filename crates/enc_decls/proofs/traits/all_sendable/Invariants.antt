use Rattle.std.proofs.Common.{◌≡◌, drop}
use Rattle.enc_modes.specs.Modes.{is_sendable}
use Rattle.enc_premises.specs.Premises.{if_known}
use Rattle.enc_types.specs.Words.{every}
use Rattle.enc_types.specs.Written.{type_of}
use Rattle.enc_decls.proofs.traits.all_sendable.Given as goal

abbrev pub invariant-loop-field : goal.invariant-loop-field
invariant-loop-field l = every (λ f. if_known is_sendable (type_of l.names f.ty)) (drop l.field-index l.fields) ≡ every (λ f. if_known is_sendable (type_of l.names f.ty)) l.fields
