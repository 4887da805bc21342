use Rattle.std.proofs.Common.{◌≡◌, drop}
use Rattle.enc_types.specs.Words.{some}
use Rattle.enc_decls.specs.Rules.{is_main}
use Rattle.enc_decls.proofs.main_class.has_main_method.Given as goal

abbrev pub invariant-loop-method : goal.invariant-loop-method
invariant-loop-method l = some (is_main l.names) (drop l.method-index l.methods) ≡ some (is_main l.names) l.methods
