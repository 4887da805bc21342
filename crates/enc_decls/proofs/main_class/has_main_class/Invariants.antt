use Rattle.std.proofs.Common.{◌≡◌, drop}
use Rattle.enc_types.specs.Words.{some}
use Rattle.enc_decls.specs.Rules.{is_main_class}
use Rattle.enc_decls.proofs.main_class.has_main_class.Given as goal

abbrev pub invariant-loop-decl : goal.invariant-loop-decl
invariant-loop-decl l = some (is_main_class l.names) (drop l.decl-index l.decls) ≡ some (is_main_class l.names) l.decls
