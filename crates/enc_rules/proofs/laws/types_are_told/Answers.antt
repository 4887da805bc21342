use Rattle.std.proofs.Common.{◌≡◌, ◌↔◌, true, Option, Some, None, is_some, refl, arith}
use Rattle.enc_ast.specs.declared.decls.Program.{Program}
use Rattle.enc_ast.specs.declared.TypeText.{TypeText}
use Rattle.enc_modes.specs.declared.ty.Ty.{Ty}
use Rattle.enc_premises.specs.First.{AllHold}
use Rattle.enc_types.specs.Names.{Names}
use Rattle.enc_types.specs.Written.{type_of, type_premises}
use Rattle.enc_types.proofs.KnownTypes.{known_holds}
use Rattle.enc_decls.specs.Rules.{HasTables}
use Rattle.enc_names.specs.Members.{tables_of}
use Rattle.enc_rules.proofs.Classes.{written_known}
use Rattle.enc_rules.proofs.laws.types_are_told.Goals as goal

-- a type that is there may be written
there_holds : (names : Names) (text : TypeText) → is_some (type_of names text) ≡ true → AllHold (type_premises names text)
there_holds names text h = go (type_of names text) refl h
  where
    go : (o : Option Ty) → type_of names text ≡ o → is_some o ≡ true → AllHold (type_premises names text)
    go None e h = absurd (grind arith)
    go (Some t) e h = known_holds names text t e

told : (p : Program) (text : TypeText) → HasTables p → (is_some (type_of (tables_of p.decls).names text) ≡ true) ↔ AllHold (type_premises (tables_of p.decls).names text)
unfolding tables_of
told p text h = (there_holds (tables_of p.decls).names text, written_known p h text)

pub returns : goal.returns
returns c = told
