-- The fields and the methods of declarations, with their types.
use Rattle.std.specs.Prelude.{List, [], ◌∷◌, map, Option, Some, None}
use Rattle.enc_ast.specs.declared.decls.Decl.{Decl}
use Rattle.enc_ast.specs.declared.decls.Decl.TheVariants.{Trait, Class, Active, Fun}
use Rattle.enc_ast.specs.declared.decls.Field.{Field}
use Rattle.enc_ast.specs.declared.decls.Method.{Method}
use Rattle.enc_ast.specs.declared.decls.Param.{Param}
use Rattle.enc_ast.specs.declared.TypeText.{TypeText}
use Rattle.enc_modes.specs.declared.ty.Ty.{Ty}
use Rattle.enc_modes.specs.declared.ty.Ty.TheVariants as ty
use Rattle.enc_types.specs.Names.{Names, names_of}
use Rattle.enc_types.specs.Written.{type_of}
use Rattle.enc_names.specs.declared.members.Slot.{Slot}
use Rattle.enc_names.specs.declared.members.Signature.{Signature}

-- The members of one declaration. A function has itself as its only method.
pub record Members : Type 0 where
  pub fields : List Slot
  pub methods : List Signature

-- What the declarations stand for, and the members of each.
pub record Tables : Type 0 where
  pub names : Names
  pub members : List Members

abbrev or_unit : Option Ty → Ty
or_unit None = ty.Unit
or_unit (Some t) = t

-- the type that is written, where there is one
abbrev pub type_or_unit : Names → TypeText → Ty
type_or_unit names t = or_unit (type_of names t)

abbrev pub field_slot : Names → Field → Slot
field_slot names f = record { word = f.name.word; ty = type_or_unit names f.ty }

abbrev pub param_slot : Names → Param → Slot
param_slot names p = record { word = p.name.word; ty = type_or_unit names p.ty }

abbrev pub signature : Names → Method → Signature
signature names m = record { word = m.name.word; params = map (param_slot names) m.params; result = type_or_unit names m.result }

abbrev members : Names → List Field → List Method → Members
members names fs ms = record { fields = map (field_slot names) fs; methods = map (signature names) ms }

abbrev pub members_of : Names → Decl → Members
members_of names (Trait d) = members names d.fields d.methods
members_of names (Class d) = members names [] []
members_of names (Active d) = members names d.fields d.methods
members_of names (Fun d) = members names [] (d ∷ [])

-- the tables of declarations
unfoldable pub tables_of : List Decl → Tables
tables_of ds = record { names = names_of ds; members = map (members_of (names_of ds)) ds }
