-- What the rules ask of declarations.
use Rattle.std.specs.Prelude.{bytes_eq, ℕ, Bool, true, false, not, ◌&&◌, List, [], ◌∷◌, map, codes, Option, Some, None}
use Rattle.enc_ast.specs.declared.rules.Rule.{Rule}
use Rattle.enc_ast.specs.declared.rules.Rule.TheVariants as rule
use Rattle.enc_ast.specs.declared.decls.Decl.{Decl}
use Rattle.enc_ast.specs.declared.decls.Decl.TheVariants.{Trait, Class, Active, Fun}
use Rattle.enc_ast.specs.declared.decls.Field.{Field}
use Rattle.enc_ast.specs.declared.decls.GroupText.{GroupText}
use Rattle.enc_ast.specs.declared.decls.Method.{Method}
use Rattle.enc_ast.specs.declared.decls.Param.{Param}
use Rattle.enc_ast.specs.declared.decls.Program.{Program}
use Rattle.enc_ast.specs.declared.rules.Span.{Span}
use Rattle.enc_ast.specs.declared.TypeText.{TypeText}
use Rattle.enc_modes.specs.declared.ty.Mode.{Mode}
use Rattle.enc_modes.specs.declared.ty.Mode.TheVariants as mode
use Rattle.enc_modes.specs.declared.ty.Ty.{Ty, out-Ty}
use Rattle.enc_modes.specs.declared.ty.Ty.TheOpen.{Ty-F}
use Rattle.enc_modes.specs.declared.ty.Ty.TheVariants as ty
use Rattle.enc_modes.specs.Order.{Cap}
use Rattle.enc_modes.specs.Modes.{mode_of, is_shareable, composes}
use Rattle.enc_modes.specs.Equality.{same}
use Rattle.enc_premises.specs.Premises.{Premises, ◌⨾◌, node, each, each_after, if_known}
use Rattle.enc_premises.specs.First.{AllHold}
use Rattle.enc_types.specs.Words.{has, every, some}
use Rattle.enc_types.specs.Names.{Names, word_of, mode_by, groups_of, names_of}
use Rattle.enc_types.specs.Written.{are_traits, type_of, type_premises}
use Rattle.enc_types.specs.Bodies.{body_types}
use Rattle.enc_decls.specs.Conflicts.{may_share}

-- ---- what a field of a trait may have as its type

abbrev is_local : Mode → Bool
is_local mode.Local = true
is_local _ = false

abbrev local_layer : Ty-F Ty → Bool
local_layer (Ty-F.Cap gs) = is_local (mode_of gs)
local_layer _ = false

-- the type isn't local, so that it is linear, subordinate or shareable
abbrev pub goes_along : Ty → Bool
goes_along t = not (local_layer (out-Ty t))

-- a field of a trait of this mode may have the type
unfoldable pub field_fits : Mode → Ty → Bool
field_fits mode.Linear t = goes_along t
field_fits mode.Subordinate t = goes_along t
field_fits mode.Read t = is_shareable t
field_fits mode.Local t = true

-- ---- names that were there before

abbrev pub field_words : List Field → List (List ℕ)
field_words = map (λ f. f.name.word)

abbrev pub method_words : List Method → List (List ℕ)
method_words = map (λ m. m.name.word)

abbrev pub param_words : List Param → List (List ℕ)
param_words = map (λ p. p.name.word)

abbrev pub distinct_words : List (List ℕ) → Bool
distinct_words [] = true
distinct_words (w ∷ ws) = not (has ws w) && distinct_words ws

-- ---- fields, methods and functions

module _ (names : Names) where
  -- a field, by the rule of its owner, which asks this of its type
  abbrev pub field_premises : Rule → (Ty → Bool) → List Field → Field → Premises
  field_premises r fits before f = type_premises names f.ty ⨾ node f.span ((r, not (has (field_words before) f.name.word) && if_known fits (type_of names f.ty)) ∷ [])

  -- the types that a method or a function writes
  abbrev pub routine_types : Method → Premises
  routine_types m = each (λ p. type_premises names p.ty) m.params ⨾ type_premises names m.result ⨾ body_types names m.body

  -- a method, by the rule of its owner
  abbrev pub method_premises : Rule → List Method → Method → Premises
  method_premises r before m = routine_types m ⨾ node m.span ((r, not (has (method_words before) m.name.word)) ∷ (rule.KSig, distinct_words (param_words m.params)) ∷ [])

  abbrev some_param : List Param → Bool
  some_param [] = false
  some_param (p ∷ ps) = true

  -- its parameters have names of their own, there are some, and they and the result may be shared
  unfoldable pub is_function : Method → Bool
  is_function m = distinct_words (param_words m.params) && (some_param m.params && (every (λ p. if_known is_shareable (type_of names p.ty)) m.params && if_known is_shareable (type_of names m.result)))

  -- the fields and the methods of a trait or an active class
  abbrev pub member_premises : Rule → (Ty → Bool) → List Field → List Method → Premises
  member_premises r fits fs ms = each_after (field_premises r fits) [] fs ⨾ each_after (method_premises r) [] ms

-- ---- declarations

abbrev decl_words : List Decl → List (List ℕ)
decl_words = map word_of

-- an earlier declaration has another name
abbrev pub is_new : List Decl → Decl → Bool
is_new before d = not (has (decl_words before) (word_of d))

abbrev read_mode : Mode → Bool
read_mode mode.Read = true
read_mode _ = false

abbrev is_read : Cap → Bool
is_read gs = read_mode (mode_of gs)

-- a class may be made of these groups
unfoldable pub is_class : Cap → Bool
is_class gs = composes gs && not (is_read gs)

module _ (ds : List Decl) (names : Names) where
  -- a group of a class
  abbrev pub group_premises : GroupText → Premises
  group_premises g = node g.span ((rule.KName, are_traits names g) ∷ (rule.KOr, may_share ds names g) ∷ [])

  -- a declaration, behind those before it
  abbrev pub decl_premises : List Decl → Decl → Premises
  decl_premises before (Trait d) = member_premises names rule.KTrait (field_fits (mode_by d.mode)) d.fields d.methods ⨾ node d.span ((rule.KName, is_new before (Trait d)) ∷ [])
  decl_premises before (Class d) = each group_premises d.groups ⨾ node d.span ((rule.KName, is_new before (Class d)) ∷ (rule.KClass, if_known is_class (groups_of ds d)) ∷ [])
  decl_premises before (Active d) = member_premises names rule.KActive (λ t. true) d.fields d.methods ⨾ node d.span ((rule.KName, is_new before (Active d)) ∷ [])
  decl_premises before (Fun d) = routine_types names d ⨾ node d.span ((rule.KName, is_new before (Fun d)) ∷ (rule.KSig, is_function names d) ∷ [])

-- ---- the program

abbrev pub known_same : Option Ty → Ty → Bool
known_same None t = false
known_same (Some u) t = same u t

abbrev pub is_written : Names → TypeText → Ty → Bool
is_written names text t = known_same (type_of names text) t

abbrev pub takes_ints : Names → List Param → Bool
takes_ints names (p ∷ []) = is_written names p.ty (ty.List ty.Int)
takes_ints names _ = false

-- def main(..: List[int]): unit
abbrev pub is_main : Names → Method → Bool
is_main names m = bytes_eq m.name.word (codes "main") && (takes_ints names m.params && is_written names m.result ty.Unit)

-- an active class Main that has such a method
abbrev pub is_main_class : Names → Decl → Bool
is_main_class names (Trait d) = false
is_main_class names (Class d) = false
is_main_class names (Active d) = bytes_eq d.name.word (codes "Main") && some (is_main names) d.methods
is_main_class names (Fun d) = false

-- what the rules ask of all declarations, which have these meanings
abbrev decls_premises : List Decl → Names → Span → Premises
decls_premises ds names s = each_after (decl_premises ds names) [] ds ⨾ node s ((rule.KMain, some (is_main_class names) ds) ∷ [])

-- what the rules ask of the declarations of a program
unfoldable pub table_premises : Program → Premises
table_premises p = decls_premises p.decls (names_of p.decls) p.span

-- The declarations of the program keep all rules.
abbrev pub HasTables : Program → Type 0
HasTables p = AllHold (table_premises p)
