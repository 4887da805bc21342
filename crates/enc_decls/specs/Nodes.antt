-- What the rules ask of one node, where it is known whether its name is new.
use Rattle.std.specs.Prelude.{◌≡◌, ℕ, Bool, true, ◌&&◌, List, [], ◌∷◌, Option, None, option_and_then}
use Rattle.enc_ast.specs.declared.rules.Rule.{Rule}
use Rattle.enc_ast.specs.declared.rules.Rule.TheVariants as rule
use Rattle.enc_ast.specs.declared.decls.Decl.{Decl}
use Rattle.enc_ast.specs.declared.decls.Decl.TheVariants.{Trait, Class, Active, Fun}
use Rattle.enc_ast.specs.declared.decls.TraitDecl.{TraitDecl}
use Rattle.enc_ast.specs.declared.decls.ClassDecl.{ClassDecl}
use Rattle.enc_ast.specs.declared.decls.ActiveDecl.{ActiveDecl}
use Rattle.enc_ast.specs.declared.decls.Field.{Field}
use Rattle.enc_ast.specs.declared.decls.Method.{Method}
use Rattle.enc_modes.specs.declared.ty.Ty.{Ty}
use Rattle.enc_modes.specs.Order.{Cap}
use Rattle.enc_premises.specs.Premises.{Premises, ◌⨾◌, node, each, if_known}
use Rattle.enc_types.specs.Names.{Names, mode_by, groups_of, found}
use Rattle.enc_types.specs.Written.{type_of, type_premises}
use Rattle.enc_types.specs.declared.names.Meaning.{Meaning}
use Rattle.enc_types.specs.declared.names.Meaning.TheVariants as is
use Rattle.enc_decls.specs.declared.members.Owner.{Owner}
use Rattle.enc_decls.specs.declared.members.Owner.TheVariants as owner
use Rattle.enc_decls.specs.Rules.{field_fits, routine_types, member_premises, group_premises, is_class, is_function, distinct_words, param_words}

-- the rule of the members of an owner
abbrev pub rule_of : Owner → Rule
rule_of (owner.Trait m) = rule.KTrait
rule_of owner.Active = rule.KActive

-- a field of the owner may have the type
abbrev pub fits_in : Owner → Ty → Bool
fits_in (owner.Trait m) t = field_fits m t
fits_in owner.Active t = true

module _ (names : Names) where
  -- a field, whose name is new or not
  abbrev pub field_node : Rule → (Ty → Bool) → Bool → Field → Premises
  field_node r fits new f = type_premises names f.ty ⨾ node f.span ((r, new && if_known fits (type_of names f.ty)) ∷ [])

  -- a method, whose name is new or not
  abbrev pub method_node : Rule → Bool → Method → Premises
  method_node r new m = routine_types names m ⨾ node m.span ((r, new) ∷ (rule.KSig, distinct_words (param_words m.params)) ∷ [])

  -- a trait, whose name is new or not
  abbrev pub trait_node : Bool → TraitDecl → Premises
  trait_node new d = member_premises names rule.KTrait (field_fits (mode_by d.mode)) d.fields d.methods ⨾ node d.span ((rule.KName, new) ∷ [])

  -- an active class, whose name is new or not
  abbrev pub active_node : Bool → ActiveDecl → Premises
  active_node new d = member_premises names rule.KActive (λ t. true) d.fields d.methods ⨾ node d.span ((rule.KName, new) ∷ [])

  -- a function, whose name is new or not
  abbrev pub function_node : Bool → Method → Premises
  function_node new d = routine_types names d ⨾ node d.span ((rule.KName, new) ∷ (rule.KSig, is_function names d) ∷ [])

module _ (ds : List Decl) (names : Names) where
  -- a class, whose name is new or not
  abbrev pub class_node : Bool → ClassDecl → Premises
  class_node new d = each (group_premises ds names) d.groups ⨾ node d.span ((rule.KName, new) ∷ (rule.KClass, if_known is_class (groups_of ds d)) ∷ [])

  -- a declaration, whose name is new or not
  abbrev pub decl_node : Bool → Decl → Premises
  decl_node new (Trait d) = trait_node names new d
  decl_node new (Class d) = class_node new d
  decl_node new (Active d) = active_node names new d
  decl_node new (Fun d) = function_node names new d

-- ---- the groups of a class by its name

abbrev pub groups_in : ℕ × Meaning → Option Cap
groups_in (k, is.Trait m) = None
groups_in (k, is.Class c) = c
groups_in (k, is.Active) = None
groups_in (k, is.Fun) = None

-- the groups of the class of this name, as far as the first declaration of the name is a class and they are known
abbrev pub groups_named : Names → List ℕ → Option Cap
groups_named names x = option_and_then groups_in (found names x)

-- Where the name is new, a class stands for its own groups.
abbrev pub StandsForItself : List Decl → Names → Bool → Decl → Type 0
StandsForItself ds names new (Trait d) = Unit {0}
StandsForItself ds names new (Class d) = new ≡ true → groups_named names d.name.word ≡ groups_of ds d
StandsForItself ds names new (Active d) = Unit {0}
StandsForItself ds names new (Fun d) = Unit {0}
