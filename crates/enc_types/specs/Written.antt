-- The types that a program writes, and what is asked of them.
use Rattle.std.specs.Prelude.{ℕ, Bool, true, false, cond, List, [], ◌∷◌, Option, Some, None, is_some, option_map, option_and_then}
use Rattle.enc_ast.specs.declared.rules.Span.{Span}
use Rattle.enc_ast.specs.declared.rules.Rule.TheVariants as rule
use Rattle.enc_ast.specs.declared.decls.Name.{Name}
use Rattle.enc_ast.specs.declared.decls.GroupText.{GroupText}
use Rattle.enc_ast.specs.declared.TypeText.{TypeText}
use Rattle.enc_ast.specs.declared.TypeForm.TheOpen.{TypeForm-F, TypeText-F}
use Rattle.enc_ast.specs.declared.TypeForm.TheFolds.{fold-TypeText}
use Rattle.enc_modes.specs.declared.ty.Alt.{Alt}
use Rattle.enc_modes.specs.declared.ty.Mode.{Mode}
use Rattle.enc_modes.specs.declared.ty.Mode.TheVariants as mode
use Rattle.enc_modes.specs.declared.ty.Ty.{Ty, out-Ty}
use Rattle.enc_modes.specs.declared.ty.Ty.TheOpen.{Ty-F}
use Rattle.enc_modes.specs.declared.ty.Ty.TheVariants as ty
use Rattle.enc_modes.specs.Order.{Cap, in_order}
use Rattle.enc_modes.specs.Modes.{is_shareable, composes}
use Rattle.enc_premises.specs.Premises.{Premises, none, ◌⨾◌, node, each, if_known}
use Rattle.enc_types.specs.declared.names.Meaning.{Meaning}
use Rattle.enc_types.specs.declared.names.Meaning.TheVariants as is
use Rattle.enc_types.specs.Words.{all_there, every}
use Rattle.enc_types.specs.Names.{Names, found, trait_named}

-- ---- names in groups

-- the name is one of a trait
abbrev pub is_trait : Names → List ℕ → Bool
is_trait names x = is_some (trait_named names x)

-- each name of the group is one of a trait
unfoldable pub are_traits : Names → GroupText → Bool
are_traits names g = every (λ n. is_trait names n.word) g.names

-- what was found is a trait or a class
abbrev pub is_type : Option (ℕ × Meaning) → Bool
is_type None = false
is_type (Some (k, is.Trait m)) = true
is_type (Some (k, is.Class c)) = true
is_type (Some (k, is.Active)) = true
is_type (Some (k, is.Fun)) = false

-- each name of the group is one of a trait or a class
unfoldable pub are_types : Names → GroupText → Bool
are_types names g = every (λ n. is_type (found names n.word)) g.names

-- there are several names
abbrev pub many_names : List Name → Bool
many_names (x ∷ y ∷ xs) = true
many_names _ = false

-- the groups have more than one name in all
abbrev pub several : List GroupText → Bool
several [] = false
several (g ∷ []) = many_names g.names
several (g ∷ h ∷ gs) = true

-- a name by itself may be one of a class, and of several names each is one of a trait
abbrev pub names_fit : Names → Bool → GroupText → Bool
names_fit names true g = are_traits names g
names_fit names false g = are_types names g

-- what is asked of a group, alone or among several names
unfoldable pub group_premises : Names → Bool → GroupText → Premises
group_premises names many g = node g.span ((rule.KName, names_fit names many g) ∷ [])

-- ---- the type of names

-- the type that what was found stands for by itself
abbrev pub alone_layer : ℕ × Meaning → Option Ty
alone_layer (k, is.Trait m) = Some (ty.Cap ((record { number = k; mode = m } ∷ []) ∷ []))
alone_layer (k, is.Class c) = option_map ty.Cap c
alone_layer (k, is.Active) = Some (ty.Actor k)
alone_layer (k, is.Fun) = None

-- The type that a name by itself stands for. It isn't known where the list of the class has a name of no trait.
unfoldable pub type_named : Names → List ℕ → Option Ty
type_named names x = option_and_then alone_layer (found names x)

-- the type of several groups, where each name is one of a trait
abbrev pub type_of_groups : Names → List GroupText → Option Ty
type_of_groups names gs = option_map (λ groups. ty.Cap (in_order groups)) (all_there (λ g. all_there (λ n. trait_named names n.word) g.names) gs)

-- what one group of these names stands for
abbrev pub only_group : Names → GroupText → List Name → Option Ty
only_group names g (x ∷ []) = type_named names x.word
only_group names g xs = type_of_groups names (g ∷ [])

-- what groups stand for, whether or not it may be written
abbrev pub named_type : Names → List GroupText → Option Ty
named_type names (g ∷ []) = only_group names g g.names
named_type names gs = type_of_groups names gs

-- ---- what is asked of a type

-- by the outer level
abbrev composed_layer : Ty-F Ty → Bool
composed_layer (Ty-F.Cap gs) = composes gs
composed_layer _ = true

-- a capability type is composed as it may be
unfoldable pub is_composed : Ty → Bool
is_composed t = composed_layer (out-Ty t)

-- a trait of the local mode
abbrev pub local_trait : Alt → Mode → Option Alt
local_trait a mode.Local = Some a
local_trait a _ = None

-- the local trait that a capability type is
abbrev pub local_cap : Cap → Option Alt
local_cap ((a ∷ []) ∷ []) = local_trait a a.mode
local_cap _ = None

-- by the outer level
abbrev local_layer : Ty-F Ty → Option Alt
local_layer (Ty-F.Cap gs) = local_cap gs
local_layer _ = None

-- the local trait that the type is
unfoldable pub local_of : Ty → Option Alt
local_of t = local_layer (out-Ty t)

-- a type, where it holds of it
abbrev pub only_if : (Ty → Bool) → Ty → Option Ty
only_if f t = cond (f t) (Some t) None

-- the type, where it holds of it
abbrev pub where_it : (Ty → Bool) → Option Ty → Option Ty
where_it f t = option_and_then (only_if f) t

-- ---- a written type

-- What a written type stands for, where it may be written, and what is asked of its nodes.
pub record Written : Type 0 where
  pub ty : Option Ty
  pub premises : Premises

-- a type of which nothing is asked
abbrev simple : Ty → Written
simple t = record { ty = Some t; premises = none }

-- a type that is made of a part of which something is asked
abbrev pub made : (Ty → Bool) → (Ty → Option Ty) → Written → Span → Written
made f make part s = record { ty = option_and_then make (where_it f part.ty); premises = part.premises ⨾ node s ((rule.KSig, if_known f part.ty) ∷ []) }

-- a capability type, or a class
abbrev pub cap_written : Names → List GroupText → Span → Written
cap_written names gs s = record { ty = where_it is_composed (named_type names gs); premises = each (group_premises names (several gs)) gs ⨾ node s ((rule.KSig, if_known is_composed (named_type names gs)) ∷ []) }

-- what is written by a form of this span
abbrev pub write_form : Names → TypeForm-F (Span → Written) Written → Span → Written
write_form names TypeForm-F.Int s = simple ty.Int
write_form names TypeForm-F.Bool s = simple ty.Bool
write_form names TypeForm-F.Text s = simple ty.Text
write_form names TypeForm-F.Unit s = simple ty.Unit
write_form names (TypeForm-F.Fut t) s = made is_shareable (λ u. Some (ty.Fut u)) t s
write_form names (TypeForm-F.Par t) s = made is_shareable (λ u. Some (ty.Par u)) t s
write_form names (TypeForm-F.List t) s = made is_shareable (λ u. Some (ty.List u)) t s
write_form names (TypeForm-F.Bestowed t) s = made (λ u. is_some (local_of u)) (λ u. option_map ty.Bestowed (local_of u)) t s
write_form names (TypeForm-F.Cap gs) s = cap_written names gs s

-- a type of its form and span
abbrev pub write_node : TypeText-F (Span → Written) Written → Written
write_node t = t.form t.span

-- what is written, by the text of the type
unfoldable pub written : Names → TypeText → Written
written names = fold-TypeText (Span → Written) Written (write_form names) write_node

-- the type that is written, where its names stand for types and it may be written
abbrev pub type_of : Names → TypeText → Option Ty
type_of names t = (written names t).ty

-- what is asked of a written type
abbrev pub type_premises : Names → TypeText → Premises
type_premises names t = (written names t).premises
