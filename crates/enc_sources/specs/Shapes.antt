-- What the shapes of sources ask of types, and what they make of them.
use Rattle.std.specs.Prelude.{Bool, true, false, not, ◌&&◌, cond, Option, Some, None, is_some}
use Rattle.enc_modes.specs.declared.ty.Ty.{Ty}
use Rattle.enc_modes.specs.declared.ty.Ty.TheVariants as ty
use Rattle.enc_modes.specs.Modes.{is_linear, is_shareable}
use Rattle.enc_premises.specs.Premises.{if_known}
use Rattle.enc_exprs.specs.Types.{item_of}
use Rattle.enc_rules.specs.Parts.{future_of, tree_of, tree_of_trees, agree}
use Rattle.enc_sources.specs.declared.shapes.Part.{Part}
use Rattle.enc_sources.specs.declared.shapes.Part.TheVariants as part
use Rattle.enc_sources.specs.declared.shapes.Made.{Made}
use Rattle.enc_sources.specs.declared.shapes.Made.TheVariants as made

-- what is asked of the type of a field
abbrev pub wants : Bool → Ty → Bool
wants true = is_linear
wants false = λ t. not (is_linear t)

-- the type, where a value of it may be shared
abbrev pub shared : Ty → Option Ty
shared t = cond (is_shareable t) (Some t) None

-- the part of a type
abbrev pub part_by : Part → Ty → Option Ty
part_by part.Shared = shared
part_by part.Future = future_of
part_by part.Item = item_of
part_by part.Tree = tree_of
part_by part.TreeOfTrees = tree_of_trees

-- what is made of it
abbrev pub made_by : Made → Ty → Ty
made_by made.Same = λ t. t
made_by made.Future = ty.Fut
made_by made.Tree = ty.Par
made_by made.List = ty.List

-- both are trees of one type, as far as they are known
abbrev pub trees_of_one_type : Option Ty → Option Ty → Bool
trees_of_one_type t u = if_known (λ z. is_some (tree_of z)) t && (if_known (λ z. is_some (tree_of z)) u && agree t u)
