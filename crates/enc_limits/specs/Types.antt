-- Written types within the limits, where so many brackets are open around them.
use Rattle.std.specs.Prelude.{◌&&◌, ℕ, suc, Bool, true, List, [], ◌∷◌, length, nat_le}
use Rattle.enc_ast.specs.declared.decls.Name.{Name}
use Rattle.enc_ast.specs.declared.decls.GroupText.{GroupText}
use Rattle.enc_ast.specs.declared.TypeText.{TypeText}
use Rattle.enc_ast.specs.declared.TypeForm.TheOpen.{TypeForm-F, TypeText-F}
use Rattle.enc_ast.specs.declared.TypeForm.TheFolds.{fold-TypeText}
use Rattle.enc_limits.specs.Numbers.{max_groups, every, name_fits, opens}

-- a disjunction stands in brackets, and has not too many traits
abbrev pub disjunction_fits : ℕ → List Name → Bool
disjunction_fits n [] = true
disjunction_fits n (x ∷ []) = true
disjunction_fits n (x ∷ y ∷ xs) = opens n && nat_le (length (x ∷ y ∷ xs)) max_groups

abbrev pub group_fits : ℕ → GroupText → Bool
group_fits n g = every name_fits g.names && disjunction_fits n g.names

-- what stands in brackets of its own
abbrev pub inside : (ℕ → Bool) → ℕ → Bool
inside fits n = opens n && fits (suc n)

abbrev pub type_form : TypeForm-F (ℕ → Bool) (ℕ → Bool) → ℕ → Bool
type_form TypeForm-F.Int n = true
type_form TypeForm-F.Bool n = true
type_form TypeForm-F.Text n = true
type_form TypeForm-F.Unit n = true
type_form (TypeForm-F.Fut t) n = inside t n
type_form (TypeForm-F.Par t) n = inside t n
type_form (TypeForm-F.List t) n = inside t n
type_form (TypeForm-F.Bestowed t) n = inside t n
type_form (TypeForm-F.Cap gs) n = every (group_fits n) gs

abbrev pub type_node : TypeText-F (ℕ → Bool) (ℕ → Bool) → ℕ → Bool
type_node x = x.form

unfoldable pub type_fits : TypeText → ℕ → Bool
type_fits = fold-TypeText (ℕ → Bool) (ℕ → Bool) type_form type_node
