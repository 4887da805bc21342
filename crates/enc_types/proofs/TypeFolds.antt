-- What a written type stands for and what is asked of it, equations for each form.
use Rattle.std.proofs.Common.{◌≡◌, ◌∙◌, List, [], ◌∷◌, Option, Some, None, is_some, option_map, option_and_then, refl, ap}
use Rattle.enc_ast.specs.declared.rules.Rule.TheVariants as rule
use Rattle.enc_ast.specs.declared.rules.Span.{Span}
use Rattle.enc_ast.specs.declared.decls.GroupText.{GroupText}
use Rattle.enc_ast.specs.declared.TypeText.{TypeText}
use Rattle.enc_ast.specs.declared.TypeForm.{TypeForm}
use Rattle.enc_ast.specs.declared.TypeForm.TheOpen.{TypeForm-F}
use Rattle.enc_ast.specs.declared.TypeForm.TheViews.{roll-TypeForm}
use Rattle.enc_ast.specs.declared.TypeForm.TheVariants as f
use Rattle.enc_ast.specs.declared.TypeForm.TheFolds.{fold-TypeForm, fold-roll-TypeForm, fold_out-TypeText}
use Rattle.enc_modes.specs.declared.ty.Ty.{Ty}
use Rattle.enc_modes.specs.declared.ty.Ty.TheVariants as ty
use Rattle.enc_modes.specs.Modes.{is_shareable}
use Rattle.enc_premises.specs.Premises.{none, ◌⨾◌, node, each, if_known}
use Rattle.enc_modes.specs.Order.{Cap, in_order}
use Rattle.enc_types.specs.Words.{all_there}
use Rattle.enc_types.specs.Names.{Names, trait_named}
use Rattle.enc_types.specs.Plain.{cap_by}
use Rattle.enc_types.specs.Written.{Written, written, write_form, write_node, where_it, local_of, is_composed, named_type, group_premises, several, type_of, type_premises, type_of_groups}

-- what is written by a form of this span
abbrev written_form : Names → TypeForm → Span → Written
written_form names = fold-TypeForm (Span → Written) Written (write_form names) write_node

-- what is made of a part that is there
made-map : (f : Ty → Ty) (o : Option Ty) → option_and_then (λ u. Some (f u)) o ≡ option_map f o
made-map f None = refl
made-map f (Some u) = refl

-- a written type of a form
pub of_form : (names : Names) (x : TypeText) (f : TypeForm) (w : Written) → x.form ≡ f → written_form names f x.span ≡ w → written names x ≡ w
unfolding written
of_form names x f w is e = fold_out-TypeText (Span → Written) Written (write_form names) write_node x ∙ (ap (λ z. written_form names z x.span) is ∙ e)

pub written-int : (names : Names) (x : TypeText) → x.form ≡ f.Int → written names x ≡ write_form names (TypeForm-F.Int) x.span
unfolding written roll-TypeForm denote.Hole.Carrier.roll
written-int names x is = of_form names x _ _ is (ap (λ z. written_form names z x.span) f.rolls-Int ∙ ap (λ z. z x.span) (fold-roll-TypeForm (Span → Written) Written (write_form names) write_node (TypeForm-F.Int)))

pub ty-int : (names : Names) (x : TypeText) → x.form ≡ f.Int → type_of names x ≡ Some ty.Int
ty-int names x is = ap (λ z. z.ty) (written-int names x is)

pub premises-int : (names : Names) (x : TypeText) → x.form ≡ f.Int → type_premises names x ≡ none
premises-int names x is = ap (λ z. z.premises) (written-int names x is)

pub written-bool : (names : Names) (x : TypeText) → x.form ≡ f.Bool → written names x ≡ write_form names (TypeForm-F.Bool) x.span
unfolding written roll-TypeForm denote.Hole.Carrier.roll
written-bool names x is = of_form names x _ _ is (ap (λ z. written_form names z x.span) f.rolls-Bool ∙ ap (λ z. z x.span) (fold-roll-TypeForm (Span → Written) Written (write_form names) write_node (TypeForm-F.Bool)))

pub ty-bool : (names : Names) (x : TypeText) → x.form ≡ f.Bool → type_of names x ≡ Some ty.Bool
ty-bool names x is = ap (λ z. z.ty) (written-bool names x is)

pub premises-bool : (names : Names) (x : TypeText) → x.form ≡ f.Bool → type_premises names x ≡ none
premises-bool names x is = ap (λ z. z.premises) (written-bool names x is)

pub written-text : (names : Names) (x : TypeText) → x.form ≡ f.Text → written names x ≡ write_form names (TypeForm-F.Text) x.span
unfolding written roll-TypeForm denote.Hole.Carrier.roll
written-text names x is = of_form names x _ _ is (ap (λ z. written_form names z x.span) f.rolls-Text ∙ ap (λ z. z x.span) (fold-roll-TypeForm (Span → Written) Written (write_form names) write_node (TypeForm-F.Text)))

pub ty-text : (names : Names) (x : TypeText) → x.form ≡ f.Text → type_of names x ≡ Some ty.Text
ty-text names x is = ap (λ z. z.ty) (written-text names x is)

pub premises-text : (names : Names) (x : TypeText) → x.form ≡ f.Text → type_premises names x ≡ none
premises-text names x is = ap (λ z. z.premises) (written-text names x is)

pub written-unit : (names : Names) (x : TypeText) → x.form ≡ f.Unit → written names x ≡ write_form names (TypeForm-F.Unit) x.span
unfolding written roll-TypeForm denote.Hole.Carrier.roll
written-unit names x is = of_form names x _ _ is (ap (λ z. written_form names z x.span) f.rolls-Unit ∙ ap (λ z. z x.span) (fold-roll-TypeForm (Span → Written) Written (write_form names) write_node (TypeForm-F.Unit)))

pub ty-unit : (names : Names) (x : TypeText) → x.form ≡ f.Unit → type_of names x ≡ Some ty.Unit
ty-unit names x is = ap (λ z. z.ty) (written-unit names x is)

pub premises-unit : (names : Names) (x : TypeText) → x.form ≡ f.Unit → type_premises names x ≡ none
premises-unit names x is = ap (λ z. z.premises) (written-unit names x is)

pub written-fut : (names : Names) (x : TypeText) (t : TypeText) → x.form ≡ f.Fut t → written names x ≡ write_form names (TypeForm-F.Fut (written names t)) x.span
unfolding written roll-TypeForm denote.Hole.Carrier.roll
written-fut names x t is = of_form names x _ _ is (ap (λ z. written_form names z x.span) (f.rolls-Fut t) ∙ ap (λ z. z x.span) (fold-roll-TypeForm (Span → Written) Written (write_form names) write_node (TypeForm-F.Fut t)))

pub ty-fut : (names : Names) (x : TypeText) (t : TypeText) → x.form ≡ f.Fut t → type_of names x ≡ option_map ty.Fut (where_it is_shareable (type_of names t))
ty-fut names x t is = ap (λ z. z.ty) (written-fut names x t is) ∙ made-map ty.Fut (where_it is_shareable (type_of names t))

pub premises-fut : (names : Names) (x : TypeText) (t : TypeText) → x.form ≡ f.Fut t → type_premises names x ≡ type_premises names t ⨾ node x.span ((rule.KSig, if_known is_shareable (type_of names t)) ∷ [])
premises-fut names x t is = ap (λ z. z.premises) (written-fut names x t is)

pub written-par : (names : Names) (x : TypeText) (t : TypeText) → x.form ≡ f.Par t → written names x ≡ write_form names (TypeForm-F.Par (written names t)) x.span
unfolding written roll-TypeForm denote.Hole.Carrier.roll
written-par names x t is = of_form names x _ _ is (ap (λ z. written_form names z x.span) (f.rolls-Par t) ∙ ap (λ z. z x.span) (fold-roll-TypeForm (Span → Written) Written (write_form names) write_node (TypeForm-F.Par t)))

pub ty-par : (names : Names) (x : TypeText) (t : TypeText) → x.form ≡ f.Par t → type_of names x ≡ option_map ty.Par (where_it is_shareable (type_of names t))
ty-par names x t is = ap (λ z. z.ty) (written-par names x t is) ∙ made-map ty.Par (where_it is_shareable (type_of names t))

pub premises-par : (names : Names) (x : TypeText) (t : TypeText) → x.form ≡ f.Par t → type_premises names x ≡ type_premises names t ⨾ node x.span ((rule.KSig, if_known is_shareable (type_of names t)) ∷ [])
premises-par names x t is = ap (λ z. z.premises) (written-par names x t is)

pub written-list : (names : Names) (x : TypeText) (t : TypeText) → x.form ≡ f.List t → written names x ≡ write_form names (TypeForm-F.List (written names t)) x.span
unfolding written roll-TypeForm denote.Hole.Carrier.roll
written-list names x t is = of_form names x _ _ is (ap (λ z. written_form names z x.span) (f.rolls-List t) ∙ ap (λ z. z x.span) (fold-roll-TypeForm (Span → Written) Written (write_form names) write_node (TypeForm-F.List t)))

pub ty-list : (names : Names) (x : TypeText) (t : TypeText) → x.form ≡ f.List t → type_of names x ≡ option_map ty.List (where_it is_shareable (type_of names t))
ty-list names x t is = ap (λ z. z.ty) (written-list names x t is) ∙ made-map ty.List (where_it is_shareable (type_of names t))

pub premises-list : (names : Names) (x : TypeText) (t : TypeText) → x.form ≡ f.List t → type_premises names x ≡ type_premises names t ⨾ node x.span ((rule.KSig, if_known is_shareable (type_of names t)) ∷ [])
premises-list names x t is = ap (λ z. z.premises) (written-list names x t is)

pub written-bestowed : (names : Names) (x : TypeText) (t : TypeText) → x.form ≡ f.Bestowed t → written names x ≡ write_form names (TypeForm-F.Bestowed (written names t)) x.span
unfolding written roll-TypeForm denote.Hole.Carrier.roll
written-bestowed names x t is = of_form names x _ _ is (ap (λ z. written_form names z x.span) (f.rolls-Bestowed t) ∙ ap (λ z. z x.span) (fold-roll-TypeForm (Span → Written) Written (write_form names) write_node (TypeForm-F.Bestowed t)))

pub ty-bestowed : (names : Names) (x : TypeText) (t : TypeText) → x.form ≡ f.Bestowed t → type_of names x ≡ option_and_then (λ u. option_map ty.Bestowed (local_of u)) (where_it (λ u. is_some (local_of u)) (type_of names t))
ty-bestowed names x t is = ap (λ z. z.ty) (written-bestowed names x t is)

pub premises-bestowed : (names : Names) (x : TypeText) (t : TypeText) → x.form ≡ f.Bestowed t → type_premises names x ≡ type_premises names t ⨾ node x.span ((rule.KSig, if_known (λ u. is_some (local_of u)) (type_of names t)) ∷ [])
premises-bestowed names x t is = ap (λ z. z.premises) (written-bestowed names x t is)

pub written-cap : (names : Names) (x : TypeText) (gs : List GroupText) → x.form ≡ f.Cap gs → written names x ≡ write_form names (TypeForm-F.Cap gs) x.span
unfolding written roll-TypeForm denote.Hole.Carrier.roll
written-cap names x gs is = of_form names x _ _ is (ap (λ z. written_form names z x.span) (f.rolls-Cap gs) ∙ ap (λ z. z x.span) (fold-roll-TypeForm (Span → Written) Written (write_form names) write_node (TypeForm-F.Cap gs)))

pub ty-cap : (names : Names) (x : TypeText) (gs : List GroupText) → x.form ≡ f.Cap gs → type_of names x ≡ where_it is_composed (named_type names gs)
ty-cap names x gs is = ap (λ z. z.ty) (written-cap names x gs is)

pub premises-cap : (names : Names) (x : TypeText) (gs : List GroupText) → x.form ≡ f.Cap gs → type_premises names x ≡ each (group_premises names (several gs)) gs ⨾ node x.span ((rule.KSig, if_known is_composed (named_type names gs)) ∷ [])
premises-cap names x gs is = ap (λ z. z.premises) (written-cap names x gs is)

-- the type of several groups is that of the groups in order
pub groups-cap : (names : Names) (gs : List GroupText) → type_of_groups names gs ≡ option_map ty.Cap (cap_by (trait_named names) gs)
groups-cap names gs = go (all_there (λ g. all_there (λ n. trait_named names n.word) g.names) gs)
  where
    go : (o : Option Cap) → option_map (λ groups. ty.Cap (in_order groups)) o ≡ option_map ty.Cap (option_map in_order o)
    go None = refl
    go (Some groups) = refl

pub ruleset groups = (groups-cap)

-- what is written, by its form
pub ruleset types = (ty-int, premises-int, ty-bool, premises-bool, ty-text, premises-text, ty-unit, premises-unit, ty-fut, premises-fut, ty-par, premises-par, ty-list, premises-list, ty-bestowed, premises-bestowed, ty-cap, premises-cap)
