-- Types by what they are made of.
use Rattle.std.proofs.Common.{◌≡◌, true, Option, Some, None, refl, sym, ap, ◌∙◌, arith}
use Rattle.std.specs.Prelude.{is_some, option_map, option_and_then}
use Rattle.enc_modes.specs.declared.ty.Alt.{Alt}
use Rattle.enc_modes.specs.declared.ty.Ty.{Ty, out-Ty, roll-Ty, roll-out-Ty}
use Rattle.enc_modes.specs.declared.ty.Ty.TheOpen.{Ty-F}
use Rattle.enc_modes.specs.declared.ty.Ty.TheVariants as ty
use Rattle.enc_modes.specs.Modes.{is_shareable}
use Rattle.enc_types.specs.Written.{local_of}
use Rattle.enc_exprs.specs.Types.{item_of}
use Rattle.enc_exprs.proofs.Sorts.{list_is}
use Rattle.enc_flow.specs.Env.{Env}
use Rattle.enc_rules.specs.Context.{Context}
use Rattle.enc_rules.specs.Parts.{future_of, future_layer, tree_of, tree_layer, tree_of_trees}
use Rattle.enc_rules.specs.Sources.{shared, bestowed}

-- a type by its outer level
rolled : (t : Ty) (l : Ty-F Ty) (same : Ty) → roll-Ty l ≡ same → out-Ty t ≡ l → t ≡ same
rolled t l same rolls out = sym (roll-out-Ty t) ∙ (ap roll-Ty out ∙ rolls)

-- what will be in a future
pub future_has : (t : Ty) → future_of (ty.Fut t) ≡ Some t
unfolding future_of
future_has t = ap future_layer (ty.outs-Fut t)

-- what has a type that will be is a future
pub future_is : (t u : Ty) → future_of t ≡ Some u → t ≡ ty.Fut u
unfolding future_of
future_is t u h = go (out-Ty t) refl h
  where
    go : (l : Ty-F Ty) → out-Ty t ≡ l → future_layer l ≡ Some u → t ≡ ty.Fut u
    go (Ty-F.Fut v) out h = let q : v ≡ u = grind arith in rolled t (Ty-F.Fut v) (ty.Fut v) (ty.rolls-Fut v) out ∙ ap ty.Fut q
    go _ out h = absurd (grind arith)

-- what is in a tree
pub tree_has : (t : Ty) → tree_of (ty.Par t) ≡ Some t
unfolding tree_of
tree_has t = ap tree_layer (ty.outs-Par t)

-- what has a type of values in a tree is a tree
pub tree_is : (t u : Ty) → tree_of t ≡ Some u → t ≡ ty.Par u
unfolding tree_of
tree_is t u h = go (out-Ty t) refl h
  where
    go : (l : Ty-F Ty) → out-Ty t ≡ l → tree_layer l ≡ Some u → t ≡ ty.Par u
    go (Ty-F.Par v) out h = let q : v ≡ u = grind arith in rolled t (Ty-F.Par v) (ty.Par v) (ty.rolls-Par v) out ∙ ap ty.Par q
    go _ out h = absurd (grind arith)

-- what is in a tree of trees
pub trees_have : (t : Ty) → tree_of_trees (ty.Par (ty.Par t)) ≡ Some t
trees_have t = ap (option_and_then tree_of) (tree_has (ty.Par t)) ∙ tree_has t

-- what has a type of values in a tree of trees is one
pub trees_is : (t u : Ty) → tree_of_trees t ≡ Some u → t ≡ ty.Par (ty.Par u)
trees_is t u h = go (tree_of t) refl h
  where
    go : (o : Option Ty) → tree_of t ≡ o → option_and_then tree_of o ≡ Some u → t ≡ ty.Par (ty.Par u)
    go None e h = absurd (grind arith)
    go (Some v) e h = tree_is t v e ∙ ap ty.Par (tree_is v u h)

-- what has a type of elements is a list
pub item_is : (t u : Ty) → item_of t ≡ Some u → t ≡ ty.List u
item_is t u h =
    let l = list_is t (ap is_some h) in
    let e : Some l.item ≡ Some u = sym l.has ∙ h in
    let q : l.item ≡ u = grind arith in
    l.is ∙ ap ty.List q

-- a type that may be shared
pub shared_is : (ctx : Context) (env : Env) (t u : Ty) → shared ctx env t ≡ Some u → (is_shareable t ≡ true) × (t ≡ u)
shared_is ctx env t u h = (grind arith, grind arith)

-- a type that can be bestowed, by its trait
pub record Bestows (t u : Ty) : Type 0 where
  pub alt : Alt
  pub local : local_of t ≡ Some alt
  pub is : ty.Bestowed alt ≡ u

-- what can be bestowed has a local trait
pub bestowed_is : (ctx : Context) (env : Env) (t u : Ty) → bestowed ctx env t ≡ Some u → Bestows t u
bestowed_is ctx env t u h = go (local_of t) refl h
  where
    go : (o : Option Alt) → local_of t ≡ o → option_map ty.Bestowed o ≡ Some u → Bestows t u
    go None e h = absurd (grind arith)
    go (Some a) e h = record { alt = a; local = e; is = grind arith }
