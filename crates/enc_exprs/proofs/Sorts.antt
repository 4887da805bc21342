-- Types and operators by what is asked of them.
use Rattle.std.proofs.Common.{◌≡◌, true, Some, refl, sym, ap, ◌∙◌, arith}
use Rattle.std.specs.Prelude.{is_some}
use Rattle.enc_ast.specs.declared.Operator.{Operator}
use Rattle.enc_ast.specs.declared.Operator.TheVariants as op
use Rattle.enc_modes.specs.declared.ty.Ty.{Ty, out-Ty, roll-Ty, roll-out-Ty}
use Rattle.enc_modes.specs.declared.ty.Ty.TheOpen.{Ty-F}
use Rattle.enc_modes.specs.declared.ty.Ty.TheVariants as ty
use Rattle.enc_modes.specs.Equality.{same}
use Rattle.enc_flow.specs.Env.{Env}
use Rattle.enc_exprs.specs.Types.{is_int, int_layer, is_bool, bool_layer, item_of, item_layer, is_plain, is_arithmetic, is_ordering, is_equality, is_logical}
use Rattle.enc_exprs.specs.Exprs.{Judged, two, alike, binary, binary_type}

-- ---- types

-- a type by its outer level
rolled : (t : Ty) (l : Ty-F Ty) (same : Ty) → roll-Ty l ≡ same → out-Ty t ≡ l → t ≡ same
rolled t l same rolls out = sym (roll-out-Ty t) ∙ (ap roll-Ty out ∙ rolls)

-- what is an integer type
pub int_is : (t : Ty) → is_int t ≡ true → t ≡ ty.Int
unfolding is_int
int_is t h = go (out-Ty t) refl h
  where
    go : (l : Ty-F Ty) → out-Ty t ≡ l → int_layer l ≡ true → t ≡ ty.Int
    go Ty-F.Int out h = rolled t Ty-F.Int ty.Int ty.rolls-Int out
    go _ out h = absurd (grind arith)

-- integers are integers
pub int_of : is_int ty.Int ≡ true
unfolding is_int
int_of = ap int_layer ty.outs-Int

-- what is a type of truth values
pub bool_is : (t : Ty) → is_bool t ≡ true → t ≡ ty.Bool
unfolding is_bool
bool_is t h = go (out-Ty t) refl h
  where
    go : (l : Ty-F Ty) → out-Ty t ≡ l → bool_layer l ≡ true → t ≡ ty.Bool
    go Ty-F.Bool out h = rolled t Ty-F.Bool ty.Bool ty.rolls-Bool out
    go _ out h = absurd (grind arith)

-- truth values are truth values
pub bool_of : is_bool ty.Bool ≡ true
unfolding is_bool
bool_of = ap bool_layer ty.outs-Bool

-- A list, by the type of its elements.
pub record ListOf (t : Ty) : Type 0 where
  pub item : Ty
  pub is : t ≡ ty.List item
  pub has : item_of t ≡ Some item

-- what is a type of lists
pub list_is : (t : Ty) → is_some (item_of t) ≡ true → ListOf t
unfolding item_of
list_is t h = go (out-Ty t) refl h
  where
    go : (l : Ty-F Ty) → out-Ty t ≡ l → is_some (item_layer l) ≡ true → ListOf t
    go (Ty-F.List u) out h = record { item = u; is = rolled t (Ty-F.List u) (ty.List u) (ty.rolls-List u) out; has = ap item_layer out }
    go _ out h = absurd (grind arith)

-- the elements of lists of a type
pub list_of : (t : Ty) → item_of (ty.List t) ≡ Some t
unfolding item_of
list_of t = ap item_layer (ty.outs-List t)

-- ---- operators

-- both operands are to be integers
abbrev pub Ints : Env → Judged → Judged → Operator → Type 0
Ints env a b o = binary o env a b ≡ two env is_int a b

-- operators that compute
pub arithmetic_is : (env : Env) (a b : Judged) (o : Operator) → is_arithmetic o ≡ true → Ints env a b o × (binary_type o ≡ ty.Int)
arithmetic_is env a b op.Add h = (refl, refl)
arithmetic_is env a b op.Subtract h = (refl, refl)
arithmetic_is env a b op.Multiply h = (refl, refl)
arithmetic_is env a b op.Divide h = (refl, refl)
arithmetic_is env a b op.Remainder h = (refl, refl)
arithmetic_is env a b _ h = absurd (grind arith)

-- operators that compare numbers
pub ordering_is : (env : Env) (a b : Judged) (o : Operator) → is_ordering o ≡ true → Ints env a b o × (binary_type o ≡ ty.Bool)
ordering_is env a b op.Less h = (refl, refl)
ordering_is env a b op.LessEqual h = (refl, refl)
ordering_is env a b op.Greater h = (refl, refl)
ordering_is env a b op.GreaterEqual h = (refl, refl)
ordering_is env a b _ h = absurd (grind arith)

-- operators that test sameness
pub equality_is : (env : Env) (a b : Judged) (o : Operator) → is_equality o ≡ true → (binary o env a b ≡ alike env is_plain a b) × (binary_type o ≡ ty.Bool)
equality_is env a b op.Equal h = (refl, refl)
equality_is env a b op.NotEqual h = (refl, refl)
equality_is env a b _ h = absurd (grind arith)

-- operators on truth values
pub logical_is : (env : Env) (a b : Judged) (o : Operator) → is_logical o ≡ true → (binary o env a b ≡ two env is_bool a b) × (binary_type o ≡ ty.Bool)
logical_is env a b op.Or h = (refl, refl)
logical_is env a b op.And h = (refl, refl)
logical_is env a b _ h = absurd (grind arith)
