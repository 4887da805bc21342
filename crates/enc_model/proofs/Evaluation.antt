-- What the expressions of the thin form give.
use Rattle.std.proofs.Common.{◌≡◌, ◌∙◌, ℕ, ℤ, Bool, true, false, cond, ◌&&◌, ◌||◌, List, [], ◌∷◌, Option, Some, None, refl, sym, subst, map}
use Rattle.std.specs.Prelude.{◌+ℤ◌, ◌-ℤ◌, ◌*ℤ◌, if◌then◌else◌}
use Rattle.enc_ast.specs.declared.Operator.{Operator}
use Rattle.enc_ast.specs.declared.Operator.TheVariants as operators
use Rattle.enc_ast.specs.declared.Expr.{Expr}
use Rattle.enc_ast.specs.declared.exprs.ExprForm.{ExprForm, out-ExprForm, out-roll-ExprForm}
use Rattle.enc_ast.specs.declared.ExprForm.TheOpen.{ExprForm-F}
use Rattle.enc_ast.specs.declared.exprs.ExprForm.TheFolds.{map-ExprForm, ind-ExprForm}
use Rattle.enc_ast.specs.Thin.{Shape, Part, Sum, Other, Layer, is_among, is_arithmetic, between, shape_of, is_number, is_sum, is_text_layer, is_item}
use Rattle.enc_model.specs.declared.values.TrapKind.TheVariants.{Overflow}
use Rattle.enc_model.specs.declared.values.Value.{Value}
use Rattle.enc_model.specs.declared.values.Value.TheVariants as values
use Rattle.enc_model.specs.declared.moves.Got.{Got}
use Rattle.enc_model.specs.declared.moves.Got.TheVariants.{Gives, Traps, Nothing}
use Rattle.enc_model.specs.Eval.{Local, found, got_of, has_64_bits, result_of, fitted, operated, binary, eval}
use Rattle.enc_model.proofs.Meaning.{gives_at, eval-layer}
use Rattle.enc_model.proofs.Scopes.{shape_at, shape-layer}

pub both : (a b : Bool) → (a && b) ≡ true → (a ≡ true) × (b ≡ true)
both true b e = (refl, e)
both false b e = absurd (cc)

-- ---- integers

abbrev pub IsInt : Value → Type 0
IsInt (values.Int z) = Unit {0}
IsInt (values.Text bytes) = ⊥
IsInt values.Unit = ⊥

-- the variable has a value, an integer
abbrev pub HasInt : Option Value → Type 0
HasInt None = ⊥
HasInt (Some value) = IsInt value

-- all variables have integers
abbrev pub HaveInts : List Local → Type 0
HaveInts [] = Unit {0}
HaveInts (local ∷ locals) = HasInt local.1 × HaveInts locals

abbrev pub names_of : List Local → List (List ℕ)
names_of locals = map (λ local. local.0) locals

abbrev IsIntGot : Got → Type 0
IsIntGot (Gives value) = IsInt value
IsIntGot (Traps kind) = ⊥
IsIntGot Nothing = ⊥

-- an integer, or a trap
abbrev pub IsSumGot : Got → Type 0
IsSumGot (Gives value) = IsInt value
IsSumGot (Traps kind) = Unit {0}
IsSumGot Nothing = ⊥

-- what can be printed, or a trap
abbrev pub IsPrintable : Value → Type 0
IsPrintable (values.Int z) = Unit {0}
IsPrintable (values.Text bytes) = Unit {0}
IsPrintable values.Unit = ⊥

abbrev pub IsItemGot : Got → Type 0
IsItemGot (Gives value) = IsPrintable value
IsItemGot (Traps kind) = Unit {0}
IsItemGot Nothing = ⊥

sum-int : (got : Got) → IsIntGot got → IsSumGot got
sum-int (Gives value) h = h
sum-int (Traps kind) h = absurd h
sum-int Nothing h = absurd h

printable-int : (value : Value) → IsInt value → IsPrintable value
printable-int (values.Int z) h = tt
printable-int (values.Text bytes) h = tt
printable-int values.Unit h = absurd h

item-sum : (got : Got) → IsSumGot got → IsItemGot got
item-sum (Gives value) h = printable-int value h
item-sum (Traps kind) h = tt
item-sum Nothing h = absurd h

-- ---- variables

got_of-int : (value : Option Value) → HasInt value → IsIntGot (got_of value)
got_of-int None h = absurd h
got_of-int (Some value) h = h

found-by : (here : Bool) (value : Option Value) (later : Got) (among : Bool) → HasInt value → (among ≡ true → IsIntGot later) → (here || among) ≡ true → IsIntGot (cond here (got_of value) later)
found-by true value later among h r e = got_of-int value h
found-by false value later among h r e = r e

found-int : (word : List ℕ) (locals : List Local) → HaveInts locals → is_among (names_of locals) word ≡ true → IsIntGot (found word locals)
found-int word [] h e = absurd (cc)
found-int word (local ∷ locals) h e =
    found-by _ local.1 (found word locals) (is_among (names_of locals) word) h.0 (λ among. found-int word locals h.1 among) e

-- ---- operators

fit-by : (fits : Bool) (z : ℤ) → IsSumGot (cond fits (Gives (values.Int z)) (Traps Overflow))
fit-by true z = tt
fit-by false z = tt

-- an operator of the thin form has a result
fitted-sum : (operator : Operator) (x y : ℤ) → is_arithmetic operator ≡ true → IsSumGot (fitted (result_of operator x y))
fitted-sum operators.Add x y e = fit-by (has_64_bits (x +ℤ y)) (x +ℤ y)
fitted-sum operators.Subtract x y e = fit-by (has_64_bits (x -ℤ y)) (x -ℤ y)
fitted-sum operators.Multiply x y e = fit-by (has_64_bits (x *ℤ y)) (x *ℤ y)
fitted-sum _ x y e = absurd (cc)

operated-sum : (operator : Operator) (x y : Value) → is_arithmetic operator ≡ true → IsInt x → IsInt y → IsSumGot (operated operator x y)
operated-sum operator (values.Int x) (values.Int y) e p q = fitted-sum operator x y e
operated-sum operator (values.Int x) (values.Text bytes) e p q = absurd q
operated-sum operator (values.Int x) values.Unit e p q = absurd q
operated-sum operator (values.Text bytes) y e p q = absurd p
operated-sum operator values.Unit y e p q = absurd p

binary-sum : (operator : Operator) (left right : Got) → is_arithmetic operator ≡ true → IsIntGot left → IsIntGot right → IsSumGot (binary operator left right)
binary-sum operator (Gives x) (Gives y) e p q = operated-sum operator x y e p q
binary-sum operator (Gives x) (Traps kind) e p q = absurd q
binary-sum operator (Gives x) Nothing e p q = absurd q
binary-sum operator (Traps kind) right e p q = absurd p
binary-sum operator Nothing right e p q = absurd p

-- ---- expressions

-- what an expression of this shape gives where the variables have integers
abbrev pub IsShapedGot : Shape → Got → Type 0
IsShapedGot Part got = IsIntGot got
IsShapedGot Sum got = IsSumGot got
IsShapedGot Other got = Unit {0}

-- it gives what its shape promises, by its outer level
abbrev KeepsLayer : List Local → Layer → Type 0
KeepsLayer locals layer = IsShapedGot (shape_at (names_of locals) layer) (gives_at locals layer)

-- the same of the whole expression
abbrev Keeps : List Local → Expr → Type 0
Keeps locals e = IsShapedGot (shape_of (names_of locals) e) (eval e locals)

keeps-layer : (locals : List Local) (e : Expr) → KeepsLayer locals (out-ExprForm e.form) → Keeps locals e
keeps-layer locals e k =
    subst (λ shape. IsShapedGot shape (eval e locals)) (sym (shape-layer (names_of locals) e))
    (subst (λ got. IsShapedGot (shape_at (names_of locals) (out-ExprForm e.form)) got) (sym (eval-layer e locals)) k)

keeps-name : (name : List ℕ) (locals : List Local) (among : Bool) → HaveInts locals → is_among (names_of locals) name ≡ among → IsShapedGot (if among then Part else Other) (found name locals)
keeps-name name locals true h e = found-int name locals h e
keeps-name name locals false h e = tt

keeps-sum : (known : Bool) (operator : Operator) (left right : Got) → is_arithmetic operator ≡ known → IsIntGot left → IsIntGot right → IsShapedGot (if known then Sum else Other) (binary operator left right)
keeps-sum true operator left right e p q = binary-sum operator left right e p q
keeps-sum false operator left right e p q = tt

keeps-binary : (operator : Operator) (x y : Shape) (left right : Got) → IsShapedGot x left → IsShapedGot y right → IsShapedGot (between operator x y) (binary operator left right)
keeps-binary operator Part Part left right p q = keeps-sum (is_arithmetic operator) operator left right refl p q
keeps-binary operator Part Sum left right p q = tt
keeps-binary operator Part Other left right p q = tt
keeps-binary operator Sum y left right p q = tt
keeps-binary operator Other y left right p q = tt

-- forms and expressions that give what their shapes promise
abbrev F : List Local → Type 0
F locals = (form : ExprForm) × KeepsLayer locals (out-ExprForm form)

abbrev E : List Local → Type 0
E locals = (e : Expr) × KeepsLayer locals (out-ExprForm e.form)

keeps-form : (locals : List Local) (y : ExprForm-F (F locals) (E locals)) → HaveInts locals → KeepsLayer locals (map-ExprForm (F locals) (E locals) ExprForm Expr (λ z. z.0) (λ z. z.0) y)
keeps-form locals (ExprForm-F.Int z) h = tt
keeps-form locals (ExprForm-F.Name name) h = keeps-name name locals (is_among (names_of locals) name) h refl
keeps-form locals (ExprForm-F.Parens inside) h = keeps-layer locals inside.0 inside.1
keeps-form locals (ExprForm-F.Binary operator left right) h =
    keeps-binary operator (shape_of (names_of locals) left.0) (shape_of (names_of locals) right.0) (eval left.0 locals) (eval right.0 locals) (keeps-layer locals left.0 left.1) (keeps-layer locals right.0 right.1)
keeps-form locals _ h = tt

keeps-all : (locals : List Local) → HaveInts locals → (form : ExprForm) → KeepsLayer locals (out-ExprForm form)
keeps-all locals h = ind-ExprForm (λ form. KeepsLayer locals (out-ExprForm form)) (λ e. KeepsLayer locals (out-ExprForm e.form))
    (λ x y is. subst (KeepsLayer locals) (is ∙ sym (out-roll-ExprForm x)) (keeps-form locals y h))
    (λ x y is. subst (λ z. KeepsLayer locals (out-ExprForm z.form)) is y.form.1)

-- each expression gives what its shape promises
keeps-expr : (locals : List Local) → HaveInts locals → (e : Expr) → Keeps locals e
keeps-expr locals h e = keeps-layer locals e (keeps-all locals h e.form)

sum-shape : (shape : Shape) (got : Got) → IsShapedGot shape got → is_number shape ≡ true → IsSumGot got
sum-shape Part got k e = sum-int got k
sum-shape Sum got k e = k
sum-shape Other got k e = absurd (cc)

-- where the variables have integers, a sum is one, or traps
pub eval-sum : (e : Expr) (locals : List Local) → HaveInts locals → is_sum (names_of locals) e ≡ true → IsSumGot (eval e locals)
eval-sum e locals h is = sum-shape (shape_of (names_of locals) e) (eval e locals) (keeps-expr locals h e) is

text-gives : (layer : Layer) (locals : List Local) → is_text_layer layer ≡ true → IsItemGot (gives_at locals layer)
text-gives (ExprForm-F.Text bytes) locals e = tt
text-gives _ locals e = absurd (cc)

item-by : (text : Bool) (e : Expr) (locals : List Local) → is_text_layer (out-ExprForm e.form) ≡ text → HaveInts locals → (text || is_sum (names_of locals) e) ≡ true → IsItemGot (eval e locals)
item-by true e locals t h is = subst IsItemGot (sym (eval-layer e locals)) (text-gives (out-ExprForm e.form) locals t)
item-by false e locals t h is = item-sum (eval e locals) (eval-sum e locals h is)

-- and what is printed can be printed, or traps
pub eval-item : (e : Expr) (locals : List Local) → HaveInts locals → is_item (names_of locals) e ≡ true → IsItemGot (eval e locals)
eval-item e locals h is = item-by (is_text_layer (out-ExprForm e.form)) e locals refl h is
