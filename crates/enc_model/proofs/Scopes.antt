-- What the walk over a body keeps, and the shapes that a walk over an expression finds.
use Rattle.std.proofs.Common.{◌≡◌, ℕ, ℤ, ◌+◌, ◌<◌, ◌≤◌, Bool, true, false, ◌&&◌, ◌||◌, List, [], ◌∷◌, length, get_or, drop, map, refl, ap, sym, ◌∙◌, arith, length-append}
use Rattle.std.specs.Prelude.{if◌then◌else◌}
use Rattle.std.specs.List.{list_any}
use Rattle.std.proofs.lemmas.Bool.Decides.{nat_tests}
use Rattle.std.proofs.lemmas.List.{at_drop_more}
use Rattle.std.proofs.lemmas.List.Folds.{list_all_at}
use Rattle.enc_ast.specs.Thin.{Shape, Part, Sum, Other, Layer, StmtLayer, is_among, is_arithmetic, between, layer_shape, shape_of, is_number, is_sum, is_item, is_text_layer, is_some_items, is_body, is_line, bound_after, bound_after_layer}
use Rattle.enc_ast.specs.declared.Name.{Name}
use Rattle.enc_ast.specs.declared.Source.{Source}
use Rattle.enc_ast.specs.declared.Stmt.{Stmt}
use Rattle.enc_ast.specs.declared.StmtForm.{StmtForm, out-StmtForm}
use Rattle.enc_ast.specs.declared.StmtForm.TheOpen.{StmtForm-F}
use Rattle.enc_ast.specs.declared.StmtForm.TheVariants.{Let, outs-Let}
use Rattle.enc_ast.specs.declared.Operator.{Operator}
use Rattle.enc_ast.specs.declared.Expr.{Expr}
use Rattle.enc_ast.specs.declared.exprs.ExprForm.{ExprForm, out-ExprForm}
use Rattle.enc_ast.specs.declared.ExprForm.TheOpen.{ExprForm-F}
use Rattle.enc_ast.specs.declared.exprs.ExprForm.TheFolds.{map-ExprForm, fold-ExprForm, fold-Expr, fold_out-ExprForm, fold_out-Expr}
use Rattle.enc_ast.specs.declared.ExprForm.TheVariants as forms
use Rattle.enc_ast.specs.declared.ExprForm.TheVariants.{outs-Int, outs-Name, outs-Binary, outs-Parens, outs-Text}
use Rattle.enc_model.proofs.Forms.{form-int, form-text, form-name, form-binary, form-parens}
use Rattle.enc_model.specs.Scope.{is_one_part, is_part}

-- a test of what elements are mapped to is a test of the elements
pub list_any-map : {X Y : Type 0} (test : Y → Bool) (f : X → Y) (xs : List X) → list_any test (map f xs) ≡ list_any (λ x. test (f x)) xs
list_any-map test f [] = refl
list_any-map test f (x ∷ xs) = ap (λ rest. test (f x) || rest) (list_any-map test f xs)

-- whatever comes first, a false part makes both false
and_false : (b : Bool) → (b && false) ≡ false
and_false true = refl
and_false false = refl

-- no statement unbinds a variable
length-bound_after : (names : List (List ℕ)) (layer : StmtLayer) → length names ≤ length (bound_after_layer names layer)
length-bound_after names (StmtForm-F.Let name source) = omega (arith, length-append names (name.word ∷ []))
length-bound_after names _ = omega arith

bound_after-let : (names : List (List ℕ)) (form : StmtForm) (name : Name) (source : Source) → form ≡ Let name source → length (bound_after names form) ≡ length names + 1
bound_after-let names form name source is =
    ap (λ layer. length (bound_after_layer names layer)) (ap out-StmtForm is ∙ outs-Let name source) ∙ length-append names (name.word ∷ [])

-- a body is not in the thin form once more than 254 variables are bound
pub is_body-too_many : (names : List (List ℕ)) (stmts : List Stmt) → 254 < length names → is_body names stmts ≡ false
is_body-too_many names [] more = grind (arith, nat_tests)
is_body-too_many names (stmt ∷ stmts) more =
    let longer = length-bound_after names (out-StmtForm stmt.form) in
    ap (λ rest. is_line names stmt.form && rest) (is_body-too_many (bound_after names stmt.form) stmts (omega arith)) ∙ and_false (is_line names stmt.form)

-- nor does it bind a variable more where 254 are bound
pub is_body-full : (names : List (List ℕ)) (stmts : List Stmt) (i : ℕ) (stmt : Stmt) (name : Name) (source : Source) → i < length stmts → stmt ≡ get_or stmts i stmt → stmt.form ≡ Let name source → length names ≡ 254 → is_body names (drop i stmts) ≡ false
is_body-full names stmts i stmt name source l first binds full =
    let rest = drop (i + 1) stmts in
    let more : 254 < length (bound_after names stmt.form) = omega (arith, full, bound_after-let names stmt.form name source binds) in
    at_drop_more (is_body names) stmts i stmt l
    ∙ ap (λ s. is_body names (s ∷ rest)) (sym first)
    ∙ ap (λ b. is_line names stmt.form && b) (is_body-too_many (bound_after names stmt.form) rest more)
    ∙ and_false (is_line names stmt.form)

-- ---- shapes

-- what a layer is to the thin form
abbrev pub shape_at : List (List ℕ) → Layer → Shape
shape_at names (ExprForm-F.Int value) = Part
shape_at names (ExprForm-F.Name word) = if is_among names word then Part else Other
shape_at names (ExprForm-F.Parens inside) = shape_of names inside
shape_at names (ExprForm-F.Binary operator left right) = between operator (shape_of names left) (shape_of names right)
shape_at names _ = Other

-- the shape of a layer from the shapes of what stands inside, as the fold has it
layered : (names : List (List ℕ)) (layer : Layer) → layer_shape names (map-ExprForm ExprForm Expr Shape Shape (fold-ExprForm Shape Shape (layer_shape names) (λ node. node.form)) (fold-Expr Shape Shape (layer_shape names) (λ node. node.form)) layer) ≡ shape_at names layer
unfolding shape_of
layered names (ExprForm-F.Int value) = refl
layered names (ExprForm-F.Name word) = refl
layered names (ExprForm-F.Parens inside) = refl
layered names (ExprForm-F.Binary operator left right) = refl
layered names _ = refl

pub shape-layer : (names : List (List ℕ)) (e : Expr) → shape_of names e ≡ shape_at names (out-ExprForm e.form)
unfolding shape_of
shape-layer names e =
    fold_out-Expr Shape Shape (layer_shape names) (λ node. node.form) e
    ∙ (fold_out-ExprForm Shape Shape (layer_shape names) (λ node. node.form) e.form
    ∙ layered names (out-ExprForm e.form))

shape-form : (names : List (List ℕ)) (e : Expr) (form : ExprForm) (layer : Layer) → e.form ≡ form → out-ExprForm form ≡ layer → shape_of names e ≡ shape_at names layer
shape-form names e form layer is out = shape-layer names e ∙ ap (shape_at names) (ap out-ExprForm is ∙ out)

pub part-int : (names : List (List ℕ)) (e : Expr) (z : ℤ) → e.form ≡ forms.Int z → is_part names e ≡ true
part-int names e z is = ap is_one_part (shape-form names e (forms.Int z) (ExprForm-F.Int z) is (outs-Int z))

one_part-if : (among : Bool) → is_one_part (if among then Part else Other) ≡ among
one_part-if true = refl
one_part-if false = refl

pub part-name : (names : List (List ℕ)) (e : Expr) (word : List ℕ) → e.form ≡ forms.Name word → is_part names e ≡ is_among names word
part-name names e word is = ap is_one_part (shape-form names e (forms.Name word) (ExprForm-F.Name word) is (outs-Name word)) ∙ one_part-if (is_among names word)

pub part-parens : (names : List (List ℕ)) (e inside : Expr) → e.form ≡ forms.Parens inside → is_part names e ≡ is_part names inside
part-parens names e inside is = ap is_one_part (shape-form names e (forms.Parens inside) (ExprForm-F.Parens inside) is (outs-Parens inside))

-- a sum is no part
one_part-between : (operator : Operator) (left right : Shape) → is_one_part (between operator left right) ≡ false
one_part-between operator Part Part = one_part-sum (is_arithmetic operator)
  where
    one_part-sum : (known : Bool) → is_one_part (if known then Sum else Other) ≡ false
    one_part-sum true = refl
    one_part-sum false = refl
one_part-between operator Part Sum = refl
one_part-between operator Part Other = refl
one_part-between operator Sum right = refl
one_part-between operator Other right = refl

part-layer : (names : List (List ℕ)) (form : ExprForm) (layer : Layer) → ((z : ℤ) → form ≡ forms.Int z → ⊥) → ((word : List ℕ) → form ≡ forms.Name word → ⊥) → ((inside : Expr) → form ≡ forms.Parens inside → ⊥) → out-ExprForm form ≡ layer → is_one_part (shape_at names layer) ≡ false
part-layer names form (ExprForm-F.Int z) i n p out = absurd (i z (form-int form z out))
part-layer names form (ExprForm-F.Name word) i n p out = absurd (n word (form-name form word out))
part-layer names form (ExprForm-F.Parens inside) i n p out = absurd (p inside (form-parens form inside out))
part-layer names form (ExprForm-F.Binary operator left right) i n p out = one_part-between operator (shape_of names left) (shape_of names right)
part-layer names form _ i n p out = refl

pub part-other : (names : List (List ℕ)) (e : Expr) → ((z : ℤ) → e.form ≡ forms.Int z → ⊥) → ((word : List ℕ) → e.form ≡ forms.Name word → ⊥) → ((inside : Expr) → e.form ≡ forms.Parens inside → ⊥) → is_part names e ≡ false
part-other names e i n p = ap is_one_part (shape-layer names e) ∙ part-layer names e.form (out-ExprForm e.form) i n p refl

pub sum-parens : (names : List (List ℕ)) (e inside : Expr) → e.form ≡ forms.Parens inside → is_sum names e ≡ is_sum names inside
sum-parens names e inside is = ap is_number (shape-form names e (forms.Parens inside) (ExprForm-F.Parens inside) is (outs-Parens inside))

number-between : (operator : Operator) (left right : Shape) → is_arithmetic operator ≡ true → is_number (between operator left right) ≡ (is_one_part left && is_one_part right)
number-between operator Part Part known = rw known refl
number-between operator Part Sum known = refl
number-between operator Part Other known = refl
number-between operator Sum right known = refl
number-between operator Other right known = refl

not_number-between : (operator : Operator) (left right : Shape) → is_arithmetic operator ≡ false → is_number (between operator left right) ≡ false
not_number-between operator Part Part known = rw known refl
not_number-between operator Part Sum known = refl
not_number-between operator Part Other known = refl
not_number-between operator Sum right known = refl
not_number-between operator Other right known = refl

shape-binary : (names : List (List ℕ)) (e : Expr) (operator : Operator) (left right : Expr) → e.form ≡ forms.Binary operator left right → shape_of names e ≡ between operator (shape_of names left) (shape_of names right)
shape-binary names e operator left right is = shape-form names e (forms.Binary operator left right) (ExprForm-F.Binary operator left right) is (outs-Binary operator left right)

pub sum-binary : (names : List (List ℕ)) (e : Expr) (operator : Operator) (left right : Expr) → e.form ≡ forms.Binary operator left right → is_arithmetic operator ≡ true → is_sum names e ≡ (is_part names left && is_part names right)
sum-binary names e operator left right is known = ap is_number (shape-binary names e operator left right is) ∙ number-between operator (shape_of names left) (shape_of names right) known

-- the operator is none of the thin form
pub sum-not_arithmetic : (names : List (List ℕ)) (e : Expr) (operator : Operator) (left right : Expr) → e.form ≡ forms.Binary operator left right → is_arithmetic operator ≡ false → is_sum names e ≡ false
sum-not_arithmetic names e operator left right is known = ap is_number (shape-binary names e operator left right is) ∙ not_number-between operator (shape_of names left) (shape_of names right) known

number-part : (among : Bool) → is_number (if among then Part else Other) ≡ is_one_part (if among then Part else Other)
number-part true = refl
number-part false = refl

sum-layer : (names : List (List ℕ)) (form : ExprForm) (layer : Layer) → ((inside : Expr) → form ≡ forms.Parens inside → ⊥) → ((operator : Operator) (left right : Expr) → form ≡ forms.Binary operator left right → ⊥) → out-ExprForm form ≡ layer → is_number (shape_at names layer) ≡ is_one_part (shape_at names layer)
sum-layer names form (ExprForm-F.Name word) p b out = number-part (is_among names word)
sum-layer names form (ExprForm-F.Parens inside) p b out = absurd (p inside (form-parens form inside out))
sum-layer names form (ExprForm-F.Binary operator left right) p b out = absurd (b operator left right (form-binary form operator left right out))
sum-layer names form _ p b out = refl

pub sum-other : (names : List (List ℕ)) (e : Expr) → ((inside : Expr) → e.form ≡ forms.Parens inside → ⊥) → ((operator : Operator) (left right : Expr) → e.form ≡ forms.Binary operator left right → ⊥) → is_sum names e ≡ is_part names e
sum-other names e p b =
    ap is_number (shape-layer names e) ∙ (sum-layer names e.form (out-ExprForm e.form) p b refl ∙ sym (ap is_one_part (shape-layer names e)))

text-layer : (form : ExprForm) (layer : Layer) → ((bytes : List ℕ) → form ≡ forms.Text bytes → ⊥) → out-ExprForm form ≡ layer → is_text_layer layer ≡ false
text-layer form (ExprForm-F.Text bytes) t out = absurd (t bytes (form-text form bytes out))
text-layer form _ t out = refl

pub item-text : (names : List (List ℕ)) (e : Expr) (bytes : List ℕ) → e.form ≡ forms.Text bytes → is_item names e ≡ true
item-text names e bytes is = ap (λ layer. is_text_layer layer || is_sum names e) (ap out-ExprForm is ∙ outs-Text bytes)

pub item-other : (names : List (List ℕ)) (e : Expr) → ((bytes : List ℕ) → e.form ≡ forms.Text bytes → ⊥) → is_item names e ≡ is_sum names e
item-other names e t = ap (λ b. b || is_sum names e) (text-layer e.form (out-ExprForm e.form) t refl)

-- ---- items

-- one that can't be printed is enough
pub some_items-refused : (names : List (List ℕ)) (items : List Expr) (i : ℕ) (item : Expr) → i < length items → item ≡ get_or items i item → is_item names item ≡ false → is_some_items names items ≡ false
some_items-refused names [] i item l at fails = refl
some_items-refused names (first ∷ rest) i item l at fails = list_all_at (is_item names) (first ∷ rest) i item l (sym (ap (is_item names) at) ∙ fails)

pub ruleset shapes = (part-int, part-name, part-parens, part-other, sum-parens, sum-binary, sum-not_arithmetic, sum-other, item-text, item-other)
