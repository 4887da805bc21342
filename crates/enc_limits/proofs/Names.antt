-- The names of variables within the limits.
use Rattle.std.proofs.Common.{◌≡◌, ℕ, suc, Bool, true, false, not, List, length, refl, ap, ◌∙◌, subst, nat_le, IsTrue}
use Rattle.std.proofs.lemmas.Bool.{and_parts}
use Rattle.enc_ast.specs.Keywords.{is_keyword}
use Rattle.enc_ast.specs.declared.rules.Span.{Span}
use Rattle.enc_ast.specs.declared.decls.Name.{Name}
use Rattle.enc_ast.specs.declared.decls.Param.{Param}
use Rattle.enc_ast.specs.declared.TypeText.{TypeText}
use Rattle.enc_ast.specs.declared.Expr.{Expr}
use Rattle.enc_ast.specs.declared.Stmt.{Stmt}
use Rattle.enc_ast.specs.declared.StmtForm.{StmtForm, out-StmtForm}
use Rattle.enc_ast.specs.declared.StmtForm.TheVariants as st
use Rattle.enc_ast.specs.declared.StmtForm.TheOpen.{StmtForm-F}
use Rattle.enc_ast.specs.declared.StmtForm.TheFolds.{map-StmtForm, fold-StmtForm, fold_out-StmtForm, fold_out-Stmt}
use Rattle.enc_ast.specs.declared.sources.Source.{Source}
use Rattle.enc_limits.specs.Numbers.{max_letters, max_variables, name_fits}
use Rattle.enc_limits.specs.Types.{type_fits}
use Rattle.enc_limits.specs.Stmts.{Extent, variable_fits, stmt_form, stmt_node, extent}
use Rattle.enc_limits.specs.Names.{IsFree, Fits}
use Rattle.enc_limits.specs.Programs.{param_fits}

-- a level of a statement, with the extents of its parts
abbrev parts : StmtForm-F StmtForm Stmt → StmtForm-F Extent Extent
parts l = map-StmtForm StmtForm Stmt Extent Extent (fold-StmtForm Extent Extent stmt_form stmt_node) extent l

-- a statement's extent is that of its outer level
extent_layer : (f : StmtForm) (v : Span) (l : StmtForm-F StmtForm Stmt) → out-StmtForm f ≡ l → extent (record { form = f; span = v }) ≡ stmt_form (parts l)
unfolding extent
extent_layer f v l is = fold_out-Stmt Extent Extent stmt_form stmt_node (record { form = f; span = v }) ∙ (fold_out-StmtForm Extent Extent stmt_form stmt_node f ∙ ap (λ z. stmt_form (parts z)) is)

-- what isn't so
not_gives : (b : Bool) → not b ≡ true → b ≡ false
not_gives true h = absurd cc
not_gives false h = refl

-- a name is no word of the language
no_word : (x : Name) → IsTrue (name_fits x) → IsFree x
no_word x h = not_gives (is_keyword x.word) (and_parts (nat_le (length x.word) max_letters) (not (is_keyword x.word)) h).1

-- a variable that a statement makes visible
new : (v : ℕ) (x : Name) → variable_fits v x ≡ true → IsFree x
new v x h = no_word x (and_parts (name_fits x) (nat_le v max_variables) h).0

-- a statement fits where its outer level does
level : (f : StmtForm) {l : StmtForm-F StmtForm Stmt} (v : Span) (i j : ℕ) → out-StmtForm f ≡ l → Fits f v i j → IsTrue ((stmt_form (parts l)).fits i j)
level f {l} v i j is h = subst (λ (a : Extent). IsTrue (a.fits i j)) (extent_layer f v l is) h

pub assigned : (x : Name) (y : Expr) (v : Span) (i j : ℕ) → Fits (st.Assign x y) v i j → IsFree x
assigned x y v i j h = no_word x (and_parts _ _ (level _ v i j (st.outs-Assign x y) h)).0

pub bound : (x : Name) (s : Source) (v : Span) (i j : ℕ) → Fits (st.Let x s) v i j → IsFree x
bound x s v i j h = new (suc j) x (and_parts _ _ (level _ v i j (st.outs-Let x s) h)).0

pub split : (x y z : Name) (t u : TypeText) (v : Span) (i j : ℕ) → Fits (st.Split x y t z u) v i j → IsFree x × (IsFree y × IsFree z)
split x y z t u v i j h =
    let a = and_parts _ _ (level _ v i j (st.outs-Split x y t z u) h) in
    let b = and_parts _ _ a.1 in
    let c = and_parts _ _ (and_parts _ _ b.1).1 in
    (no_word x a.0, (new (suc j) y b.0, new (suc (suc j)) z c.0))

pub packed : (x y z : Name) (as_ bs : List Stmt) (v : Span) (i j : ℕ) → Fits (st.Pack x y z as_ bs) v i j → IsFree x × (IsFree y × IsFree z)
packed x y z as_ bs v i j h =
    let a = and_parts _ _ (level _ v i j (st.outs-Pack x y z as_ bs) h) in
    let b = and_parts _ _ a.1 in
    let c = and_parts _ _ b.1 in
    (no_word x a.0, (no_word y b.0, new (suc j) z c.0))

pub chosen : (x y z : Name) (v : Span) (i j : ℕ) → Fits (st.Choose x y z) v i j → IsFree x × IsFree z
chosen x y z v i j h =
    let a = and_parts _ _ (level _ v i j (st.outs-Choose x y z) h) in
    let b = and_parts _ _ a.1 in
    (no_word x a.0, new (suc j) z b.1)

pub parameter : (x : Param) (i : ℕ) → IsTrue (param_fits i x) → IsFree x.name
parameter x i h = no_word x.name (and_parts (name_fits x.name) (type_fits x.ty i) h).0
