-- The statements that a text spells are within the limits.
use Rattle.std.proofs.Common.{◌≡◌, ℕ, suc, ◌+◌, Bool, true, false, ◌&&◌, List, [], ◌∷◌, Some, None, refl, sym, ap, ◌∙◌, subst, arith}
use Rattle.enc_ast.specs.declared.rules.Span.{Span}
use Rattle.enc_ast.specs.declared.Stmt.{Stmt}
use Rattle.enc_ast.specs.declared.StmtForm.{StmtForm, out-StmtForm}
use Rattle.enc_ast.specs.declared.StmtForm.TheVariants as st
use Rattle.enc_ast.specs.declared.StmtForm.TheOpen.{StmtForm-F}
use Rattle.enc_ast.specs.declared.StmtForm.TheFolds.{map-StmtForm, fold-StmtForm, fold_out-StmtForm, fold_out-Stmt}
use Rattle.enc_cursor.specs.Counts.{Counts, leave}
use Rattle.enc_cursor.specs.Place.{Place}
use Rattle.enc_stmts.specs.Stmts.{stmt_of, left, IsStmt, IsBlock, IsStmts}
use Rattle.enc_stmts.specs.Stmts as gr
use Rattle.enc_limits.specs.Stmts.{Extent, all_fit, block_fits, stmt_form, stmt_node, extent, extents}
use Rattle.enc_within.proofs.Leads.{IsWithin, Leads, here, then, before, said, reaches, closed}
use Rattle.enc_within.proofs.Tokens.{token, opening}
use Rattle.enc_within.proofs.Names.{word_is, variable_is}
use Rattle.enc_within.proofs.Types.{counts, cap_is}
use Rattle.enc_within.proofs.Exprs.{whole_is, wholes_are, arguments_are}
use Rattle.enc_within.proofs.Sources.{receiver_is, source_is}

-- ---- layers of statements

-- a level of a statement, with the extents of its parts
abbrev parts : StmtForm-F StmtForm Stmt → StmtForm-F Extent Extent
parts l = map-StmtForm StmtForm Stmt Extent Extent (fold-StmtForm Extent Extent stmt_form stmt_node) extent l

-- a statement's extent is that of its outer level
extent_layer : (f : StmtForm) (v : Span) (l : StmtForm-F StmtForm Stmt) → out-StmtForm f ≡ l → stmt_form (parts l) ≡ extent (record { form = f; span = v })
unfolding extent
extent_layer f v l is = sym (fold_out-Stmt Extent Extent stmt_form stmt_node (record { form = f; span = v }) ∙ (fold_out-StmtForm Extent Extent stmt_form stmt_node f ∙ ap (λ z. stmt_form (parts z)) is))

-- ---- extents

-- Whatever variables are visible before, the stretch makes as many more visible as the extent has, and the extent fits.
pub record Shows (text : List ℕ) (m n : ℕ) (x : Extent) (a b : Place) : Type 0 where
  pub shows : (i : ℕ) → Leads text (counts i 0 m 0) (counts (i + x.variables) 0 m 0) (x.fits n i) a b

module _ {text : List ℕ} {m n : ℕ} {a b : Place} where
  -- k variables more
  shown : {fits : ℕ → ℕ → Bool} (k : ℕ) (after : ℕ → ℕ) → ((i : ℕ) → after i ≡ i + k) → ((i : ℕ) → Leads text (counts i 0 m 0) (counts (after i) 0 m 0) (fits n i) a b) → Shows text m n (record { variables = k; fits = fits }) a b
  shown k after is s = record { shows = λ i. reaches (λ z. counts z 0 m 0) (is i) (s i) }

  -- no variable more
  still : {fits : ℕ → ℕ → Bool} → ((i : ℕ) → Leads text (counts i 0 m 0) (counts i 0 m 0) (fits n i) a b) → Shows text m n (record { variables = 0; fits = fits }) a b
  still s = shown 0 (λ i. i) (λ i. omega arith) s

  -- a statement of this outer level
  formed : (f : StmtForm) {l : StmtForm-F StmtForm Stmt} → out-StmtForm f ≡ l → Shows text m n (stmt_form (parts l)) a b → Shows text m n (extent (stmt_of f a b)) a b
  formed f {l} is s = subst (λ z. Shows text m n z a b) (extent_layer f _ l is) s

-- how many variables some statements make visible
abbrev visible : List Extent → ℕ
visible [] = 0
visible (x ∷ xs) = x.variables + visible xs

-- three tests in a row
in_row : (p q r : Bool) → ((p && q) && r) ≡ (p && (q && r))
in_row true q r = refl
in_row false q r = refl

-- the variables of a stretch are visible no longer
pub fewer : {c d : Counts} → IsWithin c → IsWithin d → IsWithin (leave c d)
fewer v w = record { variables = v.variables; operators = w.operators; names = w.names; groups = w.groups; traits = w.traits }

-- two stretches, behind which the variables of the first are visible no longer, and another
scoped : {text : List ℕ} {c d e f : Counts} {p q r : Bool} {a b y z w : Place} → Leads text c d p a b → Leads text d e q b y → z ≡ left a y → Leads text (leave c e) f r z w → Leads text c f (p && (q && r)) a w
scoped {p = p} {q} {r} s t is u = said (p && (q && r)) (in_row p q r) (then (closed leave fewer (then s t) is) u)

module _ {text : List ℕ} {m : ℕ} where
  mutual
    pub stmt_is : {n : ℕ} {x : Stmt} {a b : Place} → IsStmt text n x a b → Shows text m n (extent x) a b
    stmt_is (gr.let_ s t u v z) = formed _ (st.outs-Let _ _) (shown 1 suc (λ i. omega arith) (λ i. then (token s) (then (variable_is t) (then (token u) (before (source_is v) (token z))))))
    stmt_is (gr.assign s t u v) = formed _ (st.outs-Assign _ _) (still (λ i. then (word_is s) (then (token t) (before (whole_is u) (token v)))))
    stmt_is (gr.store s t u v z o) = formed _ (st.outs-Store _ _ _) (still (λ i. then (token s) (then (token t) (then (word_is u) (then (token v) (before (whole_is z) (token o)))))))
    stmt_is (gr.call s t u v z) = formed _ (st.outs-Call _ _ _) (still (λ i. then (receiver_is s) (then (token t) (then (word_is u) (before (arguments_are v) (token z))))))
    stmt_is (gr.send s t u v z) = formed _ (st.outs-Send _ _ _) (still (λ i. then (receiver_is s) (then (token t) (then (word_is u) (before (arguments_are v) (token z))))))
    stmt_is (gr.if_ s t u) = formed _ (st.outs-If _ _ None) (still (λ i. then (token s) (then (whole_is t) (then (block_is u i) here))))
    stmt_is (gr.if_else {ys = ys} s t u v z) = formed _ (st.outs-If _ _ (Some ys)) (still (λ i. then (token s) (then (whole_is t) (then (block_is u i) (then (token v) (block_is z i))))))
    stmt_is (gr.while_ s t u) = formed _ (st.outs-While _ _) (still (λ i. then (token s) (then (whole_is t) (block_is u i))))
    stmt_is (gr.atomic s t u) = formed _ (st.outs-Atomic _ _) (still (λ i. then (token s) (then (whole_is t) (block_is u i))))
    stmt_is (gr.split {n = n} {t = t} {u} s w p v q c r z o d j) =
        formed _ (st.outs-Split _ _ _ _ _) (shown 2 (λ i. suc (suc i)) (λ i. omega arith) (λ i.
        then (token s) (then (word_is w) (then (token p) (then (variable_is v) (then (token q) (then (cap_is n t _ _ c)
        (then (token r) (then (variable_is z) (then (token o) (before (cap_is n u _ _ d) (token j))))))))))))
    stmt_is (gr.pack s x p y q z u e o v) =
        formed _ (st.outs-Pack _ _ _ _ _) (still (λ i.
        then (token s) (then (word_is x) (then (token p) (then (word_is y) (then (token q)
        (scoped (variable_is z) (block_is u (suc i)) e (then (token o) (block_is v i)))))))))
    stmt_is (gr.choose s x p t q y j) = formed _ (st.outs-Choose _ _ _) (shown 1 suc (λ i. omega arith) (λ i. then (token s) (then (word_is x) (then (token p) (then (word_is t) (then (token q) (before (variable_is y) (token j))))))))
    stmt_is (gr.return s t u) = formed _ (st.outs-Return _) (still (λ i. then (token s) (before (whole_is t) (token u))))
    stmt_is (gr.print {n = n} {xs} c s t u) = formed _ (st.outs-Print _) (still (λ i. then (token s) (before (wholes_are n xs t) (token u))))
    stmt_is (gr.suspend s t) = formed _ st.outs-Suspend (still (λ i. then (token s) (token t)))

    pub block_is : {n : ℕ} {xs : List Stmt} {a b : Place} → IsBlock text n xs a b → (i : ℕ) → Leads text (counts i 0 m 0) (counts i 0 m 0) (block_fits n i (extents xs)) a b
    block_is (gr.block {n = n} s t u e) i = closed leave fewer (then (opening n s) (before (stmts_are t i) (token u))) e

    stmts_are : {n : ℕ} {xs : List Stmt} {a b : Place} → IsStmts text n xs a b → (i : ℕ) → Leads text (counts i 0 m 0) (counts (i + visible (extents xs)) 0 m 0) (all_fit n i (extents xs)) a b
    stmts_are gr.none i = reaches (λ z. counts z 0 m 0) (omega arith) here
    stmts_are (gr.more {x = x} s t) i = reaches (λ z. counts z 0 m 0) (omega arith) (then ((stmt_is s).shows i) (stmts_are t (i + (extent x).variables)))
