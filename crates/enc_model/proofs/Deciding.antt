-- What a statement of the thin form asks for.
use Rattle.std.proofs.Common.{◌≡◌, ℕ, true, List, [], ◌∷◌, ◌++◌, refl}
use Rattle.std.specs.List.{list_all}
use Rattle.enc_ast.specs.declared.Span.{Span}
use Rattle.enc_ast.specs.declared.Expr.{Expr}
use Rattle.enc_ast.specs.declared.stmts.StmtForm.{StmtForm, out-StmtForm}
use Rattle.enc_ast.specs.declared.StmtForm.TheOpen.{StmtForm-F}
use Rattle.enc_ast.specs.declared.SourceForm.{SourceForm}
use Rattle.enc_ast.specs.declared.SourceForm.TheVariants as sources
use Rattle.enc_ast.specs.Thin.{is_free, is_sum_source, is_item, is_some_items, StmtLayer, is_line_layer, is_line, bound_after_layer, bound_after}
use Rattle.enc_model.specs.declared.values.Value.TheVariants as values
use Rattle.enc_model.specs.declared.moves.Got.{Got}
use Rattle.enc_model.specs.declared.moves.Got.TheVariants.{Gives, Traps, Nothing}
use Rattle.enc_model.specs.declared.moves.Move.{Move}
use Rattle.enc_model.specs.declared.moves.Move.TheVariants.{Bind, Say, Leave, Fault, Lost}
use Rattle.enc_model.specs.Eval.{Local, eval}
use Rattle.enc_model.specs.Step.{bound, says, decide_source, decide_items, decide_layer, decide_form}
use Rattle.enc_model.proofs.Evaluation.{both, IsInt, HaveInts, names_of, IsSumGot, IsItemGot, eval-sum, eval-item}

-- where these names are bound, what is asked for leaves those bound
abbrev pub Asks : List (List ℕ) → List (List ℕ) → Move → Type 0
Asks names after (Bind name value) = IsInt value × (after ≡ names ++ name ∷ [])
Asks names after (Say line) = after ≡ names
Asks names after Leave = ⊥
Asks names after (Fault kind span) = Unit {0}
Asks names after Lost = ⊥

asks-bound : (names : List (List ℕ)) (span : Span) (name : List ℕ) (got : Got) → IsSumGot got → Asks names (names ++ name ∷ []) (bound span name got)
asks-bound names span name (Gives value) h = (h, refl)
asks-bound names span name (Traps kind) h = tt
asks-bound names span name Nothing h = absurd h

asks-source : (locals : List Local) (span : Span) (name : List ℕ) (source : SourceForm) → HaveInts locals → is_sum_source (names_of locals) source ≡ true → Asks (names_of locals) (names_of locals ++ name ∷ []) (decide_source span locals name source)
asks-source locals span name (sources.Expr expr) h e = asks-bound (names_of locals) span name (eval expr locals) (eval-sum expr locals h e)
asks-source locals span name _ h e = absurd (cc)

asks-says : (names : List (List ℕ)) (span : Span) (rest : List ℕ → Move) (line : List ℕ) (got : Got) → IsItemGot got → ((more : List ℕ) → Asks names names (rest more)) → Asks names names (says span rest line got)
asks-says names span rest line (Gives (values.Int z)) h r = r _
asks-says names span rest line (Gives (values.Text bytes)) h r = r _
asks-says names span rest line (Gives values.Unit) h r = absurd h
asks-says names span rest line (Traps kind) h r = tt
asks-says names span rest line Nothing h r = absurd h

asks-items : (locals : List Local) (span : Span) (items : List Expr) (line : List ℕ) → HaveInts locals → list_all (is_item (names_of locals)) items ≡ true → Asks (names_of locals) (names_of locals) (decide_items span locals items line)
asks-items locals span [] line h e = refl
asks-items locals span (item ∷ items) line h e =
    let parts = both (is_item (names_of locals) item) (list_all (is_item (names_of locals)) items) e in
    asks-says (names_of locals) span (decide_items span locals items) line (eval item locals) (eval-item item locals h parts.0) (λ more. asks-items locals span items more h parts.1)

asks-print : (locals : List Local) (span : Span) (items : List Expr) → HaveInts locals → is_some_items (names_of locals) items ≡ true → Asks (names_of locals) (names_of locals) (decide_items span locals items [])
asks-print locals span [] h e = absurd (cc)
asks-print locals span (item ∷ items) h e = asks-items locals span (item ∷ items) [] h e

asks-layer : (locals : List Local) (span : Span) (layer : StmtLayer) → HaveInts locals → is_line_layer (names_of locals) layer ≡ true → Asks (names_of locals) (bound_after_layer (names_of locals) layer) (decide_layer span locals layer)
asks-layer locals span (StmtForm-F.Let name source) h e =
    asks-source locals span name.word source.form h (both (is_free (names_of locals) name.word) (is_sum_source (names_of locals) source.form) e).1
asks-layer locals span (StmtForm-F.Print items) h e = asks-print locals span items h e
asks-layer locals span _ h e = absurd (cc)

pub asks-line : (locals : List Local) (span : Span) (form : StmtForm) → HaveInts locals → is_line (names_of locals) form ≡ true → Asks (names_of locals) (bound_after (names_of locals) form) (decide_form span locals form)
asks-line locals span form h e = asks-layer locals span (out-StmtForm form) h e
