-- The programs of the thin form are well typed.
use Rattle.std.proofs.Common.{◌≡◌, ◌∙◌, ℕ, true, false, ◌&&◌, ◌||◌, List, [], ◌∷◌, Some, codes, refl, sym, ap, subst, arith}
use Rattle.std.specs.List.{AllByRecursion}
use Rattle.std.specs.Str.{bytes_eq}
use Rattle.std.proofs.lemmas.Slice.Eq.{bytes_eq-Decides}
use Rattle.enc_ast.specs.declared.rules.Rule.TheVariants as rule
use Rattle.enc_ast.specs.declared.rules.Span.{Span}
use Rattle.enc_ast.specs.declared.decls.Program.{Program}
use Rattle.enc_ast.specs.declared.decls.Decl.{Decl}
use Rattle.enc_ast.specs.declared.decls.Decl.TheVariants.{Active}
use Rattle.enc_ast.specs.declared.decls.ActiveDecl.{ActiveDecl}
use Rattle.enc_ast.specs.declared.decls.Field.{Field}
use Rattle.enc_ast.specs.declared.decls.Method.{Method}
use Rattle.enc_ast.specs.declared.decls.Param.{Param}
use Rattle.enc_ast.specs.declared.TypeText.{TypeText}
use Rattle.enc_ast.specs.declared.TypeForm.{TypeForm, out-TypeForm}
use Rattle.enc_ast.specs.declared.TypeForm.TheOpen.{TypeForm-F}
use Rattle.enc_ast.specs.declared.TypeForm.TheFolds.{map-TypeForm, fold-TypeForm, fold_out-TypeForm, fold_out-TypeText}
use Rattle.enc_ast.specs.Thin as thin
use Rattle.enc_ast.specs.Thin.{TypeLayer, is_int, is_int_layer, is_int_list, is_int_list_layer, is_unit, is_unit_layer, is_args, is_empty, is_body, is_thin}
use Rattle.enc_modes.specs.declared.ty.Ty.{Ty}
use Rattle.enc_modes.specs.declared.ty.Ty.TheVariants as ty
use Rattle.enc_modes.specs.Modes.{is_shareable}
use Rattle.enc_modes.specs.Equality.{same}
use Rattle.enc_premises.specs.Premises.{each, each_after}
use Rattle.enc_premises.specs.First.{AllHold, nothing, one, join}
use Rattle.enc_types.specs.Words.{some}
use Rattle.enc_types.specs.Names.{Names, names_of}
use Rattle.enc_types.specs.Written.{Written, written, write_form, write_node, type_premises}
use Rattle.enc_types.specs.Bodies.{body_types}
use Rattle.enc_decls.specs.Rules.{method_premises, member_premises, decl_premises, is_main, is_main_class, table_premises, HasTables}
use Rattle.enc_names.specs.Members.{Tables, tables_of, type_or_unit}
use Rattle.enc_exprs.proofs.Same.{same_self}
use Rattle.enc_rules.specs.Context.{this_type}
use Rattle.enc_rules.specs.Stmts.{acts, last_returns}
use Rattle.enc_rules.specs.Programs.{param_var, start, context_of}
use Rattle.enc_rules.specs.Typing.{TypesAll}
use Rattle.enc_rules.specs.WellTyped.{IsRoutine, AllHaveBodies, WellTyped}
use Rattle.enc_thin.proofs.Variables.{both}
use Rattle.enc_thin.proofs.Statements.{body_fine}

-- ---- written types

-- It stands for the type, and may be written.
abbrev Stands : Written → Ty → Type 0
Stands w type = (w.ty ≡ Some type) × AllHold w.premises

-- a level of a type, with what its parts stand for
abbrev parts : Names → TypeLayer → TypeForm-F (Span → Written) Written
parts names l = map-TypeForm TypeForm TypeText (Span → Written) Written (fold-TypeForm (Span → Written) Written (write_form names) write_node) (written names) l

-- a written type by its outer level
written_layer : (names : Names) (x : TypeText) → written names x ≡ write_form names (parts names (out-TypeForm x.form)) x.span
unfolding written
written_layer names x = fold_out-TypeText (Span → Written) Written (write_form names) write_node x ∙ ap (λ z. z x.span) (fold_out-TypeForm (Span → Written) Written (write_form names) write_node x.form)

-- what its outer level stands for
stands_at : (names : Names) (x : TypeText) (type : Ty) → Stands (write_form names (parts names (out-TypeForm x.form)) x.span) type → Stands (written names x) type
stands_at names x type h = subst (λ w. Stands w type) (sym (written_layer names x)) h

-- several actors may hold an integer
int_shareable : is_shareable ty.Int ≡ true
unfolding is_shareable
int_shareable = rw ty.outs-Int refl

-- the type of integers
int_stands : (names : Names) (x : TypeText) → is_int x ≡ true → Stands (written names x) ty.Int
int_stands names x h = stands_at names x ty.Int (go (out-TypeForm x.form) h)
  where
    go : (l : TypeLayer) → is_int_layer l ≡ true → Stands (write_form names (parts names l) x.span) ty.Int
    go TypeForm-F.Int h = (refl, nothing)
    go _ h = absurd (grind arith)

-- the type of no result
unit_stands : (names : Names) (x : TypeText) → is_unit x ≡ true → Stands (written names x) ty.Unit
unit_stands names x h = stands_at names x ty.Unit (go (out-TypeForm x.form) h)
  where
    go : (l : TypeLayer) → is_unit_layer l ≡ true → Stands (write_form names (parts names l) x.span) ty.Unit
    go TypeForm-F.Unit h = (refl, nothing)
    go _ h = absurd (grind arith)

-- the type of lists of integers
list_stands : (names : Names) (x : TypeText) → is_int_list x ≡ true → Stands (written names x) (ty.List ty.Int)
list_stands names x h = stands_at names x (ty.List ty.Int) (go (out-TypeForm x.form) h)
  where
    go : (l : TypeLayer) → is_int_list_layer l ≡ true → Stands (write_form names (parts names l) x.span) (ty.List ty.Int)
    go (TypeForm-F.List item) h =
        let p = int_stands names item h in
        (rw (p.0, int_shareable) refl, join p.1 (one (rw (p.0, int_shareable) refl)))
    go _ h = absurd (grind arith)

-- ---- what a program of the thin form is made of

-- The method `main`, with its one parameter.
record Starts (m : Method) : Type 0 where
  param : Param
  named : bytes_eq m.name.word (codes "main") ≡ true
  params : m.params ≡ param ∷ []
  word : param.name.word ≡ codes "args"
  ints : is_int_list param.ty ≡ true
  unit : is_unit m.result ≡ true
  body : is_body [] m.body ≡ true

-- The class `Main`, with its one method.
record Holds (ds : List Decl) : Type 0 where
  owner : ActiveDecl
  method : Method
  decls : ds ≡ Active owner ∷ []
  named : bytes_eq owner.name.word (codes "Main") ≡ true
  fields : owner.fields ≡ []
  methods : owner.methods ≡ method ∷ []
  starts : Starts method

-- a method that is one of the thin form
starts_of : (m : Method) → (bytes_eq m.name.word (codes "main") && is_args m.params && is_unit m.result && is_body [] m.body) ≡ true → Starts m
starts_of m h =
    let a = both (bytes_eq m.name.word (codes "main") && is_args m.params && is_unit m.result) (is_body [] m.body) h in
    let b = both (bytes_eq m.name.word (codes "main") && is_args m.params) (is_unit m.result) a.0 in
    let c = both (bytes_eq m.name.word (codes "main")) (is_args m.params) b.0 in
    go m.params refl c.1 c.0 b.1 a.1
  where
    go : (ps : List Param) → m.params ≡ ps → is_args ps ≡ true → bytes_eq m.name.word (codes "main") ≡ true → is_unit m.result ≡ true → is_body [] m.body ≡ true → Starts m
    go [] e h n u b = absurd (grind arith)
    go (p ∷ []) e h n u b =
        let d = both (bytes_eq p.name.word (codes "args")) (is_int_list p.ty) h in
        record { param = p; named = n; params = e; word = (bytes_eq-Decides p.name.word (codes "args")).0 d.0; ints = d.1; unit = u; body = b }
    go (p ∷ q ∷ ps) e h n u b = absurd (grind arith)

-- a class that is one of the thin form
holds_class : (ds : List Decl) (d : ActiveDecl) → ds ≡ Active d ∷ [] → (fs : List Field) (ms : List Method) → d.fields ≡ fs → d.methods ≡ ms → bytes_eq d.name.word (codes "Main") ≡ true → is_empty fs ≡ true → thin.is_main ms ≡ true → Holds ds
holds_class ds d e [] [] f g n i h = absurd (grind arith)
holds_class ds d e [] (m ∷ []) f g n i h = record { owner = d; method = m; decls = e; named = n; fields = f; methods = g; starts = starts_of m h }
holds_class ds d e [] (m ∷ k ∷ ms) f g n i h = absurd (grind arith)
holds_class ds d e (x ∷ fs) ms f g n i h = absurd (grind arith)

-- declarations that are those of the thin form
holds_of : (ds : List Decl) → thin.is_main_class ds ≡ true → Holds ds
holds_of (Active d ∷ []) h =
    let a = both (bytes_eq d.name.word (codes "Main") && is_empty d.fields) (thin.is_main d.methods) h in
    let b = both (bytes_eq d.name.word (codes "Main")) (is_empty d.fields) a.0 in
    holds_class (Active d ∷ []) d refl d.fields d.methods refl refl b.0 b.1 a.1
holds_of _ h = absurd (grind arith)

-- ---- bodies

-- the body of `main`, and the types that it writes
main_body : (t : Tables) (k : ℕ) (m : Method) → Starts m → IsRoutine t (Some k) m × AllHold (body_types t.names m.body)
main_body t k m s =
    let p = body_fine (context_of t (Some k) m) (record { word = codes "this"; ty = this_type t.names k; moved = false }) (param_var t.names s.param) refl refl s.word [] m.body s.body in
    let typed : TypesAll (context_of t (Some k) m) (start t.names (Some k) m.params) m.body p.0 = subst (λ ps. TypesAll (context_of t (Some k) m) (start t.names (Some k) ps) m.body p.0) (sym s.params) p.1 in
    let unit : type_or_unit t.names m.result ≡ ty.Unit = rw (unit_stands t.names m.result s.unit).0 refl in
    let returns : (same (type_or_unit t.names m.result) ty.Unit || last_returns (acts m.body)) ≡ true = rw (unit, same_self ty.Unit) refl in
    (record { last = p.0; body = typed; s-return = returns }, p.2)

-- all bodies
bodies_fine : (ds : List Decl) → Holds ds → AllHaveBodies (tables_of ds) 0 ds
bodies_fine ds h =
    let p = main_body (tables_of ds) 0 h.method h.starts in
    let methods : AllByRecursion (IsRoutine (tables_of ds) (Some 0)) h.owner.methods = subst (AllByRecursion (IsRoutine (tables_of ds) (Some 0))) (sym h.methods) (p.0, tt) in
    subst (AllHaveBodies (tables_of ds) 0) (sym h.decls) (methods, tt)

-- ---- declarations

-- the types that `main` writes
types_fine : (names : Names) (m : Method) → Starts m → AllHold (each (λ p. type_premises names p.ty) m.params)
types_fine names m s = subst (λ ps. AllHold (each (λ (p : Param). type_premises names p.ty) ps)) (sym s.params) (join (list_stands names s.param.ty s.ints).1 nothing)

-- `main` keeps all rules
method_fine : (t : Tables) (m : Method) → Starts m → AllHold (method_premises t.names rule.KActive [] m)
method_fine t m s = join (join (types_fine t.names m s) (join (unit_stands t.names m.result s.unit).1 (main_body t 0 m s).1)) (join (one refl) (one (rw s.params refl)))

-- it is the method that starts
starts_fine : (names : Names) (m : Method) → Starts m → is_main names m ≡ true
starts_fine names m s = rw (s.named, s.params, (list_stands names s.param.ty s.ints).0, (unit_stands names m.result s.unit).0, same_self (ty.List ty.Int), same_self ty.Unit) refl

-- the members of `Main`
members_fine : (t : Tables) (ds : List Decl) (h : Holds ds) → AllHold (member_premises t.names rule.KActive (λ type. true) h.owner.fields h.owner.methods)
members_fine t ds h = rw (h.fields, h.methods) (join nothing (join (method_fine t h.method h.starts) nothing))

-- a class with the method that starts
class_fine : (names : Names) (ds : List Decl) → Holds ds → some (is_main_class names) ds ≡ true
class_fine names ds h = rw (h.decls, h.named, h.methods, starts_fine names h.method h.starts) refl

-- all declarations
decls_fine : (t : Tables) (whole ds : List Decl) → Holds ds → AllHold (each_after (decl_premises whole t.names) [] ds)
decls_fine t whole ds h = subst (λ z. AllHold (each_after (decl_premises whole t.names) [] z)) (sym h.decls) (join (join (members_fine t ds h) (one refl)) nothing)

-- ---- programs

-- its declarations keep all rules
tables_fine : (p : Program) → Holds p.decls → HasTables p
unfolding table_premises tables_of
tables_fine p h = join (decls_fine (tables_of p.decls) p.decls p.decls h) (one (class_fine (names_of p.decls) p.decls h))

-- a program of the thin form is well typed
pub thin_typed : (p : Program) → is_thin p ≡ true → WellTyped p
thin_typed p h =
    let d = holds_of p.decls h in
    record { declarations = tables_fine p d; bodies = bodies_fine p.decls d }
