-- How each configuration looks to which a run of a program in the thin form leads.
use Rattle.std.proofs.Common.{◌≡◌, ◌∙◌, ℕ, zero, suc, ◌+◌, ◌≤◌, true, ◌&&◌, List, [], ◌∷◌, ◌++◌, Option, Some, None, refl, ap, sym, subst, length, arith, append_assoc, length-append}
use Rattle.std.specs.Prelude.{slice_get, IsTrue, codes}
use Rattle.std.specs.Str.{bytes_eq}
use Rattle.enc_ast.specs.declared.Span.{Span}
use Rattle.enc_ast.specs.declared.Stmt.{Stmt}
use Rattle.enc_ast.specs.declared.Decl.{Decl}
use Rattle.enc_ast.specs.declared.Decl.TheVariants.{Active}
use Rattle.enc_ast.specs.declared.Method.{Method}
use Rattle.enc_ast.specs.declared.Program.{Program}
use Rattle.enc_ast.specs.Thin.{is_line, bound_after, is_body, is_args, is_unit, is_empty, is_main, is_main_class, is_thin, first_body, main_body, body_of}
use Rattle.enc_model.specs.declared.config.Cell.{Cell}
use Rattle.enc_model.specs.declared.config.Cell.TheVariants.{Pending, Full}
use Rattle.enc_model.specs.declared.config.Config.{Config}
use Rattle.enc_model.specs.declared.config.Task.{Task}
use Rattle.enc_model.specs.declared.moves.Move.{Move}
use Rattle.enc_model.specs.declared.moves.Move.TheVariants.{Bind, Say, Leave, Fault, Lost}
use Rattle.enc_model.specs.declared.values.TrapKind.{TrapKind}
use Rattle.enc_model.specs.declared.values.Value.{Value}
use Rattle.enc_model.specs.declared.values.Value.TheVariants as values
use Rattle.enc_model.specs.Eval.{Local}
use Rattle.enc_model.specs.Exec.{start}
use Rattle.enc_model.specs.Step.{Outcome, Next, NotReady, Stuck, commit, decide_at, decide_form, step_of}
use Rattle.enc_model.proofs.Evaluation.{both, IsInt, HaveInts, names_of}
use Rattle.enc_model.proofs.Deciding.{Asks, asks-line}

-- one actor with an empty mailbox
abbrev pub alone : Option Task → Option (TrapKind × Span) → Cell → List ℕ → Config
alone task trap cell output = record { actors = record { mailbox = []; task = task; trap = trap } ∷ []; cells = cell ∷ []; output = output }

-- its task stands at this statement
abbrev pub task_at : ℕ → List Local → Task
task_at at locals = record { cell = 0; frame = record { at = at; locals = record { pairs = locals } } }

-- After so many steps the variables are those that the statements before this one bind.
pub record Works (body : List Stmt) (n at : ℕ) (locals : List Local) : Type 0 where
  pub done : List Stmt
  pub rest : List Stmt
  pub split : body ≡ done ++ rest
  pub place : at ≡ length done
  pub count : n ≡ at + 1
  pub ints : HaveInts locals
  pub lines : is_body (names_of locals) rest ≡ true

-- how a configuration looks after so many steps
pub data Looks (body : List Stmt) : ℕ → Config → Type 0 where
  begins : (n : ℕ) → n ≡ 0 → Looks body n start
  works : (n at : ℕ) (locals : List Local) (output : List ℕ) → Works body n at locals → Looks body n (alone (Some (task_at at locals)) None Pending output)
  traps : (n : ℕ) (task : Task) (trap : TrapKind × Span) (output : List ℕ) → n ≤ length body + 1 → Looks body n (alone (Some task) (Some trap) Pending output)
  ends : (n : ℕ) (output : List ℕ) → n ≡ length body + 2 → Looks body n (alone None None (Full values.Unit) output)

-- ---- a step of a task

-- it can be made, and what it leads to looks so after one step more
abbrev pub Leads : List Stmt → ℕ → Outcome → Type 0
Leads body n (Next c kind) = Looks body (n + 1) c
Leads body n NotReady = ⊥
Leads body n Stuck = ⊥

slice_get-here : (done rest : List Stmt) → slice_get (done ++ rest) (length done) ≡ slice_get rest 0
slice_get-here [] rest = refl
slice_get-here (stmt ∷ done) rest = slice_get-here done rest

names-push : (locals : List Local) (name : List ℕ) (value : Option Value) → names_of (locals ++ (name, value) ∷ []) ≡ names_of locals ++ name ∷ []
names-push [] name value = refl
names-push (local ∷ locals) name value = ap (λ names. local.0 ∷ names) (names-push locals name value)

ints-push : (locals : List Local) (name : List ℕ) (value : Value) → HaveInts locals → IsInt value → HaveInts (locals ++ (name, Some value) ∷ [])
ints-push [] name value h i = (i, tt)
ints-push (local ∷ locals) name value h i = (h.0, ints-push locals name value h.1 i)

-- the task stands at this statement of the body
commits : (body : List Stmt) (n at : ℕ) (locals : List Local) (output : List ℕ) (done : List Stmt) (stmt : Stmt) (rest : List Stmt) (asked : Move) →
    body ≡ done ++ (stmt ∷ rest) → at ≡ length done → n ≡ at + 1 → HaveInts locals → is_body (bound_after (names_of locals) stmt.form) rest ≡ true →
    Asks (names_of locals) (bound_after (names_of locals) stmt.form) asked →
    Leads body n (commit (alone (Some (task_at at locals)) None Pending output) 0 (record { mailbox = []; task = Some (task_at at locals); trap = None }) (task_at at locals) asked)
commits body n at locals output done stmt rest (Bind name value) split place count ints lines a =
    works (n + 1) (at + 1) (locals ++ (name, Some value) ∷ []) output (record {
      done = done ++ stmt ∷ [];
      rest = rest;
      split = split ∙ sym (append_assoc done (stmt ∷ []) rest);
      place = omega (arith, place, length-append done (stmt ∷ []));
      count = omega (arith, count);
      ints = ints-push locals name value ints a.0;
      lines = rw (names-push locals name (Some value), ← a.1) lines;
    })
commits body n at locals output done stmt rest (Say line) split place count ints lines a =
    works (n + 1) (at + 1) locals (output ++ line) (record {
      done = done ++ stmt ∷ [];
      rest = rest;
      split = split ∙ sym (append_assoc done (stmt ∷ []) rest);
      place = omega (arith, place, length-append done (stmt ∷ []));
      count = omega (arith, count);
      ints = ints;
      lines = rw (← a) lines;
    })
commits body n at locals output done stmt rest Leave split place count ints lines a = absurd a
commits body n at locals output done stmt rest (Fault kind span) split place count ints lines a =
    traps (n + 1) (task_at at locals) (kind, span) output (omega (arith, ap length split, length-append done (stmt ∷ rest)))
commits body n at locals output done stmt rest Lost split place count ints lines a = absurd a

-- the rest of the body is known
leads-rest : (body : List Stmt) (n at : ℕ) (locals : List Local) (output : List ℕ) (done rest : List Stmt) →
    body ≡ done ++ rest → at ≡ length done → n ≡ at + 1 → HaveInts locals → is_body (names_of locals) rest ≡ true →
    Leads body n (commit (alone (Some (task_at at locals)) None Pending output) 0 (record { mailbox = []; task = Some (task_at at locals); trap = None }) (task_at at locals) (decide_at locals (slice_get rest 0)))
leads-rest body n at locals output done [] split place count ints lines =
    ends (n + 1) output (omega (arith, ap length split, length-append done []))
leads-rest body n at locals output done (stmt ∷ rest) split place count ints lines =
    let parts = both (is_line (names_of locals) stmt.form) (is_body (bound_after (names_of locals) stmt.form) rest) lines in
    commits body n at locals output done stmt rest (decide_form stmt.span locals stmt.form) split place count ints parts.1 (asks-line locals stmt.span stmt.form ints parts.0)

-- the statement at which the task stands is the first of the rest
here : (body done rest : List Stmt) (at : ℕ) → body ≡ done ++ rest → at ≡ length done → slice_get body at ≡ slice_get rest 0
here body done rest at split place = rw (split, place) (slice_get-here done rest)

pub leads-works : (program : Program) (n at : ℕ) (locals : List Local) (output : List ℕ) → Works (body_of program) n at locals → Leads (body_of program) n (step_of program (alone (Some (task_at at locals)) None Pending output) 0)
leads-works program n at locals output w =
    let P : Option Stmt → Type 0 = λ found. Leads (body_of program) n (commit (alone (Some (task_at at locals)) None Pending output) 0 (record { mailbox = []; task = Some (task_at at locals); trap = None }) (task_at at locals) (decide_at locals found)) in
    subst P (sym (here (body_of program) w.done w.rest at w.split w.place)) (leads-rest (body_of program) n at locals output w.done w.rest w.split w.place w.count w.ints w.lines)

-- ---- a step of any actor

-- what it leads to looks so after one step more
abbrev pub Keeps : List Stmt → ℕ → Outcome → Type 0
Keeps body n (Next c kind) = Looks body (n + 1) c
Keeps body n NotReady = Unit {0}
Keeps body n Stuck = ⊥

keeps-leads : (body : List Stmt) (n : ℕ) (outcome : Outcome) → Leads body n outcome → Keeps body n outcome
keeps-leads body n (Next c kind) h = h
keeps-leads body n NotReady h = absurd h
keeps-leads body n Stuck h = absurd h

pub leads-begins : (program : Program) (n : ℕ) → n ≡ 0 → is_body [] (body_of program) ≡ true → Leads (body_of program) n (step_of program start 0)
leads-begins program n e thin =
    works (n + 1) 0 [] [] (record { done = []; rest = body_of program; split = refl; place = refl; count = ap (λ m. m + 1) e; ints = tt; lines = thin })

pub keeps-step : (program : Program) (n : ℕ) (c : Config) (a : ℕ) → is_body [] (body_of program) ≡ true → Looks (body_of program) n c → Keeps (body_of program) n (step_of program c a)
keeps-step program n _ zero thin (begins m e) = keeps-leads (body_of program) m (step_of program start 0) (leads-begins program m e thin)
keeps-step program n _ (suc a) thin (begins m e) = tt
keeps-step program n _ zero thin (works m at locals output w) =
    keeps-leads (body_of program) m (step_of program (alone (Some (task_at at locals)) None Pending output) 0) (leads-works program m at locals output w)
keeps-step program n _ (suc a) thin (works m at locals output w) = tt
keeps-step program n _ zero thin (traps m task trap output few) = tt
keeps-step program n _ (suc a) thin (traps m task trap output few) = tt
keeps-step program n _ zero thin (ends m output e) = tt
keeps-step program n _ (suc a) thin (ends m output e) = tt

-- ---- a run

pub few-works : (body : List Stmt) (n at : ℕ) (locals : List Local) → Works body n at locals → n ≤ length body + 1
few-works body n at locals w = omega (arith, ap length w.split, length-append w.done w.rest, w.place, w.count)

-- no run makes more steps than these
pub few-looks : (body : List Stmt) (n : ℕ) (c : Config) → Looks body n c → n ≤ length body + 2
few-looks body n _ (begins m e) = omega arith
few-looks body n _ (works m at locals output w) = let few : m ≤ length body + 1 = few-works body m at locals w in omega arith
few-looks body n _ (traps m task trap output few) = omega arith
few-looks body n _ (ends m output e) = omega arith

-- ---- programs

thin-methods : (methods : List Method) → is_main methods ≡ true → is_body [] (first_body methods) ≡ true
thin-methods [] e = absurd (cc)
thin-methods (method ∷ []) e = (both (bytes_eq method.name.word (codes "main") && is_args method.params && is_unit method.result) (is_body [] method.body) e).1
thin-methods (method ∷ (other ∷ methods)) e = absurd (cc)

thin-decls : (decls : List Decl) → is_main_class decls ≡ true → is_body [] (main_body decls) ≡ true
thin-decls [] e = absurd (cc)
thin-decls (Active class ∷ []) e = thin-methods class.methods (both (bytes_eq class.name.word (codes "Main") && is_empty class.fields) (is_main class.methods) e).1
thin-decls (Active class ∷ (other ∷ decls)) e = absurd (cc)
thin-decls (_ ∷ decls) e = absurd (cc)

pub thin-body : (program : Program) → IsTrue (is_thin program) → is_body [] (body_of program) ≡ true
thin-body program thin = thin-decls program.decls thin
