-- A program that has no premise that fails is well typed.
use Rattle.std.proofs.Common.{◌≡◌, ◌+◌, ℕ, suc, List, [], ◌∷◌, ◌++◌, map, Option, Some, None, option_and_then, slice_get, refl, ap, subst, arith}
use Rattle.std.specs.List.{AllByRecursion}
use Rattle.enc_ast.specs.declared.rules.Rule.{Rule}
use Rattle.enc_ast.specs.declared.rules.Rule.TheVariants as rule
use Rattle.enc_ast.specs.declared.decls.Decl.{Decl}
use Rattle.enc_ast.specs.declared.decls.Decl.TheVariants.{Trait, Class, Active, Fun}
use Rattle.enc_ast.specs.declared.decls.Method.{Method}
use Rattle.enc_ast.specs.declared.decls.Param.{Param}
use Rattle.enc_ast.specs.declared.decls.Program.{Program}
use Rattle.enc_modes.specs.declared.ty.Ty.{Ty}
use Rattle.enc_premises.specs.Premises.{Premises, each, each_after}
use Rattle.enc_premises.specs.First.{AllHold, one, join}
use Rattle.enc_types.specs.declared.names.Meaning.{Meaning}
use Rattle.enc_types.specs.Names.{Names, found_at, meaning_of, names_of}
use Rattle.enc_types.specs.Bodies.{in_row, body_types}
use Rattle.enc_decls.specs.Rules.{method_premises, decl_premises, table_premises, HasTables}
use Rattle.enc_names.specs.Members.{Tables, tables_of, type_or_unit}
use Rattle.enc_flow.specs.Known.{Knows, end, more}
use Rattle.enc_rules.proofs.TypesKnown.{AreKnown}
use Rattle.enc_rules.specs.Context.{this_layer, this_type}
use Rattle.enc_rules.specs.Stmts.{acts, all_after}
use Rattle.enc_rules.specs.Programs.{param_var, start, context_of, routine_premises, decl_bodies, bodies_from, body_premises, program_premises}
use Rattle.enc_rules.specs.WellTyped.{IsRoutine, HasBodies, AllHaveBodies, WellTyped}
use Rattle.enc_rules.proofs.Bodies.{built_all}
use Rattle.enc_rules.proofs.Classes.{named_at, written_known}
use Rattle.enc_rules.proofs.StmtsSound.{sound_all}

-- ---- the variables at the start of a body

-- "this" has a type, where there is one
abbrev ThisKnown : Names → Option ℕ → Type 0
ThisKnown names None = Unit {0}
ThisKnown names (Some k) = (t : Ty) × (this_type names k ≡ Some t)

-- the types of parameters
params_known : (names : Names) (ps : List Param) → Knows (map (param_var names) ps)
params_known names [] = end
params_known names (p ∷ ps) = more (type_or_unit names p.ty) refl (params_known names ps)

-- the types of all of them
start_known : (names : Names) (owner : Option ℕ) (ps : List Param) → ThisKnown names owner → Knows (start names owner ps)
start_known names None ps h = params_known names ps
start_known names (Some k) ps h = more h.0 h.1 (params_known names ps)

-- ---- bodies

-- what holds of each holds in a row
in_row_holds : {A : Type 0} (f : A → Premises) (xs : List A) → AllHold (each f xs) → AllHold (in_row (map f xs))
in_row_holds f [] h = h
in_row_holds f (x ∷ xs) (join h i) = join h (in_row_holds f xs i)

-- a method or a function
routine_sound : (t : Tables) (owner : Option ℕ) (m : Method) → AreKnown t.names → ThisKnown t.names owner → AllHold (body_types t.names m.body) → AllHold (routine_premises t owner m) → IsRoutine t owner m
routine_sound t owner m w k v (join h (one r)) =
    let f = sound_all (built_all m.body) (context_of t owner m) (start t.names owner m.params) w (start_known t.names owner m.params k) (in_row_holds _ m.body v) h in
    record { last = all_after (context_of t owner m) (start t.names owner m.params) (acts m.body); body = f.typed; s-return = r }

-- the methods of an owner
routines_sound : (t : Tables) (k : ℕ) (r : Rule) (before ms : List Method) → AreKnown t.names → ThisKnown t.names (Some k) → AllHold (each_after (method_premises t.names r) before ms) → AllHold (each (routine_premises t (Some k)) ms) → AllByRecursion (IsRoutine t (Some k)) ms
routines_sound t k r before [] w i h b = tt
routines_sound t k r before (m ∷ ms) w i (join (join (join ps (join result body)) n) h) (join b c) = (routine_sound t (Some k) m w i body b, routines_sound t k r (before ++ m ∷ []) ms w i h c)

-- ---- declarations

-- "this" in what stands for this
this_at : (names : Names) (k : ℕ) (m : Meaning) → found_at names k ≡ Some (k, m) → this_type names k ≡ this_layer (k, m)
unfolding this_type
this_at names k m e = ap (option_and_then this_layer) e

-- the bodies of a declaration
decl_sound : (t : Tables) (ds before : List Decl) (k : ℕ) (d : Decl) → AreKnown t.names → found_at t.names k ≡ Some (k, meaning_of ds d) → AllHold (decl_premises ds t.names before d) → AllHold (decl_bodies t k d) → HasBodies t k d
decl_sound t ds before k (Trait d) w e (join (join fs ms) n) b = routines_sound t k rule.KTrait [] d.methods w (_, this_at t.names k _ e) ms b
decl_sound t ds before k (Class d) w e h b = tt
decl_sound t ds before k (Active d) w e (join (join fs ms) n) b = routines_sound t k rule.KActive [] d.methods w (_, this_at t.names k _ e) ms b
decl_sound t ds before k (Fun d) w e (join (join ps (join result body)) n) b = routine_sound t None d w tt body b

-- each declaration stands at its number
abbrev Stand : Tables → List Decl → ℕ → List Decl → Type 0
Stand t whole k ds = (j : ℕ) (d : Decl) → slice_get ds j ≡ Some d → found_at t.names (k + j) ≡ Some (k + j, meaning_of whole d)

-- the first of them
first_stands : (t : Tables) (whole : List Decl) (k : ℕ) (d : Decl) (ds : List Decl) → Stand t whole k (d ∷ ds) → found_at t.names k ≡ Some (k, meaning_of whole d)
first_stands t whole k d ds s =
    let e : k + 0 ≡ k = omega arith in
    subst (λ z. found_at t.names z ≡ Some (z, meaning_of whole d)) e (s 0 d refl)

-- the others
rest_stand : (t : Tables) (whole : List Decl) (k : ℕ) (d : Decl) (ds : List Decl) → Stand t whole k (d ∷ ds) → Stand t whole (suc k) ds
rest_stand t whole k d ds s j x q =
    let e : k + suc j ≡ suc k + j = omega arith in
    subst (λ z. found_at t.names z ≡ Some (z, meaning_of whole x)) e (s (suc j) x q)

-- the bodies of declarations
bodies_sound : (t : Tables) (whole : List Decl) (k : ℕ) (before ds : List Decl) → AreKnown t.names → Stand t whole k ds → AllHold (each_after (decl_premises whole t.names) before ds) → AllHold (bodies_from t k ds) → AllHaveBodies t k ds
bodies_sound t whole k before [] w s h b = tt
bodies_sound t whole k before (d ∷ ds) w s (join h i) (join b c) = (decl_sound t whole before k d w (first_stands t whole k d ds s) h b, bodies_sound t whole (suc k) (before ++ d ∷ []) ds w (rest_stand t whole k d ds s) i c)

-- ---- programs

-- what is asked of its declarations
decls_hold : (p : Program) → HasTables p → AllHold (each_after (decl_premises p.decls (names_of p.decls)) [] p.decls)
unfolding table_premises
decls_hold p (join h i) = h

-- its declarations stand at their numbers
all_stand : (ds : List Decl) → Stand (tables_of ds) ds 0 ds
unfolding tables_of
all_stand ds j d q =
    let e : j ≡ 0 + j = omega arith in
    let n : found_at (names_of ds) j ≡ Some (j, meaning_of ds d) = rw (named_at ds j, q) refl in
    subst (λ z. found_at (names_of ds) z ≡ Some (z, meaning_of ds d)) e n

-- a program
pub program_sound : (p : Program) → AllHold (program_premises p) → WellTyped p
unfolding body_premises tables_of
program_sound p (join h b) = record { declarations = h; bodies = bodies_sound (tables_of p.decls) p.decls 0 [] p.decls (written_known p h) (all_stand p.decls) (decls_hold p h) b }
