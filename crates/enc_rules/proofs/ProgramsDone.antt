-- A program that is well typed has no premise that fails.
use Rattle.std.proofs.Common.{ℕ, suc, List, [], ◌∷◌, Option, Some, None}
use Rattle.std.specs.List.{AllByRecursion}
use Rattle.enc_ast.specs.declared.decls.Decl.{Decl}
use Rattle.enc_ast.specs.declared.decls.Decl.TheVariants.{Trait, Class, Active, Fun}
use Rattle.enc_ast.specs.declared.decls.Method.{Method}
use Rattle.enc_ast.specs.declared.decls.Program.{Program}
use Rattle.enc_premises.specs.Premises.{each}
use Rattle.enc_premises.specs.First.{AllHold, nothing, one, join}
use Rattle.enc_names.specs.Members.{Tables, tables_of}
use Rattle.enc_rules.specs.Programs.{routine_premises, decl_bodies, bodies_from, body_premises, program_premises}
use Rattle.enc_rules.specs.WellTyped.{IsRoutine, HasBodies, AllHaveBodies, WellTyped}
use Rattle.enc_rules.proofs.StmtsDone.{all_done}

-- a method or a function
routine_done : (t : Tables) (owner : Option ℕ) (m : Method) → IsRoutine t owner m → AllHold (routine_premises t owner m)
routine_done t owner m r = join (all_done r.body).hold (one r.s-return)

-- the methods of an owner
routines_done : (t : Tables) (owner : Option ℕ) (ms : List Method) → AllByRecursion (IsRoutine t owner) ms → AllHold (each (routine_premises t owner) ms)
routines_done t owner [] r = nothing
routines_done t owner (m ∷ ms) r = join (routine_done t owner m r.0) (routines_done t owner ms r.1)

-- the bodies of a declaration
decl_done : (t : Tables) (k : ℕ) (d : Decl) → HasBodies t k d → AllHold (decl_bodies t k d)
decl_done t k (Trait d) b = routines_done t (Some k) d.methods b
decl_done t k (Class d) b = nothing
decl_done t k (Active d) b = routines_done t (Some k) d.methods b
decl_done t k (Fun d) b = routine_done t None d b

-- the bodies of declarations
bodies_done : (t : Tables) (k : ℕ) (ds : List Decl) → AllHaveBodies t k ds → AllHold (bodies_from t k ds)
bodies_done t k [] b = nothing
bodies_done t k (d ∷ ds) b = join (decl_done t k d b.0) (bodies_done t (suc k) ds b.1)

-- a program
pub program_done : (p : Program) → WellTyped p → AllHold (program_premises p)
unfolding body_premises
program_done p w = join w.declarations (bodies_done (tables_of p.decls) 0 p.decls w.bodies)
