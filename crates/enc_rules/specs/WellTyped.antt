-- Which programs are well typed.
use Rattle.std.specs.Prelude.{◌≡◌, ℕ, suc, true, ◌||◌, List, [], ◌∷◌, Option, Some, None}
use Rattle.std.specs.List.{AllByRecursion}
use Rattle.enc_ast.specs.declared.decls.Decl.{Decl}
use Rattle.enc_ast.specs.declared.decls.Decl.TheVariants.{Trait, Class, Active, Fun}
use Rattle.enc_ast.specs.declared.decls.Method.{Method}
use Rattle.enc_ast.specs.declared.decls.Program.{Program}
use Rattle.enc_modes.specs.declared.ty.Ty.TheVariants as ty
use Rattle.enc_modes.specs.Equality.{same}
use Rattle.enc_flow.specs.Env.{Env}
use Rattle.enc_decls.specs.Rules.{HasTables}
use Rattle.enc_names.specs.Members.{Tables, tables_of, type_or_unit}
use Rattle.enc_rules.specs.Stmts.{acts, last_returns}
use Rattle.enc_rules.specs.Programs.{start, context_of}
use Rattle.enc_rules.specs.Typing.{TypesAll}

-- The body of a method or a function is well typed from its parameters on, and returns where it must.
pub record IsRoutine (t : Tables) (owner : Option ℕ) (m : Method) : Type 0 where
  pub last : Env
  pub body : TypesAll (context_of t owner m) (start t.names owner m.params) m.body last
  pub s-return : (same (type_or_unit t.names m.result) ty.Unit || last_returns (acts m.body)) ≡ true

-- the bodies of a declaration
abbrev pub HasBodies : Tables → ℕ → Decl → Type 0
HasBodies t k (Trait d) = AllByRecursion (IsRoutine t (Some k)) d.methods
HasBodies t k (Class d) = Unit {0}
HasBodies t k (Active d) = AllByRecursion (IsRoutine t (Some k)) d.methods
HasBodies t k (Fun d) = IsRoutine t None d

-- the bodies of declarations that are numbered from k on
abbrev pub AllHaveBodies : Tables → ℕ → List Decl → Type 0
AllHaveBodies t k [] = Unit {0}
AllHaveBodies t k (d ∷ ds) = HasBodies t k d × AllHaveBodies t (suc k) ds

-- The declarations of the program keep all rules, and its bodies are well typed.
pub record WellTyped (p : Program) : Type 0 where
  pub declarations : HasTables p
  pub bodies : AllHaveBodies (tables_of p.decls) 0 p.decls
