-- Programs within the limits.
use Rattle.std.specs.Prelude.{◌&&◌, ℕ, suc, ◌+◌, Bool, List, [], ◌∷◌, length, nat_le, IsTrue}
use Rattle.enc_ast.specs.declared.decls.Field.{Field}
use Rattle.enc_ast.specs.declared.decls.Param.{Param}
use Rattle.enc_ast.specs.declared.decls.Method.{Method}
use Rattle.enc_ast.specs.declared.decls.Decl.{Decl}
use Rattle.enc_ast.specs.declared.decls.Decl.TheVariants.{Trait, Class, Active, Fun}
use Rattle.enc_ast.specs.declared.decls.Program.{Program}
use Rattle.enc_limits.specs.Numbers.{max_bytes, max_variables, max_declared, max_groups, every, name_fits}
use Rattle.enc_limits.specs.Types.{inside, group_fits, type_fits}
use Rattle.enc_limits.specs.Stmts.{block_fits, extents}

-- ---- the parts of declarations, where so many brackets are open around them

abbrev pub field_fits : ℕ → Field → Bool
field_fits n x = name_fits x.name && type_fits x.ty n

abbrev pub param_fits : ℕ → Param → Bool
param_fits n x = name_fits x.name && type_fits x.ty n

abbrev pub params_fit : List Param → ℕ → Bool
params_fit ps n = every (param_fits n) ps && nat_le (length ps) max_variables

-- a method or a function, in whose body the parameters are visible
abbrev pub routine_fits : ℕ → Method → Bool
routine_fits n m = name_fits m.name && (inside (params_fit m.params) n && (type_fits m.result n && block_fits n (length m.params) (extents m.body)))

abbrev pub members_fit : List Field → List Method → ℕ → Bool
members_fit fs ms n = every (field_fits n) fs && every (routine_fits n) ms

abbrev pub decl_fits : Decl → Bool
decl_fits (Trait d) = name_fits d.name && inside (members_fit d.fields d.methods) 0
decl_fits (Class d) = name_fits d.name && (every (group_fits 0) d.groups && nat_le (length d.groups) max_groups)
decl_fits (Active d) = name_fits d.name && inside (members_fit d.fields d.methods) 0
decl_fits (Fun d) = routine_fits 0 d

-- ---- programs

-- how many names a declaration declares
abbrev pub declared : Decl → ℕ
declared (Trait d) = suc (length d.fields + length d.methods)
declared (Class d) = 1
declared (Active d) = suc (length d.fields + length d.methods)
declared (Fun d) = 1

abbrev pub all_declared : List Decl → ℕ
all_declared [] = 0
all_declared (d ∷ ds) = declared d + all_declared ds

-- no part of the program passes a limit, and no name of it is a word that the language has for itself
pub record IsWithinLimits (p : Program) : Type 0 where
  pub bytes : IsTrue (nat_le p.span.end max_bytes)
  pub decls : IsTrue (every decl_fits p.decls)
  pub names : IsTrue (nat_le (all_declared p.decls) max_declared)
