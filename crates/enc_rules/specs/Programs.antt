-- The rules of bodies and of programs.
use Rattle.std.specs.Prelude.{ℕ, suc, false, ◌||◌, List, [], ◌∷◌, ◌++◌, map, Option, Some, None}
use Rattle.enc_ast.specs.declared.rules.Rule.TheVariants as rule
use Rattle.enc_ast.specs.declared.rules.Reject.{Reject}
use Rattle.enc_ast.specs.declared.decls.Decl.{Decl}
use Rattle.enc_ast.specs.declared.decls.Decl.TheVariants.{Trait, Class, Active, Fun}
use Rattle.enc_ast.specs.declared.decls.Method.{Method}
use Rattle.enc_ast.specs.declared.decls.Param.{Param}
use Rattle.enc_ast.specs.declared.decls.Program.{Program}
use Rattle.enc_modes.specs.declared.ty.Ty.TheVariants as ty
use Rattle.enc_modes.specs.Equality.{same}
use Rattle.enc_premises.specs.Premises.{Premises, none, ◌⨾◌, node, each}
use Rattle.enc_premises.specs.First.{FirstFailure}
use Rattle.enc_flow.specs.Vars.{Var}
use Rattle.enc_flow.specs.Env.{Env}
use Rattle.enc_types.specs.Names.{Names}
use Rattle.enc_decls.specs.Rules.{table_premises}
use Rattle.enc_names.specs.Members.{Tables, tables_of, type_or_unit}
use Rattle.enc_exprs.specs.Uses.{this_word}
use Rattle.enc_rules.specs.Context.{Context, this_type}
use Rattle.enc_rules.specs.Stmts.{acts, all_premises, last_returns}

-- ---- bodies

abbrev pub param_var : Names → Param → Var
param_var names p = record { word = p.name.word; ty = Some (type_or_unit names p.ty); moved = false }

abbrev pub this_var : Names → Option ℕ → Env
this_var names None = []
this_var names (Some k) = record { word = this_word; ty = this_type names k; moved = false } ∷ []

-- the variables at the start of a body: "this", unless it is one of a function, and the parameters
abbrev pub start : Names → Option ℕ → List Param → Env
start names owner ps = this_var names owner ++ map (param_var names) ps

abbrev pub context_of : Tables → Option ℕ → Method → Context
context_of t owner m = record { tables = t; owner = owner; result = type_or_unit t.names m.result; inside = false }

-- a method of this owner, or a function
abbrev pub routine_premises : Tables → Option ℕ → Method → Premises
routine_premises t owner m = all_premises (context_of t owner m) (start t.names owner m.params) (acts m.body) ⨾ node m.span ((rule.SReturn, same (type_or_unit t.names m.result) ty.Unit || last_returns (acts m.body)) ∷ [])

-- ---- programs

abbrev pub decl_bodies : Tables → ℕ → Decl → Premises
decl_bodies t k (Trait d) = each (routine_premises t (Some k)) d.methods
decl_bodies t k (Class d) = none
decl_bodies t k (Active d) = each (routine_premises t (Some k)) d.methods
decl_bodies t k (Fun d) = routine_premises t None d

-- the bodies of declarations that are numbered from k on
abbrev pub bodies_from : Tables → ℕ → List Decl → Premises
bodies_from t k [] = none
bodies_from t k (d ∷ ds) = decl_bodies t k d ⨾ bodies_from t (suc k) ds

-- what the rules ask of the bodies of a program
unfoldable pub body_premises : Program → Premises
body_premises p = bodies_from (tables_of p.decls) 0 p.decls

-- what the rules ask of a program: first of its declarations, then of its bodies
abbrev pub program_premises : Program → Premises
program_premises p = table_premises p ⨾ body_premises p

-- the first rule that the program breaks, and where
abbrev pub IsFirstFailure : Program → Reject → Type 0
IsFirstFailure p = FirstFailure (program_premises p)
