-- The declarations that a text spells are within the limits.
use Rattle.std.proofs.Common.{ℕ, suc, ◌+◌, true, List, [], ◌∷◌, length, subst, arith, le-leb}
use Rattle.enc_ast.specs.declared.decls.Field.{Field}
use Rattle.enc_ast.specs.declared.decls.Param.{Param}
use Rattle.enc_ast.specs.declared.decls.Method.{Method}
use Rattle.enc_ast.specs.declared.decls.Decl.{Decl}
use Rattle.enc_lex.specs.declared.kinds.Kind.{Kind}
use Rattle.enc_lex.specs.declared.kinds.Kind.TheVariants as k
use Rattle.enc_cursor.specs.Counts.{leave}
use Rattle.enc_cursor.specs.Place.{Place}
use Rattle.enc_parse.specs.Decls.{IsField, IsParam, IsParams, IsRoutine, IsMembers, IsDecl, IsProgram}
use Rattle.enc_parse.specs.Decls as gr
use Rattle.enc_limits.specs.Numbers.{max_variables, every}
use Rattle.enc_limits.specs.Types.{inside}
use Rattle.enc_limits.specs.Programs.{field_fits, param_fits, params_fit, routine_fits, members_fit, decl_fits, declared, all_declared}
use Rattle.enc_within.proofs.Leads.{Leads, here, then, before, also, reaches, closed, each}
use Rattle.enc_within.proofs.Tokens.{token, opening}
use Rattle.enc_within.proofs.Names.{visible_is, declared_is}
use Rattle.enc_within.proofs.Types.{counts, separated, type_is, class_groups_are}
use Rattle.enc_within.proofs.Stmts.{fewer, block_is}

module _ {text : List ℕ} where
  -- a field
  field_is : (n m : ℕ) (x : Field) (a b : Place) → IsField text n x a b → Leads text (counts 0 0 m 0) (counts 0 0 (suc m) 0) (field_fits n x) a b
  field_is n m x a b s = then (declared_is s.3) (then (token s.4) (before (type_is s.5) (token s.6)))

  -- a parameter
  param_is : (n m i : ℕ) (x : Param) (a b : Place) → IsParam text n x a b → Leads text (counts i 0 m 0) (counts (suc i) 0 m 0) (param_fits n x) a b
  param_is n m i x a b s = then (visible_is s.2) (then (token s.3) (type_is s.4))

  -- not too many parameters
  params_are : (n m : ℕ) (ps : List Param) (a b : Place) → IsParams text n ps a b → Leads text (counts 0 0 m 0) (counts (length ps) 0 m 0) (params_fit ps n) a b
  params_are n m ps a b s = also _ (λ w. le-leb (length ps) max_variables w.variables) (go ps s)
    where
      go : (ps : List Param) → IsParams text n ps a b → Leads text (counts 0 0 m 0) (counts (length ps) 0 m 0) (every (param_fits n) ps) a b
      go [] s = subst (λ z. Leads text (counts 0 0 m 0) (counts 0 0 m 0) (every (param_fits n) []) a z) s here
      go (x ∷ xs) s = reaches (λ i. counts i 0 m 0) (omega arith) (separated k.Comma (λ i. counts i 0 m 0) (param_is n m) (x ∷ xs) 0 a b s)

  -- a method or a function
  routine_is : {word : Kind} {n : ℕ} {x : Method} {a b : Place} (m : ℕ) → IsRoutine text word n x a b → Leads text (counts 0 0 m 0) (counts 0 0 (suc m) 0) (routine_fits n x) a b
  routine_is m (gr.routine {n = n} {ps = ps} f s t u v w y z p e) =
      closed leave fewer (then (token s) (then (declared_is t) (then (then (opening n u) (before (params_are (suc n) (suc m) ps _ f v) (token w))) (then (token y) (then (type_is z) (block_is p (length ps))))))) e

  -- the members of a trait or a class
  members_are : (m : ℕ) (fs : List Field) (ms : List Method) (a b : Place) → IsMembers text fs ms a b → Leads text (counts 0 0 m 0) (counts 0 0 (m + length fs + length ms) 0) (inside (members_fit fs ms) 0) a b
  members_are m fs ms a b s =
      then (opening 0 s.3) (then (each (λ n. counts 0 0 n 0) (field_is 1) fs m s.0 s.1 s.4)
      (before (each (λ n. counts 0 0 n 0) (λ n x c d t. routine_is n t) ms (m + length fs) s.1 s.2 s.5) (token s.6)))

  -- a declaration
  decl_is : {x : Decl} {a b : Place} (m : ℕ) → IsDecl text x a b → Leads text (counts 0 0 m 0) (counts 0 0 (m + declared x) 0) (decl_fits x) a b
  decl_is m (gr.trait_ {fs = fs} {ms} s t u v) = reaches (λ n. counts 0 0 n 0) (omega arith) (then (token s) (then (token t) (then (declared_is u) (members_are (suc m) fs ms _ _ v))))
  decl_is m (gr.class {gs = gs} s t u v w) = reaches (λ n. counts 0 0 n 0) (omega arith) (then (token s) (then (declared_is t) (then (token u) (before (class_groups_are text 0 0 (suc m) gs _ _ v) (token w)))))
  decl_is m (gr.active {fs = fs} {ms} s t u v) = reaches (λ n. counts 0 0 n 0) (omega arith) (then (token s) (then (token t) (then (declared_is u) (members_are (suc m) fs ms _ _ v))))
  decl_is m (gr.fun s) = reaches (λ n. counts 0 0 n 0) (omega arith) (routine_is m s)

  -- all declarations
  pub program_is : (m : ℕ) (ds : List Decl) (a b : Place) → IsProgram text ds a b → Leads text (counts 0 0 m 0) (counts 0 0 (m + all_declared ds) 0) (every decl_fits ds) a b
  program_is m [] a b s = subst (λ z. Leads text (counts 0 0 m 0) (counts 0 0 (m + 0) 0) true a z) s (reaches (λ n. counts 0 0 n 0) (omega arith) here)
  program_is m (d ∷ ds) a b s = reaches (λ n. counts 0 0 n 0) (omega arith) (then (decl_is m s.1) (program_is (m + declared d) ds s.0 b s.2))
