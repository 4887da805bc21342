-- What is said of programs whose declarations keep all rules.
use Rattle.std.specs.Prelude.{◌≡◌, ℕ, true, List, Some, slice_get}
use Rattle.enc_ast.specs.declared.decls.Decl.{Decl}
use Rattle.enc_ast.specs.declared.decls.Program.{Program}
use Rattle.enc_types.specs.Names.{word_of, names_of}
use Rattle.enc_decls.specs.Rules.{is_main_class}

-- The declaration with this number has this name.
abbrev pub IsNamedAt : Program → ℕ → List ℕ → Type 0
IsNamedAt p k x = (d : Decl) × (slice_get p.decls k ≡ Some d) × (word_of d ≡ x)

-- The declaration with this number is an active class Main with the method that starts.
abbrev pub IsMainAt : Program → ℕ → Type 0
IsMainAt p k = (d : Decl) × (slice_get p.decls k ≡ Some d) × (is_main_class (names_of p.decls) d ≡ true)
