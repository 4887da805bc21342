-- Statements within the limits, where so many brackets are open around them and so many variables are visible.
use Rattle.std.specs.Prelude.{◌&&◌, ℕ, suc, ◌+◌, Bool, true, List, [], ◌∷◌, map, Option, Some, None, nat_le}
use Rattle.enc_ast.specs.declared.decls.Name.{Name}
use Rattle.enc_ast.specs.declared.TypeText.{TypeText}
use Rattle.enc_ast.specs.declared.Expr.{Expr}
use Rattle.enc_ast.specs.declared.Stmt.{Stmt}
use Rattle.enc_ast.specs.declared.StmtForm.TheOpen.{StmtForm-F, Stmt-F}
use Rattle.enc_ast.specs.declared.StmtForm.TheFolds.{fold-Stmt}
use Rattle.enc_limits.specs.Numbers.{max_variables, every, name_fits, opens}
use Rattle.enc_limits.specs.Types.{type_fits}
use Rattle.enc_limits.specs.Exprs.{whole_fits}
use Rattle.enc_limits.specs.Sources.{source_fits, request_fits}

-- A statement, as the limits see it.
pub record Extent : Type 0 where
  -- how many variables it makes visible to the end of its block
  pub variables : ℕ
  -- whether nothing in it passes a limit, where so many brackets are open and so many variables are visible
  pub fits : ℕ → ℕ → Bool

-- a new name, with which so many variables are visible
abbrev pub variable_fits : ℕ → Name → Bool
variable_fits v x = name_fits x && nat_le v max_variables

-- ---- blocks

abbrev pub all_fit : ℕ → ℕ → List Extent → Bool
all_fit n v [] = true
all_fit n v (a ∷ as_) = a.fits n v && all_fit n (v + a.variables) as_

abbrev pub block_fits : ℕ → ℕ → List Extent → Bool
block_fits n v as_ = opens n && all_fit (suc n) v as_

abbrev pub else_fits : ℕ → ℕ → Option (List Extent) → Bool
else_fits n v None = true
else_fits n v (Some as_) = block_fits n v as_

-- ---- the forms

-- it makes no variable visible
abbrev pub simple : (ℕ → Bool) → Extent
simple fits = record { variables = 0; fits = λ n v. fits n }

-- an expression before blocks
abbrev pub headed : Expr → (ℕ → ℕ → Bool) → Extent
headed x blocks = record { variables = 0; fits = λ n v. whole_fits n x && blocks n v }

abbrev pub split_fits : Name → Name → TypeText → Name → TypeText → ℕ → ℕ → Bool
split_fits x y t z u n v = name_fits x && (variable_fits (suc v) y && (type_fits t n && (variable_fits (suc (suc v)) z && type_fits u n)))

abbrev pub pack_fits : Name → Name → Name → List Extent → List Extent → ℕ → ℕ → Bool
pack_fits x y z a b n v = name_fits x && (name_fits y && (variable_fits (suc v) z && (block_fits n (suc v) a && block_fits n v b)))

abbrev pub stmt_form : StmtForm-F Extent Extent → Extent
stmt_form (StmtForm-F.Let x src) = record { variables = 1; fits = λ n v. variable_fits (suc v) x && source_fits n src.form }
stmt_form (StmtForm-F.Assign x y) = simple (λ n. name_fits x && whole_fits n y)
stmt_form (StmtForm-F.Store v x y) = simple (λ n. name_fits x && whole_fits n y)
stmt_form (StmtForm-F.Call to m xs) = simple (λ n. request_fits n to m xs)
stmt_form (StmtForm-F.Send to m xs) = simple (λ n. request_fits n to m xs)
stmt_form (StmtForm-F.If x a b) = headed x (λ n v. block_fits n v a && else_fits n v b)
stmt_form (StmtForm-F.While x a) = headed x (λ n v. block_fits n v a)
stmt_form (StmtForm-F.Atomic x a) = headed x (λ n v. block_fits n v a)
stmt_form (StmtForm-F.Split x y t z u) = record { variables = 2; fits = split_fits x y t z u }
stmt_form (StmtForm-F.Pack x y z a b) = record { variables = 0; fits = pack_fits x y z a b }
stmt_form (StmtForm-F.Choose x t y) = record { variables = 1; fits = λ n v. name_fits x && (name_fits t && variable_fits (suc v) y) }
stmt_form (StmtForm-F.Return x) = simple (λ n. whole_fits n x)
stmt_form (StmtForm-F.Print xs) = simple (λ n. every (whole_fits n) xs)
stmt_form StmtForm-F.Suspend = simple (λ n. true)

abbrev pub stmt_node : Stmt-F Extent Extent → Extent
stmt_node x = x.form

unfoldable pub extent : Stmt → Extent
extent = fold-Stmt Extent Extent stmt_form stmt_node

abbrev pub extents : List Stmt → List Extent
extents = map extent
