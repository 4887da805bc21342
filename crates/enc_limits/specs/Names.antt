-- What is said of the names of variables.
use Rattle.std.specs.Prelude.{◌≡◌, ℕ, false, IsTrue}
use Rattle.enc_ast.specs.Keywords.{is_keyword}
use Rattle.enc_ast.specs.declared.rules.Span.{Span}
use Rattle.enc_ast.specs.declared.decls.Name.{Name}
use Rattle.enc_ast.specs.declared.StmtForm.{StmtForm}
use Rattle.enc_limits.specs.Stmts.{extent}

-- a name that is no word of the language
abbrev pub IsFree : Name → Type 0
IsFree x = is_keyword x.word ≡ false

-- a statement of this form within the limits, where so many brackets are open and so many variables are visible
abbrev pub Fits : StmtForm → Span → ℕ → ℕ → Type 0
Fits form v n i = IsTrue ((extent (record { form = form; span = v })).fits n i)
