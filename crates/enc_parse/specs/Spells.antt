-- The program that a text spells.
use Rattle.std.specs.Prelude.{◌≡◌, ℕ, List, length}
use Rattle.enc_ast.specs.declared.rules.Span.{Span}
use Rattle.enc_ast.specs.declared.Program.{Program}
use Rattle.enc_lex.specs.declared.tokens.Token.{Token}
use Rattle.enc_lex.specs.Lexes.{Lexes}
use Rattle.enc_cursor.specs.Limits.{Limits, standard}
use Rattle.enc_cursor.specs.Answers.{Fits}
use Rattle.enc_parse.specs.Decls.{IsProgram}

-- all of a text of this length
abbrev pub whole : ℕ → Span
whole len = record { start = 0; end = len }

-- The text has tokens, they spell the declarations of the program with their places, and pass none of these limits.
pub record SpellsWithin (L : Limits) (text : List ℕ) (program : Program) : Type 0 where
  pub tokens : List Token
  pub lexes : Lexes text tokens
  pub fits : Fits L (IsProgram text) tokens program.decls
  pub span : program.span ≡ whole (length text)

-- the text spells the program, within the limits of a text
abbrev pub Spells : List ℕ → Program → Type 0
Spells = SpellsWithin standard
