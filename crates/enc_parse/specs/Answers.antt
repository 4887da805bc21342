-- What may be answered for a text.
use Rattle.std.specs.Prelude.{◌≡◌, ◌⊎◌, ℕ, List, Result, Ok, Err}
use Rattle.enc_ast.specs.declared.rules.Reject.{Reject}
use Rattle.enc_ast.specs.declared.rules.Fail.{Fail}
use Rattle.enc_ast.specs.declared.rules.Fail.TheVariants as fails
use Rattle.enc_ast.specs.declared.Program.{Program}
use Rattle.enc_lex.specs.declared.tokens.Token.{Token}
use Rattle.enc_cursor.specs.Limits.{Limits}
use Rattle.enc_parse.specs.Failure.{RefusesTokens, Refuses}
use Rattle.enc_parse.specs.Spells.{SpellsWithin, Spells}

-- why the tokens of a text are no program: they have this failure, or memory ran out
abbrev pub FailsTokens : List ℕ → List Token → Fail → Type 0
FailsTokens text tokens (fails.Reject reject) = RefusesTokens text tokens reject
FailsTokens text tokens fails.Memory = Unit {0}

-- why no program is given: the text has this failure, or memory ran out
abbrev pub Fails : List ℕ → Fail → Type 0
Fails text (fails.Reject reject) = Refuses text reject
Fails text fails.Memory = Unit {0}

-- this program is given and no other, or memory ran out
abbrev pub GivesProgram : Program → Result Program Fail → Type 0
GivesProgram program (Ok given) = given ≡ program
GivesProgram program (Err (fails.Reject reject)) = ⊥
GivesProgram program (Err fails.Memory) = Unit {0}

-- this failure is given and no other, or memory ran out
abbrev pub GivesFailure : Reject → Result Program Fail → Type 0
GivesFailure reject (Ok given) = ⊥
GivesFailure reject (Err (fails.Reject given)) = given ≡ reject
GivesFailure reject (Err fails.Memory) = Unit {0}

-- A text has one answer: it spells a program or has a first failure, never both, and one of them at most, whatever the limits of what it spells.
pub record OneAnswer (text : List ℕ) : Type 0 where
  pub answered : ((p : Program) × Spells text p) ⊎ ((r : Reject) × Refuses text r)
  pub one_program : (L M : Limits) (p q : Program) → SpellsWithin L text p → SpellsWithin M text q → p ≡ q
  pub one_failure : (r s : Reject) → Refuses text r → Refuses text s → r ≡ s
  pub never_both : (p : Program) (r : Reject) → Spells text p → Refuses text r → ⊥
