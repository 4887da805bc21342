-- What may be answered for a text.
use Rattle.std.specs.Prelude.{◌≡◌, ℕ, List, Result, Ok, Err}
use Rattle.enc_ast.specs.declared.rules.Reject.{Reject}
use Rattle.enc_ast.specs.declared.rules.Fail.{Fail}
use Rattle.enc_ast.specs.declared.rules.Fail.TheVariants as fails
use Rattle.enc_lex.specs.declared.tokens.Token.{Token}
use Rattle.enc_lex.specs.Failure.{Refuses}

-- why no tokens are given: the text has this failure, or memory ran out
abbrev pub Fails : List ℕ → Fail → Type 0
Fails text (fails.Reject reject) = Refuses text reject
Fails text fails.Memory = Unit {0}

-- these tokens are given and no others, or memory ran out
abbrev pub GivesTokens : List Token → Result (List Token) Fail → Type 0
GivesTokens tokens (Ok given) = given ≡ tokens
GivesTokens tokens (Err (fails.Reject reject)) = ⊥
GivesTokens tokens (Err fails.Memory) = Unit {0}

-- this failure is given and no other, or memory ran out
abbrev pub GivesFailure : Reject → Result (List Token) Fail → Type 0
GivesFailure reject (Ok given) = ⊥
GivesFailure reject (Err (fails.Reject given)) = given ≡ reject
GivesFailure reject (Err fails.Memory) = Unit {0}
