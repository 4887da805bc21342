-- What follows for the answer of a text.
use Rattle.std.proofs.Common.{length, subst, IfOk, IfErr, All}
use Rattle.enc_lex.specs.Answers.{Fails}
use Rattle.enc_lex.specs.Lexes.{Lexes, StandsIn, InOrder}
use Rattle.enc_lex.proofs.OneAnswer.{lexes_in_order, lexes_stands, only_tokens, only_failure, ok_weaker}
use Rattle.enc_lex.proofs.lexing.lex.Goals as goal

lexed : (c : goal.After-tokens_of) → IfOk c.tokens_of.result (λ tokens. Lexes c.args.text.now tokens)
lexed c = subst (λ text. IfOk c.tokens_of.result (λ tokens. Lexes text tokens)) c.in-Ok.ensures.cases.0 c.tokens_of.ensures.lexed

refused : (c : goal.After-tokens_of) → IfErr c.tokens_of.result (λ fail. Fails c.args.text.now fail)
refused c = subst (λ text. IfErr c.tokens_of.result (λ fail. Fails text fail)) c.in-Ok.ensures.cases.0 c.tokens_of.ensures.refused

pub returns-in-Ok-clause-only_tokens : goal.returns-in-Ok-clause-only_tokens
returns-in-Ok-clause-only_tokens c = only_tokens c.args.text.now c.tokens_of.result (lexed c) (refused c)

pub returns-in-Ok-clause-only_failure : goal.returns-in-Ok-clause-only_failure
returns-in-Ok-clause-only_failure c = only_failure c.args.text.now c.tokens_of.result (lexed c) (refused c)

pub returns-in-Ok-clause-in_order : goal.returns-in-Ok-clause-in_order
returns-in-Ok-clause-in_order c =
    let text = c.args.text.now in
    ok_weaker (Lexes text) (InOrder 0 (length text)) c.tokens_of.result (lexes_in_order text) (lexed c)

pub returns-in-Ok-clause-standing : goal.returns-in-Ok-clause-standing
returns-in-Ok-clause-standing c =
    let text = c.args.text.now in
    ok_weaker (Lexes text) (λ tokens. All (StandsIn text) tokens) c.tokens_of.result (lexes_stands text) (lexed c)
