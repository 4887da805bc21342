-- From each place the loop goes on to the next.
use Rattle.std.proofs.Common.{◌+◌, ◌++◌, ◌∷◌, [], sym, ap, ◌∙◌, arith, subst}
use Rattle.std.proofs.lemmas.Str.{IsCharBoundary-from_drop}
use Rattle.enc_lex.specs.Lexes.{Meets, here, span}
use Rattle.enc_lex.specs.Reading.{standing}
use Rattle.enc_lex.proofs.StepLaws.{Reaches, gap_step, token_step, stuck}
use Rattle.enc_lex.proofs.lexing.tokens_of.Goals as goal

pub places-init : goal.places-init
places-init c = record { within = omega arith; utf8 = c.utf8.text; read = subst (λ tokens. Meets 0 c.args.text.now 0 c.args.text.now tokens) (sym c.new-tokens.ensures) here }

pub range_from-requires : goal.range_from-requires
range_from-requires c = λ _. IsCharBoundary-from_drop c.args.text.now c.places.at c.places.invariant.within c.places.invariant.utf8

gap : (c : goal.In-Gap) → Reaches c.args.text.now c.places.at c.in-Gap.len c.places.tokens
gap c =
    gap_step c.args.text.now c.places.at c.in-Gap.len c.places.tokens c.places.invariant.within c.places.invariant.utf8 c.places.invariant.read
    (sym (c.stands_first.ensures ∙ ap standing c.range_from.ensures.value) ∙ c.in-Gap.is)

token : (c : goal.In-Token) → Reaches c.args.text.now c.places.at c.in-Token.len (c.places.tokens ++ record { kind = c.in-Token.kind; span = span c.places.at (c.places.at + c.in-Token.len) } ∷ [])
token c =
    token_step c.args.text.now c.places.at c.in-Token.len c.in-Token.kind c.places.tokens c.places.invariant.within c.places.invariant.utf8 c.places.invariant.read
    (sym (c.stands_first.ensures ∙ ap standing c.range_from.ensures.value) ∙ c.in-Token.is)

pushed : (c : goal.In_ok-push-in-Token) → Reaches c.args.text.now c.places.at c.in-Token.len (c.places.tokens ++ record { kind = c.in-Token.kind; span = span c.places.at (c.places.at + c.in-Token.len) } ∷ [])
pushed c =
    token_step c.args.text.now c.places.at c.in-Token.len c.in-Token.kind c.places.tokens c.places.invariant.within c.places.invariant.utf8 c.places.invariant.read
    (sym (c.stands_first.ensures ∙ ap standing c.range_from.ensures.value) ∙ c.in-Token.is)

pub overflow_add-at : goal.overflow_add-at
overflow_add-at c = let on = (gap c).within in omega arith

pub places-smaller-in-Gap : goal.places-smaller-in-Gap
places-smaller-in-Gap c = let g = gap c in let on = g.within in let some = g.some in omega arith

pub places-preserved-in-Gap : goal.places-preserved-in-Gap
places-preserved-in-Gap c = let g = gap c in record { within = g.within; utf8 = g.utf8; read = g.read }

pub overflow_add-span : goal.overflow_add-span
overflow_add-span c = let on = (token c).within in omega arith

pub overflow_cast-span-in-Token : goal.overflow_cast-span-in-Token
overflow_cast-span-in-Token c = let on = (token c).within in omega arith

pub overflow_add-at-in-Token : goal.overflow_add-at-in-Token
overflow_add-at-in-Token c = let on = (pushed c).within in omega arith

pub places-smaller : goal.places-smaller
places-smaller c = let g = pushed c in let on = g.within in let some = g.some in omega arith

pub places-preserved : goal.places-preserved
places-preserved c =
    let g = pushed c in
    record { within = g.within; utf8 = g.utf8; read = rw c.in_ok-push-in-Token.ensures.ok g.read }

pub returns-in-Nothing-clause-refused : goal.returns-in-Nothing-clause-refused
returns-in-Nothing-clause-refused c =
    rw c.refused.ensures
    (stuck c.args.text.now c.places.at c.places.tokens c.requires c.utf8.text c.places-test.true c.places.invariant.read
    (sym (c.stands_first.ensures ∙ ap standing c.range_from.ensures.value) ∙ c.in-Nothing.is))
