-- A text has its tokens or one failure, and never two answers.
use Rattle.std.proofs.Common.{◌≡◌, ℕ, ◌<◌, ◌≤◌, ◌⊎◌, inl, inr, ⊎_elim, true, false, List, [], length, refl, ap, sym, subst, ◌∙◌, arith, IsUtf8, All, true≢false, Result, Ok, Err, IfOk, IfErr}
use Rattle.std.proofs.lemmas.Bool.{cases_lt, cases_Bool}
use Rattle.std.proofs.lemmas.Str.{IsUtf8-from_is_utf8, is_utf8-from_IsUtf8}
use Rattle.std.specs.Str.{is_utf8}
use Rattle.std.specs.Str.Lossy.{utf8_valid_len}
use Rattle.enc_ast.specs.declared.rules.Reject.{Reject}
use Rattle.enc_ast.specs.declared.rules.Fail.{Fail}
use Rattle.enc_ast.specs.declared.rules.Fail.TheVariants as errors
use Rattle.enc_lex.specs.declared.tokens.Token.{Token}
use Rattle.enc_lex.specs.declared.standing.Standing.TheVariants as st
use Rattle.enc_lex.specs.Reading.{standing}
use Rattle.enc_lex.specs.Lexes.{max_len, Meets, Lexes, StandsIn, InOrder}
use Rattle.enc_lex.specs.Answers.{Fails, GivesTokens, GivesFailure}
use Rattle.enc_lex.specs.Failure.{IsBad, Refuses, IsStuck, token_reject, size_reject}
use Rattle.enc_lex.proofs.MeetLaws.{meets_same, meets_in_order, meets_len, meets_stands, nothing_at_end, nothing_from, meets_utf8, ends, Ends}

-- a text has one list of tokens
pub one_lexes : (text : List ℕ) (a b : List Token) → Lexes text a → Lexes text b → a ≡ b
one_lexes text a b one two = (meets_same one.read two.read nothing_at_end nothing_at_end).tokens

-- they stand in order
pub lexes_in_order : (text : List ℕ) (tokens : List Token) → Lexes text tokens → InOrder 0 (length text) tokens
lexes_in_order text tokens is =
    let end : is.end ≡ length text = omega (arith, meets_len is.read) in
    subst (λ n. InOrder 0 n tokens) end (meets_in_order is.read)

-- and each is what the bytes at its span are
pub lexes_stands : (text : List ℕ) (tokens : List Token) → Lexes text tokens → All (StandsIn text) tokens
lexes_stands text tokens is = meets_stands is.read [] refl

stuck_nothing : (text : List ℕ) (reject : Reject) (is : IsStuck text reject) → standing is.rest ≡ st.Nothing
stuck_nothing text reject is = nothing_from is.rest (meets_utf8 is.read is.utf8) is.bad

-- a text that has tokens is not refused
pub lexes_not_refused : (text : List ℕ) (tokens : List Token) (reject : Reject) → Lexes text tokens → Refuses text reject → ⊥
lexes_not_refused text tokens reject is (inl long) = absurd (omega (arith, is.short, long.long))
lexes_not_refused text tokens reject is (inr (inl broken)) = broken.broken is.utf8
lexes_not_refused text tokens reject is (inr (inr stuck)) =
    stuck.bad.some (sym (meets_same is.read stuck.read nothing_at_end (stuck_nothing text reject stuck)).left)

-- a text is refused in one way
pub one_refusal : (text : List ℕ) (a b : Reject) → Refuses text a → Refuses text b → a ≡ b
one_refusal text a b (inl one) (inl two) = one.is ∙ sym two.is
one_refusal text a b (inl one) (inr (inl two)) = absurd (omega (arith, one.long, two.short))
one_refusal text a b (inl one) (inr (inr two)) = absurd (omega (arith, one.long, two.short))
one_refusal text a b (inr (inl one)) (inl two) = absurd (omega (arith, one.short, two.long))
one_refusal text a b (inr (inl one)) (inr (inl two)) = one.is ∙ sym two.is
one_refusal text a b (inr (inl one)) (inr (inr two)) = absurd (one.broken two.utf8)
one_refusal text a b (inr (inr one)) (inl two) = absurd (omega (arith, one.short, two.long))
one_refusal text a b (inr (inr one)) (inr (inl two)) = absurd (two.broken one.utf8)
one_refusal text a b (inr (inr one)) (inr (inr two)) =
    let place = (meets_same one.read two.read (stuck_nothing text a one) (stuck_nothing text b two)).ends in
    one.is ∙ (ap token_reject place ∙ sym two.is)

-- A text has tokens, or is refused.
pub record Answer (text : List ℕ) : Type 0 where
  pub answer : ((tokens : List Token) × Lexes text tokens) ⊎ ((reject : Reject) × Refuses text reject)

read_answer : (text : List ℕ) → length text ≤ max_len → IsUtf8 text → (e : Ends 0 text) → (e.left ≡ []) ⊎ IsBad e.left → Answer text
read_answer text short u e (inl none) =
    record { answer = inl (e.tokens, record { short = short; utf8 = u; end = e.end; read = subst (λ l. Meets 0 text e.end l e.tokens) none e.read }) }
read_answer text short u e (inr bad) =
    record { answer = inr (token_reject e.end, inr (inr (record { short = short; utf8 = u; place = e.end; rest = e.left; tokens = e.tokens; read = e.read; bad = bad; is = refl }))) }

pub answer_of : (text : List ℕ) → Answer text
answer_of text =
    ⊎_elim
    (λ (long : max_len < length text). record { answer = inr (size_reject, inl (record { long = long; is = refl })) })
    (λ (short : length text ≤ max_len). ⊎_elim
    (λ (yes : is_utf8 text ≡ true).
    let u = IsUtf8-from_is_utf8 text yes in
    let e = ends 0 text u in
    read_answer text short u e e.over)
    (λ (no : is_utf8 text ≡ false).
    record { answer = inr (token_reject (utf8_valid_len text), inr (inl (record { short = short; broken = λ u. true≢false (sym (is_utf8-from_IsUtf8 text u) ∙ no); is = refl }))) })
    (cases_Bool (is_utf8 text)))
    (cases_lt max_len (length text))

-- so what is given where both clauses hold is all that can be
pub only_tokens : (text : List ℕ) (r : Result (List Token) Fail) → IfOk r (λ tokens. Lexes text tokens) → IfErr r (λ fail. Fails text fail) → (tokens : List Token) → Lexes text tokens → GivesTokens tokens r
only_tokens text (Ok given) is fails tokens has = one_lexes text given tokens is has
only_tokens text (Err (errors.Reject reject)) is fails tokens has = lexes_not_refused text tokens reject has fails
only_tokens text (Err errors.Memory) is fails tokens has = tt

pub only_failure : (text : List ℕ) (r : Result (List Token) Fail) → IfOk r (λ tokens. Lexes text tokens) → IfErr r (λ fail. Fails text fail) → (reject : Reject) → Refuses text reject → GivesFailure reject r
only_failure text (Ok given) is fails reject has = lexes_not_refused text given reject is has
only_failure text (Err (errors.Reject given)) is fails reject has = one_refusal text given reject fails has
only_failure text (Err errors.Memory) is fails reject has = tt

-- what holds of each value holds of a result's
pub ok_weaker : {X E : Type 0} (P Q : X → Type 0) (r : Result X E) → ((x : X) → P x → Q x) → IfOk r P → IfOk r Q
ok_weaker P Q (Ok x) on is = on x is
ok_weaker P Q (Err e) on is = tt
