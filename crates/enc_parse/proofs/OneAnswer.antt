-- A text spells one program or has one failure, and has no other answer.
use Rattle.std.proofs.Common.{◌≡◌, ◌⊎◌, ℕ, ◌-◌, inl, inr, List, [], length, refl, ap, sym, subst, ◌∙◌, Result, Ok, Err, IfOk, IfErr}
use Rattle.enc_ast.specs.declared.rules.Span.{Span}
use Rattle.enc_ast.specs.declared.rules.Rule.TheVariants as rules
use Rattle.enc_ast.specs.declared.rules.Reject.{Reject}
use Rattle.enc_ast.specs.declared.rules.Fail.{Fail}
use Rattle.enc_ast.specs.declared.rules.Fail.TheVariants as errors
use Rattle.enc_ast.specs.declared.decls.Decl.{Decl}
use Rattle.enc_ast.specs.declared.Program.{Program}
use Rattle.enc_lex.specs.declared.tokens.Token.{Token}
use Rattle.enc_lex.specs.Lexes.{Lexes}
use Rattle.enc_lex.specs.Failure as lexical
use Rattle.enc_lex.proofs.OneAnswer.{answer_of, one_lexes, lexes_not_refused, one_refusal}
use Rattle.enc_cursor.specs.Limits.{Limits, allowed, standard}
use Rattle.enc_cursor.specs.Place.{Spot, first_spot}
use Rattle.enc_cursor.specs.Steps.{Outcome, Got, Wrong, Over, some}
use Rattle.enc_cursor.specs.Answers.{Fits}
use Rattle.enc_cursor.proofs.Openings.{zero_fits}
use Rattle.enc_cursor.proofs.Whole.{Whole, many_all, one_tree, read_fits, is_first, is_over}
use Rattle.enc_cursor.proofs.OneAnswer.{one_over, one_wrong, one_failure, fits_not_over}
use Rattle.enc_parse.specs.Decls.{IsProgram}
use Rattle.enc_parse.specs.DeclReading.{declaration, declarations}
use Rattle.enc_parse.specs.Spells.{whole, SpellsWithin, Spells}
use Rattle.enc_parse.specs.Failure.{place_at, RefusesTokens, Refuses}
use Rattle.enc_parse.specs.Answers.{Fails, GivesProgram, GivesFailure, OneAnswer}
use Rattle.enc_parse.proofs.DeclLaws.{every_kind, declarations_law}

-- declarations are read up to the end
to_the_end : (text : List ℕ) (L : Limits) (a b : Spot) (x : List Decl) → declarations text L.counts L.brackets a ≡ Got x b → b.ahead ≡ []
unfolding declarations
to_the_end text L a b x e = many_all (declaration text L.counts L.brackets) a b x e

-- what finds the declarations of a text does so at all limits
pub whole_text : (text : List ℕ) → Whole (IsProgram text) every_kind some (λ L. declarations text L.counts L.brackets)
whole_text text = record { law = λ L. declarations_law L text L.brackets (zero_fits L.brackets); end = refl; all = to_the_end text }

-- ---- the tokens of a text

-- where the parser goes wrong there is the first failure
pub wrong_at : (text : List ℕ) (tokens : List Token) (b : Spot) → declarations text allowed 256 (first_spot tokens) ≡ Wrong b
    → RefusesTokens text tokens (record { rule = rules.Form; span = place_at (length text) tokens (length tokens - length b.ahead) })
wrong_at text tokens b e = inl (record { at = length tokens - length b.ahead; first = is_first (whole_text text) standard tokens b e; is = refl })

-- where a limit is passed there is the first token by which one is passed
pub over_at : (text : List ℕ) (tokens : List Token) (b : Spot) → declarations text allowed 256 (first_spot tokens) ≡ Over b
    → RefusesTokens text tokens (record { rule = rules.Limit; span = place_at (length text) tokens (length tokens - length b.ahead - 1) })
over_at text tokens b e = inr (record { at = length tokens - length b.ahead - 1; first = is_over (whole_text text) standard tokens b e; is = refl })

-- a program within the limits has no failure
fits_not_refused : (text : List ℕ) (tokens : List Token) (ds : List Decl) (reject : Reject) → Fits standard (IsProgram text) tokens ds → RefusesTokens text tokens reject → ⊥
fits_not_refused text tokens ds reject fits (inl wrong) = wrong.first.whole ds fits.spells
fits_not_refused text tokens ds reject fits (inr over) = fits_not_over standard tokens ds over.at fits over.first

-- tokens are refused in one way
one_unfit : (text : List ℕ) (tokens : List Token) (r s : Reject) → RefusesTokens text tokens r → RefusesTokens text tokens s → r ≡ s
one_unfit text tokens r s (inl a) (inl b) = a.is ∙ (ap (λ (at : ℕ). record { rule = rules.Form; span = place_at (length text) tokens at }) (one_wrong standard tokens a.at b.at a.first b.first) ∙ sym b.is)
one_unfit text tokens r s (inl a) (inr b) = absurd (one_failure standard tokens a.at b.at a.first b.first)
one_unfit text tokens r s (inr a) (inl b) = absurd (one_failure standard tokens b.at a.at b.first a.first)
one_unfit text tokens r s (inr a) (inr b) = a.is ∙ (ap (λ (at : ℕ). record { rule = rules.Limit; span = place_at (length text) tokens at }) (one_over standard tokens a.at b.at a.first b.first) ∙ sym b.is)

-- ---- the text

same_program : (p q : Program) → p.decls ≡ q.decls → p.span ≡ q.span → p ≡ q
same_program p q d s = ap (λ (ds : List Decl). record { decls = ds; span = p.span }) d ∙ ap (λ (v : Span). record { decls = q.decls; span = v }) s

pub one_program : (text : List ℕ) (L M : Limits) (p q : Program) → SpellsWithin L text p → SpellsWithin M text q → p ≡ q
one_program text L M p q a b =
    let same = one_lexes text a.tokens b.tokens a.lexes b.lexes in
    let fits = subst (λ (w : List Token). Fits L (IsProgram text) w p.decls) same a.fits in
    same_program p q (one_tree (whole_text text) b.tokens p.decls q.decls fits.spells b.fits.spells) (a.span ∙ sym b.span)

pub spells_not_refused : (text : List ℕ) (p : Program) (r : Reject) → Spells text p → Refuses text r → ⊥
spells_not_refused text p r a (inl e) = lexes_not_refused text a.tokens r a.lexes e
spells_not_refused text p r a (inr u) =
    let fits = subst (λ (w : List Token). Fits standard (IsProgram text) w p.decls) (one_lexes text a.tokens u.tokens a.lexes u.lexes) a.fits in
    fits_not_refused text u.tokens p.decls r fits u.unfit

pub one_first : (text : List ℕ) (r s : Reject) → Refuses text r → Refuses text s → r ≡ s
one_first text r s (inl a) (inl b) = one_refusal text r s a b
one_first text r s (inl a) (inr b) = absurd (lexes_not_refused text b.tokens r b.lexes a)
one_first text r s (inr a) (inl b) = absurd (lexes_not_refused text a.tokens s a.lexes b)
one_first text r s (inr a) (inr b) =
    one_unfit text b.tokens r s (subst (λ (w : List Token). RefusesTokens text w r) (one_lexes text a.tokens b.tokens a.lexes b.lexes) a.unfit) b.unfit

-- a program, or a first failure
abbrev Answered : List ℕ → Type 0
Answered text = ((p : Program) × Spells text p) ⊎ ((r : Reject) × Refuses text r)

-- what has tokens is read to the end, or the tokens are refused
tokens_answered : (text : List ℕ) (tokens : List Token) → Lexes text tokens → (read : Outcome (List Decl)) → declarations text allowed 256 (first_spot tokens) ≡ read → Answered text
tokens_answered text tokens l (Got ds b) e = inl (record { decls = ds; span = whole (length text) }, record { tokens = tokens; lexes = l; fits = read_fits (whole_text text) standard tokens ds b e; span = refl })
tokens_answered text tokens l (Wrong b) e = inr (_, inr (record { tokens = tokens; lexes = l; unfit = wrong_at text tokens b e }))
tokens_answered text tokens l (Over b) e = inr (_, inr (record { tokens = tokens; lexes = l; unfit = over_at text tokens b e }))

answered : (text : List ℕ) → Answered text
answered text = go (answer_of text).answer
  where
    go : ((tokens : List Token) × Lexes text tokens) ⊎ ((reject : Reject) × lexical.Refuses text reject) → Answered text
    go (inl t) = tokens_answered text t.0 t.1 _ refl
    go (inr r) = inr (r.0, inl r.1)

pub one_answer : (text : List ℕ) → OneAnswer text
one_answer text = record { answered = answered text; one_program = one_program text; one_failure = one_first text; never_both = spells_not_refused text }

-- so what is given where both clauses hold is all that can be
pub only_program : (text : List ℕ) (r : Result Program Fail) → IfOk r (λ program. Spells text program) → IfErr r (λ fail. Fails text fail) → (program : Program) → Spells text program → GivesProgram program r
only_program text (Ok given) is fails program has = one_program text standard standard given program is has
only_program text (Err (errors.Reject reject)) is fails program has = spells_not_refused text program reject has fails
only_program text (Err errors.Memory) is fails program has = tt

pub only_failure : (text : List ℕ) (r : Result Program Fail) → IfOk r (λ program. Spells text program) → IfErr r (λ fail. Fails text fail) → (reject : Reject) → Refuses text reject → GivesFailure reject r
only_failure text (Ok given) is fails reject has = spells_not_refused text given reject is has
only_failure text (Err (errors.Reject given)) is fails reject has = one_first text given reject fails has
only_failure text (Err errors.Memory) is fails reject has = tt
