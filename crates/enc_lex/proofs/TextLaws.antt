-- Texts between quotes.
use Rattle.std.proofs.Common.{◌≡◌, ℕ, ◌+◌, Bool, true, false, ◌||◌, ◌==◌, List, [], ◌∷◌, ◌++◌, length, refl, ap, sym, ◌∙◌, arith, Option, Some, None, ⊎_elim, add-zero}
use Rattle.std.proofs.lemmas.Bool.{or_parts, not-true, cases_Bool, eqb-true, or_from, not_from_false, cond-true, cond-false}
use Rattle.enc_lex.specs.Bytes.{quote, backslash, line_feed, is_plain}
use Rattle.enc_lex.specs.Escapes.{is_escape}
use Rattle.enc_lex.specs.Standing.{IsQuotable, empty, plain, escape}
use Rattle.enc_lex.specs.Reading.{text_end}

-- a byte that stands for itself is none of the three others
pub plain_parts : (byte : ℕ) → is_plain byte ≡ true → ((byte == quote) ≡ false) × ((byte == backslash) ≡ false) × ((byte == line_feed) ≡ false)
plain_parts byte is =
    let outer = or_parts (byte == quote || byte == backslash) (byte == line_feed) (not-true _ is) in
    let inner = or_parts (byte == quote) (byte == backslash) outer.0 in
    (inner.0, inner.1, outer.1)

-- the end of a text is found
pub text_end_found : (at : ℕ) (between rest : List ℕ) → IsQuotable between → text_end at false ((between ++ quote ∷ []) ++ rest) ≡ Some (at + length between + 1)
text_end_found at _ rest empty = ap (λ n. Some (n + 1)) (sym (add-zero at))
text_end_found at _ rest (plain {byte} {bytes} is more) =
    let no = plain_parts byte is in
    let later = text_end_found (at + 1) bytes rest more in
    let e : at + 1 + length bytes + 1 ≡ at + length (byte ∷ bytes) + 1 = omega arith in
    rw (no.0, no.1, no.2) (later ∙ ap Some e)
text_end_found at _ rest (escape {letter} {bytes} is more) =
    let later = text_end_found (at + 1 + 1) bytes rest more in
    let e : at + 1 + 1 + length bytes + 1 ≡ at + length (backslash ∷ letter ∷ bytes) + 1 = omega arith in
    rw is (later ∙ ap Some e)

-- What comes before the end that was found.
pub record ClosesHere (at : ℕ) (bytes : List ℕ) (end : ℕ) : Type 0 where
  pub between : List ℕ
  pub rest : List ℕ
  pub split : bytes ≡ (between ++ quote ∷ []) ++ rest
  pub quotable : IsQuotable between
  pub ends : end ≡ at + length between + 1

-- The same behind a backslash.
pub record ClosesEscaped (at : ℕ) (bytes : List ℕ) (end : ℕ) : Type 0 where
  pub letter : ℕ
  pub more : List ℕ
  pub split : bytes ≡ letter ∷ more
  pub known : is_escape letter ≡ true
  pub closes : ClosesHere (at + 1) more end

abbrev pub Closes : Bool → ℕ → List ℕ → ℕ → Type 0
Closes false at bytes end = ClosesHere at bytes end
Closes true at bytes end = ClosesEscaped at bytes end

closes_quote : (at byte : ℕ) (bytes : List ℕ) (end : ℕ) → (byte == quote) ≡ true → Some (at + 1) ≡ Some end → ClosesHere at (byte ∷ bytes) end
closes_quote at byte bytes end is e =
    let same : byte ≡ quote = eqb-true byte quote is in
    let ends : at + 1 ≡ end = cc in
    record { between = []; rest = bytes; split = ap (λ b. b ∷ bytes) same; quotable = empty; ends = omega arith }

closes_escape : (at byte : ℕ) (bytes : List ℕ) (end : ℕ) → (byte == backslash) ≡ true → ClosesEscaped (at + 1) bytes end → ClosesHere at (byte ∷ bytes) end
closes_escape at byte bytes end is c =
    let same : byte ≡ backslash = eqb-true byte backslash is in
    let ends : end ≡ at + 1 + 1 + length c.closes.between + 1 = c.closes.ends in
    let more : bytes ≡ c.letter ∷ ((c.closes.between ++ quote ∷ []) ++ c.closes.rest) = c.split ∙ ap (λ bs. c.letter ∷ bs) c.closes.split in
    record { between = backslash ∷ c.letter ∷ c.closes.between; rest = c.closes.rest; split = ap (λ b. b ∷ bytes) same ∙ ap (λ bs. backslash ∷ bs) more; quotable = escape c.known c.closes.quotable; ends = omega arith }

closes_plain : (at byte : ℕ) (bytes : List ℕ) (end : ℕ) → (byte == quote) ≡ false → (byte == backslash) ≡ false → (byte == line_feed) ≡ false → ClosesHere (at + 1) bytes end → ClosesHere at (byte ∷ bytes) end
closes_plain at byte bytes end q b l c =
    let ends : end ≡ at + 1 + length c.between + 1 = c.ends in
    let is : is_plain byte ≡ true = not_from_false _ (or_from _ _ (or_from _ _ q b) l) in
    record { between = byte ∷ c.between; rest = c.rest; split = ap (λ bs. byte ∷ bs) c.split; quotable = plain is c.quotable; ends = omega arith }

none_some : {X : Type 0} (end : ℕ) → ◌≡◌ {A = Option ℕ} None (Some end) → X
none_some end e = absurd (cc)

pub text_end_tells : (escaped : Bool) (at : ℕ) (bytes : List ℕ) (end : ℕ) → text_end at escaped bytes ≡ Some end → Closes escaped at bytes end
text_end_tells true at [] end e = none_some end e
text_end_tells false at [] end e = none_some end e
text_end_tells true at (letter ∷ bytes) end e =
    let tells = text_end_tells false (at + 1) bytes end in
    ⊎_elim
    (λ (yes : is_escape letter ≡ true). record { letter = letter; more = bytes; split = refl; known = yes; closes = tells (sym (cond-true _ _ _ yes) ∙ e) })
    (λ (no : is_escape letter ≡ false). none_some end (sym (cond-false _ _ _ no) ∙ e))
    (cases_Bool (is_escape letter))
text_end_tells false at (byte ∷ bytes) end e =
    let escaped = text_end_tells true (at + 1) bytes end in
    let onward = text_end_tells false (at + 1) bytes end in
    ⊎_elim
    (λ (q : (byte == quote) ≡ true). closes_quote at byte bytes end q (sym (cond-true _ _ _ q) ∙ e))
    (λ (nq : (byte == quote) ≡ false). ⊎_elim
    (λ (b : (byte == backslash) ≡ true). closes_escape at byte bytes end b (escaped (sym (cond-true _ _ _ b) ∙ (sym (cond-false _ _ _ nq) ∙ e))))
    (λ (nb : (byte == backslash) ≡ false). ⊎_elim
    (λ (l : (byte == line_feed) ≡ true). none_some end (sym (cond-true _ _ _ l) ∙ (sym (cond-false _ _ _ nb) ∙ (sym (cond-false _ _ _ nq) ∙ e))))
    (λ (nl : (byte == line_feed) ≡ false). closes_plain at byte bytes end nq nb nl (onward (sym (cond-false _ _ _ nl) ∙ (sym (cond-false _ _ _ nb) ∙ (sym (cond-false _ _ _ nq) ∙ e)))))
    (cases_Bool (byte == line_feed)))
    (cases_Bool (byte == backslash)))
    (cases_Bool (byte == quote))
