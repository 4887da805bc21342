-- What one turn of the reading loop adds.
use Rattle.std.proofs.Common.{◌≡◌, ℕ, ◌+◌, ◌<◌, ◌≤◌, inr, List, [], ◌∷◌, ◌++◌, length, take, drop, ap, sym, subst, subst₂, arith, IsUtf8, take-append-drop, length-drop, length-take-le, drop-drop, refl}
use Rattle.enc_lex.specs.declared.kinds.Kind.{Kind}
use Rattle.enc_lex.specs.declared.standing.Standing.TheVariants as st
use Rattle.enc_lex.specs.declared.tokens.Token.{Token}
use Rattle.enc_lex.specs.Reading.{standing}
use Rattle.enc_lex.specs.Lexes.{max_len, span, Meets}
use Rattle.enc_lex.specs.Failure.{Refuses, token_reject}
use Rattle.enc_lex.proofs.StandLaws.{Holds, standing_holds}
use Rattle.enc_lex.proofs.MeetLaws.{then_gap, then_token, gap_utf8, token_utf8, bad_from}

-- Reading has come so many bytes further.
pub record Reaches (text : List ℕ) (at len : ℕ) (tokens : List Token) : Type 0 where
  pub some : 0 < len
  pub within : at + len ≤ length text
  pub utf8 : IsUtf8 (drop (at + len) text)
  pub read : Meets 0 text (at + len) (drop (at + len) text) tokens

pub gap_step : (text : List ℕ) (at len : ℕ) (tokens : List Token) → at ≤ length text → IsUtf8 (drop at text) → Meets 0 text at (drop at text) tokens → standing (drop at text) ≡ st.Gap len → Reaches text at len tokens
gap_step text at len tokens inside u read e =
    let place = drop at text in
    let is = subst (Holds place) e (standing_holds place u) in
    let split = sym (take-append-drop len place) in
    let front : length (take len place) ≡ len = length-take-le len place is.0 in
    let behind : drop len place ≡ drop (at + len) text = drop-drop len at text in
    let left = gap_utf8 (take len place) (drop len place) is.2 (subst IsUtf8 split u) in
    let on = then_gap read (take len place) (drop len place) split is.2 in
    record {
      some = is.1;
      within = omega (arith, is.0, length-drop at text);
      utf8 = subst IsUtf8 behind left;
      read = subst₂ (λ n r. Meets 0 text (at + n) r tokens) front behind on;
    }

pub token_step : (text : List ℕ) (at len : ℕ) (kind : Kind) (tokens : List Token) → at ≤ length text → IsUtf8 (drop at text) → Meets 0 text at (drop at text) tokens → standing (drop at text) ≡ st.Token kind len → Reaches text at len (tokens ++ record { kind = kind; span = span at (at + len) } ∷ [])
token_step text at len kind tokens inside u read e =
    let place = drop at text in
    let is = subst (Holds place) e (standing_holds place u) in
    let split = sym (take-append-drop len place) in
    let front : length (take len place) ≡ len = length-take-le len place is.0 in
    let behind : drop len place ≡ drop (at + len) text = drop-drop len at text in
    let left = token_utf8 kind (take len place) (drop len place) is.2 (subst IsUtf8 split u) in
    let on = then_token read kind (take len place) (drop len place) split is.2 in
    record {
      some = is.1;
      within = omega (arith, is.0, length-drop at text);
      utf8 = subst IsUtf8 behind left;
      read = subst₂ (λ n r. Meets 0 text (at + n) r (tokens ++ record { kind = kind; span = span at (at + n) } ∷ [])) front behind on;
    }

-- where nothing is found, the text is refused
pub stuck : (text : List ℕ) (at : ℕ) (tokens : List Token) → length text ≤ max_len → IsUtf8 text → at < length text → Meets 0 text at (drop at text) tokens → standing (drop at text) ≡ st.Nothing → Refuses text (token_reject at)
stuck text at tokens short u inside read e =
    let more : (drop at text ≡ []) → ⊥ = λ none. absurd (omega (arith, ap length none, length-drop at text)) in
    inr (inr (record { short = short; utf8 = u; place = at; rest = drop at text; tokens = tokens; read = read; bad = bad_from (drop at text) more e; is = refl }))
