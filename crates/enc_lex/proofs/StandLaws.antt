-- What stands at a place is what is found there.
use Rattle.std.proofs.Common.{◌≡◌, ℕ, suc, ◌+◌, ◌<◌, ◌≤◌, true, false, not, ◌==◌, nat_le, List, [], ◌∷◌, ◌++◌, length, take, drop, refl, ap, ap₂, sym, subst, ◌∙◌, arith, Option, Some, None, true≢false, slice_index, chars, encode_utf8_all, encode_utf8, IsUtf8, take_at, le-leb, leb-true, append_assoc, length-append, length-take-le, subst₂}
use Rattle.std.specs.List.{prefix_len, list_all}
use Rattle.std.specs.Str.{all_scalars}
use Rattle.std.specs.Char.{is_ascii_digit}
use Rattle.std.proofs.lemmas.Bool.{cond_both, and_parts, or_parts, cond-true, cond-false, and_left, eqb-true, not-true, not_from_false}
use Rattle.std.proofs.lemmas.Bool.Decides.{nat_tests}
use Rattle.std.proofs.lemmas.List.Sums.{prefix_len-le-length}
use Rattle.std.proofs.lemmas.Str.{length-encode, len_utf8_bounds}
use Rattle.unicode_ident.specs.Ident.{is_xid_continue}
use Rattle.enc_lex.specs.declared.kinds.Kind.{Kind}
use Rattle.enc_lex.specs.declared.kinds.Kind.TheVariants as k
use Rattle.enc_lex.specs.declared.standing.Standing.{Standing}
use Rattle.enc_lex.specs.declared.standing.Standing.TheVariants as st
use Rattle.enc_lex.specs.Bytes.{quote, slash, is_blank, is_in_line, begins_with}
use Rattle.enc_lex.specs.Names.{begins_name, is_name}
use Rattle.enc_lex.specs.Words.{kind_of_word}
use Rattle.enc_lex.specs.Symbols.{symbol_of}
use Rattle.enc_lex.specs.Values.{value_of, max_int}
use Rattle.enc_lex.specs.Standing.{is_number, IsQuotable, IsGap, blank, comment, Stands, name, int, text, symbol}
use Rattle.enc_lex.specs.Reading.{starts_comment, comment_len, int_of_len, int_at, text_end, text_to, text_at, name_of, name_at, longer, symbol_at, standing}
use Rattle.enc_lex.proofs.FrontLaws.{prefix_len_front, front_all, front_ends}
use Rattle.enc_lex.proofs.NameLaws.{is_other, chars_word, name_not_other, name_found, name_is, name_rest, name_taken, name_dropped, name_ends}
use Rattle.enc_lex.proofs.TextLaws.{text_end_found, text_end_tells, ClosesHere}
use Rattle.enc_lex.proofs.SymbolLaws.{symbol_found, no_null, whole_one, whole_two}

-- ---- what stands is found

digit_else : (byte : ℕ) → is_ascii_digit byte ≡ true → (is_blank byte ≡ false) × ((byte == slash) ≡ false)
digit_else byte is = (grind (arith, nat_tests), grind (arith, nat_tests))

pub gap_found : (skipped rest : List ℕ) → IsGap skipped rest → standing (skipped ++ rest) ≡ st.Gap (length skipped)
gap_found _ rest (blank {byte} is) = cond-true (is_blank byte) _ _ is
gap_found _ rest (comment {body} all ends) =
    let e = prefix_len_front is_in_line body rest all ends in
    let n : 2 + prefix_len is_in_line (body ++ rest) ≡ suc (suc (length body)) = omega arith in
    ap st.Gap n

int_found : (digit : ℕ) (digits rest : List ℕ) → is_number (digit ∷ digits) ≡ true → not (begins_with is_ascii_digit rest) ≡ true → value_of (digit ∷ digits) ≤ max_int → standing (digit ∷ (digits ++ rest)) ≡ st.Token k.Int (length (digit ∷ digits))
int_found digit digits rest all ends small =
    let parts = and_parts (is_ascii_digit digit) (list_all is_ascii_digit digits) all in
    let else_ = digit_else digit parts.0 in
    let len = prefix_len_front is_ascii_digit (digit ∷ digits) rest all ends in
    let value : nat_le (value_of (take (length (digit ∷ digits)) ((digit ∷ digits) ++ rest))) max_int ≡ true = ap (λ ds. nat_le (value_of ds) max_int) (take_at (digit ∷ digits) rest (length (digit ∷ digits)) refl) ∙ le-leb _ _ small in
    cond-false _ _ _ else_.0
    ∙ (cond-false _ _ _ (and_left _ _ else_.1)
    ∙ (cond-true _ _ _ parts.0
    ∙ (ap (int_of_len (digit ∷ (digits ++ rest))) len
    ∙ cond-true _ _ _ value)))

text_found : (between rest : List ℕ) → IsQuotable between → standing ((quote ∷ (between ++ quote ∷ [])) ++ rest) ≡ st.Token k.Text (length (quote ∷ (between ++ quote ∷ [])))
text_found between rest is =
    let e : 1 + length between + 1 ≡ length (quote ∷ (between ++ quote ∷ [])) = omega (arith, length-append between (quote ∷ [])) in
    ap text_to (text_end_found 1 between rest is) ∙ ap (st.Token k.Text) e

-- What the first byte of a name is not.
record IsNoOther (byte : ℕ) : Type 0 where
  pub blank : is_blank byte ≡ false
  pub digit : is_ascii_digit byte ≡ false
  pub quoted : (byte == quote) ≡ false
  pub slashed : (byte == slash) ≡ false

no_other_parts : (byte : ℕ) → is_other byte ≡ false → IsNoOther byte
no_other_parts byte none =
    let one = or_parts (is_blank byte) _ none in
    let two = or_parts (is_ascii_digit byte) _ one.1 in
    let three = or_parts (byte == quote) (byte == slash) two.1 in
    record { blank = one.0; digit = two.0; quoted = three.0; slashed = three.1 }

standing_name : (place : List ℕ) → is_other (slice_index place 0) ≡ false → begins_with begins_name (chars place) ≡ true → standing place ≡ name_at place
standing_name place none begins =
    let is = no_other_parts (slice_index place 0) none in
    cond-false _ _ _ is.blank
    ∙ (cond-false _ _ _ (and_left _ _ is.slashed)
    ∙ (cond-false _ _ _ is.digit
    ∙ (cond-false _ _ _ is.quoted
    ∙ cond-true _ _ _ begins)))

length_some : (c : ℕ) (cs rest : List ℕ) → 0 < length (encode_utf8_all (c ∷ cs) ++ rest)
length_some c cs rest = omega (arith, length-append (encode_utf8_all (c ∷ cs)) rest, length-append (encode_utf8 c) (encode_utf8_all cs), length-encode c, (len_utf8_bounds c).0)

named_found : (spelled rest : List ℕ) → all_scalars spelled ≡ true → is_name spelled ≡ true → not (begins_with is_xid_continue (chars rest)) ≡ true → standing (encode_utf8_all spelled ++ rest) ≡ st.Token (kind_of_word (encode_utf8_all spelled)) (length (encode_utf8_all spelled))
named_found [] rest ok named ends = absurd (true≢false (sym named))
named_found (c ∷ cs) rest ok named ends =
    let both = and_parts (begins_name c) (list_all is_xid_continue cs) named in
    let front : encode_utf8_all (c ∷ cs) ++ rest ≡ encode_utf8 c ++ (encode_utf8_all cs ++ rest) = append_assoc (encode_utf8 c) (encode_utf8_all cs) rest in
    let begins : begins_with begins_name (chars (encode_utf8_all (c ∷ cs) ++ rest)) ≡ true = rw (chars_word (c ∷ cs) rest ok) both.0 in
    standing_name _ (name_not_other _ _ c front (length_some c cs rest) both.0) begins
    ∙ ap (λ word. st.Token (kind_of_word word) (length word)) (name_found (c ∷ cs) rest ok named ends)

pub token_found : (kind : Kind) (word rest : List ℕ) → Stands kind word rest → standing (word ++ rest) ≡ st.Token kind (length word)
token_found kind word rest (name spelled ok e named ends is) =
    ap (λ w. standing (w ++ rest)) e
    ∙ (named_found spelled rest ok named ends
    ∙ (ap (λ w. st.Token (kind_of_word w) (length w)) (sym e)
    ∙ ap (λ x. st.Token x (length word)) (sym is)))
token_found _ [] rest (int all ends small) = absurd (true≢false (sym all))
token_found _ (digit ∷ digits) rest (int all ends small) = int_found digit digits rest all ends small
token_found _ word rest (text between e is) =
    ap (λ w. standing (w ++ rest)) e ∙ (text_found between rest is ∙ ap (λ w. st.Token k.Text (length w)) (sym e))
token_found kind word rest (symbol e whole) = symbol_found word rest kind e (not-true _ whole)

-- ---- what is found stands

-- What is found stands there, with so many bytes.
abbrev pub Holds : List ℕ → Standing → Type 0
Holds place (st.Gap len) = (len ≤ length place) × (0 < len) × IsGap (take len place) (drop len place)
Holds place (st.Token kind len) = (len ≤ length place) × (0 < len) × Stands kind (take len place) (drop len place)
Holds place st.Nothing = Unit {0}

blank_holds : (place : List ℕ) → is_blank (slice_index place 0) ≡ true → Holds place (st.Gap 1)
blank_holds [] is = absurd (true≢false (sym is))
blank_holds (byte ∷ rest) is = (omega arith, omega arith, blank is)

comment_holds_by : (a b : ℕ) (rest : List ℕ) → a ≡ slash → b ≡ slash → Holds (a ∷ b ∷ rest) (st.Gap (2 + prefix_len is_in_line rest))
comment_holds_by a b rest is_a is_b =
    let n = prefix_len is_in_line rest in
    let two : 2 + n ≡ suc (suc n) = omega arith in
    let within = prefix_len-le-length is_in_line rest in
    let gap : IsGap (slash ∷ slash ∷ take n rest) (drop n rest) = comment (front_all is_in_line rest) (front_ends is_in_line rest) in
    let here : IsGap (a ∷ b ∷ take n rest) (drop n rest) = rw (is_a, is_b) gap in
    rw two (omega arith, omega arith, here)

comment_holds : (place : List ℕ) → starts_comment place ≡ true → Holds place (st.Gap (comment_len place))
comment_holds [] is = absurd (true≢false (sym is))
comment_holds (a ∷ []) is = absurd (true≢false (sym (and_parts (a == slash) (0 == slash) is).1))
comment_holds (a ∷ b ∷ rest) is =
    let both = and_parts (a == slash) (b == slash) is in
    comment_holds_by a b rest (eqb-true a slash both.0) (eqb-true b slash both.1)

number_from : (digits : List ℕ) → 0 < length digits → list_all is_ascii_digit digits ≡ true → is_number digits ≡ true
number_from [] some all = absurd (omega arith)
number_from (digit ∷ digits) some all = all

int_holds : (place : List ℕ) → is_ascii_digit (slice_index place 0) ≡ true → Holds place (int_at place)
int_holds [] is = absurd (true≢false (sym is))
int_holds (digit ∷ rest) is =
    let whole = digit ∷ rest in
    let n = prefix_len is_ascii_digit whole in
    let within : n ≤ length whole = prefix_len-le-length is_ascii_digit whole in
    let one : n ≡ 1 + prefix_len is_ascii_digit rest = cond-true (is_ascii_digit digit) _ _ is in
    let some : 0 < n = omega arith in
    let taken : length (take n whole) ≡ n = length-take-le n whole within in
    let number = number_from (take n whole) (omega arith) (front_all is_ascii_digit whole) in
    cond_both (nat_le (value_of (take n whole)) max_int) (st.Token k.Int n) st.Nothing (Holds whole)
    (λ small. (within, some, int number (front_ends is_ascii_digit whole) (leb-true _ _ small)))
    (λ large. tt)

text_holds_by : (rest : List ℕ) (end : ℕ) → ClosesHere 1 rest end → Holds (quote ∷ rest) (st.Token k.Text end)
text_holds_by rest end closes =
    let word = quote ∷ (closes.between ++ quote ∷ []) in
    let len : end ≡ length word = omega (arith, closes.ends, length-append closes.between (quote ∷ [])) in
    let whole : quote ∷ rest ≡ word ++ closes.rest = ap (λ bytes. quote ∷ bytes) closes.split in
    let total : length (quote ∷ rest) ≡ length word + length closes.rest = ap length whole ∙ length-append word closes.rest in
    let taken : take end (quote ∷ rest) ≡ word = ap₂ take len whole ∙ take_at word closes.rest (length word) refl in
    (omega arith, omega arith, text closes.between taken closes.quotable)

text_to_holds : (rest : List ℕ) (o : Option ℕ) → text_end 1 false rest ≡ o → Holds (quote ∷ rest) (text_to o)
text_to_holds rest None e = tt
text_to_holds rest (Some end) e = text_holds_by rest end (text_end_tells false 1 rest end e)

text_holds : (place : List ℕ) → (slice_index place 0 == quote) ≡ true → Holds place (text_at place)
text_holds [] is = absurd (true≢false (sym is))
text_holds (byte ∷ rest) is =
    let same = eqb-true byte quote is in
    subst (λ b. Holds (b ∷ rest) (text_to (text_end 1 false rest))) (sym same) (text_to_holds rest (text_end 1 false rest) refl)

-- a name has a byte
pub named_some : (spelled : List ℕ) → is_name spelled ≡ true → 0 < length (encode_utf8_all spelled)
named_some [] named = absurd (true≢false (sym named))
named_some (c ∷ cs) named = omega (arith, length-append (encode_utf8 c) (encode_utf8_all cs), length-encode c, (len_utf8_bounds c).0)

name_holds : (place : List ℕ) → IsUtf8 place → begins_with begins_name (chars place) ≡ true → Holds place (name_at place)
name_holds place u begins =
    let is = name_is place u begins in
    let taken = name_taken place u in
    let dropped = name_dropped place u in
    let stands : Stands (kind_of_word (name_of place)) (name_of place) (name_rest place) = name is.spelled is.scalars is.word is.named is.ends refl in
    ((name_ends place u).0, rw is.word (named_some is.spelled is.named), subst₂ (Stands (kind_of_word (name_of place))) (sym taken) (sym dropped) stands)

longer_holds : (place : List ℕ) (two one : Option Kind) → ((kind : Kind) → two ≡ Some kind → Holds place (st.Token kind 2)) → (two ≡ None → (kind : Kind) → one ≡ Some kind → Holds place (st.Token kind 1)) → Holds place (longer two one)
longer_holds place (Some kind) one long short = long kind refl
longer_holds place None (Some kind) long short = short refl kind refl
longer_holds place None None long short = tt

symbol_holds : (place : List ℕ) → starts_comment place ≡ false → Holds place (symbol_at place)
symbol_holds [] is = tt
symbol_holds (a ∷ []) is =
    longer_holds (a ∷ []) (symbol_of (a ∷ 0 ∷ [])) (symbol_of (a ∷ []))
    (λ kind e. absurd (no_null a kind e))
    (λ none kind e. (omega arith, omega arith, symbol e refl))
symbol_holds (a ∷ b ∷ rest) is =
    longer_holds (a ∷ b ∷ rest) (symbol_of (a ∷ b ∷ [])) (symbol_of (a ∷ []))
    (λ kind e. (omega arith, omega arith, symbol e (not_from_false _ (whole_two a b rest))))
    (λ none kind e. (omega arith, omega arith, symbol e (not_from_false _ (whole_one a b rest none is))))

-- what is found at a place stands there
pub standing_holds : (place : List ℕ) → IsUtf8 place → Holds place (standing place)
standing_holds place u =
    let here = Holds place in
    cond_both (is_blank (slice_index place 0)) _ _ here (blank_holds place)
    (λ b. cond_both (starts_comment place) _ _ here (comment_holds place)
    (λ c. cond_both (is_ascii_digit (slice_index place 0)) _ _ here (int_holds place)
    (λ d. cond_both (slice_index place 0 == quote) _ _ here (text_holds place)
    (λ q. cond_both (begins_with begins_name (chars place)) _ _ here (name_holds place u)
    (λ n. symbol_holds place c)))))
