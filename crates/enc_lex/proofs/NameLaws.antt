-- Names as characters, and as bytes.
use Rattle.std.proofs.Common.{◌≡◌, ℕ, ◌+◌, ◌<◌, ◌≤◌, Bool, true, false, not, cond, ◌&&◌, ◌||◌, ◌==◌, List, [], ◌∷◌, ◌++◌, length, take, drop, refl, ap, sym, ◌∙◌, arith, append_assoc, take_while, chars, encode_utf8_all, encode_utf8, IsUtf8, slice_index, length-append, true≢false, ⊎_elim, one-add, IsCharBoundary, take-append-drop, take_at, drop_at}
use Rattle.std.specs.List.{prefix_len, list_all}
use Rattle.std.specs.Str.{all_scalars}
use Rattle.std.specs.Char.{is_ascii_digit, is_ascii_alphabetic, len_utf8}
use Rattle.std.proofs.lemmas.Bool.{agree_below_at, and_parts, and_from, cases_lt}
use Rattle.std.proofs.lemmas.Bool.Decides.{nat_tests}
use Rattle.std.proofs.lemmas.Str.{chars-append, chars-encodes, encodes-append, IsUtf8-past_char, chars_past_char, char_from_byte, length-encode, encodes-chars, scalars-chars, IsCharBoundary-at_seam}
use Rattle.unicode_ident.specs.Ident.{is_xid_continue}
use Rattle.unicode_ident.proofs.IdentLemmas.{is_xid_start-ascii}
use Rattle.enc_lex.specs.Bytes.{quote, slash, underscore, is_blank, begins_with}
use Rattle.enc_lex.specs.Names.{begins_name, is_name}
use Rattle.enc_lex.specs.Reading.{name_of, name_chars}
use Rattle.enc_lex.proofs.FrontLaws.{take_while_front, front_all, front_ends}

-- ---- characters

-- the characters of a word come off the front
pub chars_word : (spelled rest : List ℕ) → all_scalars spelled ≡ true → chars (encode_utf8_all spelled ++ rest) ≡ spelled ++ chars rest
chars_word spelled rest ok = chars-append (encode_utf8_all spelled) rest (spelled, (ok, refl)) ∙ ap (λ cs. cs ++ chars rest) (chars-encodes spelled ok)

-- what is left behind characters is UTF-8
pub utf8_behind : (spelled rest : List ℕ) → IsUtf8 (encode_utf8_all spelled ++ rest) → IsUtf8 rest
utf8_behind [] rest u = u
utf8_behind (c ∷ cs) rest u =
    let e : (encode_utf8 c ++ encode_utf8_all cs) ++ rest ≡ encode_utf8 c ++ (encode_utf8_all cs ++ rest) = append_assoc (encode_utf8 c) (encode_utf8_all cs) rest in
    utf8_behind cs rest (IsUtf8-past_char _ _ c u e)

pub scalars_parts : (xs ys : List ℕ) → all_scalars (xs ++ ys) ≡ true → (all_scalars xs ≡ true) × (all_scalars ys ≡ true)
scalars_parts [] ys ok = (refl, ok)
scalars_parts (x ∷ xs) ys ok =
    let here = and_parts _ (all_scalars (xs ++ ys)) ok in
    let more = scalars_parts xs ys here.1 in
    (and_from _ (all_scalars xs) here.0 more.0, more.1)

-- ---- the run of characters with which a name goes on

abbrev pub run : List ℕ → ℕ
run text = length (encode_utf8_all (take_while is_xid_continue (chars text)))

run_more_by : (c : ℕ) (cs : List ℕ) (b : Bool) → is_xid_continue c ≡ b → take_while is_xid_continue (c ∷ cs) ≡ cond b (c ∷ take_while is_xid_continue cs) []
run_more_by c cs true e = rw (e, one-add)
run_more_by c cs false e = rw e

pub run_more : (text rest : List ℕ) (c : ℕ) → IsUtf8 text → text ≡ encode_utf8 c ++ rest → is_xid_continue c ≡ true → run text ≡ len_utf8 c + run rest
run_more text rest c u e on =
    ap (λ cs. length (encode_utf8_all (take_while is_xid_continue cs))) (chars_past_char text rest c u e)
    ∙ ap (λ cs. length (encode_utf8_all cs)) (run_more_by c (chars rest) true on)
    ∙ length-append (encode_utf8 c) (encode_utf8_all (take_while is_xid_continue (chars rest)))
    ∙ ap (λ n. n + run rest) (length-encode c)

pub run_over : (text rest : List ℕ) (c : ℕ) → IsUtf8 text → text ≡ encode_utf8 c ++ rest → is_xid_continue c ≡ false → run text ≡ 0
run_over text rest c u e on =
    ap (λ cs. length (encode_utf8_all (take_while is_xid_continue cs))) (chars_past_char text rest c u e)
    ∙ ap (λ cs. length (encode_utf8_all cs)) (run_more_by c (chars rest) false on)

-- ---- the first byte of a name

-- a byte that begins something else than a name
abbrev pub is_other : ℕ → Bool
is_other byte = is_blank byte || (is_ascii_digit byte || (byte == quote || byte == slash))

abbrev pub begins_ascii : ℕ → Bool
begins_ascii byte = byte == underscore || is_ascii_alphabetic byte

no_other_ascii : (byte : ℕ) → byte < 128 → (begins_ascii byte && is_other byte) ≡ false
no_other_ascii byte low = agree_below_at (λ b. begins_ascii b && is_other b) (λ b. false) 128 byte refl low

other_high : (byte : ℕ) → 128 ≤ byte → is_other byte ≡ false
other_high byte high = grind (arith, nat_tests)

pub begins_low : (c : ℕ) → c < 128 → begins_name c ≡ begins_ascii c
begins_low c low = ap (λ b. c == underscore || b) (is_xid_start-ascii c low)

pub other_by : (x y : Bool) → (x && y) ≡ false → x ≡ true → y ≡ false
other_by true y e t = e
other_by false y e t = absurd (true≢false (sym t))

-- where a character that begins a name comes first, the first byte begins nothing else
pub name_not_other : (text rest : List ℕ) (c : ℕ) → text ≡ encode_utf8 c ++ rest → 0 < length text → begins_name c ≡ true → is_other (slice_index text 0) ≡ false
name_not_other text rest c e some begins =
    ⊎_elim
    (λ (low : slice_index text 0 < 128).
    let same = char_from_byte text rest c e low some in
    let lower : c < 128 = rw same low in
    let ascii : begins_ascii (slice_index text 0) ≡ true = rw (← same) (sym (begins_low c lower) ∙ begins) in
    other_by _ _ (no_other_ascii (slice_index text 0) low) ascii)
    (λ high. other_high (slice_index text 0) high)
    (cases_lt (slice_index text 0) 128)

-- ---- names

-- a name is found by its characters
pub name_found : (spelled rest : List ℕ) → all_scalars spelled ≡ true → is_name spelled ≡ true → not (begins_with is_xid_continue (chars rest)) ≡ true → name_of (encode_utf8_all spelled ++ rest) ≡ encode_utf8_all spelled
name_found [] rest ok named ends = absurd (true≢false (sym named))
name_found (c ∷ cs) rest ok named ends =
    let both = and_parts (begins_name c) (list_all is_xid_continue cs) named in
    rw (chars_word (c ∷ cs) rest ok) (ap (λ more. encode_utf8_all (c ∷ more)) (take_while_front is_xid_continue cs (chars rest) both.1 ends))

-- ---- the name at the front of a text

-- the characters behind the name
name_left : List ℕ → List ℕ
name_left [] = []
name_left (c ∷ cs) = drop (prefix_len is_xid_continue cs) cs

-- the name's characters, and those behind them
name_parts : (cs : List ℕ) → cs ≡ name_chars cs ++ name_left cs
unfolding name_left
name_parts [] = refl
name_parts (c ∷ cs) = ap (λ more. c ∷ more) (sym (take-append-drop (prefix_len is_xid_continue cs) cs))

pub name_rest : List ℕ → List ℕ
name_rest text = encode_utf8_all (name_left (chars text))

pub name_split : (text : List ℕ) → IsUtf8 text → text ≡ name_of text ++ name_rest text
unfolding name_rest
name_split text u =
    sym (encodes-chars text u)
    ∙ (ap encode_utf8_all (name_parts (chars text))
    ∙ encodes-append (name_chars (chars text)) (name_left (chars text)))

name_scalars : (text : List ℕ) → IsUtf8 text → (all_scalars (name_chars (chars text)) ≡ true) × (all_scalars (name_left (chars text)) ≡ true)
name_scalars text u = scalars_parts (name_chars (chars text)) (name_left (chars text)) (ap all_scalars (sym (name_parts (chars text))) ∙ scalars-chars text u)

pub name_rest_utf8 : (text : List ℕ) → IsUtf8 text → IsUtf8 (name_rest text)
unfolding name_rest
name_rest_utf8 text u = (name_left (chars text), ((name_scalars text u).1, refl))

-- a name is no longer than the text, and ends where a character does
pub name_ends : (text : List ℕ) → IsUtf8 text → IsCharBoundary text (length (name_of text))
name_ends text u = IsCharBoundary-at_seam text (name_of text) (name_rest text) (name_split text u) (name_rest_utf8 text u)

pub name_taken : (text : List ℕ) → IsUtf8 text → take (length (name_of text)) text ≡ name_of text
name_taken text u = ap (take (length (name_of text))) (name_split text u) ∙ take_at (name_of text) (name_rest text) _ refl

pub name_dropped : (text : List ℕ) → IsUtf8 text → drop (length (name_of text)) text ≡ name_rest text
name_dropped text u = ap (drop (length (name_of text))) (name_split text u) ∙ drop_at (name_of text) (name_rest text) _ refl

pub name_len_more : (text rest : List ℕ) (c : ℕ) → IsUtf8 text → text ≡ encode_utf8 c ++ rest → length (name_of text) ≡ len_utf8 c + run rest
name_len_more text rest c u e =
    ap (λ cs. length (encode_utf8_all (name_chars cs))) (chars_past_char text rest c u e)
    ∙ (length-append (encode_utf8 c) (encode_utf8_all (take_while is_xid_continue (chars rest)))
    ∙ ap (λ n. n + run rest) (length-encode c))

pub run_le_length : (text : List ℕ) → IsUtf8 text → run text ≤ length text
run_le_length text u =
    let cs = chars text in
    let n = prefix_len is_xid_continue cs in
    let e : length text ≡ length (encode_utf8_all (take n cs)) + length (encode_utf8_all (drop n cs)) =
    ap length (sym (encodes-chars text u))
    ∙ (ap (λ xs. length (encode_utf8_all xs)) (sym (take-append-drop n cs))
    ∙ (ap length (encodes-append (take n cs) (drop n cs))
    ∙ length-append (encode_utf8_all (take n cs)) (encode_utf8_all (drop n cs)))) in
    omega arith

-- What stands at a name.
pub record IsNamed (text : List ℕ) : Type 0 where
  pub spelled : List ℕ
  pub scalars : all_scalars spelled ≡ true
  pub word : name_of text ≡ encode_utf8_all spelled
  pub named : is_name spelled ≡ true
  pub ends : not (begins_with is_xid_continue (chars (name_rest text))) ≡ true

named_by : (cs : List ℕ) → begins_with begins_name cs ≡ true → (is_name (name_chars cs) ≡ true) × (not (begins_with is_xid_continue (name_left cs)) ≡ true)
unfolding name_left
named_by [] begins = absurd (true≢false (sym begins))
named_by (c ∷ cs) begins = (and_from (begins_name c) _ begins (front_all is_xid_continue cs), front_ends is_xid_continue cs)

pub name_is : (text : List ℕ) → IsUtf8 text → begins_with begins_name (chars text) ≡ true → IsNamed text
unfolding name_rest
name_is text u begins =
    let both = named_by (chars text) begins in
    let ok = name_scalars text u in
    let back : chars (name_rest text) ≡ name_left (chars text) = chars-encodes (name_left (chars text)) ok.1 in
    record { spelled = name_chars (chars text); scalars = ok.0; word = refl; named = both.0; ends = ap (λ cs. not (begins_with is_xid_continue cs)) back ∙ both.1 }
