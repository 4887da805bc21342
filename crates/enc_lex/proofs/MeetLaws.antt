-- Reading on from one place to the next.
use Rattle.std.proofs.Common.{◌≡◌, ℕ, zero, suc, ◌+◌, ◌-◌, ◌<◌, ◌≤◌, ◌⊎◌, inl, inr, true, not, ◌==◌, nat_lt, List, [], ◌∷◌, ◌++◌, length, take, drop, get_or, refl, ap, ap₂, sym, subst, subst₂, ◌∙◌, arith, true≢false, encode_utf8, IsUtf8, take_at, drop_at, take-append-drop, append_assoc, length-append, length-drop, length-take-le, ltb-true, All}
use Rattle.std.specs.List.{list_all}
use Rattle.std.specs.Char.{is_ascii_digit}
use Rattle.std.proofs.lemmas.Bool.{and_parts, and_from, eqb-true, not-true, not-false}
use Rattle.std.proofs.lemmas.Bool.Decides.{nat_tests}
use Rattle.std.proofs.lemmas.List.{get_or_at}
use Rattle.std.proofs.lemmas.List.Elements.{All-nil, All-cons}
use Rattle.std.proofs.lemmas.Str.{IsUtf8-nil, IsUtf8-drop, IsCharBoundary-after_ascii, IsCharBoundary-before_ascii, IsUtf8-past_char, encode_ascii, chars-nil}
use Rattle.enc_lex.specs.declared.kinds.Kind.{Kind}
use Rattle.enc_lex.specs.declared.standing.Standing.{Standing}
use Rattle.enc_lex.specs.declared.standing.Standing.TheVariants as st
use Rattle.enc_lex.specs.declared.tokens.Token.{Token}
use Rattle.enc_lex.specs.Bytes.{line_feed, quote, slash, is_blank, is_in_line, begins_with}
use Rattle.enc_lex.specs.Standing.{is_number, IsGap, Stands}
use Rattle.enc_lex.specs.Standing as stands
use Rattle.enc_lex.specs.Reading.{standing}
use Rattle.enc_lex.specs.Values.{bytes_at}
use Rattle.enc_lex.specs.Lexes.{span, token_at, Meets, here, gap, token, StandsIn, InOrder}
use Rattle.enc_lex.specs.Failure.{IsBad}
use Rattle.enc_lex.proofs.NameLaws.{utf8_behind}
use Rattle.enc_lex.proofs.SymbolLaws.{symbol_shaped, symbol_ascii}
use Rattle.enc_lex.proofs.StandLaws.{gap_found, token_found, Holds, standing_holds, named_some}

-- ---- what is left is UTF-8

ascii_behind : (word rest : List ℕ) → list_all (λ b. nat_lt b 128) word ≡ true → IsUtf8 (word ++ rest) → IsUtf8 rest
ascii_behind [] rest low u = u
ascii_behind (byte ∷ word) rest low u =
    let both = and_parts (nat_lt byte 128) (list_all (λ b. nat_lt b 128) word) low in
    let split : byte ∷ (word ++ rest) ≡ encode_utf8 byte ++ (word ++ rest) = ap (λ w. w ++ (word ++ rest)) (sym (encode_ascii byte (ltb-true byte 128 both.0))) in
    ascii_behind word rest both.1 (IsUtf8-past_char _ _ byte u split)

digits_low : (digits : List ℕ) → list_all is_ascii_digit digits ≡ true → list_all (λ b. nat_lt b 128) digits ≡ true
digits_low [] all = refl
digits_low (digit ∷ digits) all =
    let both = and_parts (is_ascii_digit digit) (list_all is_ascii_digit digits) all in
    let low : nat_lt digit 128 ≡ true = grind (arith, nat_tests) in
    and_from (nat_lt digit 128) _ low (digits_low digits both.1)

number_low : (word : List ℕ) → is_number word ≡ true → list_all (λ b. nat_lt b 128) word ≡ true
number_low [] is = refl
number_low (digit ∷ digits) is = digits_low (digit ∷ digits) is

blank_low : (byte : ℕ) → is_blank byte ≡ true → nat_lt byte 128 ≡ true
blank_low byte is = grind (arith, nat_tests)

behind_byte : (front rest : List ℕ) (byte : ℕ) → byte < 128 → IsUtf8 ((front ++ byte ∷ []) ++ rest) → IsUtf8 rest
behind_byte front rest byte low u =
    let whole = (front ++ byte ∷ []) ++ rest in
    let n = length front in
    let e : whole ≡ front ++ byte ∷ rest = append_assoc front (byte ∷ []) rest in
    let within : n < length whole = omega (arith, ap length e, length-append front (byte ∷ rest)) in
    let at : get_or whole n 0 ≡ byte = ap (λ w. get_or w n 0) e ∙ get_or_at front byte rest 0 n refl in
    let long : length (front ++ byte ∷ []) ≡ n + 1 = omega (arith, length-append front (byte ∷ [])) in
    subst IsUtf8 (drop_at (front ++ byte ∷ []) rest (n + 1) long) (IsUtf8-drop whole (n + 1) u (IsCharBoundary-after_ascii whole n u within (omega arith)))

before_line : (front rest : List ℕ) → not (begins_with is_in_line rest) ≡ true → IsUtf8 (front ++ rest) → IsUtf8 rest
before_line front [] ends u = IsUtf8-nil
before_line front (byte ∷ rest) ends u =
    let whole = front ++ byte ∷ rest in
    let n = length front in
    let low : byte ≡ line_feed = eqb-true byte line_feed (not-false (byte == line_feed) (not-true (is_in_line byte) ends)) in
    let within : n < length whole = omega (arith, length-append front (byte ∷ rest)) in
    let at : get_or whole n 0 ≡ byte = get_or_at front byte rest 0 n refl in
    subst IsUtf8 (drop_at front (byte ∷ rest) n refl) (IsUtf8-drop whole n u (IsCharBoundary-before_ascii whole n within (omega arith)))

pub gap_utf8 : (skipped rest : List ℕ) → IsGap skipped rest → IsUtf8 (skipped ++ rest) → IsUtf8 rest
gap_utf8 _ rest (stands.blank {byte} is) u = ascii_behind (byte ∷ []) rest (and_from (nat_lt byte 128) true (blank_low byte is) refl) u
gap_utf8 _ rest (stands.comment {body} all ends) u = before_line (slash ∷ slash ∷ body) rest ends u

pub token_utf8 : (kind : Kind) (word rest : List ℕ) → Stands kind word rest → IsUtf8 (word ++ rest) → IsUtf8 rest
token_utf8 kind word rest (stands.name spelled ok e named ends is) u = utf8_behind spelled rest (subst (λ w. IsUtf8 (w ++ rest)) e u)
token_utf8 _ word rest (stands.int all ends small) u = ascii_behind word rest (number_low word all) u
token_utf8 _ word rest (stands.text between e is) u = behind_byte (quote ∷ between) rest quote (omega arith) (subst (λ w. IsUtf8 (w ++ rest)) e u)
token_utf8 kind word rest (stands.symbol e whole) u = ascii_behind word rest (symbol_ascii word kind e) u

pub meets_utf8 : {at end : ℕ} {place left : List ℕ} {tokens : List Token} → Meets at place end left tokens → IsUtf8 place → IsUtf8 left
meets_utf8 here u = u
meets_utf8 (gap {rest = rest} skipped e is more) u = meets_utf8 more (gap_utf8 skipped rest is (subst IsUtf8 e u))
meets_utf8 (token {rest = rest} kind word e is more) u = meets_utf8 more (token_utf8 kind word rest is (subst IsUtf8 e u))

-- ---- one step more

pub then_gap : {at end : ℕ} {place left : List ℕ} {tokens : List Token} → Meets at place end left tokens → (skipped rest : List ℕ) → left ≡ skipped ++ rest → IsGap skipped rest → Meets at place (end + length skipped) rest tokens
then_gap here skipped rest e is = gap skipped e is here
then_gap (gap before d was more) skipped rest e is = gap before d was (then_gap more skipped rest e is)
then_gap (token kind word d was more) skipped rest e is = token kind word d was (then_gap more skipped rest e is)

pub then_token : {at end : ℕ} {place left : List ℕ} {tokens : List Token} → Meets at place end left tokens → (kind : Kind) (word rest : List ℕ) → left ≡ word ++ rest → Stands kind word rest → Meets at place (end + length word) rest (tokens ++ token_at kind end word ∷ [])
then_token here kind word rest e is = token kind word e is here
then_token (gap before d was more) kind word rest e is = gap before d was (then_token more kind word rest e is)
then_token (token first before d was more) kind word rest e is = token first before d was (then_token more kind word rest e is)

-- ---- places

-- a token has a byte
pub stands_some : (kind : Kind) (word rest : List ℕ) → Stands kind word rest → 0 < length word
stands_some kind word rest (stands.name spelled ok e named ends is) = rw e (named_some spelled named)
stands_some _ [] rest (stands.int all ends small) = absurd (true≢false (sym all))
stands_some _ (digit ∷ digits) rest (stands.int all ends small) = omega arith
stands_some _ word rest (stands.text between e is) = omega (arith, ap length e)
stands_some kind [] rest (stands.symbol e whole) = absurd (true≢false (sym (symbol_shaped [] kind e)))
stands_some kind (byte ∷ word) rest (stands.symbol e whole) = omega arith

pub meets_len : {at end : ℕ} {place left : List ℕ} {tokens : List Token} → Meets at place end left tokens → end + length left ≡ at + length place
meets_len here = refl
meets_len (gap {rest = rest} skipped e is more) = omega (arith, meets_len more, ap length e, length-append skipped rest)
meets_len (token {rest = rest} kind word e is more) = omega (arith, meets_len more, ap length e, length-append word rest)

order_from : (start later end : ℕ) (tokens : List Token) → start ≤ later → InOrder later end tokens → InOrder start end tokens
order_from start later end [] before is = omega arith
order_from start later end (first ∷ tokens) before is = (omega (arith, is.0), is.1, is.2)

pub meets_in_order : {at end : ℕ} {place left : List ℕ} {tokens : List Token} → Meets at place end left tokens → InOrder at end tokens
meets_in_order {at} here = omega arith
meets_in_order {at} (gap skipped e is more) = order_from at (at + length skipped) _ _ (omega arith) (meets_in_order more)
meets_in_order {at} (token {rest = rest} kind word e is more) = (omega arith, omega (arith, stands_some kind word rest is), meets_in_order more)

-- ---- each token at its span

token_stands : (before word rest : List ℕ) (kind : Kind) → Stands kind word rest → StandsIn (before ++ (word ++ rest)) (token_at kind (length before) word)
token_stands before word rest kind is =
    let whole = before ++ (word ++ rest) in
    let at = length before in
    let end = at + length word in
    let some = stands_some kind word rest is in
    let total : length whole ≡ at + (length word + length rest) = omega (arith, length-append before (word ++ rest), length-append word rest) in
    let size : end - at ≡ length word = omega arith in
    let from : drop at whole ≡ word ++ rest = drop_at before (word ++ rest) at refl in
    let bytes : bytes_at whole (span at end) ≡ word = ap₂ take size from ∙ take_at word rest (length word) refl in
    let joined : whole ≡ (before ++ word) ++ rest = sym (append_assoc before word rest) in
    let behind : drop end whole ≡ rest = ap (drop end) joined ∙ drop_at (before ++ word) rest end (length-append before word) in
    record { within = omega arith; some = omega arith; stands = subst₂ (Stands kind) (sym bytes) (sym behind) is }

pub meets_stands : {at end : ℕ} {place left : List ℕ} {tokens : List Token} → Meets at place end left tokens → (before : List ℕ) → length before ≡ at → All (StandsIn (before ++ place)) tokens
meets_stands {place = place} here before len = All-nil (StandsIn (before ++ place))
meets_stands {tokens = tokens} (gap {rest = rest} skipped e is more) before len =
    let later = meets_stands more (before ++ skipped) (length-append before skipped ∙ ap (λ n. n + length skipped) len) in
    let joined : (before ++ skipped) ++ rest ≡ before ++ _ = append_assoc before skipped rest ∙ ap (λ w. before ++ w) (sym e) in
    subst (λ w. All (StandsIn w) tokens) joined later
meets_stands {at} (token {rest = rest} {tokens = tokens} kind word e is more) before len =
    let later = meets_stands more (before ++ word) (length-append before word ∙ ap (λ n. n + length word) len) in
    let split : before ++ (word ++ rest) ≡ before ++ _ = ap (λ w. before ++ w) (sym e) in
    let all = subst (λ w. All (StandsIn w) tokens) (append_assoc before word rest) later in
    let first = subst (λ n. StandsIn (before ++ (word ++ rest)) (token_at kind n word)) len (token_stands before word rest kind is) in
    subst (λ w. All (StandsIn w) (token_at kind at word ∷ tokens)) split (All-cons (StandsIn (before ++ (word ++ rest))) _ tokens first all)

-- ---- where reading ends

-- where nothing is found, nothing begins
pub bad_from : (place : List ℕ) → (place ≡ [] → ⊥) → standing place ≡ st.Nothing → IsBad place
bad_from place some nothing = record {
  some = some;
  no_gap = λ skipped rest e is. (let found : standing place ≡ st.Gap (length skipped) = ap standing e ∙ gap_found skipped rest is in absurd (cc));
  no_token = λ kind word rest e is. (let found : standing place ≡ st.Token kind (length word) = ap standing e ∙ token_found kind word rest is in absurd (cc));
}

-- where nothing begins, nothing is found
nothing_by : (place : List ℕ) → IsBad place → (s : Standing) → Holds place s → s ≡ st.Nothing
nothing_by place bad (st.Gap len) is = absurd (bad.no_gap (take len place) (drop len place) (sym (take-append-drop len place)) is.2)
nothing_by place bad (st.Token kind len) is = absurd (bad.no_token kind (take len place) (drop len place) (sym (take-append-drop len place)) is.2)
nothing_by place bad st.Nothing is = refl

pub nothing_from : (place : List ℕ) → IsUtf8 place → IsBad place → standing place ≡ st.Nothing
nothing_from place u bad = nothing_by place bad (standing place) (standing_holds place u)

-- nothing is found at the end
pub nothing_at_end : standing [] ≡ st.Nothing
nothing_at_end = rw chars-nil refl

-- Two readings from one place come to one end.
pub record AreSame (end_a : ℕ) (left_a : List ℕ) (tokens_a : List Token) (end_b : ℕ) (left_b : List ℕ) (tokens_b : List Token) : Type 0 where
  pub ends : end_a ≡ end_b
  pub left : left_a ≡ left_b
  pub tokens : tokens_a ≡ tokens_b

rest_same : (place a r b s : List ℕ) → place ≡ a ++ r → place ≡ b ++ s → length a ≡ length b → r ≡ s
rest_same place a r b s e d len =
    sym (drop_at a r (length a) refl) ∙ (ap₂ drop len (sym e ∙ d) ∙ drop_at b s (length b) refl)

pub meets_same : {at end_a end_b : ℕ} {place left_a left_b : List ℕ} {tokens_a tokens_b : List Token} → Meets at place end_a left_a tokens_a → Meets at place end_b left_b tokens_b → standing left_a ≡ st.Nothing → standing left_b ≡ st.Nothing → AreSame end_a left_a tokens_a end_b left_b tokens_b
meets_same here here a b = record { ends = refl; left = refl; tokens = refl }
meets_same {place = place} here (gap {rest = rest} skipped e is more) a b =
    let found : standing place ≡ st.Gap (length skipped) = ap standing e ∙ gap_found skipped rest is in
    absurd (cc)
meets_same {place = place} here (token {rest = rest} kind word e is more) a b =
    let found : standing place ≡ st.Token kind (length word) = ap standing e ∙ token_found kind word rest is in
    absurd (cc)
meets_same {place = place} (gap {rest = rest} skipped e is more) here a b =
    let found : standing place ≡ st.Gap (length skipped) = ap standing e ∙ gap_found skipped rest is in
    absurd (cc)
meets_same {place = place} (token {rest = rest} kind word e is more) here a b =
    let found : standing place ≡ st.Token kind (length word) = ap standing e ∙ token_found kind word rest is in
    absurd (cc)
meets_same {place = place} (gap {rest = rest} skipped e is more) (token {rest = other} kind word d was later) a b =
    let found : standing place ≡ st.Gap (length skipped) = ap standing e ∙ gap_found skipped rest is in
    let too : standing place ≡ st.Token kind (length word) = ap standing d ∙ token_found kind word other was in
    absurd (cc)
meets_same {place = place} (token {rest = other} kind word d was later) (gap {rest = rest} skipped e is more) a b =
    let found : standing place ≡ st.Gap (length skipped) = ap standing e ∙ gap_found skipped rest is in
    let too : standing place ≡ st.Token kind (length word) = ap standing d ∙ token_found kind word other was in
    absurd (cc)
meets_same {at} {end_b = end_b} {place = place} {left_b = left_b} {tokens_b = tokens_b} (gap {rest = rest} skipped e is more) (gap {rest = other} skips d was later) a b =
    let found : standing place ≡ st.Gap (length skipped) = ap standing e ∙ gap_found skipped rest is in
    let too : standing place ≡ st.Gap (length skips) = ap standing d ∙ gap_found skips other was in
    let len : length skips ≡ length skipped = cc in
    let same : other ≡ rest = rest_same place skips other skipped rest d e len in
    meets_same more (subst₂ (λ n r. Meets (at + n) r end_b left_b tokens_b) len same later) a b
meets_same {at} {end_b = end_b} {place = place} {left_b = left_b} (token {rest = rest} kind word e is more) (token {rest = other} {tokens = others} type spelled d was later) a b =
    let found : standing place ≡ st.Token kind (length word) = ap standing e ∙ token_found kind word rest is in
    let too : standing place ≡ st.Token type (length spelled) = ap standing d ∙ token_found type spelled other was in
    let kinds : kind ≡ type = cc in
    let len : length spelled ≡ length word = cc in
    let same : other ≡ rest = rest_same place spelled other word rest d e len in
    let on = meets_same more (subst₂ (λ n r. Meets (at + n) r end_b left_b others) len same later) a b in
    let first : token_at kind at word ≡ token_at type at spelled = ap₂ (λ t n. record { kind = t; span = span at (at + n) }) kinds (sym len) in
    record { ends = on.ends; left = on.left; tokens = ap₂ (λ t ts. t ∷ ts) first on.tokens }

-- ---- from each place reading ends

-- Reading goes on from a place to the end, or to a place from which it cannot go on.
pub record Ends (at : ℕ) (place : List ℕ) : Type 0 where
  pub end : ℕ
  pub left : List ℕ
  pub tokens : List Token
  pub read : Meets at place end left tokens
  pub over : (left ≡ []) ⊎ IsBad left

ends_by : (fuel at : ℕ) (place : List ℕ) → ((n : ℕ) → 0 < n → n ≤ length place → IsUtf8 (drop n place) → Ends (at + n) (drop n place)) → IsUtf8 place → 0 < length place → (s : Standing) → standing place ≡ s → Holds place s → Ends at place
ends_by fuel at place on u some (st.Gap len) e is =
    let split = sym (take-append-drop len place) in
    let front : length (take len place) ≡ len = length-take-le len place is.0 in
    let later = on len is.1 is.0 (gap_utf8 _ _ is.2 (subst IsUtf8 split u)) in
    record {
      end = later.end;
      left = later.left;
      tokens = later.tokens;
      over = later.over;
      read = gap (take len place) split is.2 (subst (λ n. Meets (at + n) (drop len place) later.end later.left later.tokens) (sym front) later.read);
    }
ends_by fuel at place on u some (st.Token kind len) e is =
    let split = sym (take-append-drop len place) in
    let front : length (take len place) ≡ len = length-take-le len place is.0 in
    let later = on len is.1 is.0 (token_utf8 kind _ _ is.2 (subst IsUtf8 split u)) in
    record {
      end = later.end;
      left = later.left;
      tokens = token_at kind at (take len place) ∷ later.tokens;
      over = later.over;
      read = token kind (take len place) split is.2 (subst (λ n. Meets (at + n) (drop len place) later.end later.left later.tokens) (sym front) later.read);
    }
ends_by fuel at place on u some st.Nothing e is =
    record { end = at; left = place; tokens = []; read = here; over = inr (bad_from place (λ none. absurd (omega (arith, ap length none))) e) }

ends_within : (fuel at : ℕ) (place : List ℕ) → length place ≤ fuel → IsUtf8 place → Ends at place
ends_within fuel at [] short u = record { end = at; left = []; tokens = []; read = here; over = inl refl }
ends_within zero at (byte ∷ rest) short u = absurd (omega arith)
ends_within (suc fuel) at (byte ∷ rest) short u =
    let place = byte ∷ rest in
    ends_by fuel at place
    (λ n some within left. ends_within fuel (at + n) (drop n place) (omega (arith, length-drop n place)) left)
    u (omega arith) (standing place) refl (standing_holds place u)

pub ends : (at : ℕ) (place : List ℕ) → IsUtf8 place → Ends at place
ends at place u = ends_within (length place) at place (omega arith) u
