-- What every symbol of the table has in common.
use Rattle.std.proofs.Common.{◌≡◌, ℕ, ◌<◌, Bool, true, false, not, ◌&&◌, ◌||◌, ◌==◌, List, [], ◌∷◌, ◌++◌, length, refl, ap, subst, sym, ◌∙◌, Option, Some, None, is_some, is_none, true≢false, ⊎_elim, bytes_eq, slice_index, codes, nat_lt, ltb-true, lt-ltb, ap₂}
use Rattle.std.specs.List.{list_all}
use Rattle.std.proofs.lemmas.Bool.{agree_below_at, and_parts, or_parts, or_from, not-true, cases_Bool, cond-true, cond-false, and_right}
use Rattle.std.proofs.lemmas.Slice.Eq.{bytes_eq-Decides}
use Rattle.enc_lex.specs.declared.kinds.Kind.{Kind}
use Rattle.enc_lex.specs.declared.standing.Standing.TheVariants as st
use Rattle.std.specs.Char.{is_ascii_digit}
use Rattle.std.specs.Str.{chars}
use Rattle.enc_lex.specs.Bytes.{quote, slash, is_blank, begins_with}
use Rattle.enc_lex.specs.Names.{begins_name}
use Rattle.enc_lex.specs.Symbols.{symbols, symbol_in, symbol_of, is_cut_short}
use Rattle.enc_lex.specs.Reading.{longer, symbol_at, starts_comment, standing}
use Rattle.enc_lex.proofs.NameLaws.{is_other, begins_ascii, begins_low, other_by}
use Rattle.enc_lex.proofs.WordLaws.{bytes_eq_no}

-- a byte that begins nothing but a symbol or a comment
abbrev pub is_sign : ℕ → Bool
is_sign byte = nat_lt byte 128 && not (begins_ascii byte) && (byte == slash || not (is_other byte))

-- one sign that no NUL follows, or two of which the second ends it
abbrev pub is_shaped : List ℕ → Bool
is_shaped (a ∷ []) = is_sign a && is_none (symbol_of (a ∷ 0 ∷ []))
is_shaped (a ∷ b ∷ []) = is_sign a && not (b == 0) && not (b == slash) && nat_lt b 128
is_shaped _ = false

-- what holds of each word of a table holds of a word that is found in it
pub holds_in : (test : List ℕ → Bool) (entries : List (List ℕ × Kind)) (word : List ℕ) (kind : Kind) → list_all (λ e. test e.0) entries ≡ true → symbol_in entries word ≡ Some kind → test word ≡ true
holds_in test [] word kind all e = absurd (cc)
holds_in test (entry ∷ entries) word kind all e =
    let both = and_parts (test entry.0) (list_all (λ e. test e.0) entries) all in
    ⊎_elim
    (λ (same : bytes_eq word entry.0 ≡ true). rw ((bytes_eq-Decides word entry.0).0 same) both.0)
    (λ (no : bytes_eq word entry.0 ≡ false). holds_in test entries word kind both.1 (sym (cond-false _ _ _ no) ∙ e))
    (cases_Bool (bytes_eq word entry.0))

-- the same of its kind
pub kind_holds_in : (test : Kind → Bool) (entries : List (List ℕ × Kind)) (word : List ℕ) (kind : Kind) → list_all (λ e. test e.1) entries ≡ true → symbol_in entries word ≡ Some kind → test kind ≡ true
kind_holds_in test [] word kind all e = absurd (cc)
kind_holds_in test (entry ∷ entries) word kind all e =
    let both = and_parts (test entry.1) (list_all (λ e. test e.1) entries) all in
    ⊎_elim
    (λ (same : bytes_eq word entry.0 ≡ true).
    let found : Some entry.1 ≡ Some kind = sym (cond-true _ _ _ same) ∙ e in
    let is : entry.1 ≡ kind = cc in
    subst (λ kind. test kind ≡ true) is both.0)
    (λ (no : bytes_eq word entry.0 ≡ false). kind_holds_in test entries word kind both.1 (sym (cond-false _ _ _ no) ∙ e))
    (cases_Bool (bytes_eq word entry.0))

pub symbol_shaped : (word : List ℕ) (kind : Kind) → symbol_of word ≡ Some kind → is_shaped word ≡ true
symbol_shaped word kind e = holds_in is_shaped symbols word kind refl e

-- ---- a sign begins nothing else

no_sign_else : (byte : ℕ) → byte < 128 → (is_sign byte && (is_blank byte || (is_ascii_digit byte || (byte == quote || begins_ascii byte)))) ≡ false
no_sign_else byte low = agree_below_at (λ b. is_sign b && (is_blank b || (is_ascii_digit b || (b == quote || begins_ascii b)))) (λ b. false) 128 byte refl low

-- What a sign is not.
pub record IsSign (byte : ℕ) : Type 0 where
  pub low : byte < 128
  pub blank : is_blank byte ≡ false
  pub digit : is_ascii_digit byte ≡ false
  pub quoted : (byte == quote) ≡ false
  pub named : begins_ascii byte ≡ false

pub sign_parts : (byte : ℕ) → is_sign byte ≡ true → IsSign byte
sign_parts byte is =
    let low = ltb-true byte 128 (and_parts _ _ (and_parts _ _ is).0).0 in
    let none = other_by _ _ (no_sign_else byte low) is in
    let one = or_parts (is_blank byte) _ none in
    let two = or_parts (is_ascii_digit byte) _ one.1 in
    let three = or_parts (byte == quote) (begins_ascii byte) two.1 in
    record { low = low; blank = one.0; digit = two.0; quoted = three.0; named = three.1 }

-- an ASCII byte is a character
chars_ascii : (byte : ℕ) (rest : List ℕ) → byte < 128 → chars (byte ∷ rest) ≡ byte ∷ chars rest
unfolding chars
chars_ascii byte [] low = rw (lt-ltb byte 128 low) refl
chars_ascii byte (next ∷ rest) low = rw (lt-ltb byte 128 low) refl

pub no_name : (byte : ℕ) (rest : List ℕ) → IsSign byte → begins_with begins_name (chars (byte ∷ rest)) ≡ false
no_name byte rest is = rw (chars_ascii byte rest is.low) (begins_low byte is.low ∙ is.named)

-- ---- a symbol is found

none_from : (o : Option Kind) → is_some o ≡ false → o ≡ None
none_from None e = refl
none_from (Some kind) e = absurd (true≢false e)

none_of : (o : Option Kind) → is_none o ≡ true → o ≡ None
none_of None e = refl
none_of (Some kind) e = absurd (true≢false (sym e))

drop_true : (x y : Bool) → (x && (y && true)) ≡ false → (x && y) ≡ false
drop_true x true e = e
drop_true x false e = e

add_true : (x y : Bool) → (x && y) ≡ false → (x && (y && true)) ≡ false
add_true x true e = e
add_true x false e = e

-- where nothing else stands, it is looked for
standing_symbol : (text : List ℕ) → is_blank (slice_index text 0) ≡ false → starts_comment text ≡ false → is_ascii_digit (slice_index text 0) ≡ false → (slice_index text 0 == quote) ≡ false → begins_with begins_name (chars text) ≡ false → standing text ≡ symbol_at text
standing_symbol text blank comment digit quoted named = rw (blank, comment, digit, quoted, named) refl

symbol_one : (a : ℕ) (rest : List ℕ) (kind : Kind) → is_sign a ≡ true → symbol_of (a ∷ 0 ∷ []) ≡ None → symbol_of (a ∷ []) ≡ Some kind → is_cut_short (a ∷ []) rest ≡ false → standing (a ∷ rest) ≡ st.Token kind 1
symbol_one a [] kind sign null one whole =
    let is = sign_parts a sign in
    standing_symbol (a ∷ []) is.blank (and_right (a == slash) _ refl) is.digit is.quoted (no_name a [] is)
    ∙ ap₂ longer null one
symbol_one a (b ∷ bs) kind sign null one whole =
    let is = sign_parts a sign in
    let parts = or_parts _ _ whole in
    standing_symbol (a ∷ b ∷ bs) is.blank (drop_true (a == slash) (b == slash) parts.1) is.digit is.quoted (no_name a (b ∷ bs) is)
    ∙ ap₂ longer (none_from _ parts.0) one

symbol_two : (a b : ℕ) (rest : List ℕ) (kind : Kind) → is_sign a ≡ true → (b == slash) ≡ false → symbol_of (a ∷ b ∷ []) ≡ Some kind → standing (a ∷ b ∷ rest) ≡ st.Token kind 2
symbol_two a b rest kind sign other two =
    let is = sign_parts a sign in
    standing_symbol (a ∷ b ∷ rest) is.blank (and_right (a == slash) _ other) is.digit is.quoted (no_name a (b ∷ rest) is)
    ∙ ap (λ o. longer o (symbol_of (a ∷ []))) two

pub symbol_found : (word rest : List ℕ) (kind : Kind) → symbol_of word ≡ Some kind → is_cut_short word rest ≡ false → standing (word ++ rest) ≡ st.Token kind (length word)
symbol_found [] rest kind e whole = absurd (true≢false (sym (symbol_shaped [] kind e)))
symbol_found (a ∷ []) rest kind e whole =
    let parts = and_parts (is_sign a) _ (symbol_shaped (a ∷ []) kind e) in
    symbol_one a rest kind parts.0 (none_of _ parts.1) e whole
symbol_found (a ∷ b ∷ []) rest kind e whole =
    let outer = and_parts _ (nat_lt b 128) (symbol_shaped (a ∷ b ∷ []) kind e) in
    let inner = and_parts _ (not (b == slash)) outer.0 in
    symbol_two a b rest kind (and_parts (is_sign a) _ inner.0).0 (not-true _ inner.1) e
symbol_found (a ∷ b ∷ c ∷ more) rest kind e whole = absurd (true≢false (sym (symbol_shaped (a ∷ b ∷ c ∷ more) kind e)))

-- ---- what is found is a symbol

-- no symbol is followed by a NUL
pub no_null : (a : ℕ) (kind : Kind) → ¬ (symbol_of (a ∷ 0 ∷ []) ≡ Some kind)
no_null a kind e =
    let outer = and_parts _ (nat_lt 0 128) (symbol_shaped (a ∷ 0 ∷ []) kind e) in
    let inner = and_parts _ (not (0 == slash)) outer.0 in
    true≢false (sym (and_parts (is_sign a) (not (0 == 0)) inner.0).1)

-- no symbol has three bytes
no_three : (a b c : ℕ) (o : Option Kind) → symbol_of (a ∷ b ∷ c ∷ []) ≡ o → is_some o ≡ false
no_three a b c None e = refl
no_three a b c (Some kind) e = absurd (true≢false (sym (symbol_shaped (a ∷ b ∷ c ∷ []) kind e)))

-- two bytes are the longest that a symbol can have
pub whole_two : (a b : ℕ) (rest : List ℕ) → is_cut_short (a ∷ b ∷ []) rest ≡ false
whole_two a b [] = refl
whole_two a b (c ∷ rest) = or_from _ _ (no_three a b c _ refl) (bytes_eq_no (a ∷ b ∷ c ∷ []) (codes "//") (λ e. absurd (cc)))

-- one byte is, where two are none
pub whole_one : (a b : ℕ) (rest : List ℕ) → symbol_of (a ∷ b ∷ []) ≡ None → ((a == slash) && (b == slash)) ≡ false → is_cut_short (a ∷ []) (b ∷ rest) ≡ false
whole_one a b rest none comment = or_from _ _ (ap is_some none) (add_true (a == slash) (b == slash) comment)

-- a symbol's bytes are ASCII
pub symbol_ascii : (word : List ℕ) (kind : Kind) → symbol_of word ≡ Some kind → list_all (λ b. nat_lt b 128) word ≡ true
symbol_ascii word kind e = holds_in (list_all (λ b. nat_lt b 128)) symbols word kind refl e
