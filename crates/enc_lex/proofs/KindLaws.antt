-- What the bytes of names, integers and texts are.
use Rattle.std.proofs.Common.{◌≡◌, ℕ, Bool, true, false, not, List, [], ◌∷◌, ◌++◌, refl, sym, ap, ◌∙◌, Some, arith, IsUtf8, bytes_eq, true≢false, map, ⊎_elim, ◌⊎◌, inl, inr, ◌-◌, length, take, take_at, drop, subst, length-append}
use Rattle.std.specs.List.{list_all, list_any}
use Rattle.std.proofs.lemmas.Bool.{and_parts, cases_Bool, cond_both, cond-true, cond-false, or_from, not-true}
use Rattle.std.proofs.lemmas.Slice.Eq.{bytes_eq-Decides}
use Rattle.std.proofs.lemmas.Str.{utf8_lossy-IsUtf8}
use Rattle.enc_ast.specs.Keywords.{is_keyword}
use Rattle.enc_lex.specs.declared.kinds.Kind.{Kind}
use Rattle.enc_lex.specs.declared.kinds.Kind.TheVariants as k
use Rattle.enc_lex.specs.declared.tokens.Token.{Token}
use Rattle.enc_lex.specs.Bytes.{quote}
use Rattle.enc_lex.specs.Words.{keywords, kind_in, kind_of_word}
use Rattle.enc_lex.specs.Symbols.{symbols, symbol_of}
use Rattle.enc_lex.specs.Values.{bytes_at, value_of, int_of, text_of, inside, unescaped, word_of}
use Rattle.enc_lex.specs.Standing.{IsQuotable, Stands, name, int, text, symbol}
use Rattle.enc_lex.specs.Lexes.{StandsIn}
use Rattle.enc_lex.proofs.SymbolLaws.{kind_holds_in}
use Rattle.enc_lex.proofs.WordLaws.{bytes_eq_no}

-- a kind that many words have
abbrev pub is_open : Kind → Bool
is_open k.Name = true
is_open k.Int = true
is_open k.Text = true
is_open _ = false

-- no symbol is of such a kind
symbol_closed : (word : List ℕ) (kind : Kind) → symbol_of word ≡ Some kind → is_open kind ≡ false
symbol_closed word kind e = not-true _ (kind_holds_in (λ kind. not (is_open kind)) symbols word kind refl e)

-- bytes are compared both ways alike
other_way : (a b : List ℕ) → bytes_eq b a ≡ false → bytes_eq a b ≡ false
other_way a b e = bytes_eq_no a b (λ same. true≢false (sym ((bytes_eq-Decides b a).1 (sym same)) ∙ e))

-- a word that has the kind of names is none of the table's
named_in : (entries : List (List ℕ × Kind)) (word : List ℕ) → list_all (λ e. not (is_open e.1)) entries ≡ true → kind_in entries word ≡ k.Name → list_any (λ keyword. bytes_eq keyword word) (map (λ e. e.0) entries) ≡ false
named_in [] word closed e = refl
named_in (entry ∷ entries) word closed e =
    let both = and_parts (not (is_open entry.1)) (list_all (λ e. not (is_open e.1)) entries) closed in
    ⊎_elim
    (λ (same : bytes_eq word entry.0 ≡ true).
    let kind : entry.1 ≡ k.Name = sym (cond-true _ _ _ same) ∙ e in
    absurd (true≢false (ap is_open (sym kind) ∙ not-true _ both.0)))
    (λ (no : bytes_eq word entry.0 ≡ false). or_from _ _ (other_way entry.0 word no) (named_in entries word both.1 (sym (cond-false _ _ _ no) ∙ e)))
    (cases_Bool (bytes_eq word entry.0))

-- a name is none of the language's own words
pub name_no_keyword : (word : List ℕ) → kind_of_word word ≡ k.Name → is_keyword word ≡ false
name_no_keyword word e = named_in keywords word refl e

-- What the word of a name is.
pub record IsNameWord (word : List ℕ) : Type 0 where
  pub utf8 : IsUtf8 word
  pub free : is_keyword word ≡ false
  pub said : word_of word ≡ word

pub name_word : (word rest : List ℕ) → Stands k.Name word rest → IsNameWord word
name_word word rest (name spelled ok e named ends is) =
    let u : IsUtf8 word = (spelled, (ok, sym e)) in
    record { utf8 = u; free = name_no_keyword word (sym is); said = utf8_lossy-IsUtf8 word u }
name_word word rest (symbol e whole) = absurd (true≢false (symbol_closed word k.Name e))

-- a word's kind is a closed one, or that of names
word_kind : (entries : List (List ℕ × Kind)) (word : List ℕ) → list_all (λ e. not (is_open e.1)) entries ≡ true → (is_open (kind_in entries word) ≡ false) ⊎ (kind_in entries word ≡ k.Name)
word_kind [] word closed = inr refl
word_kind (entry ∷ entries) word closed =
    let both = and_parts (not (is_open entry.1)) (list_all (λ e. not (is_open e.1)) entries) closed in
    let later = word_kind entries word both.1 in
    cond_both (bytes_eq word entry.0) entry.1 (kind_in entries word) (λ kind. (is_open kind ≡ false) ⊎ (kind ≡ k.Name))
    (λ same. inl (not-true _ both.0)) (λ other. later)

-- no word is an integer or a text
no_int : (word : List ℕ) → k.Int ≡ kind_of_word word → ⊥
no_int word is =
    ⊎_elim
    (λ (closed : is_open (kind_of_word word) ≡ false). true≢false (ap is_open is ∙ closed))
    (λ (named : kind_of_word word ≡ k.Name). let same : k.Int ≡ k.Name = is ∙ named in absurd (cc))
    (word_kind keywords word refl)

no_text : (word : List ℕ) → k.Text ≡ kind_of_word word → ⊥
no_text word is =
    ⊎_elim
    (λ (closed : is_open (kind_of_word word) ≡ false). true≢false (ap is_open is ∙ closed))
    (λ (named : kind_of_word word ≡ k.Name). let same : k.Text ≡ k.Name = is ∙ named in absurd (cc))
    (word_kind keywords word refl)

-- the value of an integer's digits is the integer
pub int_digits : (word rest : List ℕ) → Stands k.Int word rest → int_of word ≡ value_of word
int_digits word rest (int all ends small) = omega arith
int_digits word rest (name spelled ok e named ends is) = absurd (no_int word is)
int_digits word rest (symbol e whole) = absurd (true≢false (symbol_closed word k.Int e))

-- What the bytes of a text are.
pub record IsQuoted (word : List ℕ) : Type 0 where
  pub between : List ℕ
  pub split : word ≡ quote ∷ (between ++ quote ∷ [])
  pub quotable : IsQuotable between
  pub said : text_of word ≡ unescaped false between

inside_quotes : (between : List ℕ) → inside (quote ∷ (between ++ quote ∷ [])) ≡ between
inside_quotes between =
    let size : length (quote ∷ (between ++ quote ∷ [])) - 2 ≡ length between = omega (arith, length-append between (quote ∷ [])) in
    ap (λ n. take n (between ++ quote ∷ [])) size ∙ take_at between (quote ∷ []) (length between) refl

pub text_quoted : (word rest : List ℕ) → Stands k.Text word rest → IsQuoted word
text_quoted word rest (text between e is) =
    record { between = between; split = e; quotable = is; said = ap text_of e ∙ ap (unescaped false) (inside_quotes between) }
text_quoted word rest (name spelled ok e named ends is) = absurd (no_text word is)
text_quoted word rest (symbol e whole) = absurd (true≢false (symbol_closed word k.Text e))

-- the token of a name has such a word
pub name_token : (place : List ℕ) (token : Token) → StandsIn place token → token.kind ≡ k.Name → IsNameWord (bytes_at place token.span)
name_token place token is named =
    name_word (bytes_at place token.span) (drop token.span.end place) (subst (λ kind. Stands kind (bytes_at place token.span) (drop token.span.end place)) named is.stands)
