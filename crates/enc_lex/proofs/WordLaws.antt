-- Words that the table has, and words that it lacks.
use Rattle.std.proofs.Common.{◌≡◌, ℕ, Bool, true, false, List, [], ◌∷◌, refl, bytes_eq, filter, cond, ap, sym, ◌∙◌, true≢false, if◌then◌else◌, length, ◌==◌, ◌<◌, ◌⊎◌, ⊎_elim, not, ◌&&◌, nat_le, eq-eqb, arith}
use Rattle.std.proofs.lemmas.Bool.{false_from_ne_true, cond-false, not_from_false, and_left, and_right, lt-leb}
use Rattle.std.proofs.lemmas.Slice.Eq.{bytes_eq-Decides}
use Rattle.enc_lex.specs.declared.kinds.Kind.{Kind}
use Rattle.enc_lex.specs.declared.kinds.Kind.TheVariants as k
use Rattle.enc_lex.specs.Words.{keywords, kind_in, kind_of_word, words_of_len, other_words}

-- the word is none of the table's
abbrev pub Misses : List ℕ → List (List ℕ × Kind) → Type 0
Misses word [] = Unit {0}
Misses word (entry ∷ entries) = (word ≡ entry.0 → ⊥) × Misses word entries

-- different bytes are not equal
pub bytes_eq_no : (xs ys : List ℕ) → (xs ≡ ys → ⊥) → bytes_eq xs ys ≡ false
bytes_eq_no xs ys differ = false_from_ne_true (bytes_eq xs ys) (λ e. differ ((bytes_eq-Decides xs ys).0 e))

pub kind_in_none : (word : List ℕ) (entries : List (List ℕ × Kind)) → Misses word entries → kind_in entries word ≡ k.Name
kind_in_none word [] misses = refl
kind_in_none word (entry ∷ entries) misses = rw (bytes_eq_no word entry.0 misses.0) (kind_in_none word entries misses.1)

kind_in_by : (word : List ℕ) (entry : List ℕ × Kind) (entries : List (List ℕ × Kind)) (test : List ℕ → Bool) (passes : Bool) → test entry.0 ≡ passes → test word ≡ true → kind_in entries word ≡ kind_in (filter (λ e. test e.0) entries) word → kind_in (entry ∷ entries) word ≡ kind_in (cond passes (entry ∷ filter (λ e. test e.0) entries) (filter (λ e. test e.0) entries)) word
kind_in_by word entry entries test true e is more = ap (λ kind. if bytes_eq word entry.0 then entry.1 else kind) more
kind_in_by word entry entries test false e is more =
    let other : bytes_eq word entry.0 ≡ false = bytes_eq_no word entry.0 (λ same. true≢false (sym is ∙ (ap test same ∙ e))) in
    cond-false _ _ _ other ∙ more

-- a word that passes a test is looked for among those that pass it
pub kind_in_filter : (word : List ℕ) (entries : List (List ℕ × Kind)) (test : List ℕ → Bool) → test word ≡ true → kind_in entries word ≡ kind_in (filter (λ e. test e.0) entries) word
kind_in_filter word [] test is = refl
kind_in_filter word (entry ∷ entries) test is = kind_in_by word entry entries test (test entry.0) refl is (kind_in_filter word entries test is)

pub kind_by_len : (word : List ℕ) (len : ℕ) → length word ≡ len → kind_of_word word ≡ kind_in (words_of_len len) word
kind_by_len word len e = kind_in_filter word keywords (λ w. length w == len) (eq-eqb (length word) len e)

pub kind_by_other : (word : List ℕ) → (length word ≡ 2 → ⊥) → (length word ≡ 3 → ⊥) → (length word ≡ 4 → ⊥) → (length word ≡ 5 → ⊥) → (length word ≡ 6 → ⊥) → kind_of_word word ≡ kind_in other_words word
kind_by_other word two three four five six =
    let outside : (length word < 2) ⊎ (6 < length word) = grind arith in
    kind_in_filter word keywords (λ w. not (nat_le 2 (length w) && nat_le (length w) 6))
    (⊎_elim
    (λ (less : length word < 2). not_from_false _ (and_left _ _ (lt-leb 2 (length word) less)))
    (λ (more : 6 < length word). not_from_false _ (and_right _ _ (lt-leb (length word) 6 more)))
    outside)
