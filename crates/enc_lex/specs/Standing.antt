-- What stands at a place of a text, by longest match.
use Rattle.std.specs.Prelude.{◌≡◌, ℕ, ◌≤◌, Bool, true, false, not, ◌&&◌, List, [], ◌∷◌, ◌++◌, Some, IsTrue, encode_utf8_all}
use Rattle.std.specs.List.{list_all}
use Rattle.std.specs.Char.{is_ascii_digit}
use Rattle.std.specs.Str.{chars, all_scalars}
use Rattle.unicode_ident.specs.Ident.{is_xid_continue}
use Rattle.enc_lex.specs.declared.kinds.Kind.{Kind}
use Rattle.enc_lex.specs.declared.kinds.Kind.TheVariants as k
use Rattle.enc_lex.specs.Bytes.{quote, slash, backslash, is_blank, is_in_line, is_plain, begins_with}
use Rattle.enc_lex.specs.Escapes.{is_escape}
use Rattle.enc_lex.specs.Names.{is_name}
use Rattle.enc_lex.specs.Words.{kind_of_word}
use Rattle.enc_lex.specs.Symbols.{symbol_of, is_cut_short}
use Rattle.enc_lex.specs.Values.{value_of, max_int}

-- one digit or more
abbrev pub is_number : List ℕ → Bool
is_number [] = false
is_number (digit ∷ digits) = is_ascii_digit digit && list_all is_ascii_digit digits

-- What may stand between quotes: bytes that stand for themselves, and escapes.
pub data IsQuotable : List ℕ → Type 0 where
  -- nothing
  empty : IsQuotable []
  -- a byte that stands for itself, and more
  plain : {byte : ℕ} {bytes : List ℕ} → IsTrue (is_plain byte) → IsQuotable bytes → IsQuotable (byte ∷ bytes)
  -- an escape, and more
  escape : {letter : ℕ} {bytes : List ℕ} → IsTrue (is_escape letter) → IsQuotable bytes → IsQuotable (backslash ∷ letter ∷ bytes)

-- What stands between tokens, where the rest follows: a blank, or a comment to the end of its line.
pub data IsGap : List ℕ → List ℕ → Type 0 where
  -- a space, a tab or an end of line
  blank : {byte : ℕ} {rest : List ℕ} → IsTrue (is_blank byte) → IsGap (byte ∷ []) rest
  -- two slashes and all that is left of the line
  comment : {body rest : List ℕ} → IsTrue (list_all is_in_line body) → IsTrue (not (begins_with is_in_line rest)) → IsGap (slash ∷ slash ∷ body) rest

-- The word is a token of the kind where the rest follows, and no longer token stands there.
pub data Stands : Kind → List ℕ → List ℕ → Type 0 where
  -- characters of a name, and none that goes on with it; it may be a keyword
  name : {kind : Kind} {word rest : List ℕ} (spelled : List ℕ) → all_scalars spelled ≡ true → word ≡ encode_utf8_all spelled → IsTrue (is_name spelled) → IsTrue (not (begins_with is_xid_continue (chars rest))) → kind ≡ kind_of_word word → Stands kind word rest
  -- digits and no further one, of a value that is not too large
  int : {word rest : List ℕ} → IsTrue (is_number word) → IsTrue (not (begins_with is_ascii_digit rest)) → value_of word ≤ max_int → Stands k.Int word rest
  -- a text from quote to quote, on one line
  text : {word rest : List ℕ} (between : List ℕ) → word ≡ quote ∷ (between ++ quote ∷ []) → IsQuotable between → Stands k.Text word rest
  -- a symbol, and nothing that makes it a longer one or a comment
  symbol : {kind : Kind} {word rest : List ℕ} → symbol_of word ≡ Some kind → IsTrue (not (is_cut_short word rest)) → Stands kind word rest
