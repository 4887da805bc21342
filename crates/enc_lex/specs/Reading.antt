-- What stands at a place, found from its first bytes on.
use Rattle.std.specs.Prelude.{ℕ, ◌+◌, Bool, true, false, ◌&&◌, ◌==◌, nat_le, if◌then◌else◌, List, [], ◌∷◌, length, take, drop, slice_index, take_while, Option, Some, None, encode_utf8_all}
use Rattle.std.specs.List.{prefix_len}
use Rattle.std.specs.Char.{is_ascii_digit}
use Rattle.std.specs.Str.{chars}
use Rattle.unicode_ident.specs.Ident.{is_xid_continue}
use Rattle.enc_lex.specs.declared.kinds.Kind.{Kind}
use Rattle.enc_lex.specs.declared.kinds.Kind.TheVariants as k
use Rattle.enc_lex.specs.declared.standing.Standing.{Standing}
use Rattle.enc_lex.specs.declared.standing.Standing.TheVariants as st
use Rattle.enc_lex.specs.Bytes.{line_feed, quote, slash, backslash, is_blank, is_in_line, begins_with}
use Rattle.enc_lex.specs.Escapes.{is_escape}
use Rattle.enc_lex.specs.Names.{begins_name}
use Rattle.enc_lex.specs.Words.{kind_of_word}
use Rattle.enc_lex.specs.Symbols.{symbol_of}
use Rattle.enc_lex.specs.Values.{value_of, max_int}

-- ---- comments

-- whether the text begins with a comment
abbrev pub starts_comment : List ℕ → Bool
starts_comment text = slice_index text 0 == slash && slice_index text 1 == slash

-- the length of the comment with which the text begins
abbrev pub comment_len : List ℕ → ℕ
comment_len text = 2 + prefix_len is_in_line (drop 2 text)

-- ---- integers

-- digits, unless their value is too large
abbrev pub int_of_len : List ℕ → ℕ → Standing
int_of_len text len = if nat_le (value_of (take len text)) max_int then st.Token k.Int len else st.Nothing

-- the integer whose first digit the text begins with
abbrev pub int_at : List ℕ → Standing
int_at text = int_of_len text (prefix_len is_ascii_digit text)

-- ---- texts

-- how many bytes a text takes of which `at` are read; `escaped` says that a backslash is the last of them
abbrev pub text_end : ℕ → Bool → List ℕ → Option ℕ
text_end at escaped [] = None
text_end at true (byte ∷ bytes) = if is_escape byte then text_end (at + 1) false bytes else None
text_end at false (byte ∷ bytes) =
    if byte == quote then Some (at + 1)
    else if byte == backslash then text_end (at + 1) true bytes
    else if byte == line_feed then None
    else text_end (at + 1) false bytes

-- a text that takes so many bytes, or none where it isn't closed
abbrev pub text_to : Option ℕ → Standing
text_to None = st.Nothing
text_to (Some end) = st.Token k.Text end

-- the text whose first quote comes first
abbrev pub text_at : List ℕ → Standing
text_at text = text_to (text_end 1 false (drop 1 text))

-- ---- names

-- the first character, and those behind it with which a name goes on
abbrev pub name_chars : List ℕ → List ℕ
name_chars [] = []
name_chars (char ∷ rest) = char ∷ take_while is_xid_continue rest

-- the bytes of the name
abbrev pub name_of : List ℕ → List ℕ
name_of text = encode_utf8_all (name_chars (chars text))

-- the name or the keyword that comes first
abbrev pub name_at : List ℕ → Standing
name_at text = st.Token (kind_of_word (name_of text)) (length (name_of text))

-- ---- symbols

-- the longer of two symbols that begin with the same byte
abbrev pub longer : Option Kind → Option Kind → Standing
longer (Some kind) one = st.Token kind 2
longer None (Some kind) = st.Token kind 1
longer None None = st.Nothing

-- the symbol that comes first; a byte past the end counts as NUL, which no symbol has
abbrev pub symbol_at : List ℕ → Standing
symbol_at text = longer (symbol_of (slice_index text 0 ∷ slice_index text 1 ∷ [])) (symbol_of (slice_index text 0 ∷ []))

-- ---- all of them

-- what comes first, told by the first byte, and for names by the first character
abbrev pub standing : List ℕ → Standing
standing text =
    if is_blank (slice_index text 0) then st.Gap 1
    else if starts_comment text then st.Gap (comment_len text)
    else if is_ascii_digit (slice_index text 0) then int_at text
    else if slice_index text 0 == quote then text_at text
    else if begins_with begins_name (chars text) then name_at text
    else symbol_at text
