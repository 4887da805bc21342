-- The words that the language has for itself, each with its kind.
use Rattle.std.specs.Prelude.{ℕ, not, ◌&&◌, ◌==◌, nat_le, List, [], ◌∷◌, length, filter, if◌then◌else◌, codes}
use Rattle.std.specs.Str.{bytes_eq}
use Rattle.enc_lex.specs.declared.kinds.Kind.{Kind}
use Rattle.enc_lex.specs.declared.kinds.Kind.TheVariants as k

-- each keyword with the kind of its token
abbrev pub keywords : List (List ℕ × Kind)
keywords =
    (codes "active", k.Active) ∷
    (codes "and", k.And) ∷
    (codes "append", k.Append) ∷
    (codes "as", k.As) ∷
    (codes "at", k.At) ∷
    (codes "atomic", k.Atomic) ∷
    (codes "await", k.Await) ∷
    (codes "bestow", k.Bestow) ∷
    (codes "Bestowed", k.Bestowed) ∷
    (codes "bool", k.TypeBool) ∷
    (codes "both", k.Both) ∷
    (codes "chain", k.Chain) ∷
    (codes "choose", k.Choose) ∷
    (codes "class", k.Class) ∷
    (codes "def", k.Def) ∷
    (codes "each", k.Each) ∷
    (codes "else", k.Else) ∷
    (codes "empty", k.Empty) ∷
    (codes "extract", k.Extract) ∷
    (codes "false", k.False) ∷
    (codes "fun", k.Fun) ∷
    (codes "Fut", k.Fut) ∷
    (codes "future", k.Future) ∷
    (codes "get", k.Get) ∷
    (codes "if", k.If) ∷
    (codes "int", k.TypeInt) ∷
    (codes "into", k.Into) ∷
    (codes "isnull", k.IsNull) ∷
    (codes "join", k.Join) ∷
    (codes "len", k.Len) ∷
    (codes "let", k.Let) ∷
    (codes "lift", k.Lift) ∷
    (codes "linear", k.Linear) ∷
    (codes "List", k.List) ∷
    (codes "local", k.Local) ∷
    (codes "new", k.New) ∷
    (codes "nil", k.Nil) ∷
    (codes "not", k.Not) ∷
    (codes "null", k.Null) ∷
    (codes "or", k.Or) ∷
    (codes "otherwise", k.Otherwise) ∷
    (codes "pack", k.Pack) ∷
    (codes "Par", k.Par) ∷
    (codes "print", k.Print) ∷
    (codes "prune", k.Prune) ∷
    (codes "read", k.Read) ∷
    (codes "return", k.Return) ∷
    (codes "seq", k.Seq) ∷
    (codes "split", k.Split) ∷
    (codes "subordinate", k.Subordinate) ∷
    (codes "suspend", k.Suspend) ∷
    (codes "take", k.Take) ∷
    (codes "text", k.TypeText) ∷
    (codes "this", k.This) ∷
    (codes "trait", k.Trait) ∷
    (codes "true", k.True) ∷
    (codes "unit", k.Unit) ∷
    (codes "while", k.While) ∷
    (codes "with", k.With) ∷
    []

-- the kind that the table gives the word, or that of a name
abbrev pub kind_in : List (List ℕ × Kind) → List ℕ → Kind
kind_in [] word = k.Name
kind_in (entry ∷ entries) word = if bytes_eq word entry.0 then entry.1 else kind_in entries word

-- the keyword that a word is, or a name
abbrev pub kind_of_word : List ℕ → Kind
kind_of_word word = kind_in keywords word

-- the keywords that are so long
abbrev pub words_of_len : ℕ → List (List ℕ × Kind)
words_of_len len = filter (λ entry. length entry.0 == len) keywords

-- the keywords that have neither two letters nor six, nor a number between
abbrev pub other_words : List (List ℕ × Kind)
other_words = filter (λ entry. not (nat_le 2 (length entry.0) && nat_le (length entry.0) 6)) keywords
