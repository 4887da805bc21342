-- The words that no declaration can have as its name.
use Rattle.std.specs.Prelude.{ℕ, Bool, List, [], ◌∷◌, codes}
use Rattle.std.specs.List.{list_any}
use Rattle.std.specs.Str.{bytes_eq}

-- every word that the language has for itself
abbrev pub keywords : List (List ℕ)
keywords =
    codes "active" ∷
    codes "and" ∷
    codes "append" ∷
    codes "as" ∷
    codes "at" ∷
    codes "atomic" ∷
    codes "await" ∷
    codes "bestow" ∷
    codes "Bestowed" ∷
    codes "bool" ∷
    codes "both" ∷
    codes "chain" ∷
    codes "choose" ∷
    codes "class" ∷
    codes "def" ∷
    codes "each" ∷
    codes "else" ∷
    codes "empty" ∷
    codes "extract" ∷
    codes "false" ∷
    codes "fun" ∷
    codes "Fut" ∷
    codes "future" ∷
    codes "get" ∷
    codes "if" ∷
    codes "int" ∷
    codes "into" ∷
    codes "isnull" ∷
    codes "join" ∷
    codes "len" ∷
    codes "let" ∷
    codes "lift" ∷
    codes "linear" ∷
    codes "List" ∷
    codes "local" ∷
    codes "new" ∷
    codes "nil" ∷
    codes "not" ∷
    codes "null" ∷
    codes "or" ∷
    codes "otherwise" ∷
    codes "pack" ∷
    codes "Par" ∷
    codes "print" ∷
    codes "prune" ∷
    codes "read" ∷
    codes "return" ∷
    codes "seq" ∷
    codes "split" ∷
    codes "subordinate" ∷
    codes "suspend" ∷
    codes "take" ∷
    codes "text" ∷
    codes "this" ∷
    codes "trait" ∷
    codes "true" ∷
    codes "unit" ∷
    codes "while" ∷
    codes "with" ∷
    []

-- whether a word is one of them
abbrev pub is_keyword : List ℕ → Bool
is_keyword word = list_any (λ keyword. bytes_eq keyword word) keywords
