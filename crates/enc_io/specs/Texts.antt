-- The texts of files by name.
use Rattle.std.specs.Prelude.{◌≡◌, ◌<◌, ◌≤◌, ◌++◌, ℕ, Bool, List, [], ◌∷◌, length, take, drop, Option, Some, None, ⊤, IsTrue, if◌then◌else◌, false}
use Rattle.std.specs.Str.{bytes_eq}
use Rattle.std.specs.Io.KnownBytes.{Consumes, IsAtEnd}

-- pairs of a name and bytes, of which the first with a name counts
abbrev pub Texts : Type 0
Texts = List (List ℕ × List ℕ)

-- the bytes of the file of this name
abbrev pub text_of : Texts → List ℕ → Option (List ℕ)
text_of [] name = None
text_of (file ∷ files) name = if bytes_eq file.0 name then Some file.1 else text_of files name

-- where the texts are known, they have the name, and its whole text is still to be read
abbrev pub Opens : Option Texts → List ℕ → Option (List ℕ) → Type 0
Opens None name rest = ⊤
Opens (Some texts) name rest = (text : List ℕ) × (text_of texts name ≡ Some text) × (rest ≡ Some text)

-- where the texts are known and a file is begun, the rest is known, and is an end part of its text
abbrev pub IsRestOf : Option Texts → Option (List ℕ) → Option (List ℕ) → Type 0
IsRestOf None begun rest = ⊤
IsRestOf (Some texts) None rest = ⊤
IsRestOf (Some texts) (Some name) rest = (text : List ℕ) × (offset : ℕ) × (text_of texts name ≡ Some text) × (rest ≡ Some (drop offset text))

-- where the texts are known, these are the first bytes of the named one, so many or all
abbrev pub IsReadOf : Option Texts → List ℕ → ℕ → List ℕ → Type 0
IsReadOf None name count bytes = ⊤
IsReadOf (Some texts) name count bytes = (text : List ℕ) × (text_of texts name ≡ Some text) × (bytes ≡ take count text)

-- a piece was read onto the end of old, none only at the end
pub record ReadsMore (before rest : Option (List ℕ)) (old new : List ℕ) (room : ℕ) (more : Bool) : Type 0 where
  pub piece : List ℕ
  pub appended : new ≡ old ++ piece
  pub consumed : Consumes before rest piece
  pub few : length piece ≤ room
  pub some : IsTrue more → 0 < length piece
  pub end : more ≡ false → IsAtEnd before
