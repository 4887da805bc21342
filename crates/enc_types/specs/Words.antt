-- Words in a list.
use Rattle.std.specs.Prelude.{bytes_eq, ℕ, suc, Bool, true, false, ◌&&◌, ◌||◌, cond, List, [], ◌∷◌, Option, Some, None, option_map}

-- the first place of a word
abbrev pub place_in : List (List ℕ) → List ℕ → Option ℕ
place_in [] x = None
place_in (w ∷ ws) x = cond (bytes_eq w x) (Some 0) (option_map suc (place_in ws x))

-- the word is one of them
abbrev pub has : List (List ℕ) → List ℕ → Bool
has [] x = false
has (w ∷ ws) x = bytes_eq w x || has ws x

-- all of them, where each is there
abbrev pub add_one : {A : Type 0} → Option A → Option (List A) → Option (List A)
add_one None xs = None
add_one (Some x) None = None
add_one (Some x) (Some xs) = Some (x ∷ xs)

-- what is there for each, where something is there for all
abbrev pub all_there : {A B : Type 0} → (A → Option B) → List A → Option (List B)
all_there f [] = Some []
all_there f (x ∷ xs) = add_one (f x) (all_there f xs)

-- it holds of each
abbrev pub every : {A : Type 0} → (A → Bool) → List A → Bool
every f [] = true
every f (x ∷ xs) = f x && every f xs

-- it holds of one
abbrev pub some : {A : Type 0} → (A → Bool) → List A → Bool
some f [] = false
some f (x ∷ xs) = f x || some f xs
