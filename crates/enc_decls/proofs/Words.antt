-- Words that don't repeat.
use Rattle.std.proofs.Common.{◌≡◌, ℕ, Bool, true, false, not, ◌&&◌, ◌||◌, List, [], ◌∷◌, ◌++◌, refl, sym, ap, ◌∙◌}
use Rattle.std.proofs.lemmas.Slice.Eq.{bytes_eq-Decides}
use Rattle.std.proofs.lemmas.Bool.Decides.{same_from_decides, Decides-like}
use Rattle.std.specs.Str.{bytes_eq}
use Rattle.enc_types.specs.Words.{has, every}
use Rattle.enc_decls.specs.Rules.{distinct_words}

-- each word is new behind those seen and those before it
abbrev pub fresh : List (List ℕ) → List (List ℕ) → Bool
fresh seen [] = true
fresh seen (w ∷ ws) = not (has seen w) && fresh (seen ++ w ∷ []) ws

-- words are compared either way round
pub eq_comm : (x y : List ℕ) → bytes_eq x y ≡ bytes_eq y x
eq_comm x y = same_from_decides _ _ (bytes_eq-Decides x y) (Decides-like _ sym sym (bytes_eq-Decides y x))

-- one more word
pub has_push : (ws : List (List ℕ)) (w x : List ℕ) → has (ws ++ w ∷ []) x ≡ (has ws x || bytes_eq w x)
has_push [] w x = go (bytes_eq w x)
  where
    go : (b : Bool) → (b || false) ≡ b
    go true = refl
    go false = refl
has_push (v ∷ ws) w x = ap (λ z. bytes_eq v x || z) (has_push ws w x) ∙ go (bytes_eq v x) (has ws x) (bytes_eq w x)
  where
    go : (a b c : Bool) → (a || (b || c)) ≡ ((a || b) || c)
    go true b c = refl
    go false b c = refl

-- no word of ws is one of those seen, or w
new_to_more : (seen : List (List ℕ)) (w : List ℕ) (ws : List (List ℕ)) → every (λ v. not (has (seen ++ w ∷ []) v)) ws ≡ (every (λ v. not (has seen v)) ws && not (has ws w))
new_to_more seen w [] = refl
new_to_more seen w (v ∷ ws) = rw (has_push seen w v, new_to_more seen w ws, eq_comm w v) (go (has seen v) (bytes_eq v w) (every (λ v. not (has seen v)) ws) (has ws w))
  where
    go : (a b c d : Bool) → (not (a || b) && (c && not d)) ≡ ((not a && c) && not (b || d))
    go true b c d = refl
    go false true true d = refl
    go false true false d = refl
    go false false true d = refl
    go false false false d = refl

-- each is new where none is one of those seen and none repeats
fresh_is : (seen ws : List (List ℕ)) → fresh seen ws ≡ (every (λ v. not (has seen v)) ws && distinct_words ws)
fresh_is seen [] = refl
fresh_is seen (w ∷ ws) = rw (fresh_is (seen ++ w ∷ []) ws, new_to_more seen w ws) (go (has seen w) (every (λ v. not (has seen v)) ws) (has ws w) (distinct_words ws))
  where
    go : (a b c d : Bool) → (not a && ((b && not c) && d)) ≡ ((not a && b) && (not c && d))
    go true b c d = refl
    go false true c d = refl
    go false false c d = refl

-- none repeats where each is new behind those before it
pub distinct_fresh : (ws : List (List ℕ)) → distinct_words ws ≡ fresh [] ws
distinct_fresh ws = sym (fresh_is [] ws ∙ go ws)
  where
    all : (xs : List (List ℕ)) → every (λ v. not (has [] v)) xs ≡ true
    all [] = refl
    all (x ∷ xs) = all xs

    go : (xs : List (List ℕ)) → (every (λ v. not (has [] v)) xs && distinct_words xs) ≡ distinct_words xs
    go xs = ap (λ z. z && distinct_words xs) (all xs)
