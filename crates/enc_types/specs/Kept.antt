-- What a map from words to their first places keeps.
use Rattle.std.specs.Prelude.{◌≡◌, ℕ, ◌<◌, ◌-◌, ◌^◌, List, length, String}
use Rattle.std.specs.HashMap.{HashMap, get_by_text}
use Rattle.enc_types.specs.Words.{place_in}

-- The map finds the first place of each word, and there are not so many words that a place has no number.
pub record IsKept {Y S : Type 0} (words : List (List ℕ)) (firsts : HashMap (String Y) ℕ S) : Type 0 where
  pub few : length words < 2 ^ 32 - 1
  pub finds : (x : List ℕ) → get_by_text firsts x ≡ place_in words x
