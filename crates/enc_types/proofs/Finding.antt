-- Where words stand in a row.
use Rattle.std.proofs.Common.{◌≡◌, ℕ, suc, ◌<◌, ◌-◌, ◌^◌, Bool, true, false, cond, ◌||◌, List, [], ◌∷◌, ◌++◌, length, Option, Some, None, IfSome, String, is_some, option_map, refl, ap, sym, ◌∙◌, arith, true≢false, length-append}
use Rattle.std.specs.Str.{bytes_eq}
use Rattle.std.specs.Map.{update}
use Rattle.std.specs.HashMap.{HashMap, get_by_text}
use Rattle.std.specs.Cmp.Lexicographic.{bytes_decides}
use Rattle.enc_types.specs.Words.{place_in, has}
use Rattle.enc_types.specs.Kept.{IsKept}

-- a word is there where it has a place
pub has_place : (ws : List (List ℕ)) (x : List ℕ) → has ws x ≡ is_some (place_in ws x)
has_place [] x = refl
has_place (w ∷ ws) x = go (bytes_eq w x) (place_in ws x) (has_place ws x)
  where
    go : (b : Bool) (o : Option ℕ) → has ws x ≡ is_some o → (b || has ws x) ≡ is_some (cond b (Some 0) (option_map suc o))
    go true o e = refl
    go false None e = e
    go false (Some k) e = e

-- a place is one of the row
pub place_within : (ws : List (List ℕ)) (x : List ℕ) → IfSome (place_in ws x) (λ k. k < length ws)
place_within [] x = tt
place_within (w ∷ ws) x = go (bytes_eq w x) (place_in ws x) (place_within ws x)
  where
    go : (b : Bool) (o : Option ℕ) → IfSome o (λ k. k < length ws) → IfSome (cond b (Some 0) (option_map suc o)) (λ k. k < length (w ∷ ws))
    go true o h = omega arith
    go false None h = tt
    go false (Some k) h = omega arith

-- the place, or the other one where there is none
abbrev or_other : Option ℕ → Option ℕ → Option ℕ
or_other None p = p
or_other (Some k) p = Some k

-- a word at the end has the last place, if it has no earlier one
place_push : (ws : List (List ℕ)) (w x : List ℕ) → place_in (ws ++ w ∷ []) x ≡ or_other (place_in ws x) (cond (bytes_eq w x) (Some (length ws)) None)
place_push [] w x = refl
place_push (v ∷ ws) w x = go (bytes_eq v x) (place_in ws x) (bytes_eq w x) (place_in (ws ++ w ∷ []) x) (place_push ws w x)
  where
    go : (b : Bool) (o : Option ℕ) (c : Bool) (p : Option ℕ) → p ≡ or_other o (cond c (Some (length ws)) None) → cond b (Some 0) (option_map suc p) ≡ or_other (cond b (Some 0) (option_map suc o)) (cond c (Some (length (v ∷ ws))) None)
    go true o c p e = refl
    go false None true p e = ap (option_map suc) e
    go false None false p e = ap (option_map suc) e
    go false (Some k) c p e = ap (option_map suc) e

-- a map keeps what it says where a word is there already
pub kept_known : {Y S : Type 0} (ws : List (List ℕ)) (w : List ℕ) (m : HashMap (String Y) ℕ S) → IsKept ws m → length ws < 2 ^ 32 - 2 → true ≡ is_some (get_by_text m w) → IsKept (ws ++ w ∷ []) m
kept_known ws w m h f known = record { few = omega (arith, length-append ws (w ∷ [])); finds = λ x. h.finds x ∙ (go x (bytes_eq w x) (place_in ws x) refl refl ∙ sym (place_push ws w x)) }
  where
    there : is_some (place_in ws w) ≡ true
    there = sym (ap is_some (h.finds w)) ∙ sym known

    go : (x : List ℕ) (b : Bool) (o : Option ℕ) → bytes_eq w x ≡ b → place_in ws x ≡ o → o ≡ or_other o (cond b (Some (length ws)) None)
    go x true None e p = absurd (true≢false (sym there ∙ ap is_some (ap (place_in ws) ((bytes_decides w x).0 e) ∙ p)))
    go x false None e p = refl
    go x b (Some k) e p = refl

-- a map that is given the last place for a new word keeps what it says
pub kept_new : {Y S : Type 0} (ws : List (List ℕ)) (w key : List ℕ) (place : ℕ) (m n : HashMap (String Y) ℕ S) → IsKept ws m → length ws < 2 ^ 32 - 2 → key ≡ w → place ≡ length ws → false ≡ is_some (get_by_text m w) → ((x : List ℕ) → get_by_text n x ≡ update bytes_eq (get_by_text m) key (Some place) x) → IsKept (ws ++ w ∷ []) n
kept_new ws w key place m n h f k p known new = record { few = omega (arith, length-append ws (w ∷ [])); finds = λ x. new x ∙ (ap (λ z. cond (bytes_eq z x) (Some place) (get_by_text m x)) k ∙ (ap (λ z. cond (bytes_eq w x) (Some z) (get_by_text m x)) p ∙ (ap (cond (bytes_eq w x) (Some (length ws))) (h.finds x) ∙ (go x (bytes_eq w x) (place_in ws x) refl refl ∙ sym (place_push ws w x))))) }
  where
    missing : is_some (place_in ws w) ≡ false
    missing = sym (ap is_some (h.finds w)) ∙ sym known

    go : (x : List ℕ) (b : Bool) (o : Option ℕ) → bytes_eq w x ≡ b → place_in ws x ≡ o → cond b (Some (length ws)) o ≡ or_other o (cond b (Some (length ws)) None)
    go x true (Some k) e p = absurd (true≢false (sym (ap is_some (ap (place_in ws) ((bytes_decides w x).0 e) ∙ p)) ∙ missing))
    go x true None e p = refl
    go x false None e p = refl
    go x false (Some k) e p = refl

pub ruleset places = (has_place)
