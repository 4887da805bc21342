-- Loops over the parts of a node, of which each is judged behind those before it: what is left to judge.
use Rattle.std.proofs.Common.{◌≡◌, ℕ, ◌+◌, ◌<◌, ◌≤◌, List, [], ◌∷◌, ◌++◌, length, drop, take, map, Option, Some, None, refl, sym, ap, ◌∙◌, slice_index_or}
use Rattle.std.proofs.lemmas.List.{take_more, map-append}
use Rattle.enc_ast.specs.declared.rules.Fail.{Fail}
use Rattle.enc_premises.specs.Premises.{Premises, each_after}
use Rattle.enc_premises.specs.Passing.{Agrees}
use Rattle.enc_premises.proofs.Passing.{over, here, nothing}
use Rattle.enc_premises.proofs.Loops.{drop_at, drop_all, rest_more, rest_err, rest_end}
use Rattle.enc_decls.proofs.Passing.{no_memory}

-- the first i + 1 of a list
pub take_at : {A : Type 0} (xs : List A) (i : ℕ) (x : A) → i < length xs → x ≡ slice_index_or xs i x → take (i + 1) xs ≡ take i xs ++ x ∷ []
take_at xs i x h e = take_more xs i x h ∙ ap (λ z. take i xs ++ z ∷ []) (sym e)

-- The words of those before the i-th, and what comes of those from the i-th on comes of all.
pub record After {A : Type 0} (word : A → List ℕ) (f : List A → A → Premises) (xs : List A) (i : ℕ) (seen : List (List ℕ)) : Type 0 where
  pub words : seen ≡ map word (take i xs)
  pub rest : (o : Option Fail) → Agrees o (each_after f (take i xs) (drop i xs)) → Agrees o (each_after f [] xs)

-- at the start nothing is before
pub after_start : {A : Type 0} (word : A → List ℕ) (f : List A → A → Premises) (xs : List A) → After word f xs 0 []
after_start word f xs = record { words = refl; rest = λ o p. p }

-- a step over one that passes
pub after_more : {A : Type 0} (word : A → List ℕ) (f : List A → A → Premises) (xs : List A) (i : ℕ) (x : A) (seen more : List (List ℕ)) → i < length xs → x ≡ slice_index_or xs i x → After word f xs i seen →
    Agrees None (f (take i xs) x) → more ≡ seen ++ word x ∷ [] → After word f xs (i + 1) more
after_more word f xs i x seen more h e a p m = record {
  words = m ∙ ap (λ z. z ++ word x ∷ []) a.words ∙ (sym (map-append word (take i xs) (x ∷ [])) ∙ ap (map word) (sym (take_at xs i x h e)));
  rest = λ o q. a.rest o (rw (drop_at xs i x h e) (over _ _ p o (rw (take_at xs i x h e) at q)));
}

-- a failure of one is that of all
pub after_err : {A : Type 0} (word : A → List ℕ) (f : List A → A → Premises) (xs : List A) (i : ℕ) (x : A) (seen : List (List ℕ)) → i < length xs → x ≡ slice_index_or xs i x → After word f xs i seen →
    (fail : Fail) → Agrees (Some fail) (f (take i xs) x) → Agrees (Some fail) (each_after f [] xs)
after_err word f xs i x seen h e a fail p = a.rest (Some fail) (rw (drop_at xs i x h e) (here fail _ _ p))

-- at the end all have passed
pub after_end : {A : Type 0} (word : A → List ℕ) (f : List A → A → Premises) (xs : List A) (i : ℕ) (seen : List (List ℕ)) → length xs ≤ i → After word f xs i seen → Agrees None (each_after f [] xs)
after_end word f xs i seen h a = a.rest None (rw (drop_all xs i h) nothing)

-- the steps of a loop behind earlier names
pub ruleset afters = (after_more, after_err, after_end, no_memory)

-- the steps of a loop
pub ruleset rests = (rest_more, rest_err, rest_end)
