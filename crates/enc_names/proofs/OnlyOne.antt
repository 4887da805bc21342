-- Finding one place after another comes to taking the only one of all.
use Rattle.std.proofs.Common.{◌≡◌, ◌&&◌, Bool, true, false, cond, ℕ, ◌+◌, ◌<◌, ◌≤◌, List, [], ◌∷◌, ◌++◌, length, drop, Option, Some, None, refl, ap, ◌∙◌, slice_index_or}
use Rattle.std.specs.Prelude.{filter_map, flat_map}
use Rattle.std.specs.List.{cons_option}
use Rattle.enc_premises.proofs.Loops.{drop_at, drop_all}
use Rattle.enc_types.specs.Words.{every}
use Rattle.enc_names.specs.declared.members.MethodId.{MethodId}
use Rattle.enc_names.specs.declared.finding.Found.{Found}
use Rattle.enc_names.specs.declared.finding.Found.TheVariants.{Nothing, One, Several}
use Rattle.enc_names.specs.Lookups.{same_method, only}
use Rattle.enc_names.specs.Finding.{more, find_all, one_of}

-- behind those of two lists it is found as behind the first, then the second
pub find_all-append : (f : ℕ → Option MethodId) (s : Found) (a b : List ℕ) → find_all f s (a ++ b) ≡ find_all f (find_all f s a) b
find_all-append f s [] b = refl
find_all-append f s (k ∷ a) b = find_all-append f (more s (f k)) a b

-- one more is still several
more_several : (o : Option MethodId) → more Several o ≡ Several
more_several None = refl
more_several (Some m) = refl

-- several stay several
find_all-several : (f : ℕ → Option MethodId) (ks : List ℕ) → find_all f Several ks ≡ Several
find_all-several f [] = refl
find_all-several f (k ∷ ks) = ap (λ s. find_all f s ks) (more_several (f k)) ∙ find_all-several f ks

-- behind one that was found there may be no other than it
one_of-one : (f : ℕ → Option MethodId) (m : MethodId) (ks : List ℕ) → one_of (find_all f (One m) ks) ≡ only (m ∷ filter_map f ks)
one_of-one f m [] = refl
one_of-one f m (k ∷ ks) = go (f k) (one_of-one f m ks)
  where
    behind : (n : MethodId) (b : Bool) → one_of (find_all f (One m) ks) ≡ only (m ∷ filter_map f ks) → one_of (find_all f (cond b (One m) Several) ks) ≡ cond (b && every (same_method m) (filter_map f ks)) (Some m) None
    behind n true e = e
    behind n false e = ap one_of (find_all-several f ks)

    go : (o : Option MethodId) → one_of (find_all f (One m) ks) ≡ only (m ∷ filter_map f ks) → one_of (find_all f (more (One m) o) ks) ≡ only (m ∷ cons_option o (filter_map f ks))
    go None e = e
    go (Some n) e = behind n (same_method m n) e

-- one was found where all that there are are one
pub one_of-find_all : (f : ℕ → Option MethodId) (ks : List ℕ) → one_of (find_all f Nothing ks) ≡ only (filter_map f ks)
one_of-find_all f [] = refl
one_of-find_all f (k ∷ ks) = go (f k) (one_of-find_all f ks)
  where
    go : (o : Option MethodId) → one_of (find_all f Nothing ks) ≡ only (filter_map f ks) → one_of (find_all f (more Nothing o) ks) ≡ only (cons_option o (filter_map f ks))
    go None e = e
    go (Some m) e = one_of-one f m ks

module _ {A : Type 0} (f : ℕ → Option MethodId) (g : A → List ℕ) (xs : List A) where
  -- what is found from the i-th on is found behind it from the next on
  pub find_all-turn : (s : Found) (i : ℕ) (x : A) → i < length xs → x ≡ slice_index_or xs i x → find_all f s (flat_map g (drop i xs)) ≡ find_all f (find_all f s (g x)) (flat_map g (drop (i + 1) xs))
  find_all-turn s i x h e = ap (λ ys. find_all f s (flat_map g ys)) (drop_at xs i x h e) ∙ find_all-append f s (g x) (flat_map g (drop (i + 1) xs))

  -- behind the last there is nothing more to find
  pub find_all-end : (s : Found) (i : ℕ) → length xs ≤ i → find_all f s (flat_map g (drop i xs)) ≡ s
  find_all-end s i h = ap (λ ys. find_all f s (flat_map g ys)) (drop_all xs i h)
