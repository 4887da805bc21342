-- Numbers that stand twice, and sets of numbers.
use Rattle.std.specs.Prelude.{◌≡◌, ◌==◌, ℕ, zero, suc, ◌+◌, ◌<◌, ◌≤◌, Bool, true, false, not, ◌&&◌, ◌||◌, nat_eq, List, [], ◌∷◌, ◌++◌, length, drop, slice_index_or, map}
use Rattle.std.proofs.Common.{refl, arith, ap, sym, ◌∙◌, inl, inr, append_assoc}
use Rattle.std.proofs.lemmas.Bool.{true≢false}
use Rattle.std.specs.List.{list_any, list_all}
use Rattle.std.proofs.lemmas.Bool.Decides.{eqb_tells, nat_tests}
use Rattle.indexmap.specs.IndexSet.{insert_key}
use Rattle.enc_modes.specs.Modes.{contains, distinct, overlap, traits_of, can_join, all_join}
use Rattle.enc_modes.specs.Order.{Group, Cap}
use Rattle.enc_modes.proofs.Agree.{drop_at, drop_all}

-- it is one of the keys
abbrev pub among : List ℕ → ℕ → Bool
among keys n = list_any (nat_eq n) keys

-- none of them is a key or stands twice
pub fresh : List ℕ → List ℕ → Bool
fresh keys [] = true
fresh keys (n ∷ ns) = not (among keys n) && fresh (keys ++ n ∷ []) ns

-- none of them is a key
abbrev apart : List ℕ → List ℕ → Bool
apart keys [] = true
apart keys (n ∷ ns) = not (among keys n) && apart keys ns

-- `||` of three
or_assoc : (a b c : Bool) → ((a || b) || c) ≡ (a || (b || c))
or_assoc true b c = refl
or_assoc false b c = refl

-- `||` with false
or_false : (a : Bool) → (a || false) ≡ a
or_false true = refl
or_false false = refl

-- a key more
among_more : (keys : List ℕ) (n m : ℕ) → among (keys ++ n ∷ []) m ≡ (among keys m || nat_eq m n)
among_more [] n m = or_false (nat_eq m n)
among_more (k ∷ keys) n m = ap (λ z. nat_eq m k || z) (among_more keys n m) ∙ sym (or_assoc (nat_eq m k) (among keys m) (nat_eq m n))

-- two tests of one number more, taken apart
parted : (a e p c : Bool) → (not (a || e) && (p && not c)) ≡ ((not a && p) && not (e || c))
parted true e p c = refl
parted false true true c = refl
parted false true false c = refl
parted false false p c = refl

-- one key more, for numbers that are apart from the keys
apart_more : (keys : List ℕ) (n : ℕ) (ms : List ℕ) → apart (keys ++ n ∷ []) ms ≡ (apart keys ms && not (contains ms n))
apart_more keys n [] = refl
apart_more keys n (m ∷ ms) = rw (among_more keys n m, apart_more keys n ms) (parted (among keys m) (nat_eq m n) (apart keys ms) (contains ms n))

-- three tests put together in another way
gathered : (a p c d : Bool) → (not a && ((p && not c) && d)) ≡ ((not a && p) && (not c && d))
gathered true p c d = refl
gathered false true c d = refl
gathered false false c d = refl

-- fresh numbers are apart from the keys and distinct
fresh_is : (keys ns : List ℕ) → fresh keys ns ≡ (apart keys ns && distinct ns)
unfolding fresh
fresh_is keys [] = refl
fresh_is keys (n ∷ ns) = rw (fresh_is (keys ++ n ∷ []) ns, apart_more keys n ns) (gathered (among keys n) (apart keys ns) (contains ns n) (distinct ns))

-- all are apart from no keys
apart_none : (ns : List ℕ) → apart [] ns ≡ true
apart_none [] = refl
apart_none (n ∷ ns) = apart_none ns

-- what isn't true is false
not_true : (a : Bool) → not a ≡ true → a ≡ false
not_true true e = sym e
not_true false e = refl

-- What is left to look at decides.
abbrev pub FreshFrom : List ℕ → List ℕ → ℕ → Type 0
FreshFrom keys ns i = distinct ns ≡ fresh keys (drop i ns)

-- at the start
pub fresh_start : (keys ns : List ℕ) → keys ≡ [] → FreshFrom keys ns 0
fresh_start keys ns e = rw (e, fresh_is [] ns, apart_none ns) refl

-- the number there, and those after it
fresh_at : (keys ns : List ℕ) (i n : ℕ) → i < length ns → n ≡ slice_index_or ns i n → FreshFrom keys ns i → distinct ns ≡ (not (among keys n) && fresh (keys ++ n ∷ []) (drop (i + 1) ns))
unfolding fresh
fresh_at keys ns i n h e f = rw (drop_at ns i n h e) at f

-- a new number
pub fresh_more : (keys more ns : List ℕ) (i n : ℕ) → i < length ns → n ≡ slice_index_or ns i n → FreshFrom keys ns i → (new : Bool) → new ≡ not (among keys n) → new ≡ true → more ≡ insert_key nat_eq keys n → FreshFrom more ns (i + 1)
fresh_more keys more ns i n h e f new told t is =
    let old : among keys n ≡ false = not_true (among keys n) (sym told ∙ t) in
    let grown : more ≡ keys ++ n ∷ [] = is ∙ rw old refl in
    rw grown (rw old at (fresh_at keys ns i n h e f))

-- a number that stood before
pub fresh_twice : (keys ns : List ℕ) (i n : ℕ) → i < length ns → n ≡ slice_index_or ns i n → FreshFrom keys ns i → (new : Bool) → new ≡ not (among keys n) → new ≡ false → distinct ns ≡ false
fresh_twice keys ns i n h e f new told t = let old : not (among keys n) ≡ false = sym told ∙ t in rw old at (fresh_at keys ns i n h e f)

-- at the end
pub fresh_end : (keys ns : List ℕ) (i : ℕ) → length ns ≤ i → FreshFrom keys ns i → distinct ns ≡ true
unfolding fresh
fresh_end keys ns i h f = rw (drop_all ns i h) at f

pub ruleset freshness = (fresh_start, fresh_more, fresh_twice, fresh_end)

-- each number of the list is a key, or is left
abbrev pub KeyedFrom : List ℕ → List ℕ → ℕ → Type 0
KeyedFrom keys ns i = (n : ℕ) → (among keys n || contains (drop i ns) n) ≡ contains ns n

-- a comparison turned round
eq_turned : (m n : ℕ) → nat_eq n m ≡ (m == n)
eq_turned m n = grind (arith, nat_tests)

-- `||` with what is true only where the first is
or_keeps : (a e : Bool) → (e ≡ true → a ≡ true) → a ≡ (a || e)
or_keeps true e h = refl
or_keeps false true h = h refl
or_keeps false false h = refl

-- the keys after an insertion
among_insert : (keys : List ℕ) (m n : ℕ) (old : Bool) → among keys m ≡ old → among (insert_key nat_eq keys m) n ≡ (among keys n || (m == n))
among_insert keys m n true e = rw e (or_keeps (among keys n) (m == n) (λ q. elim (eqb_tells m n) [ inl w ↦ rw (w.1) at e | inr w ↦ absurd (true≢false (sym q ∙ w.0)) ]))
among_insert keys m n false e = rw e (among_more keys m n ∙ ap (λ z. among keys n || z) (eq_turned m n))

-- at the start
pub keyed_start : (keys ns : List ℕ) → keys ≡ [] → KeyedFrom keys ns 0
keyed_start keys ns e n = rw e refl

-- one number more
pub keyed_more : (keys more ns : List ℕ) (i m : ℕ) → i < length ns → m ≡ slice_index_or ns i m → KeyedFrom keys ns i → more ≡ insert_key nat_eq keys m → KeyedFrom more ns (i + 1)
keyed_more keys more ns i m h e k is n =
    rw (is, among_insert keys m n (among keys m) refl, or_assoc (among keys n) (m == n) (contains (drop (i + 1) ns) n)) (rw (drop_at ns i m h e) at (k n))

-- at the end
pub keyed_end : (keys ns : List ℕ) (i : ℕ) → length ns ≤ i → KeyedFrom keys ns i → (n : ℕ) → among keys n ≡ contains ns n
keyed_end keys ns i h k n = sym (or_false (among keys n)) ∙ (rw (drop_all ns i h) at (k n))

pub ruleset keyed = (keyed_start, keyed_more, keyed_end)

-- sets with the same numbers overlap alike
pub overlap_among : (keys ms : List ℕ) → ((n : ℕ) → among keys n ≡ contains ms n) → (ns : List ℕ) → list_any (λ n. among keys n) ns ≡ overlap ns ms
overlap_among keys ms k [] = refl
overlap_among keys ms k (n ∷ ns) = rw (k n, overlap_among keys ms k ns) refl

-- all groups can join where each can
pub all_join_is : (gs : Cap) → list_all can_join gs ≡ all_join gs
all_join_is [] = refl
all_join_is (g ∷ gs) = ap (λ z. can_join g && z) (all_join_is gs)

-- the same with lists that are known under two names
pub overlap_of : (keys ms ns ls rs : List ℕ) (r : Bool) → r ≡ list_any (λ n. among keys n) ns → ((n : ℕ) → among keys n ≡ contains ms n) → ns ≡ ls → ms ≡ rs → r ≡ overlap ls rs
overlap_of keys ms ns ls rs r e k l m = rw (← l, ← m) (e ∙ overlap_among keys ms k ns)

-- a number read in its place
pub read_at : (ns : List ℕ) (i : ℕ) → i < length ns → slice_index_or ns i 0 ≡ slice_index_or ns i (slice_index_or ns i 0)
read_at [] i h = absurd (omega arith)
read_at (n ∷ ns) zero h = refl
read_at (n ∷ ns) (suc i) h = read_at ns i (omega arith)

-- the numbers of one group more
pub traits_more : (gs : Cap) (i : ℕ) (g : Group) (ns ms : List ℕ) → i < length gs → g ≡ slice_index_or gs i g → ns ++ traits_of (drop i gs) ≡ traits_of gs → ms ≡ ns ++ map (λ a. a.number) g → ms ++ traits_of (drop (i + 1) gs) ≡ traits_of gs
traits_more gs i g ns ms h e k m = rw (m, append_assoc) (rw (drop_at gs i g h e) at k)
