-- What a look-up gives is there.
use Rattle.std.proofs.Common.{◌≡◌, ℕ, suc, Bool, true, false, cond, List, [], ◌∷◌, map, Option, Some, None, option_map, slice_get, refl, ap, subst, arith}
use Rattle.std.specs.Prelude.{filter_map, flat_map}
use Rattle.std.specs.List.{cons_option, Contains}
use Rattle.std.specs.Str.{bytes_eq}
use Rattle.std.proofs.lemmas.Slice.Eq.{bytes_eq-Decides}
use Rattle.enc_modes.specs.declared.ty.Ty.{Ty, out-Ty}
use Rattle.enc_modes.specs.declared.ty.Ty.TheOpen.{Ty-F}
use Rattle.enc_modes.specs.declared.ty.Ty.TheVariants as ty
use Rattle.enc_modes.specs.declared.ty.Alt.{Alt}
use Rattle.enc_modes.specs.Order.{Group}
use Rattle.enc_types.specs.Words.{place_in, every}
use Rattle.enc_names.specs.declared.members.MethodId.{MethodId}
use Rattle.enc_names.specs.Members.{Tables}
use Rattle.enc_names.specs.Lookups.{same_method, fields_of, field_of, methods_of, method_in, is_active, is_trait, trait_method, usable_in, owners_layer, owners_of, only, method_layer, method_for, sent_layer, sent_for}

-- What is in this place has this name.
abbrev Named : {A : Type 0} → (A → List ℕ) → List A → List ℕ → ℕ → Type 0
Named {A} word xs x i = (y : A) × (slice_get xs i ≡ Some y) × (word y ≡ x)

-- the place of a word has something of that name
pub place_in-there : {A : Type 0} (word : A → List ℕ) (xs : List A) (x : List ℕ) (i : ℕ) → place_in (map word xs) x ≡ Some i → Named word xs x i
place_in-there word [] x i h = absurd (grind arith)
place_in-there word (y ∷ ys) x i h = here (bytes_eq (word y) x) refl h (place_in-there word ys x)
  where
    behind : (o : Option ℕ) → place_in (map word ys) x ≡ o → option_map suc o ≡ Some i → ((j : ℕ) → place_in (map word ys) x ≡ Some j → Named word ys x j) → Named word (y ∷ ys) x i
    behind None e p r = absurd (grind arith)
    behind (Some j) e p r = let q : suc j ≡ i = grind arith in subst (λ n. Named word (y ∷ ys) x n) q (r j e)

    here : (b : Bool) → bytes_eq (word y) x ≡ b → cond b (Some 0) (option_map suc (place_in (map word ys) x)) ≡ Some i → ((j : ℕ) → place_in (map word ys) x ≡ Some j → Named word ys x j) → Named word (y ∷ ys) x i
    here true e p r = let q : 0 ≡ i = grind arith in subst (λ n. Named word (y ∷ ys) x n) q (y, refl, (bytes_eq-Decides (word y) x).0 e)
    here false e p r = behind (place_in (map word ys) x) refl p r

-- the method of this name in the declaration with this number
method_in-there : (t : Tables) (x : List ℕ) (k : ℕ) (m : MethodId) → method_in t x k ≡ Some m → (k ≡ m.owner) × Named (λ s. s.word) (methods_of t k) x m.index
method_in-there t x k m h = go (place_in (map (λ s. s.word) (methods_of t k)) x) refl h
  where
    go : (o : Option ℕ) → place_in (map (λ s. s.word) (methods_of t k)) x ≡ o → option_map (λ i. record { owner = k; index = i }) o ≡ Some m → (k ≡ m.owner) × Named (λ s. s.word) (methods_of t k) x m.index
    go None e p = absurd (grind arith)
    go (Some i) e p = let q : record { owner = k; index = i } ≡ m = grind arith in subst (λ (n : MethodId). (k ≡ n.owner) × Named (λ s. s.word) (methods_of t k) x n.index) q (refl, place_in-there (λ s. s.word) (methods_of t k) x i e)

-- what is found only where a test holds
where_true : (b : Bool) (o : Option MethodId) (m : MethodId) → cond b o None ≡ Some m → (b ≡ true) × (o ≡ Some m)
where_true true o m h = (refl, h)
where_true false o m h = absurd (grind arith)

-- the method of this name in the declaration with this number, where that is of this kind: it stands there in its own owner
of_kind-there : (t : Tables) (x : List ℕ) (kind : ℕ → Bool) (k : ℕ) (m : MethodId) → cond (kind k) (method_in t x k) None ≡ Some m → (k ≡ m.owner) × (kind m.owner ≡ true) × Named (λ s. s.word) (methods_of t m.owner) x m.index
of_kind-there t x kind k m h =
    let w = where_true (kind k) (method_in t x k) m h in
    let p = method_in-there t x k m w.1 in
    (p.0, subst (λ n. kind n ≡ true) p.0 w.0, subst (λ n. Named (λ s. s.word) (methods_of t n) x m.index) p.0 p.1)

-- It is given by one of them.
abbrev Given : (ℕ → Option MethodId) → List ℕ → MethodId → Type 0
Given f ks m = (k : ℕ) × Contains ks k × (f k ≡ Some m)

-- what one of the later ones gives is given by one of all
given_later : (f : ℕ → Option MethodId) (k : ℕ) (ks : List ℕ) (m : MethodId) → Given f ks m → Given f (k ∷ ks) m
given_later f k ks m g = (g.0, (suc g.1.0, omega arith, g.1.2), g.2)

-- the first one that is given
filter_map-there : (f : ℕ → Option MethodId) (ks : List ℕ) (m : MethodId) (ms : List MethodId) → filter_map f ks ≡ m ∷ ms → Given f ks m
filter_map-there f [] m ms h = absurd (grind arith)
filter_map-there f (k ∷ ks) m ms h = go (f k) refl h (filter_map-there f ks m ms)
  where
    go : (o : Option MethodId) → f k ≡ o → cons_option o (filter_map f ks) ≡ m ∷ ms → (filter_map f ks ≡ m ∷ ms → Given f ks m) → Given f (k ∷ ks) m
    go None e p r = given_later f k ks m (r p)
    go (Some n) e p r = let q : n ≡ m = grind arith in (k, (0, omega arith, refl), rw (← q) e)

-- the only one is the first one
only-first : (ms : List MethodId) (m : MethodId) → only ms ≡ Some m → (ns : List MethodId) × (ms ≡ m ∷ ns)
only-first [] m h = absurd (grind arith)
only-first (n ∷ ns) m h = go (every (same_method n) ns) h
  where
    go : (b : Bool) → cond b (Some n) None ≡ Some m → (os : List MethodId) × (n ∷ ns ≡ m ∷ os)
    go true e = let q : n ≡ m = grind arith in (ns, ap (λ z. z ∷ ns) q)
    go false e = absurd (grind arith)

-- the method of groups is given by one of their usable traits
given : (t : Tables) (gs : List Group) (x : List ℕ) (m : MethodId) → method_layer t x (Ty-F.Cap gs) ≡ Some m → Given (trait_method t x) (flat_map usable_in gs) m
given t gs x m h =
    let ks = flat_map usable_in gs in
    let p = only-first (filter_map (trait_method t x) ks) m h in
    filter_map-there (trait_method t x) ks m p.0 p.1

-- a field that is found is there
pub field_exists : (t : Tables) (k : ℕ) (x : List ℕ) (i : ℕ) → field_of t k x ≡ Some i → Named (λ s. s.word) (fields_of t k) x i
unfolding field_of
field_exists t k x i h = place_in-there (λ s. s.word) (fields_of t k) x i h

-- a method that can be called is there, in one of those whose methods can be called
method_layer-there : (t : Tables) (x : List ℕ) (l : Ty-F Ty) (m : MethodId) → method_layer t x l ≡ Some m → Contains (owners_layer l) m.owner × Named (λ s. s.word) (methods_of t m.owner) x m.index
method_layer-there t x (Ty-F.Actor k) m h =
    let p = of_kind-there t x (is_active t) k m h in
    (subst (λ n. Contains (k ∷ []) n) p.0 (0, omega arith, refl), p.2)
method_layer-there t x (Ty-F.Cap gs) m h =
    let g = given t gs x m h in
    let p = of_kind-there t x (is_trait t) g.0 m g.2 in
    (subst (λ n. Contains (flat_map usable_in gs) n) p.0 g.1, p.2)
method_layer-there t x Ty-F.Int m h = absurd (grind arith)
method_layer-there t x Ty-F.Bool m h = absurd (grind arith)
method_layer-there t x Ty-F.Text m h = absurd (grind arith)
method_layer-there t x Ty-F.Unit m h = absurd (grind arith)
method_layer-there t x (Ty-F.Bestowed a) m h = absurd (grind arith)
method_layer-there t x (Ty-F.Fut v) m h = absurd (grind arith)
method_layer-there t x (Ty-F.Par v) m h = absurd (grind arith)
method_layer-there t x (Ty-F.List v) m h = absurd (grind arith)

-- a method that can be called is there
pub method_exists : (t : Tables) (u : Ty) (x : List ℕ) (m : MethodId) → method_for t u x ≡ Some m → Named (λ s. s.word) (methods_of t m.owner) x m.index
unfolding method_for
method_exists t u x m h = (method_layer-there t x (out-Ty u) m h).1

-- its owner is one of those whose methods can be called
pub owner_exists : (t : Tables) (u : Ty) (x : List ℕ) (m : MethodId) → method_for t u x ≡ Some m → Contains (owners_of u) m.owner
unfolding method_for owners_of
owner_exists t u x m h = (method_layer-there t x (out-Ty u) m h).0

-- the owner of a method that can be called on an actor is an active class
pub called_active : (t : Tables) (k : ℕ) (x : List ℕ) (m : MethodId) → method_for t (ty.Actor k) x ≡ Some m → is_active t m.owner ≡ true
unfolding method_for out-Ty denote.Hole.Carrier.out
called_active t k x m h = (of_kind-there t x (is_active t) k m h).1

-- the owner of a method that can be called on groups is a trait
pub called_traits : (t : Tables) (gs : List Group) (x : List ℕ) (m : MethodId) → method_for t (ty.Cap gs) x ≡ Some m → is_trait t m.owner ≡ true
unfolding method_for out-Ty denote.Hole.Carrier.out
called_traits t gs x m h = let g = given t gs x m h in (of_kind-there t x (is_trait t) g.0 m g.2).1

-- a method that a message can ask for is there
sent_layer-there : (t : Tables) (x : List ℕ) (l : Ty-F Ty) (m : MethodId) → sent_layer t x l ≡ Some m → Named (λ s. s.word) (methods_of t m.owner) x m.index
sent_layer-there t x (Ty-F.Actor k) m h = (of_kind-there t x (is_active t) k m h).2
sent_layer-there t x (Ty-F.Bestowed a) m h = (of_kind-there t x (is_trait t) a.number m h).2
sent_layer-there t x Ty-F.Int m h = absurd (grind arith)
sent_layer-there t x Ty-F.Bool m h = absurd (grind arith)
sent_layer-there t x Ty-F.Text m h = absurd (grind arith)
sent_layer-there t x Ty-F.Unit m h = absurd (grind arith)
sent_layer-there t x (Ty-F.Cap gs) m h = absurd (grind arith)
sent_layer-there t x (Ty-F.Fut v) m h = absurd (grind arith)
sent_layer-there t x (Ty-F.Par v) m h = absurd (grind arith)
sent_layer-there t x (Ty-F.List v) m h = absurd (grind arith)

-- what a message to a receiver of a type can ask for is there
pub sent_method_exists : (t : Tables) (u : Ty) (x : List ℕ) (m : MethodId) → sent_for t u x ≡ Some m → Named (λ s. s.word) (methods_of t m.owner) x m.index
unfolding sent_for
sent_method_exists t u x m h = sent_layer-there t x (out-Ty u) m h

-- the owner of a method that a message to an actor can ask for is an active class
pub sent_active : (t : Tables) (k : ℕ) (x : List ℕ) (m : MethodId) → sent_for t (ty.Actor k) x ≡ Some m → is_active t m.owner ≡ true
unfolding sent_for out-Ty denote.Hole.Carrier.out
sent_active t k x m h = (of_kind-there t x (is_active t) k m h).1

-- the owner of a method that a message to a bestowed trait can ask for is a trait
pub sent_bestowed : (t : Tables) (a : Alt) (x : List ℕ) (m : MethodId) → sent_for t (ty.Bestowed a) x ≡ Some m → is_trait t m.owner ≡ true
unfolding sent_for out-Ty denote.Hole.Carrier.out
sent_bestowed t a x m h = (of_kind-there t x (is_trait t) a.number m h).1
