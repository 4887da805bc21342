-- What a program is like whose declarations keep all rules.
use Rattle.std.proofs.Common.{◌≡◌, ◌⊎◌, inl, inr, ℕ, zero, suc, ◌<◌, Bool, true, false, not, ◌||◌, ◌&&◌, List, [], ◌∷◌, ◌++◌, map, Some, codes, refl, sym, ap, subst, ◌∙◌, arith}
use Rattle.std.specs.List.{slice_get}
use Rattle.std.specs.Str.{bytes_eq}
use Rattle.std.proofs.lemmas.Slice.Eq.{bytes_eq-Decides}
use Rattle.std.proofs.lemmas.List.{map-append}
use Rattle.std.proofs.lemmas.Bool.{cases_order}
use Rattle.enc_ast.specs.declared.decls.Decl.{Decl}
use Rattle.enc_ast.specs.declared.decls.Decl.TheVariants.{Trait, Class, Active, Fun}
use Rattle.enc_ast.specs.declared.decls.Program.{Program}
use Rattle.enc_premises.specs.Premises.{Premises, each_after}
use Rattle.enc_premises.specs.First.{AllHold, one, join}
use Rattle.enc_types.specs.Words.{has, some}
use Rattle.enc_types.specs.Names.{Names, names_of, word_of}
use Rattle.enc_decls.specs.Rules.{decl_premises, is_new, is_main, is_main_class, table_premises, HasTables}
use Rattle.enc_decls.proofs.Words.{has_push}
use Rattle.enc_decls.specs.Laws.{IsNamedAt, IsMainAt}

-- Something that holds of one behind others, among which there is this word.
record Behind {A : Type 0} (word : A → List ℕ) (f : List A → A → Premises) (w : List ℕ) (y : A) : Type 0 where
  earlier : List A
  hold : AllHold (f earlier y)
  there : has (map word earlier) w ≡ true

-- a word stays among more
still_there : {A : Type 0} (word : A → List ℕ) (before : List A) (z : A) (w : List ℕ) → has (map word before) w ≡ true → has (map word (before ++ z ∷ [])) w ≡ true
still_there word before z w h = rw (map-append word before (z ∷ []), has_push (map word before) (word z) w, h) refl

-- the word of one is there behind it
now_there : {A : Type 0} (word : A → List ℕ) (before : List A) (z : A) → has (map word (before ++ z ∷ [])) (word z) ≡ true
now_there word before z = rw (map-append word before (z ∷ []), has_push (map word before) (word z) (word z), (bytes_eq-Decides (word z) (word z)).1 refl) (go (has (map word before) (word z)))
  where
    go : (b : Bool) → (b || true) ≡ true
    go true = refl
    go false = refl

-- behind a word that is there already
behind_all : {A : Type 0} (word : A → List ℕ) (f : List A → A → Premises) (w : List ℕ) (before xs : List A) → AllHold (each_after f before xs) → has (map word before) w ≡ true → (k : ℕ) (y : A) → slice_get xs k ≡ Some y → Behind word f w y
behind_all word f w before [] h p k y e = absurd (grind arith)
behind_all word f w before (z ∷ xs) (join a h) p zero y e = let i : z ≡ y = grind arith in record { earlier = before; hold = subst (λ x. AllHold (f before x)) i a; there = p }
behind_all word f w before (z ∷ xs) (join a h) p (suc k) y e = behind_all word f w (before ++ z ∷ []) xs h (still_there word before z w p) k y e

-- of two in order, the later one is judged behind the word of the earlier one
behind : {A : Type 0} (word : A → List ℕ) (f : List A → A → Premises) (before xs : List A) → AllHold (each_after f before xs) → (j k : ℕ) (x y : A) → slice_get xs j ≡ Some x → slice_get xs k ≡ Some y → j < k → Behind word f (word x) y
behind word f before [] h j k x y d e l = absurd (grind arith)
behind word f before (z ∷ xs) (join a h) j zero x y d e l = absurd (omega arith)
behind word f before (z ∷ xs) (join a h) zero (suc k) x y d e l = let i : z ≡ x = grind arith in behind_all word f (word x) (before ++ z ∷ []) xs h (ap (λ v. has (map word (before ++ z ∷ [])) (word v)) (sym i) ∙ now_there word before z) k y e
behind word f before (z ∷ xs) (join a h) (suc j) (suc k) x y d e l = behind word f (before ++ z ∷ []) xs h j k x y d e (omega arith)

-- a declaration that keeps all rules has a new name
is_new_of : (ds : List Decl) (names : Names) (before : List Decl) (d : Decl) → AllHold (decl_premises ds names before d) → is_new before d ≡ true
is_new_of ds names before (Trait d) (join a (one e)) = e
is_new_of ds names before (Class d) (join a (join (one e) b)) = e
is_new_of ds names before (Active d) (join a (one e)) = e
is_new_of ds names before (Fun d) (join a (join (one e) b)) = e

-- a later declaration has another name
later_differs : (ds : List Decl) (names : Names) → AllHold (each_after (decl_premises ds names) [] ds) → (j k : ℕ) (d e : Decl) → slice_get ds j ≡ Some d → slice_get ds k ≡ Some e → j < k → word_of d ≡ word_of e → ⊥
later_differs ds names h j k d e p q l w =
    let b = behind word_of (decl_premises ds names) [] ds h j k d e p q l in
    let n : not (has (map word_of b.earlier) (word_of e)) ≡ true = is_new_of ds names b.earlier e b.hold in
    let t : has (map word_of b.earlier) (word_of e) ≡ true = ap (has (map word_of b.earlier)) (sym w) ∙ b.there in
    let f : false ≡ true = sym (ap not t) ∙ n in
    absurd (grind arith)

-- the declarations and the program as a whole
parts : (p : Program) → HasTables p → (AllHold (each_after (decl_premises p.decls (names_of p.decls)) [] p.decls)) × (some (is_main_class (names_of p.decls)) p.decls ≡ true)
unfolding table_premises
parts p (join a (one e)) = (a, e)

-- no two declarations have one name
pub one_name : (p : Program) (j k : ℕ) (x : List ℕ) → HasTables p → IsNamedAt p j x → IsNamedAt p k x → j ≡ k
one_name p j k x h a b = go (cases_order j k)
  where
    go : (j ≡ k) ⊎ ((j < k) ⊎ (k < j)) → j ≡ k
    go (inl e) = e
    go (inr (inl l)) = absurd (later_differs p.decls _ (parts p h).0 j k a.0 b.0 a.1 b.1 l (a.2 ∙ sym b.2))
    go (inr (inr l)) = absurd (later_differs p.decls _ (parts p h).0 k j b.0 a.0 b.1 a.1 l (b.2 ∙ sym a.2))

-- where it holds of one, there is one of which it holds
some_at : {A : Type 0} (f : A → Bool) (xs : List A) → some f xs ≡ true → (k : ℕ) × (x : A) × (slice_get xs k ≡ Some x) × (f x ≡ true)
some_at f [] e = absurd (grind arith)
some_at {A = A} f (x ∷ xs) e = go (f x) refl e (some_at f xs)
  where
    go : (b : Bool) → f x ≡ b → (b || some f xs) ≡ true → (some f xs ≡ true → (k : ℕ) × (y : A) × (slice_get xs k ≡ Some y) × (f y ≡ true)) → (k : ℕ) × (y : A) × (slice_get (x ∷ xs) k ≡ Some y) × (f y ≡ true)
    go true h e r = (0, x, refl, h)
    go false h e r = let a = r e in (suc a.0, a.1, a.2, a.3)

-- there is a main class
pub there : (p : Program) → HasTables p → (k : ℕ) × IsMainAt p k
there p h = let a = some_at (is_main_class (names_of p.decls)) p.decls (parts p h).1 in (a.0, (a.1, a.2, a.3))

-- a main class has the name Main
main_name : (names : Names) (d : Decl) → is_main_class names d ≡ true → word_of d ≡ codes "Main"
main_name names (Trait d) e = absurd (grind arith)
main_name names (Class d) e = absurd (grind arith)
main_name names (Active d) e = (bytes_eq-Decides d.name.word (codes "Main")).0 (go (bytes_eq d.name.word (codes "Main")) (some (is_main names) d.methods) e)
  where
    go : (a b : Bool) → (a && b) ≡ true → a ≡ true
    go true b e = refl
    go false b e = e
main_name names (Fun d) e = absurd (grind arith)

-- there is no second main class
pub alone : (p : Program) (j k : ℕ) → HasTables p → IsMainAt p j → IsMainAt p k → j ≡ k
alone p j k h a b = one_name p j k (codes "Main") h (a.0, a.1, main_name _ a.0 a.2) (b.0, b.1, main_name _ b.0 b.2)
