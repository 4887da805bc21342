-- The tests of sameness tell equal things.
use Rattle.std.specs.Prelude.{◌≡◌, ◌==◌, Bool, true, false, ◌&&◌, List, [], ◌∷◌}
use Rattle.std.proofs.Common.{refl, ap, sym, ◌∙◌, eq-eqb}
use Rattle.std.proofs.lemmas.Bool.Decides.{Decides-eqb}
use Rattle.std.proofs.lemmas.Bool.{false≢true}
use Rattle.enc_modes.specs.declared.ty.Alt.{Alt}
use Rattle.enc_modes.specs.declared.ty.Mode.{Mode}
use Rattle.enc_modes.specs.declared.ty.Mode.TheVariants as mode
use Rattle.enc_modes.specs.Equality.{same_mode, same_alt, same_group, same_cap}
use Rattle.enc_modes.proofs.Agree.{agree, group_agrees, cap_agrees}

-- the first of two tests
pub and_left : (a b : Bool) → (a && b) ≡ true → a ≡ true
and_left true b e = refl
and_left false b e = absurd (false≢true e)

-- the second of two tests
pub and_right : (a b : Bool) → (a && b) ≡ true → b ≡ true
and_right true b e = e
and_right false b e = absurd (false≢true e)

-- two tests that hold
pub and_true : (a b : Bool) → a ≡ true → b ≡ true → (a && b) ≡ true
and_true a b e f = rw (e, f) refl

-- What a test of sameness has to be.
pub record Tells {A : Type 0} (same : A → A → Bool) : Type 0 where
  pub equal : (x y : A) → same x y ≡ true → x ≡ y
  pub itself : (x : A) → same x x ≡ true

module _ {A : Type 0} (same : A → A → Bool) (tells : Tells same) where
  -- lists that agree are equal
  agree_equal : (xs ys : List A) → agree same xs ys ≡ true → xs ≡ ys
  agree_equal [] [] h = refl
  agree_equal (x ∷ xs) (y ∷ ys) h =
      let e : x ≡ y = tells.equal x y (and_left (same x y) (agree same xs ys) h) in
      let f : xs ≡ ys = agree_equal xs ys (and_right (same x y) (agree same xs ys) h) in
      cc
  agree_equal [] (y ∷ ys) h = absurd (false≢true h)
  agree_equal (x ∷ xs) [] h = absurd (false≢true h)

  -- each list agrees with itself
  agree_itself : (xs : List A) → agree same xs xs ≡ true
  agree_itself [] = refl
  agree_itself (x ∷ xs) = and_true (same x x) (agree same xs xs) (tells.itself x) (agree_itself xs)

-- modes that are the same are equal
mode_equal : (m n : Mode) → same_mode m n ≡ true → m ≡ n
mode_equal mode.Linear mode.Linear h = refl
mode_equal mode.Local mode.Local h = refl
mode_equal mode.Read mode.Read h = refl
mode_equal mode.Subordinate mode.Subordinate h = refl
mode_equal _ _ h = absurd (false≢true h)

-- each mode is the same as itself
mode_itself : (m : Mode) → same_mode m m ≡ true
mode_itself mode.Linear = refl
mode_itself mode.Local = refl
mode_itself mode.Read = refl
mode_itself mode.Subordinate = refl

-- a trait is its number and its mode
alt_made : (a b : Alt) → a.number ≡ b.number → a.mode ≡ b.mode → a ≡ b
alt_made a b n m = ap (λ z. record a { number = z }) n ∙ ap (λ z. record { number = b.number; mode = z }) m

-- traits that are the same are equal
alt_equal : (a b : Alt) → same_alt a b ≡ true → a ≡ b
alt_equal a b h =
    let n : a.number ≡ b.number = (Decides-eqb a.number b.number).0 (and_left (a.number == b.number) (same_mode a.mode b.mode) h) in
    let m : a.mode ≡ b.mode = mode_equal a.mode b.mode (and_right (a.number == b.number) (same_mode a.mode b.mode) h) in
    alt_made a b n m

-- the test of traits
pub alt_tells : Tells same_alt
alt_tells = record {
  equal = alt_equal;
  itself = λ a. and_true (a.number == a.number) (same_mode a.mode a.mode) (eq-eqb a.number a.number refl) (mode_itself a.mode);
}

-- the test of groups
pub group_tells : Tells same_group
group_tells = record {
  equal = λ g h e. agree_equal same_alt alt_tells g h (sym (group_agrees g h) ∙ e);
  itself = λ g. group_agrees g g ∙ agree_itself same_alt alt_tells g;
}

-- the test of capability types
pub cap_tells : Tells same_cap
cap_tells = record {
  equal = λ g h e. agree_equal same_group group_tells g h (sym (cap_agrees g h) ∙ e);
  itself = λ g. cap_agrees g g ∙ agree_itself same_group group_tells g;
}
