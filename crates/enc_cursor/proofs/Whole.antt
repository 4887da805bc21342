-- What a lawful parser says of whole texts.
use Rattle.std.proofs.Common.{◌≡◌, ℕ, suc, ◌+◌, ◌-◌, ◌<◌, ◌≤◌, false, List, [], ◌∷◌, ◌++◌, length, length-append, take, Some, None, refl, sym, ap, subst, ◌∙◌, append_assoc, inl, inr, arith}
use Rattle.std.proofs.lemmas.List.{append-nil, take_at}
use Rattle.enc_lex.specs.declared.tokens.Token.{Token}
use Rattle.enc_cursor.specs.Limits.{Limits, Log, passed}
use Rattle.enc_cursor.specs.Place.{Tokens, Spot, place, first_spot, start_of, upon, head, kind_of}
use Rattle.enc_cursor.specs.Stretch.{Stretch}
use Rattle.enc_cursor.specs.Steps.{Outcome, Got, Wrong, Over, Parser, Set, many, some}
use Rattle.enc_cursor.specs.Answers.{Spells, IsViable, Fits, IsBefore, FirstFailure, FirstOver}
use Rattle.enc_cursor.proofs.Lawful.{IsPast, Meets, Ends, Stays, Lawful, passed_on, got_value, sound}
use Rattle.enc_cursor.proofs.Many.{many_stops}
use Rattle.enc_cursor.proofs.Wide.{total_size, wide_limits, none_passed}

-- A parser of whole texts, at each limits: it is lawful, it may stand at the end, and what it finds ends there.
pub record Whole {A : Type 0} (S : A → Stretch) (F M : Set) (p : Limits → Parser A) : Type 0 where
  pub law : (L : Limits) → Lawful L S F M (p L)
  pub end : M None ≡ false
  pub all : (L : Limits) (a b : Spot) (x : A) → p L a ≡ Got x b → b.ahead ≡ []

pub nothing_more : (w : Tokens) → some (kind_of (head w)) ≡ false → w ≡ []
nothing_more [] e = refl
nothing_more (t ∷ w) e = absurd cc

-- as many as there are, up to the end
pub many_all : {A : Type 0} (q : Parser A) (a b : Spot) (xs : List A) → many some q a ≡ Got xs b → b.ahead ≡ []
many_all q a b xs e = nothing_more b.ahead (many_stops some q a b xs e)

clash : {A : Type 0} (x : A) (b c : Spot) → Wrong b ≡ Got x c → ⊥
clash x b c e = cc

over_got : {A : Type 0} (x : A) (b c : Spot) → Over b ≡ Got x c → ⊥
over_got x b c e = cc

abbrev went_wrong : (A : Type 0) → Spot → Outcome A
went_wrong A b = Wrong b

over_wrong : (A : Type 0) (b c : Spot) → Over b ≡ went_wrong A c → ⊥
over_wrong A b c e = cc

none_some : (n : ℕ) → None ≡ Some n → ⊥
none_some n e = cc

-- the longer of two fronts goes on from the shorter
longer : (u v x y : Tokens) → u ++ x ≡ v ++ y → length u ≤ length v → (r : Tokens) × (v ≡ u ++ r)
longer [] v x y e le = (v, refl)
longer (t ∷ u) [] x y e le = absurd (omega arith)
longer (t ∷ u) (s ∷ v) x y e le =
    let same : t ≡ s = cc in
    let rest : u ++ x ≡ v ++ y = cc in
    let less : length u ≤ length v = omega arith in
    let h = longer u v x y rest less in
    (h.0, ap (λ (w : Tokens). s ∷ w) h.1 ∙ ap (λ (t : Token). t ∷ (u ++ h.0)) (sym same))

pub past_at : (A : Type 0) (L : Limits) (n : ℕ) (log : Log) (b : Spot) → IsPast {A = A} L n log (Over b) → (i : ℕ) × (passed L log ≡ Some i) × (suc i + length b.ahead ≡ n)
past_at A L n log b h = (length h.1, ap (passed L) h.3 ∙ passed_on L h.2 (h.0 ∷ h.1) (length h.1) h.4, h.5)

module _ {A : Type 0} {S : A → Stretch} {F M : Set} {p : Limits → Parser A} (whole : Whole S F M p) where
  -- the whole text
  abbrev read : Limits → Tokens → Outcome A
  read L tokens = p L (first_spot tokens)

  meets : (L : Limits) (tokens : Tokens) (y : A) (s : Spells S tokens y) → Meets L (start_of tokens) s.end y (read L tokens)
  meets L tokens y s = (whole.law L).finds (start_of tokens) s.end y s.tree (ap (λ (w : Tokens). M (kind_of (head w))) s.done ∙ whole.end) refl

  -- ---- where the parser finds

  module _ (L : Limits) (tokens : Tokens) (x : A) (b : Spot) (e : read L tokens ≡ Got x b) where
    got_meets : (y : A) (s : Spells S tokens y) → (x ≡ y) × (passed L s.end.log ≡ None)
    got_meets y s = elim (meets L tokens y s) [
      | inl f ↦ (got_value x y b s.end.spot (sym e ∙ f.0), f.1)
      | inr d ↦ absurd (subst (IsPast L (0 + length tokens) s.end.log) e d)
    ]

    spelled : Spells S tokens x
    spelled = let h = sound (whole.law L) (first_spot tokens) b x e [] in record { end = place b h.0; tree = h.1; done = whole.all L (first_spot tokens) b x e }

    -- what is found is spelled, and within the limits
    pub read_fits : Fits L S tokens x
    read_fits = record { spells = spelled; fine = (got_meets x spelled).1 }

    -- whatever is spelled is found
    pub found_is : (y : A) → Spells S tokens y → x ≡ y
    found_is y s = (got_meets y s).0

  -- ---- where a limit is passed

  over_meets : (L : Limits) (tokens : Tokens) (b : Spot) → read L tokens ≡ Over b → (y : A) (s : Spells S tokens y) → (i : ℕ) × (passed L s.end.log ≡ Some i) × (suc i + length b.ahead ≡ 0 + length tokens)
  over_meets L tokens b e y s = elim (meets L tokens y s) [
    | inl f ↦ absurd (over_got y b s.end.spot (sym e ∙ f.0))
    | inr d ↦ past_at A L _ s.end.log b (subst (IsPast L (0 + length tokens) s.end.log) e d)
  ]

  viable_from : (u : Tokens) → Ends S (first_spot u) u → IsViable S u
  viable_from u t = let h = t.1 [] [] in (
    t.0,
    h.0,
    record { end = place (upon h.1 []) h.2; tree = subst (λ (w : Tokens). S h.0 (start_of (u ++ w)) (place (upon h.1 []) h.2)) (append-nil t.0) h.3; done = refl },
  )

  module _ (L : Limits) (tokens : Tokens) (b : Spot) (e : read L tokens ≡ Over b) where
    over_stays : Stays S (p L) (first_spot tokens) (Over b)
    over_stays = subst (λ (o : Outcome A). Stays S (p L) (first_spot tokens) o) e ((whole.law L).stays (first_spot tokens))

    over_viable : IsViable S over_stays.front
    over_viable = viable_from over_stays.front over_stays.tells

    on_front : (more : Tokens) (y : A) (s : Spells S (over_stays.front ++ more) y) → (i : ℕ) × (passed L s.end.log ≡ Some i) × (suc i ≡ length over_stays.front)
    on_front more y s = let h = over_meets L (over_stays.front ++ more) (upon b more) (over_stays.same more tt) y s in
        (h.0, h.1, omega (arith, h.2, length-append over_stays.front more))

    -- the parser stands behind the first token by which a limit is passed
    pub is_over : FirstOver L S tokens (length tokens - length b.ahead - 1)
    is_over =
        let some_program = on_front over_viable.0 over_viable.1 over_viable.2 in
        let i = some_program.0 in
        let long : suc i ≡ length over_stays.front = some_program.2 in
        let at_i : length tokens - length b.ahead - 1 ≡ i = omega (arith, ap length over_stays.split, length-append over_stays.front b.ahead, long) in
        let front_is : take (i + 1) tokens ≡ over_stays.front = (let h : length over_stays.front ≡ i + 1 = omega (arith, long) in ap (take (i + 1)) over_stays.split ∙ take_at over_stays.front b.ahead (i + 1) h) in
        subst (FirstOver L S tokens) (sym at_i) (record {
          within = omega (arith, ap length over_stays.split, length-append over_stays.front b.ahead, long);
          viable = subst (IsViable S) (sym front_is) over_viable;
          over = subst (λ (u : Tokens). (more : Tokens) (y : A) (s : Spells S (u ++ more) y) → passed L s.end.log ≡ Some i) (sym front_is)
              (λ more y s. let h = on_front more y s in let same : h.0 ≡ i = omega (arith, h.2, long) in h.1 ∙ ap Some same);
        })

  -- ---- where the parser goes wrong

  -- where something is spelled the parser does not go wrong
  pub not_wrong : (L : Limits) (tokens : Tokens) (y : A) (b : Spot) → read L tokens ≡ Wrong b → Spells S tokens y → ⊥
  not_wrong L tokens y b e s = elim (meets L tokens y s) [
    | inl f ↦ clash y b s.end.spot (sym e ∙ f.0)
    | inr d ↦ subst (IsPast L (0 + length tokens) s.end.log) e d
  ]

  module _ (L : Limits) (tokens : Tokens) (b : Spot) (e : read L tokens ≡ Wrong b) where
    wrong_stays : Stays S (p L) (first_spot tokens) (Wrong b)
    wrong_stays = subst (λ (o : Outcome A). Stays S (p L) (first_spot tokens) o) e ((whole.law L).stays (first_spot tokens))

    split : tokens ≡ wrong_stays.front ++ b.ahead
    split = wrong_stays.split

    at_front : length tokens - length b.ahead ≡ length wrong_stays.front
    at_front = omega (arith, ap length split, length-append wrong_stays.front b.ahead)

    viable_front : IsViable S wrong_stays.front
    viable_front = viable_from wrong_stays.front wrong_stays.tells

    no_more : (t : Token) (w : Tokens) → b.ahead ≡ t ∷ w → IsViable S (wrong_stays.front ++ t ∷ []) → ⊥
    no_more t w f v = not_wrong L (wrong_stays.front ++ (t ∷ v.0)) v.1 (upon b (t ∷ v.0))
        (wrong_stays.same (t ∷ v.0) (sym (ap head f)))
        (subst (λ (u : Tokens). Spells S u v.1) (append_assoc wrong_stays.front (t ∷ []) v.0) v.2)

    exact : (w : Tokens) → b.ahead ≡ w → length wrong_stays.front < length tokens → IsViable S (take (length wrong_stays.front + 1) tokens) → ⊥
    exact [] f less v = absurd (omega (arith, ap length split, length-append wrong_stays.front b.ahead, ap length f))
    exact (t ∷ w) f less v =
        let one : tokens ≡ (wrong_stays.front ++ t ∷ []) ++ w = split ∙ ap (λ (u : Tokens). wrong_stays.front ++ u) f ∙ sym (append_assoc wrong_stays.front (t ∷ []) w) in
        let long : length (wrong_stays.front ++ t ∷ []) ≡ length wrong_stays.front + 1 = omega (arith, length-append wrong_stays.front (t ∷ [])) in
        no_more t w f (subst (IsViable S) (ap (take (length wrong_stays.front + 1)) one ∙ take_at (wrong_stays.front ++ t ∷ []) w (length wrong_stays.front + 1) long) v)

    -- a limit that is passed within the front would have been found there
    fine_front : (more : Tokens) (y : A) (s : Spells S (wrong_stays.front ++ more) y) → IsBefore (length wrong_stays.front) (passed L s.end.log) → ⊥
    fine_front more y s early = elim (meets L (wrong_stays.front ++ more) y s) [
      | inl f ↦ subst (IsBefore (length wrong_stays.front)) f.1 early
      | inr d ↦ go (read L (wrong_stays.front ++ more)) refl d
    ]
      where
        go : (o : Outcome A) → read L (wrong_stays.front ++ more) ≡ o → IsPast L (0 + length (wrong_stays.front ++ more)) s.end.log o → ⊥
        go (Got z c) f d = d
        go (Wrong c) f d = d
        go (Over c) f d =
            let h = past_at A L _ s.end.log c d in
            let soon : h.0 < length wrong_stays.front = subst (IsBefore (length wrong_stays.front)) h.1 early in
            let t = over_stays L (wrong_stays.front ++ more) c f in
            let long : length t.front ≤ length wrong_stays.front = omega (arith, soon, h.2, ap length t.split, length-append t.front c.ahead) in
            let r = longer t.front wrong_stays.front c.ahead more (sym t.split) long in
            let here : tokens ≡ t.front ++ (r.0 ++ b.ahead) = split ∙ ap (λ (u : Tokens). u ++ b.ahead) r.1 ∙ append_assoc t.front r.0 b.ahead in
            over_wrong A (upon c (r.0 ++ b.ahead)) b (sym (ap (read L) here ∙ t.same (r.0 ++ b.ahead) tt) ∙ e)

    -- the parser stands before the first token that is not viable
    pub is_first : FirstFailure L S tokens (length tokens - length b.ahead)
    is_first =
        let front_is : take (length wrong_stays.front) tokens ≡ wrong_stays.front = ap (take (length wrong_stays.front)) split ∙ take_at wrong_stays.front b.ahead (length wrong_stays.front) refl in
        subst (FirstFailure L S tokens) (sym at_front) (record {
          within = omega (arith, ap length split, length-append wrong_stays.front b.ahead);
          viable = subst (IsViable S) (sym front_is) viable_front;
          fine = subst (λ (u : Tokens). (more : Tokens) (y : A) (s : Spells S (u ++ more) y) → IsBefore (length wrong_stays.front) (passed L s.end.log) → ⊥) (sym front_is) fine_front;
          exact = exact b.ahead refl;
          whole = λ y s. not_wrong L tokens y b e s;
        })

  -- ---- one tree

  found : (L : Limits) (tokens : Tokens) (y : A) (s : Spells S tokens y) → passed L s.end.log ≡ None → read L tokens ≡ Got y s.end.spot
  found L tokens y s fine = elim (meets L tokens y s) [
    | inl f ↦ f.0
    | inr d ↦ go (read L tokens) refl d
  ]
    where
      go : (o : Outcome A) → read L tokens ≡ o → IsPast L (0 + length tokens) s.end.log o → read L tokens ≡ Got y s.end.spot
      go (Got z c) f d = absurd d
      go (Wrong c) f d = absurd d
      go (Over c) f d = let h = past_at A L _ s.end.log c d in absurd (none_some h.0 (sym fine ∙ h.1))

  -- one list of tokens spells at most one thing, whatever the limits
  pub one_tree : (tokens : Tokens) (x y : A) → Spells S tokens x → Spells S tokens y → x ≡ y
  one_tree tokens x y s t =
      let n = total_size s.end.log + total_size t.end.log in
      let fits_s : total_size s.end.log ≤ n = omega arith in
      let fits_t : total_size t.end.log ≤ n = omega arith in
      let a = found (wide_limits n) tokens x s (none_passed n s.end.log fits_s) in
      let b = found (wide_limits n) tokens y t (none_passed n t.end.log fits_t) in
      got_value x y s.end.spot t.end.spot (sym a ∙ b)
