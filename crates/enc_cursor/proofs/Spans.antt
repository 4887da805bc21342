-- The span of what was read.
use Rattle.std.proofs.Common.{◌≡◌, ℕ, Bool, true, false, [], ◌∷◌, ◌++◌, None, refl, sym, ap, ◌∙◌, inl, inr}
use Rattle.enc_ast.specs.declared.rules.Span.{Span}
use Rattle.enc_lex.specs.declared.tokens.Token.{Token}
use Rattle.enc_cursor.specs.Limits.{Limits, Log}
use Rattle.enc_cursor.specs.Place.{Tokens, Spot, place, upon, start_at, start, between}
use Rattle.enc_cursor.specs.Stretch.{Stretch, Spanned}
use Rattle.enc_cursor.specs.Steps.{Outcome, Got, Wrong, Over, Parser, Set, and_then, spanned}
use Rattle.enc_cursor.proofs.Lawful.{Ends, Stays, Lawful, past_then}

-- No sentence is empty, since at the end of all none begins (F-end, M-end).
module _ {A : Type 0} {L : Limits} {S : A → Stretch} {F M : Set} {p : Parser A} (F-end : F None ≡ false) (M-end : M None ≡ false) (law : Lawful L S F M p) where
  -- no sentence is empty
  pub solid : (x : A) (u : Tokens) (a b : Spot) → ((w : Tokens) (l : Log) → (m : Log) × S x (place (upon a (u ++ w)) l) (place (upon b w) m)) → (t : Token) × (v : Tokens) × (u ≡ t ∷ v)
  solid x [] a b h = absurd (clash (law.begins _ _ x (h [] []).1 M-end) F-end)
    where
      clash : {b : Bool} → b ≡ true → b ≡ false → ⊥
      clash e f = cc
  solid x (t ∷ v) a b h = (t, v, refl)

  solid_start : (x : A) (u w v : Tokens) (a b : Spot) → ((w : Tokens) (l : Log) → (m : Log) × S x (place (upon a (u ++ w)) l) (place (upon b w) m)) → start_at (u ++ w) ≡ start_at (u ++ v)
  solid_start x u w v a b h = let e = solid x u a b h in ap (λ (u : Tokens). start_at (u ++ w)) e.2 ∙ ap (λ (u : Tokens). start_at (u ++ v)) (sym e.2)

  spanned_ends : (a : Spot) (u : Tokens) → Ends S a u → Ends (Spanned S) a u
  spanned_ends a u t = (t.0, λ r l. let h = t.1 r l in ((h.0, between (upon a (u ++ (t.0 ++ r))) (upon h.1 r)), h.1, h.2, (h.3, refl)))

  spanned_stays : (a : Spot) (o : Outcome A) → Stays S p a o → Stays (Spanned S) (spanned p) a (and_then o (λ x b. Got (x, between a b) b))
  spanned_stays a (Got x b) s = record {
    front = s.front;
    split = s.split;
    peeks = s.peeks;
    same = λ w h. ap (λ (r : Outcome A). and_then r (λ x b. Got (x, between (upon a (s.front ++ w)) b) b)) (s.same w h) ∙ ap (λ (n : ℕ). Got (x, record { start = n; end = b.last.end }) (upon b w)) (begin w);
    tells = λ w l. let h = s.tells w l in (h.0, (h.1, ap (λ (n : ℕ). record { start = n; end = b.last.end }) (sym (begin w))));
  }
    where
      begin : (w : Tokens) → start_at (s.front ++ w) ≡ start a
      begin w = solid_start x s.front w b.ahead a b s.tells ∙ ap start_at (sym s.split)
  spanned_stays a (Wrong b) s = record {
    front = s.front;
    split = s.split;
    peeks = s.peeks;
    same = λ w h. ap (λ (r : Outcome A). and_then r (λ x b. Got (x, between (upon a (s.front ++ w)) b) b)) (s.same w h);
    tells = spanned_ends a s.front s.tells;
  }
  spanned_stays a (Over b) s = record {
    front = s.front;
    split = s.split;
    peeks = s.peeks;
    same = λ w h. ap (λ (r : Outcome A). and_then r (λ x b. Got (x, between (upon a (s.front ++ w)) b) b)) (s.same w h);
    tells = spanned_ends a s.front s.tells;
  }

  pub spanned_lawful : Lawful L (Spanned S) F M (spanned p)
  spanned_lawful = record {
    finds = λ a b x s m fine. elim (law.finds a b x.0 s.0 m fine) [
      | inl e ↦ inl (ap (λ (r : Outcome A). and_then r (λ x b. Got (x, between a.spot b) b)) e.0 ∙ ap (λ (n : Span). Got (x.0, n) b.spot) (sym s.1), e.1)
      | inr d ↦ inr (past_then L _ _ (p a.spot) _ d)
    ];
    begins = λ a b x s m. law.begins a b x.0 s.0 m;
    later = λ a b x s. law.later a b x.0 s.0;
    stays = λ a. spanned_stays a (p a) (law.stays a);
    sample = (law.sample.0, λ a r l. let h = law.sample.1 a r l in ((h.0, between (upon a (law.sample.0 ++ r)) (upon h.1 r)), h.1, h.2, (h.3, refl)));
  }
