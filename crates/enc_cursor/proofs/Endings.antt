-- Other counts at the end.
use Rattle.std.proofs.Common.{refl, sym, ap, subst, ◌∙◌, inl, inr}
use Rattle.enc_cursor.specs.Counts.{Ending}
use Rattle.enc_cursor.specs.Limits.{Limits, Log, passed}
use Rattle.enc_cursor.specs.Place.{Spot, Place, place, upon, recounted, peek}
use Rattle.enc_cursor.specs.Stretch.{Stretch, Closed}
use Rattle.enc_cursor.specs.Steps.{Outcome, Got, Wrong, Over, Parser, Set, and_then, closed}
use Rattle.enc_cursor.proofs.Lawful.{count, IsPast, Later, Stays, Lawful, past_then, got}

pub closed_later : {A : Type 0} {S : A → Stretch} → ((a b : Place) (x : A) → S x a b → Later a b) → (g : Ending) (a b : Place) (x : A) → Closed g S x a b → Later a b
closed_later later g a b x s = let h = later a s.0 x s.1 in (h.0, ap (λ (b : Place). b.log) s.2 ∙ h.1, ap count s.2 ∙ h.2)

-- g gives the counts at the end.
module _ {A : Type 0} {L : Limits} {S : A → Stretch} {F M : Set} {p : Parser A} (g : Ending) (law : Lawful L S F M p) where
  abbrev ended : Spot → Spot → Spot
  ended a b = recounted (g a.counts b.counts) b

  closed_stays : (a : Spot) (o : Outcome A) → Stays S p a o → Stays (Closed g S) (closed g p) a (and_then o (λ x b. Got x (ended a b)))
  closed_stays a (Got x b) s = record {
    front = s.front;
    split = s.split;
    peeks = s.peeks;
    same = λ w h. ap (λ (r : Outcome A). and_then r (λ x b. Got x (ended a b))) (s.same w h);
    tells = λ w l. let h = s.tells w l in (h.0, (place (upon b w) h.0, h.1, refl));
  }
  closed_stays a (Wrong b) s = record {
    front = s.front;
    split = s.split;
    peeks = s.peeks;
    same = λ w h. ap (λ (r : Outcome A). and_then r (λ x b. Got x (ended a b))) (s.same w h);
    tells = (s.tells.0, λ r l. let h = s.tells.1 r l in (h.0, ended a h.1, h.2, (place (upon h.1 r) h.2, h.3, refl)));
  }
  closed_stays a (Over b) s = record {
    front = s.front;
    split = s.split;
    peeks = s.peeks;
    same = λ w h. ap (λ (r : Outcome A). and_then r (λ x b. Got x (ended a b))) (s.same w h);
    tells = (s.tells.0, λ r l. let h = s.tells.1 r l in (h.0, ended a h.1, h.2, (place (upon h.1 r) h.2, h.3, refl)));
  }

  pub closed_lawful : Lawful L (Closed g S) F M (closed g p)
  closed_lawful = record {
    finds = λ a b x s m fine. elim (law.finds a s.0 x s.1 (ap (λ (b : Place). M (peek b.spot)) (sym s.2) ∙ m) fine) [
      | inl e ↦ inl (ap (λ (r : Outcome A). and_then r (λ x b. Got x (ended a.spot b))) e.0 ∙ ap (λ (b : Place). got x b.spot) (sym s.2), ap (λ (b : Place). passed L b.log) s.2 ∙ e.1)
      | inr d ↦ inr (past_then L _ _ (p a.spot) _ (subst (λ (l : Log). IsPast L (count a) l (p a.spot)) (ap (λ (b : Place). b.log) (sym s.2)) d))
    ];
    begins = λ a b x s m. law.begins a s.0 x s.1 (ap (λ (b : Place). M (peek b.spot)) (sym s.2) ∙ m);
    later = closed_later law.later g;
    stays = λ a. closed_stays a (p a) (law.stays a);
    sample = (law.sample.0, λ a r l. let h = law.sample.1 a r l in (h.0, ended a h.1, h.2, (place (upon h.1 r) h.2, h.3, refl)));
  }
