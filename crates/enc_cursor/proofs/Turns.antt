-- How the loops of the code turn.
use Rattle.std.proofs.Common.{◌≡◌, ℕ, suc, ◌-◌, ◌<◌, false, None, refl, arith}
use Rattle.enc_lex.specs.declared.kinds.Kind.{Kind}
use Rattle.enc_cursor.specs.Limits.{Limits}
use Rattle.enc_cursor.specs.Place.{is}
use Rattle.enc_cursor.specs.Stretch.{Stretch}
use Rattle.enc_cursor.specs.Steps.{Parser, Set, ◌▹◌}
use Rattle.enc_cursor.proofs.Lawful.{Lawful, Clear}
use Rattle.enc_cursor.proofs.Many.{TurnsSo, many_turn}
use Rattle.enc_cursor.proofs.Words.{after_lawful}
use Rattle.enc_cursor.proofs.Openings.{Inside}

-- one less than a number that is not zero
pub one_less : (n : ℕ) → 0 < n → n ≡ suc (n - 1)
one_less n h = omega arith

-- a list with a token between
pub separated_turns : {A : Type 0} {L : Limits} {S : A → Stretch} {F M : Set} {p : Parser A} (k : Kind) → Lawful L S F M p → M None ≡ false → Clear (is k) M → TurnsSo (is k) (k ▹ p)
separated_turns k law end clear = many_turn (is k) refl end (λ l e. e) clear (after_lawful k law)

-- the same inside brackets
pub inside_turns : {A : Type 0} {L : Limits} {room : ℕ} {S : A → Stretch} {F M : Set} {p : Parser A} (k : Kind) → Inside L room S F M p → M None ≡ false → Clear (is k) M → 0 < room → TurnsSo (is k) (k ▹ p)
inside_turns {A} {L} {room} k inside end clear h = separated_turns k (inside.law (room - 1) (one_less room h)) end clear
