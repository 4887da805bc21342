-- The tokens up to a place at which a character begins.
use Rattle.std.proofs.Common.{◌≤◌, ◌-◌, length, drop, IsUtf8}
use Rattle.enc_lex.specs.Lexes.{Meets}
use Rattle.enc_lex.proofs.lexing.tokens_of.Given as goal

abbrev pub invariant-places : goal.invariant-places
invariant-places l = record {
  within : l.at ≤ length l.text;
  utf8 : IsUtf8 (drop l.at l.text);
  read : Meets 0 l.text l.at (drop l.at l.text) l.tokens;
}

abbrev pub decreases-places : goal.decreases-places
decreases-places l = length l.text - l.at
