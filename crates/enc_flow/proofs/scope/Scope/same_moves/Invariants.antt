use Rattle.std.proofs.Common.{◌≡◌, drop, length}
use Rattle.enc_flow.specs.Env.{same_moves}
use Rattle.enc_flow.proofs.scope.Scope.same_moves.Given as goal

abbrev pub invariant-loop-at : goal.invariant-loop-at
invariant-loop-at l = record {
  rest : same_moves (drop l.at l.self-inside.vars.items) (drop l.at l.other-inside.vars.items) ≡ same_moves l.self l.other;
  long : length l.self-inside.vars.items ≡ length l.other-inside.vars.items;
}
