use Rattle.std.proofs.Common.{◌≡◌, ◌++◌, take, drop, length}
use Rattle.enc_flow.specs.Env.{merged}
use Rattle.enc_flow.proofs.scope.Scope.merge.Given as goal

abbrev pub invariant-loop-at : goal.invariant-loop-at
invariant-loop-at l = record {
  both : take l.at l.self-inside.vars.items ++ merged (drop l.at l.self-inside.vars.items) (drop l.at l.other-inside.vars.items) ≡ merged l.fn.self l.other;
  long : length l.self-inside.vars.items ≡ length l.fn.self;
}
