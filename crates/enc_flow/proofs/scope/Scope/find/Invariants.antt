use Rattle.std.proofs.Common.{◌≡◌, ◌≤◌, length, drop, None}
use Rattle.enc_flow.specs.Env.{number_from}
use Rattle.enc_flow.proofs.scope.Scope.find.Given as goal

abbrev pub invariant-loop-at : goal.invariant-loop-at
invariant-loop-at l = record { later : number_from l.at (drop l.at l.self-inside.vars.items) l.name ≡ None; within : l.at ≤ length l.self-inside.vars.items }

abbrev pub decreases-loop-at : goal.decreases-loop-at
decreases-loop-at l = l.at
