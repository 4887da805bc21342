use Rattle.std.proofs.Common.{◌≡◌, take}
use Rattle.enc_flow.proofs.scope.Scope.copy.Given as goal

abbrev pub invariant-loop-var : goal.invariant-loop-var
invariant-loop-var l = l.vars.items ≡ take l.var-index l.var-items
