use Rattle.std.proofs.Common.{◌≡◌, ◌++◌, map, take}
use Rattle.enc_rules.specs.Programs.{param_var}
use Rattle.enc_check.proofs.routines.parameters.Given as goal

abbrev pub invariant-loop-param : goal.invariant-loop-param
invariant-loop-param l = l.env ≡ l.fn.env ++ map (param_var l.tables.names) (take l.param-index l.params)
