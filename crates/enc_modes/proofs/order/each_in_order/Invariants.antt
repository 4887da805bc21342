use Rattle.std.proofs.Common.{◌≡◌}
use Rattle.enc_modes.specs.Order.{sorted}
use Rattle.enc_modes.proofs.Each.{changed}
use Rattle.enc_modes.proofs.order.each_in_order.Given as goal

abbrev pub invariant-loop-group : goal.invariant-loop-group
invariant-loop-group l = l.group-items ≡ changed (sorted (λ a. a.number)) l.group-index l.initial.group-items
