use Rattle.std.proofs.Common.{◌≡◌, true, take}
use Rattle.std.specs.List.{list_all}
use Rattle.enc_model.specs.Scope.{words_of}
use Rattle.enc_ast.specs.Thin.{is_item}
use Rattle.enc_model.proofs.thin_form.is_some_items.Given as goal

abbrev pub invariant-loop-item : goal.invariant-loop-item
invariant-loop-item l = list_all (is_item (words_of l.names)) (take l.item-index l.items) ≡ true
