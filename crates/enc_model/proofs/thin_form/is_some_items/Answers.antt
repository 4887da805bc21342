use Rattle.std.proofs.Common.{◌≡◌, ◌∙◌, sym, false}
use Rattle.enc_ast.specs.Thin.{is_item}
use Rattle.enc_model.specs.Scope.{words_of}
use Rattle.enc_model.proofs.Scopes.{some_items-refused}
use Rattle.enc_model.proofs.thin_form.is_some_items.Goals as goal

pub returns-then-not-is_item : goal.returns-then-not-is_item
returns-then-not-is_item c =
    let names = words_of c.args.names.now in
    let refused : is_item names c.item-item.result ≡ false = sym c.is_item.ensures ∙ c.if-not-is_item.true in
    sym (some_items-refused names c.args.items.now c.loop-item.item-index c.item-item.result c.loop-item-test.true c.item-item.is refused)
