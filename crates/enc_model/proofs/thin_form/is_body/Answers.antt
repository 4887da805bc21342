use Rattle.std.proofs.Common.{◌≡◌, ◌∙◌, sym, length, take, arith}
use Rattle.std.proofs.lemmas.List.{length-map, length-take}
use Rattle.enc_model.specs.Scope.{words_of}
use Rattle.enc_model.proofs.Scopes.{is_body-full}
use Rattle.enc_model.proofs.thin_form.is_body.Goals as goal

pub returns-then-count-eq-MAX_VARIABLES : goal.returns-then-count-eq-MAX_VARIABLES
returns-then-count-eq-MAX_VARIABLES c =
    let names = words_of (take c.loop-stmt.count c.loop-stmt.names) in
    let full : length names ≡ 254 = simp (length-map, length-take) (omega arith) in
    sym (c.loop-stmt.invariant.rest ∙ is_body-full names c.args.stmts.now c.loop-stmt.stmt-index c.stmt-item.result c.in-Let.name c.in-Let.field-1 c.loop-stmt-test.true c.stmt-item.is c.in-Let.is full)
