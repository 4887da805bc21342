use Rattle.std.proofs.Common.{◌≡◌, ◌≤◌, [], length, take, drop}
use Rattle.enc_model.specs.Scope.{words_of}
use Rattle.enc_ast.specs.Thin.{is_body}
use Rattle.enc_model.proofs.thin_form.is_body.Given as goal

abbrev pub invariant-loop-stmt : goal.invariant-loop-stmt
invariant-loop-stmt l = record {
  room : length l.names ≡ 254;
  few : l.count ≤ 254;
  rest : is_body [] l.stmts ≡ is_body (words_of (take l.count l.names)) (drop l.stmt-index l.stmts);
}
