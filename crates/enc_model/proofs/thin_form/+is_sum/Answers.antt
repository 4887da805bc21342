use Rattle.std.proofs.Common.{◌≡◌, ◌∙◌, sym, true}
use Rattle.enc_ast.specs.Thin.{is_arithmetic}
use Rattle.enc_model.specs.Scope.{words_of}
use Rattle.enc_model.proofs.Scopes.{sum-binary}
use Rattle.enc_model.proofs.thin_form.+is_sum.Goals as goal

pub returns-then-is_arithmetic : goal.returns-then-is_arithmetic
returns-then-is_arithmetic t c =
    let known : is_arithmetic c.in-Binary.operator ≡ true = sym c.is_arithmetic.ensures ∙ c.if-is_arithmetic.true in
    c.are_parts.ensures
    ∙ rw (c.get-then-is_arithmetic.ensures, c.get-then-is_arithmetic-2.ensures) (sym (sum-binary (words_of c.args.names.now) c.args.expr.now c.in-Binary.operator c.in-Binary.left c.in-Binary.right c.in-Binary.is known))
