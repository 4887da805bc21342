use Rattle.enc_exprs.proofs.ExprFine.{expr_fine}
use Rattle.enc_exprs.proofs.laws.typed_holds.Goals as goal

pub returns : goal.returns
returns c = record {
  hold = λ names env last x u t d. (expr_fine names env last x u t d).hold;
  ty = λ names env last x u t d. (expr_fine names env last x u t d).ty;
  after = λ names env last x u t d. (expr_fine names env last x u t d).after;
}
