use Rattle.enc_exprs.specs.Exprs.{judged, after}
use Rattle.enc_exprs.proofs.ExprSound.{expr_sound}
use Rattle.enc_exprs.proofs.laws.held_is_typed.Goals as goal

pub returns : goal.returns
returns c = λ names env x u k h. let s = expr_sound names env x u k h in (s.t, after u env (judged names x).name, s.typed)
