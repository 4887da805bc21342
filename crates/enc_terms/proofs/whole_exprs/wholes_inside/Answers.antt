-- One bracket less may still be opened.
use Rattle.std.proofs.Common.{◌≡◌, ℕ, suc, ◌-◌, subst, arith}
use Rattle.enc_cursor.specs.Cursor.{Reads}
use Rattle.enc_cursor.specs.Limits.{allowed}
use Rattle.enc_terms.specs.ExprReading.{wholes_inside}
use Rattle.enc_terms.proofs.whole_exprs.wholes_inside.Goals as goal

pub returns : goal.returns
unfolding wholes_inside
returns c =
    let e : suc (c.args.depth - 1) ≡ c.args.depth = omega (arith, c.requires) in
    subst (λ (n : ℕ). Reads (wholes_inside c.args.text.now allowed n c.args.cursor.now) c.wholes.result c.wholes.new.cursor) e c.wholes.ensures
