use Rattle.std.proofs.Common.{◌≡◌, ℕ, suc, ◌-◌, subst, arith}
use Rattle.enc_cursor.specs.Cursor.{Reads}
use Rattle.enc_cursor.specs.Limits.{allowed}
use Rattle.enc_terms.specs.TypeReading.{type_text, type_inside}
use Rattle.enc_terms.proofs.types.+types.Goals as goal

pub type_inside-returns : goal.type_inside-returns
unfolding type_inside type_text
type_inside-returns t c =
    let e : suc (c.args.depth - 1) ≡ c.args.depth = omega (arith, c.requires) in
    subst (λ (n : ℕ). Reads (type_inside c.args.text.now allowed n c.args.cursor.now) c.type_text.result c.type_text.new.cursor) e c.type_text.ensures
