use Rattle.std.proofs.Common.{◌≡◌, ℕ, suc, ◌-◌, subst, arith}
use Rattle.enc_cursor.specs.Cursor.{Reads}
use Rattle.enc_cursor.specs.Limits.{allowed}
use Rattle.enc_parse.specs.DeclReading.{members_inside}
use Rattle.enc_parse.proofs.members.members_inside.Goals as goal

pub returns : goal.returns
unfolding members_inside
returns c =
    let e : suc (c.args.depth - 1) ≡ c.args.depth = omega (arith, c.requires) in
    subst (λ (n : ℕ). Reads (members_inside c.args.text.now allowed n c.args.cursor.now) c.members_below.result c.members_below.new.cursor) e c.members_below.ensures
