use Rattle.std.proofs.Common.{sym, ◌∙◌}
use Rattle.std.specs.Prelude.{flat_map}
use Rattle.enc_names.specs.Lookups.{trait_method, usable_in}
use Rattle.enc_names.proofs.OnlyOne.{find_all-turn, find_all-end, one_of-find_all}
use Rattle.enc_names.proofs.lookups.Tables.usable_method.Goals as goal

pub loop-group-preserved : goal.loop-group-preserved
loop-group-preserved c =
    let f = trait_method c.args.self.now c.args.name.now in
    rw c.in_group-found.ensures (sym (find_all-turn f usable_in _ _ _ _ c.loop-group-test.true c.group-item.is) ∙ c.loop-group.invariant)

pub returns : goal.returns
returns c =
    let f = trait_method c.args.self.now c.args.name.now in
    let e = sym (find_all-end f usable_in _ _ _ c.loop-group-test.false) ∙ c.loop-group.invariant in
    let g = one_of-find_all f (flat_map usable_in c.args.cap.now) in
    rw (c.one.ensures, e, c.as_slice-group-items.ensures) g
