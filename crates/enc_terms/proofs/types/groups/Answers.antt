use Rattle.std.proofs.Common.{refl, sym, ◌∙◌}
use Rattle.std.proofs.lemmas.Result.{err_from_is_err_and}
use Rattle.enc_lex.specs.declared.kinds.Kind.TheVariants as k
use Rattle.enc_cursor.specs.Limits.{allowed, with_brackets}
use Rattle.enc_cursor.proofs.Loops.{sep_kept, sep_failed, sep_done, kind_shorter}
use Rattle.enc_cursor.proofs.Turns.{separated_turns}
use Rattle.enc_cursor.proofs.Openings.{zero_fits}
use Rattle.enc_cursor.proofs.Sets.{clear}
use Rattle.enc_terms.specs.TypeReading.{group}
use Rattle.enc_terms.proofs.TypeLaws.{group_law}
use Rattle.enc_terms.proofs.types.groups.Goals as goal

pub returns-in_err-group-2 : goal.returns-in_err-group-2
returns-in_err-group-2 c =
    let p = err_from_is_err_and c.from_residual-in_err-group-2.result c.from_residual-in_err-group-2.ensures.1 in
    let law = group_law (with_brackets c.args.depth allowed) c.args.text.now 0 c.args.depth (zero_fits c.args.depth) c.args.is_of_class in
    rw (p.1, p.2) (sep_failed k.And (group c.args.text.now allowed c.args.is_of_class c.args.depth) (separated_turns k.And law refl (clear _ _ refl)) c.groups.items c.groups.cursor c.take.new.self c.group-in-groups.new.cursor _ c.in_err-group-2.field-0.0 (sym c.sees.ensures ∙ c.groups-test.true) c.take.ensures c.in_err-group-2.ensures c.groups.invariant)

pub groups-smaller : goal.groups-smaller
groups-smaller c =
    let law = group_law (with_brackets c.args.depth allowed) c.args.text.now 0 c.args.depth (zero_fits c.args.depth) c.args.is_of_class in
    kind_shorter law k.And c.groups.cursor c.take.new.self c.group-in-groups.new.cursor _ (sym c.sees.ensures ∙ c.groups-test.true) c.take.ensures c.in_ok-group-2.ensures

pub groups-preserved : goal.groups-preserved
groups-preserved c =
    let law = group_law (with_brackets c.args.depth allowed) c.args.text.now 0 c.args.depth (zero_fits c.args.depth) c.args.is_of_class in
    let e = sep_kept k.And (group c.args.text.now allowed c.args.is_of_class c.args.depth) (separated_turns k.And law refl (clear _ _ refl)) c.groups.items c.in_ok-group-2.field-0 c.groups.cursor c.take.new.self c.group-in-groups.new.cursor _ (sym c.sees.ensures ∙ c.groups-test.true) c.take.ensures c.in_ok-group-2.ensures c.groups.invariant in
    rw c.in_ok-push-2.ensures.ok e

pub returns : goal.returns
returns c =
    let law = group_law (with_brackets c.args.depth allowed) c.args.text.now 0 c.args.depth (zero_fits c.args.depth) c.args.is_of_class in
    sep_done k.And (group c.args.text.now allowed c.args.is_of_class c.args.depth) (separated_turns k.And law refl (clear _ _ refl)) c.groups.items c.groups.cursor _ (sym c.sees.ensures ∙ c.groups-test.false) c.groups.invariant
