use Rattle.std.proofs.Common.{refl, sym, ◌∙◌}
use Rattle.std.proofs.lemmas.Result.{err_from_is_err_and}
use Rattle.enc_lex.specs.declared.kinds.Kind.TheVariants as k
use Rattle.enc_cursor.specs.Place.{is}
use Rattle.enc_cursor.specs.Limits.{allowed, with_brackets}
use Rattle.enc_cursor.proofs.Loops.{list_kept, list_failed, list_done, item_shorter}
use Rattle.enc_cursor.proofs.Many.{many_turn}
use Rattle.enc_cursor.proofs.Openings.{zero_fits}
use Rattle.enc_cursor.proofs.Sets.{clear, within}
use Rattle.enc_parse.specs.DeclReading.{field}
use Rattle.enc_parse.proofs.DeclLaws.{field_law}
use Rattle.enc_parse.proofs.members.fields.Goals as goal

pub returns-in_err-field : goal.returns-in_err-field
returns-in_err-field c =
    let p = err_from_is_err_and c.from_residual.result c.from_residual.ensures.1 in
    let law = field_law (with_brackets c.args.depth allowed) c.args.text.now 0 c.args.depth (zero_fits c.args.depth) in
    rw (p.1, p.2) (list_failed (is k.Name) (field c.args.text.now allowed c.args.depth) (many_turn (is k.Name) refl refl (within _ _ refl) (clear _ _ refl) law) c.fields.items c.fields.cursor c.field.new.cursor _ c.in_err-field.field-0.0 (sym c.sees.ensures ∙ c.fields-test.true) c.in_err-field.ensures c.fields.invariant)

pub fields-smaller : goal.fields-smaller
fields-smaller c =
    let law = field_law (with_brackets c.args.depth allowed) c.args.text.now 0 c.args.depth (zero_fits c.args.depth) in
    item_shorter law refl refl c.fields.cursor c.field.new.cursor _ c.in_ok-field.ensures

pub fields-preserved : goal.fields-preserved
fields-preserved c =
    let law = field_law (with_brackets c.args.depth allowed) c.args.text.now 0 c.args.depth (zero_fits c.args.depth) in
    let e = list_kept (is k.Name) (field c.args.text.now allowed c.args.depth) (many_turn (is k.Name) refl refl (within _ _ refl) (clear _ _ refl) law) c.fields.items c.in_ok-field.field-0 c.fields.cursor c.field.new.cursor _ (sym c.sees.ensures ∙ c.fields-test.true) c.in_ok-field.ensures c.fields.invariant in
    rw c.in_ok-push.ensures.ok e

pub returns : goal.returns
returns c =
    let law = field_law (with_brackets c.args.depth allowed) c.args.text.now 0 c.args.depth (zero_fits c.args.depth) in
    list_done (is k.Name) (field c.args.text.now allowed c.args.depth) (many_turn (is k.Name) refl refl (within _ _ refl) (clear _ _ refl) law) c.fields.items c.fields.cursor _ (sym c.sees.ensures ∙ c.fields-test.false) c.fields.invariant
