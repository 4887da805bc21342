use Rattle.std.proofs.Common.{refl, sym, ◌∙◌}
use Rattle.std.proofs.lemmas.Result.{err_from_is_err_and}
use Rattle.enc_cursor.specs.Steps.{some}
use Rattle.enc_cursor.specs.Limits.{allowed, with_brackets}
use Rattle.enc_cursor.proofs.Loops.{list_kept, list_failed, list_done, item_shorter}
use Rattle.enc_cursor.proofs.Many.{many_turn}
use Rattle.enc_cursor.proofs.Openings.{zero_fits}
use Rattle.enc_cursor.proofs.Sets.{clear, within}
use Rattle.enc_parse.specs.DeclReading.{declaration}
use Rattle.enc_parse.proofs.DeclLaws.{declaration_law}
use Rattle.enc_parse.proofs.decls.declarations.Goals as goal

pub returns-in_err-declaration : goal.returns-in_err-declaration
returns-in_err-declaration c =
    let p = err_from_is_err_and c.from_residual.result c.from_residual.ensures.1 in
    let law = declaration_law (with_brackets c.args.depth allowed) c.args.text.now c.args.depth (zero_fits c.args.depth) in
    rw (p.1, p.2) (list_failed some (declaration c.args.text.now allowed c.args.depth) (many_turn some refl refl (within _ _ refl) (clear _ _ refl) law) c.decls.items c.decls.cursor c.declaration.new.cursor _ c.in_err-declaration.field-0.0 (sym c.has_more.ensures ∙ c.decls-test.true) c.in_err-declaration.ensures c.decls.invariant)

pub decls-smaller : goal.decls-smaller
decls-smaller c =
    let law = declaration_law (with_brackets c.args.depth allowed) c.args.text.now c.args.depth (zero_fits c.args.depth) in
    item_shorter law refl refl c.decls.cursor c.declaration.new.cursor _ c.in_ok-declaration.ensures

pub decls-preserved : goal.decls-preserved
decls-preserved c =
    let law = declaration_law (with_brackets c.args.depth allowed) c.args.text.now c.args.depth (zero_fits c.args.depth) in
    let e = list_kept some (declaration c.args.text.now allowed c.args.depth) (many_turn some refl refl (within _ _ refl) (clear _ _ refl) law) c.decls.items c.in_ok-declaration.field-0 c.decls.cursor c.declaration.new.cursor _ (sym c.has_more.ensures ∙ c.decls-test.true) c.in_ok-declaration.ensures c.decls.invariant in
    rw c.in_ok-push.ensures.ok e

pub returns : goal.returns
returns c =
    let law = declaration_law (with_brackets c.args.depth allowed) c.args.text.now c.args.depth (zero_fits c.args.depth) in
    list_done some (declaration c.args.text.now allowed c.args.depth) (many_turn some refl refl (within _ _ refl) (clear _ _ refl) law) c.decls.items c.decls.cursor _ (sym c.has_more.ensures ∙ c.decls-test.false) c.decls.invariant
