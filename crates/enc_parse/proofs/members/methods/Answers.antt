use Rattle.std.proofs.Common.{refl, sym, ◌∙◌}
use Rattle.std.proofs.lemmas.Result.{err_from_is_err_and}
use Rattle.enc_lex.specs.declared.kinds.Kind.TheVariants as k
use Rattle.enc_cursor.specs.Place.{is}
use Rattle.enc_cursor.specs.Limits.{allowed, with_brackets}
use Rattle.enc_cursor.proofs.Loops.{list_kept, list_failed, list_done, item_shorter}
use Rattle.enc_cursor.proofs.Many.{many_turn}
use Rattle.enc_cursor.proofs.Openings.{zero_fits}
use Rattle.enc_cursor.proofs.Sets.{clear, within}
use Rattle.enc_parse.specs.DeclReading.{routine}
use Rattle.enc_parse.proofs.DeclLaws.{routine_law}
use Rattle.enc_parse.proofs.members.methods.Goals as goal

pub returns-in_err-routine : goal.returns-in_err-routine
returns-in_err-routine c =
    let p = err_from_is_err_and c.from_residual.result c.from_residual.ensures.1 in
    let law = routine_law (with_brackets c.args.depth allowed) c.args.text.now 0 c.args.depth (zero_fits c.args.depth) k.Def in
    rw (p.1, p.2) (list_failed (is k.Def) (routine c.args.text.now allowed k.Def c.args.depth) (many_turn (is k.Def) refl refl (within _ _ refl) (clear _ _ refl) law) c.methods.items c.methods.cursor c.routine.new.cursor _ c.in_err-routine.field-0.0 (sym c.sees.ensures ∙ c.methods-test.true) c.in_err-routine.ensures c.methods.invariant)

pub methods-smaller : goal.methods-smaller
methods-smaller c =
    let law = routine_law (with_brackets c.args.depth allowed) c.args.text.now 0 c.args.depth (zero_fits c.args.depth) k.Def in
    item_shorter law refl refl c.methods.cursor c.routine.new.cursor _ c.in_ok-routine.ensures

pub methods-preserved : goal.methods-preserved
methods-preserved c =
    let law = routine_law (with_brackets c.args.depth allowed) c.args.text.now 0 c.args.depth (zero_fits c.args.depth) k.Def in
    let e = list_kept (is k.Def) (routine c.args.text.now allowed k.Def c.args.depth) (many_turn (is k.Def) refl refl (within _ _ refl) (clear _ _ refl) law) c.methods.items c.in_ok-routine.field-0 c.methods.cursor c.routine.new.cursor _ (sym c.sees.ensures ∙ c.methods-test.true) c.in_ok-routine.ensures c.methods.invariant in
    rw c.in_ok-push.ensures.ok e

pub returns : goal.returns
returns c =
    let law = routine_law (with_brackets c.args.depth allowed) c.args.text.now 0 c.args.depth (zero_fits c.args.depth) k.Def in
    list_done (is k.Def) (routine c.args.text.now allowed k.Def c.args.depth) (many_turn (is k.Def) refl refl (within _ _ refl) (clear _ _ refl) law) c.methods.items c.methods.cursor _ (sym c.sees.ensures ∙ c.methods-test.false) c.methods.invariant
