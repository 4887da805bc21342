use Rattle.std.proofs.Common.{◌-◌, refl, sym, ◌∙◌}
use Rattle.std.proofs.lemmas.Result.{err_from_is_err_and}
use Rattle.enc_lex.specs.declared.kinds.Kind.TheVariants as k
use Rattle.enc_cursor.specs.Limits.{allowed, with_brackets}
use Rattle.enc_cursor.proofs.Loops.{sep_kept, sep_failed, sep_done, kind_shorter}
use Rattle.enc_cursor.proofs.Turns.{one_less, inside_turns}
use Rattle.enc_cursor.proofs.Openings.{zero_fits}
use Rattle.enc_cursor.proofs.Sets.{clear}
use Rattle.enc_parse.specs.DeclReading.{param}
use Rattle.enc_parse.proofs.DeclLaws.{param_inside}
use Rattle.enc_parse.proofs.params.params.Goals as goal

pub returns-in_err-param-2 : goal.returns-in_err-param-2
returns-in_err-param-2 c =
    let p = err_from_is_err_and c.from_residual-in_err-param-2.result c.from_residual-in_err-param-2.ensures.1 in
    let inside = param_inside (with_brackets c.args.depth allowed) c.args.text.now 0 c.args.depth (zero_fits c.args.depth) in
    rw (p.1, p.2) (sep_failed k.Comma (param c.args.text.now allowed c.args.depth) (inside_turns k.Comma inside refl (clear _ _ refl) c.requires) c.params.items c.params.cursor c.take.new.self c.param-in-params.new.cursor _ c.in_err-param-2.field-0.0 (sym c.sees.ensures ∙ c.params-test.true) c.take.ensures c.in_err-param-2.ensures c.params.invariant)

pub params-smaller : goal.params-smaller
params-smaller c =
    let inside = param_inside (with_brackets c.args.depth allowed) c.args.text.now 0 c.args.depth (zero_fits c.args.depth) in
    kind_shorter (inside.law (c.args.depth - 1) (one_less c.args.depth c.requires)) k.Comma c.params.cursor c.take.new.self c.param-in-params.new.cursor _ (sym c.sees.ensures ∙ c.params-test.true) c.take.ensures c.in_ok-param-2.ensures

pub params-preserved : goal.params-preserved
params-preserved c =
    let inside = param_inside (with_brackets c.args.depth allowed) c.args.text.now 0 c.args.depth (zero_fits c.args.depth) in
    let e = sep_kept k.Comma (param c.args.text.now allowed c.args.depth) (inside_turns k.Comma inside refl (clear _ _ refl) c.requires) c.params.items c.in_ok-param-2.field-0 c.params.cursor c.take.new.self c.param-in-params.new.cursor _ (sym c.sees.ensures ∙ c.params-test.true) c.take.ensures c.in_ok-param-2.ensures c.params.invariant in
    rw c.in_ok-push-2.ensures.ok e

pub returns : goal.returns
returns c =
    let inside = param_inside (with_brackets c.args.depth allowed) c.args.text.now 0 c.args.depth (zero_fits c.args.depth) in
    sep_done k.Comma (param c.args.text.now allowed c.args.depth) (inside_turns k.Comma inside refl (clear _ _ refl) c.requires) c.params.items c.params.cursor _ (sym c.sees.ensures ∙ c.params-test.false) c.params.invariant
