-- The loop over whole expressions.
use Rattle.std.proofs.Common.{sym, ◌∙◌}
use Rattle.std.proofs.lemmas.Result.{err_from_is_err_and}
use Rattle.enc_lex.specs.declared.kinds.Kind.TheVariants as k
use Rattle.enc_cursor.specs.Limits.{allowed}
use Rattle.enc_cursor.proofs.Loops.{sep_kept, sep_failed, sep_done, kind_shorter}
use Rattle.enc_terms.specs.ExprReading.{whole}
use Rattle.enc_terms.proofs.ExprTurns.{whole_at, whole_turns}
use Rattle.enc_terms.proofs.whole_exprs.wholes.Goals as goal

pub returns-in_err-whole-2 : goal.returns-in_err-whole-2
returns-in_err-whole-2 c =
    let p = err_from_is_err_and c.from_residual-in_err-whole-2.result c.from_residual-in_err-whole-2.ensures.1 in
    rw (p.1, p.2) (sep_failed k.Comma (whole c.args.text.now allowed c.args.depth) (whole_turns c.args.text.now c.args.depth) c.loop-alloc.items c.loop-alloc.cursor c.take.new.self c.whole-in-loop-alloc.new.cursor _ c.in_err-whole-2.field-0.0 (sym c.sees.ensures ∙ c.loop-alloc-test.true) c.take.ensures c.in_err-whole-2.ensures c.loop-alloc.invariant)

pub loop-alloc-smaller : goal.loop-alloc-smaller
loop-alloc-smaller c = kind_shorter (whole_at c.args.text.now c.args.depth) k.Comma c.loop-alloc.cursor c.take.new.self c.whole-in-loop-alloc.new.cursor _ (sym c.sees.ensures ∙ c.loop-alloc-test.true) c.take.ensures c.in_ok-whole-2.ensures

pub loop-alloc-preserved : goal.loop-alloc-preserved
loop-alloc-preserved c =
    let e = sep_kept k.Comma (whole c.args.text.now allowed c.args.depth) (whole_turns c.args.text.now c.args.depth) c.loop-alloc.items c.in_ok-whole-2.field-0 c.loop-alloc.cursor c.take.new.self c.whole-in-loop-alloc.new.cursor _ (sym c.sees.ensures ∙ c.loop-alloc-test.true) c.take.ensures c.in_ok-whole-2.ensures c.loop-alloc.invariant in
    rw c.in_ok-push-2.ensures.ok e

pub returns : goal.returns
returns c = sep_done k.Comma (whole c.args.text.now allowed c.args.depth) (whole_turns c.args.text.now c.args.depth) c.loop-alloc.items c.loop-alloc.cursor _ (sym c.sees.ensures ∙ c.loop-alloc-test.false) c.loop-alloc.invariant
