use Rattle.std.proofs.Common.{◌≡◌, ℕ, suc, ◌-◌, subst, ap, refl, sym, ◌∙◌, arith}
use Rattle.std.specs.Prelude.{not}
use Rattle.std.proofs.lemmas.Result.{err_from_is_err_and}
use Rattle.enc_lex.specs.declared.kinds.Kind.TheVariants as k
use Rattle.enc_cursor.specs.Cursor.{Reads}
use Rattle.enc_cursor.specs.Steps.{but}
use Rattle.enc_cursor.specs.Limits.{allowed, with_brackets}
use Rattle.enc_cursor.proofs.Loops.{list_kept, list_failed, list_done, item_shorter}
use Rattle.enc_cursor.proofs.Openings.{zero_fits}
use Rattle.enc_stmts.specs.StmtReading.{stmts_inside, stmt}
use Rattle.enc_stmts.proofs.BlockLaws.{stmt_law, stmt_turns}
use Rattle.enc_stmts.proofs.blocks.+blocks.Goals as goal

pub stmts_inside-returns : goal.stmts_inside-returns
unfolding stmts_inside
stmts_inside-returns t c =
    let e : suc (c.args.depth - 1) ≡ c.args.depth = omega (arith, c.requires) in
    subst (λ (n : ℕ). Reads (stmts_inside c.args.text.now allowed n c.args.cursor.now) c.stmts.result c.stmts.new.cursor) e c.stmts.ensures

pub stmts-returns-in_err-stmt : goal.stmts-returns-in_err-stmt
stmts-returns-in_err-stmt t c =
    let p = err_from_is_err_and c.from_residual.result c.from_residual.ensures.1 in
    rw (p.1, p.2) (list_failed (but k.CloseBrace) (stmt c.args.text.now allowed c.args.depth) (stmt_turns c.args.text.now c.args.depth) c.loop-alloc.items c.loop-alloc.cursor c.stmt.new.cursor _ c.in_err-stmt.field-0.0 (ap not (sym c.sees.ensures ∙ c.loop-alloc-test.true)) c.in_err-stmt.ensures c.loop-alloc.invariant)

pub stmts-loop-alloc-smaller : goal.stmts-loop-alloc-smaller
stmts-loop-alloc-smaller t c = item_shorter (stmt_law (with_brackets c.args.depth allowed) c.args.text.now 0 c.args.depth (zero_fits c.args.depth)) refl refl c.loop-alloc.cursor c.stmt.new.cursor _ c.in_ok-stmt.ensures

pub stmts-loop-alloc-preserved : goal.stmts-loop-alloc-preserved
stmts-loop-alloc-preserved t c =
    let e = list_kept (but k.CloseBrace) (stmt c.args.text.now allowed c.args.depth) (stmt_turns c.args.text.now c.args.depth) c.loop-alloc.items c.in_ok-stmt.field-0 c.loop-alloc.cursor c.stmt.new.cursor _ (ap not (sym c.sees.ensures ∙ c.loop-alloc-test.true)) c.in_ok-stmt.ensures c.loop-alloc.invariant in
    rw c.in_ok-push.ensures.ok e

pub stmts-returns : goal.stmts-returns
stmts-returns t c = list_done (but k.CloseBrace) (stmt c.args.text.now allowed c.args.depth) (stmt_turns c.args.text.now c.args.depth) c.loop-alloc.items c.loop-alloc.cursor _ (ap not (sym c.sees.ensures ∙ c.loop-alloc-test.false)) c.loop-alloc.invariant
