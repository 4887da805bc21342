use Rattle.std.proofs.lemmas.Result.{err_from_is_err_and}
use Rattle.enc_check.proofs.Blocks.{bodies_start, bodies_more, bodies_err, bodies_end}
use Rattle.enc_check.proofs.routines.bodies.Goals as goal

pub loop-at-init : goal.loop-at-init
loop-at-init c = bodies_start c.args.tables.now c.args.decls.now

pub returns-in_err-decl_bodies : goal.returns-in_err-decl_bodies
returns-in_err-decl_bodies c =
    let p = err_from_is_err_and c.from_residual.result c.from_residual.ensures.1 in
    rw (p.1, p.2) (bodies_err c.args.tables.now c.args.decls.now c.loop-at.at c.index-decls-at.result c.loop-at-test.true c.index-decls-at.is c.loop-at.invariant _ c.in_err-decl_bodies.ensures)

pub loop-at-preserved : goal.loop-at-preserved
loop-at-preserved c = bodies_more c.args.tables.now c.args.decls.now c.loop-at.at c.index-decls-at.result c.loop-at-test.true c.index-decls-at.is c.loop-at.invariant c.in_ok-decl_bodies.ensures

pub returns : goal.returns
returns c = bodies_end c.args.tables.now c.args.decls.now c.loop-at.at c.loop-at-test.false c.loop-at.invariant
