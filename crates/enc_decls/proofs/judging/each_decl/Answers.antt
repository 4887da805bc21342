use Rattle.std.proofs.Common.{◌≡◌, take, map}
use Rattle.enc_types.specs.Names.{word_of}
use Rattle.enc_types.specs.Words.{has}
use Rattle.enc_decls.proofs.Loops.{after_more}
use Rattle.enc_decls.proofs.Standing.{stands, known_new}
use Rattle.enc_decls.proofs.judging.each_decl.Goals as goal

pub judge_decl-requires-clause-itself : goal.judge_decl-requires-clause-itself
judge_decl-requires-clause-itself c =
    let e : c.has-new.result ≡ has (map word_of (take c.loop-decl.decl-index c.args.decls.now)) (word_of c.decl-item.result) = cc (c.has-new.ensures, c.as_str.ensures, c.word_of-word.ensures, c.loop-decl.invariant.0.words) in
    rw c.requires.names (stands c.args.decls.now c.loop-decl.decl-index c.decl-item.result c.has-new.result c.loop-decl-test.true c.decl-item.is e)

pub loop-decl-preserved : goal.loop-decl-preserved
loop-decl-preserved c =
    let e : c.has-new.result ≡ has (map word_of (take c.loop-decl.decl-index c.args.decls.now)) (word_of c.decl-item.result) = cc (c.has-new.ensures, c.as_str.ensures, c.word_of-word.ensures, c.loop-decl.invariant.0.words) in
    (after_more _ _ c.args.decls.now c.loop-decl.decl-index c.decl-item.result c.loop-decl.seen _ c.loop-decl-test.true c.decl-item.is c.loop-decl.invariant.0 (rw (known_new c.args.decls.now c.args.names.now (take c.loop-decl.decl-index c.args.decls.now) c.decl-item.result c.has-new.result e) at c.in_ok-judge_decl.ensures.passes) (rw c.word_of-word.ensures at c.in_ok-add.ensures.ok), c.in_ok-judge_decl.ensures.right)
