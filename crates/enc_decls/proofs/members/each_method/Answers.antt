use Rattle.std.proofs.Common.{◌≡◌, take}
use Rattle.enc_types.specs.Words.{has}
use Rattle.enc_decls.specs.Rules.{method_words}
use Rattle.enc_decls.proofs.Loops.{after_more}
use Rattle.enc_decls.proofs.members.each_method.Goals as goal

pub loop-method-preserved : goal.loop-method-preserved
loop-method-preserved c =
    let e : c.has-new.result ≡ has (method_words (take c.loop-method.method-index c.args.methods.now)) c.method-item.result.name.word = cc (c.has-new.ensures, c.as_str.ensures, c.loop-method.invariant.words) in
    after_more _ _ c.args.methods.now c.loop-method.method-index c.method-item.result c.loop-method.seen _ c.loop-method-test.true c.method-item.is c.loop-method.invariant (rw e at c.in_ok-judge_method.ensures) c.in_ok-add.ensures.ok
