use Rattle.std.proofs.Common.{◌≡◌, take}
use Rattle.enc_types.specs.Words.{has}
use Rattle.enc_decls.specs.Rules.{field_words}
use Rattle.enc_decls.proofs.Loops.{after_more}
use Rattle.enc_decls.proofs.members.each_field.Goals as goal

pub loop-field-preserved : goal.loop-field-preserved
loop-field-preserved c =
    let e : c.has-new.result ≡ has (field_words (take c.loop-field.field-index c.args.fields.now)) c.field-item.result.name.word = cc (c.has-new.ensures, c.as_str.ensures, c.loop-field.invariant.words) in
    after_more _ _ c.args.fields.now c.loop-field.field-index c.field-item.result c.loop-field.seen _ c.loop-field-test.true c.field-item.is c.loop-field.invariant (rw e at c.in_ok-judge_field.ensures) c.in_ok-add.ensures.ok
