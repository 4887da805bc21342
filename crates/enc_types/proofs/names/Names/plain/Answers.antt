use Rattle.std.proofs.Common.{sym, ◌∙◌, ap, map, take}
use Rattle.enc_types.proofs.PlainNames.{plain_words}
use Rattle.enc_types.proofs.names.Names.plain.Goals as goal

pub invariant_of-result : goal.invariant_of-result
invariant_of-result c = c.loop-decl.invariant.places ∙ (sym (plain_words (take c.loop-decl.decl-index c.args.decls.now)) ∙ ap (map (λ n. n.word)) (sym c.loop-decl.invariant.rows))
