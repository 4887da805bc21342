use Rattle.std.proofs.Common.{sym, ◌∙◌, ap, map}
use Rattle.enc_types.specs.Names.{trait_named}
use Rattle.enc_types.specs.Plain.{named_by}
use Rattle.enc_types.proofs.PlainNames.{plain_words, named_words, named_all}
use Rattle.enc_types.proofs.names.Names.of.Goals as goal

pub invariant_of-result : goal.invariant_of-result
invariant_of-result c =
    c.plain-2.invariant
    ∙ (ap (map (λ n. n.word)) (c.plain-2.view_is ∙ c.in_ok-plain.ensures)
    ∙ (plain_words c.args.decls.now
    ∙ (sym (named_words (trait_named c.in_ok-plain.plain) c.args.decls.now)
    ∙ ap (map (λ n. n.word)) (sym c.in_ok-rows.ensures))))

pub returns : goal.returns
returns c = c.in_ok-rows.ensures ∙ (ap (λ names. map (named_by (trait_named names)) c.args.decls.now) c.in_ok-plain.ensures ∙ named_all c.args.decls.now)
