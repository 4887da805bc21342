use Rattle.std.proofs.Common.{◌∙◌, sym, rules, tests}
use Rattle.std.specs.Str.{bytes_eq}
use Rattle.std.proofs.lemmas.Iterator.{YieldsList-from_slice}
use Rattle.std.proofs.lemmas.Iterator.Search.{any_from_yields_List}
use Rattle.enc_model.proofs.Scopes.{list_any-map}
use Rattle.enc_model.proofs.thin_form.is_among.Goals as goal

pub returns : goal.returns
returns c =
    let names = c.args.names.now in
    let word = c.args.word.now in
    any_from_yields_List (λ name. bytes_eq name.now word) _ _ _ c.any.ensures.ran (YieldsList-from_slice names c.iter.ensures.rest) (λ x b q k. search (rules, tests))
    ∙ sym (list_any-map (λ name. bytes_eq name word) (λ name. name.now) names)
