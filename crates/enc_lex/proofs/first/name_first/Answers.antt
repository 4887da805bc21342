-- The name ends where a character does.
use Rattle.std.proofs.Common.{◌≡◌, ◌-◌, take, ap, ap₂, ◌∙◌, arith}
use Rattle.enc_lex.specs.declared.standing.Standing.TheVariants as st
use Rattle.enc_lex.specs.Words.{kind_of_word}
use Rattle.enc_lex.specs.Reading.{name_of}
use Rattle.enc_lex.proofs.NameLaws.{name_ends, name_taken}
use Rattle.enc_lex.proofs.first.name_first.Goals as goal

pub range-requires-clause-end_boundary : goal.range-requires-clause-end_boundary
range-requires-clause-end_boundary c = rw c.name_len-len.ensures (name_ends c.args.text.now c.utf8.text)

pub returns : goal.returns
returns c =
    let text = c.args.text.now in
    let none : c.name_len-len.result - 0 ≡ c.name_len-len.result = omega arith in
    let word : c.range.result.now ≡ name_of text =
    c.range.ensures.value
    ∙ (ap (λ n. take n text) (none ∙ c.name_len-len.ensures)
    ∙ name_taken text c.utf8.text) in
    ap₂ st.Token (c.kind_of.ensures ∙ ap kind_of_word word) c.name_len-len.ensures
