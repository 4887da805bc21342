-- The first character, and the run behind it.
use Rattle.std.proofs.Common.{◌≡◌, ◌+◌, length, arith, sym, ap, ◌∙◌}
use Rattle.std.specs.Str.Iter.{chars_rest}
use Rattle.std.specs.Char.{len_utf8}
use Rattle.enc_lex.specs.Reading.{name_of}
use Rattle.enc_lex.proofs.NameLaws.{run, name_len_more, name_ends}
use Rattle.enc_lex.proofs.names.name_len.Goals as goal

more : (c : goal.After-run_len) → length (name_of c.args.text.now) ≡ len_utf8 c.in-Some.first + c.run_len.result
more c =
    name_len_more c.args.text.now (chars_rest c.next.new.self) c.in-Some.first c.utf8.text (sym c.chars-chars.ensures.rest ∙ c.in-Some.ensures.steps.0)
    ∙ ap (λ n. len_utf8 c.in-Some.first + n) (ap run (sym c.as_str.ensures) ∙ sym c.run_len.ensures)

pub overflow_add-result : goal.overflow_add-result
overflow_add-result c =
    let step = more c in
    let short = (name_ends c.args.text.now c.utf8.text).0 in
    let value = c.len_utf8.ensures.value in
    omega arith

pub returns-in-Some : goal.returns-in-Some
returns-in-Some c =
    let step = more c in
    let value = c.len_utf8.ensures.value in
    omega arith
