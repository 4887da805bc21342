-- One character more of the run.
use Rattle.std.proofs.Common.{◌≡◌, ◌+◌, arith, sym, ◌∙◌}
use Rattle.std.specs.Str.Iter.{chars_rest}
use Rattle.std.specs.Char.{len_utf8}
use Rattle.std.proofs.lemmas.Str.{IsUtf8-past_char}
use Rattle.enc_lex.proofs.NameLaws.{run, run_more, run_le_length}
use Rattle.enc_lex.proofs.names.run_len.Goals as goal

more : (c : goal.After-len_utf8-len) → run (chars_rest c.chars.next-iterator) ≡ len_utf8 c.in-Some.next + run (chars_rest c.next.new.self)
more c = run_more (chars_rest c.chars.next-iterator) (chars_rest c.next.new.self) c.in-Some.next c.chars.invariant.utf8 c.in-Some.ensures.steps.0 (sym c.goes_on.ensures ∙ c.if-not-goes_on.false)

pub overflow_add-len : goal.overflow_add-len
overflow_add-len c =
    let step = more c in
    let left = c.chars.invariant.left in
    let short = run_le_length c.args.text.now c.utf8.text in
    let value = c.len_utf8-len.ensures.value in
    omega arith

pub chars-preserved : goal.chars-preserved
chars-preserved c =
    let step = more c in
    let left = c.chars.invariant.left in
    let value = c.len_utf8-len.ensures.value in
    record {
      can_next = tt;
      is_finite = tt;
      utf8 = IsUtf8-past_char _ _ c.in-Some.next c.chars.invariant.utf8 c.in-Some.ensures.steps.0;
      left = omega arith;
    }
