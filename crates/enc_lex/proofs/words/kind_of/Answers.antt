-- A word is looked for among those that are as long.
use Rattle.std.proofs.Common.{sym, ◌∙◌}
use Rattle.enc_lex.proofs.WordLaws.{kind_by_len, kind_by_other}
use Rattle.enc_lex.proofs.words.kind_of.Goals as goal

pub returns-in-2 : goal.returns-in-2
returns-in-2 c = c.of_two.ensures ∙ sym (kind_by_len c.args.word.now 2 c.in-2.is)

pub returns-in-3 : goal.returns-in-3
returns-in-3 c = c.of_three.ensures ∙ sym (kind_by_len c.args.word.now 3 c.in-3.is)

pub returns-in-4 : goal.returns-in-4
returns-in-4 c = c.of_four.ensures ∙ sym (kind_by_len c.args.word.now 4 c.in-4.is)

pub returns-in-5 : goal.returns-in-5
returns-in-5 c = c.of_five.ensures ∙ sym (kind_by_len c.args.word.now 5 c.in-5.is)

pub returns-in-6 : goal.returns-in-6
returns-in-6 c = c.of_six.ensures ∙ sym (kind_by_len c.args.word.now 6 c.in-6.is)

pub returns-in_default : goal.returns-in_default
returns-in_default c =
    let h = c.in_default in
    c.of_others.ensures ∙ sym (kind_by_other c.args.word.now (assumption h) (assumption h) (assumption h) (assumption h) (assumption h))
