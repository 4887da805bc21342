-- A word that is none of these is a name.
use Rattle.std.proofs.Common.{sym}
use Rattle.enc_lex.specs.Words.{words_of_len}
use Rattle.enc_lex.proofs.WordLaws.{kind_in_none}
use Rattle.enc_lex.proofs.words.of_three.Goals as goal

pub returns-in_default : goal.returns-in_default
returns-in_default c = sym (kind_in_none c.args.word.now (words_of_len 3) (assumption c.in_default))
