use Rattle.std.proofs.Common.{length, ◌≤◌}
use Rattle.enc_ast.specs.Thin.{body_of}
use Rattle.enc_lex.proofs.OneAnswer.{ok_weaker}
use Rattle.enc_parse.specs.Spells.{Spells}
use Rattle.enc_parse.proofs.Few.{few}
use Rattle.enc_parse.proofs.OneAnswer.{only_program, only_failure, one_answer}
use Rattle.enc_parse.proofs.text.parse.Goals as goal

pub returns-clause-only_program : goal.returns-clause-only_program
returns-clause-only_program c = only_program c.args.text.now c.program_of.result c.program_of.ensures.spells c.program_of.ensures.refused

pub returns-clause-only_failure : goal.returns-clause-only_failure
returns-clause-only_failure c = only_failure c.args.text.now c.program_of.result c.program_of.ensures.spells c.program_of.ensures.refused

pub returns-clause-one_answer : goal.returns-clause-one_answer
returns-clause-one_answer c = one_answer c.args.text.now

pub returns-clause-few : goal.returns-clause-few
returns-clause-few c = ok_weaker (Spells c.args.text.now) (λ program. length (body_of program) ≤ length c.args.text.now) c.program_of.result (few c.args.text.now) c.program_of.ensures.spells
