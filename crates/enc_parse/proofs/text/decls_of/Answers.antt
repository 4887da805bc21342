use Rattle.std.proofs.Common.{ap, sym, ◌∙◌}
use Rattle.enc_cursor.specs.Limits.{allowed, standard}
use Rattle.enc_cursor.proofs.Whole.{read_fits}
use Rattle.enc_parse.specs.DeclReading.{declarations}
use Rattle.enc_parse.proofs.OneAnswer.{whole_text, wrong_at, over_at}
use Rattle.enc_parse.proofs.text.decls_of.Goals as goal

pub returns-in-Ok-clause-fits : goal.returns-in-Ok-clause-fits
returns-in-Ok-clause-fits c = read_fits (whole_text c.args.text.now) standard c.args.tokens.now c.in-Ok.decls c.declarations.new.cursor (ap (declarations c.args.text.now allowed 256) (sym c.new-cursor.ensures) ∙ c.in-Ok.ensures)

pub returns-in-Err-Form-clause-fails : goal.returns-in-Err-Form-clause-fails
returns-in-Err-Form-clause-fails c = let f = rw c.in-Err-Form.field-0-is at c.in-Err-Form.ensures in
    rw (c.place_at.ensures, c.saturating_sub.ensures, c.left.ensures) (wrong_at c.args.text.now c.args.tokens.now c.declarations.new.cursor (ap (declarations c.args.text.now allowed 256) (sym c.new-cursor.ensures) ∙ f))

pub returns-in-Err-Over-clause-fails : goal.returns-in-Err-Over-clause-fails
returns-in-Err-Over-clause-fails c = let f = rw c.in-Err-Over.field-0-is at c.in-Err-Over.ensures in
    rw (c.place_at-in-Err-Over.ensures, c.saturating_sub-in-Err-Over-2.ensures, c.saturating_sub-in-Err-Over.ensures, c.left-in-Err-Over.ensures) (over_at c.args.text.now c.args.tokens.now c.declarations.new.cursor (ap (declarations c.args.text.now allowed 256) (sym c.new-cursor.ensures) ∙ f))
