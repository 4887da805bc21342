use Rattle.std.proofs.Common.{refl}
use Rattle.enc_parse.proofs.text.program_of.Goals as goal

pub returns-clause-spells : goal.returns-clause-spells
returns-clause-spells c = record { tokens = c.in_ok-tokens.tokens; lexes = c.in_ok-tokens.ensures.lexed; fits = rw c.as_slice.ensures at c.in_ok-decls.ensures.fits; span = refl }
