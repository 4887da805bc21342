-- Of ASCII, the letters and the underscore begin a name.
use Rattle.std.proofs.Common.{arith}
use Rattle.std.proofs.lemmas.Bool.Decides.{nat_tests}
use Rattle.unicode_ident.proofs.IdentLemmas.{is_xid_start-ascii}
use Rattle.enc_lex.proofs.names.is_first.Goals as goal

pub returns-else-char-eq95 : goal.returns-else-char-eq95
returns-else-char-eq95 c = grind (arith, nat_tests, is_xid_start-ascii c.args.char)
