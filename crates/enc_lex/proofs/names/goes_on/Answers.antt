-- Of ASCII, the letters, the digits and the underscore go on with a name.
use Rattle.std.proofs.Common.{arith}
use Rattle.std.proofs.lemmas.Bool.Decides.{nat_tests}
use Rattle.unicode_ident.proofs.IdentLemmas.{is_xid_continue-ascii}
use Rattle.enc_lex.proofs.names.goes_on.Goals as goal

pub returns-then-is_ascii_alphanumeric : goal.returns-then-is_ascii_alphanumeric
returns-then-is_ascii_alphanumeric c = grind (arith, nat_tests, is_xid_continue-ascii c.args.char)

pub returns-else-is_ascii_alphanumeric : goal.returns-else-is_ascii_alphanumeric
returns-else-is_ascii_alphanumeric c = grind (arith, nat_tests, is_xid_continue-ascii c.args.char)
