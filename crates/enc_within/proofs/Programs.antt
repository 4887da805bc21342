-- A program that a text spells is within the limits.
use Rattle.std.proofs.Common.{◌≡◌, ℕ, List, length, refl, ap, arith, le-leb}
use Rattle.std.proofs.lemmas.List.Elements.{recursion_from_All}
use Rattle.enc_ast.specs.declared.rules.Span.{Span}
use Rattle.enc_ast.specs.declared.Program.{Program}
use Rattle.enc_lex.specs.Lexes.{StandsIn}
use Rattle.enc_lex.proofs.OneAnswer.{lexes_stands}
use Rattle.enc_cursor.specs.Place.{start_of}
use Rattle.enc_parse.specs.Spells.{Spells}
use Rattle.enc_limits.specs.Numbers.{max_bytes, max_declared}
use Rattle.enc_limits.specs.Programs.{IsWithinLimits, all_declared}
use Rattle.enc_within.proofs.Leads.{Stands}
use Rattle.enc_within.proofs.Types.{counts}
use Rattle.enc_within.proofs.Decls.{program_is}

-- nothing is counted before the first token
start_stands : (text : List ℕ) (p : Program) (s : Spells text p) → Stands text (counts 0 0 0 0) (start_of s.tokens)
start_stands text p s = record {
  tokens = recursion_from_All (StandsIn text) s.tokens (lexes_stands text s.tokens s.lexes);
  counts = refl;
  within = record { variables = omega arith; operators = omega arith; names = omega arith; groups = omega arith; traits = omega arith };
}

-- nothing in the program is more than may be
pub spelled_within : (text : List ℕ) (p : Program) → Spells text p → IsWithinLimits p
spelled_within text p s =
    let tree = program_is 0 p.decls (start_of s.tokens) s.fits.spells.end s.fits.spells.tree in
    let start = start_stands text p s in
    let end = tree.stands s.fits.fine start in
    let last : p.span.end ≡ length text = ap (λ (v : Span). v.end) s.span in
    record {
      bytes = le-leb p.span.end max_bytes (omega (arith, last, s.lexes.short));
      decls = tree.holds s.fits.fine start;
      names = le-leb (all_declared p.decls) max_declared (omega (arith, end.within.names));
    }
