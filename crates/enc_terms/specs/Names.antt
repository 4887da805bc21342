-- Names in a text.
use Rattle.std.specs.Prelude.{◌≡◌, ℕ, List}
use Rattle.enc_ast.specs.declared.rules.Span.{Span}
use Rattle.enc_ast.specs.declared.decls.Name.{Name}
use Rattle.enc_lex.specs.Values.{bytes_at, word_of}
use Rattle.enc_cursor.specs.Counts.{Rule}
use Rattle.enc_cursor.specs.Limits.{Allowed}
use Rattle.enc_cursor.specs.Stretch.{Stretch, IsNameBy}
use Rattle.enc_cursor.specs.Steps.{Parser, ◌<$>◌}
use Rattle.enc_cursor.specs.Counted.{name_by}

-- the name at a span of a text
abbrev pub name_at : List ℕ → Span → Name
name_at text v = record { word = word_of (bytes_at text v); span = v }

-- a name of the text that is counted by the rule
abbrev pub IsNameAs : Rule → List ℕ → Name → Stretch
IsNameAs r text n a b = (v : Span) × (name_at text v ≡ n) × IsNameBy r v a b

-- a name that is counted by the rule, as a parser reads it
unfoldable pub name_as : Rule → List ℕ → Allowed → Parser Name
name_as r text C = name_at text <$> name_by C r
