-- Which tokens begin sources and statements, and which may go on with a complete one.
use Rattle.std.specs.Prelude.{◌||◌}
use Rattle.enc_lex.specs.declared.kinds.Kind.TheVariants as k
use Rattle.enc_cursor.specs.Place.{is}
use Rattle.enc_cursor.specs.Steps.{Set, can}
use Rattle.enc_terms.specs.Sets.{begins_expr, extends_expr}
use Rattle.enc_stmts.specs.Words.{single, double, applied}

-- what begins a source
abbrev pub begins_source : Set
begins_source l = is k.Take l || (is k.New l || (is k.Lift l || (can single l || (can double l || (can applied l || begins_expr l)))))

-- what goes on with a source
abbrev pub extends_source : Set
extends_source l = is k.OpenParen l || extends_expr l

-- what begins a statement with no block in it
abbrev pub begins_plain : Set
begins_plain l = is k.Let l || (is k.Name l || (is k.This l || (is k.Split l || (is k.Choose l || (is k.Return l || (is k.Print l || is k.Suspend l))))))

-- what begins a statement
abbrev pub begins_stmt : Set
begins_stmt l = is k.If l || (is k.While l || (is k.Atomic l || (is k.Pack l || begins_plain l)))
