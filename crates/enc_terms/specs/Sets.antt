-- Which tokens begin types and expressions, and which may go on with a complete one.
use Rattle.std.specs.Prelude.{◌||◌}
use Rattle.enc_lex.specs.declared.kinds.Kind.TheVariants as k
use Rattle.enc_cursor.specs.Place.{is}
use Rattle.enc_cursor.specs.Steps.{Set, can}
use Rattle.enc_terms.specs.Words.{plain_type, wrapper, or_word, and_word, comparison, sign, factor, prefix, constant, typed, single, double}

-- what begins a group
abbrev pub begins_group : Set
begins_group l = is k.Name l || is k.OpenParen l

-- what begins a type
abbrev pub begins_type : Set
begins_type l = can plain_type l || (can wrapper l || begins_group l)

-- what goes on with a type
abbrev pub extends_type : Set
extends_type l = is k.And l

-- what begins an atom that is neither a name nor "this"
abbrev pub begins_other_atom : Set
begins_other_atom l = is k.Int l || (is k.Text l || (can constant l || (is k.OpenParen l || (is k.OpenBracket l || (can typed l || (can single l || can double l))))))

-- what begins an expression that begins with neither a name nor "this"
abbrev pub begins_other : Set
begins_other l = can prefix l || begins_other_atom l

-- what begins an expression
abbrev pub begins_expr : Set
begins_expr l = is k.Name l || (is k.This l || begins_other l)

-- what goes on with an expression, or with a name or "this" where either may stand before something else
abbrev pub extends_expr : Set
extends_expr l = is k.Dot l || (is k.Bang l || (can factor l || (can sign l || (can comparison l || (can and_word l || can or_word l)))))
