-- The characters of names.
use Rattle.std.specs.Prelude.{ℕ, Bool, false, ◌||◌, ◌&&◌, ◌==◌, List, [], ◌∷◌}
use Rattle.std.specs.List.{list_all}
use Rattle.unicode_ident.specs.Ident.{is_xid_start, is_xid_continue}
use Rattle.enc_lex.specs.Bytes.{underscore}

-- a character with which a name can begin
abbrev pub begins_name : ℕ → Bool
begins_name char = char == underscore || is_xid_start char

-- a character with which a name can begin, and then such as can go on with it
abbrev pub is_name : List ℕ → Bool
is_name [] = false
is_name (char ∷ chars) = begins_name char && list_all is_xid_continue chars
