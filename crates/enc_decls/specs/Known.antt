-- What is known of the types of a trait's fields.
use Rattle.std.specs.Prelude.{◌≡◌, Bool, true, false, cond, List, Option, Some, None, String}
use Rattle.std.specs.HashMap.{HashMap, get_by_text}
use Rattle.enc_modes.specs.declared.ty.Ty.{Ty}
use Rattle.enc_modes.specs.Equality.{same}
use Rattle.enc_types.specs.Words.{every}
use Rattle.enc_decls.specs.Conflicts.{agree}
use Rattle.enc_decls.specs.declared.known.Entry.{Entry}

-- no field of the name is known, or all have this type, where nothing stands for fields of several types
abbrev pub has_all : Option (Option Ty) → Ty → Bool
has_all None t = true
has_all (Some None) t = false
has_all (Some (Some u)) t = same u t

-- the type of the fields of the name behind one more
abbrev pub narrowed : Option (Option Ty) → Ty → Option Ty
narrowed known t = cond (has_all known t) (Some t) None

-- The map tells of each field whether it agrees with all of these.
pub record IsIndexed {Y S : Type 0} (entries : List Entry) (types : HashMap (String Y) (Option Ty) S) : Type 0 where
  pub tells : (d : Entry) → has_all (get_by_text types d.word) d.ty ≡ every (agree d) entries
