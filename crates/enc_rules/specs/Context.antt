-- What a body is judged in.
use Rattle.std.specs.Prelude.{ℕ, Bool, true, false, List, [], ◌∷◌, Option, Some, None, option_and_then, slice_get}
use Rattle.enc_modes.specs.declared.ty.Mode.{Mode}
use Rattle.enc_modes.specs.declared.ty.Mode.TheVariants as mode
use Rattle.enc_modes.specs.declared.ty.Ty.{Ty}
use Rattle.enc_modes.specs.declared.ty.Ty.TheVariants as ty
use Rattle.enc_types.specs.declared.names.Meaning.{Meaning}
use Rattle.enc_types.specs.declared.names.Meaning.TheVariants as is
use Rattle.enc_types.specs.Names.{Names, found_at}
use Rattle.enc_names.specs.declared.members.Slot.{Slot}
use Rattle.enc_names.specs.declared.members.Signature.{Signature}
use Rattle.enc_names.specs.Members.{Tables}
use Rattle.enc_names.specs.Lookups.{fields_of, field_of, signature_of, function_named}

-- The tables, the number of the trait or active class that the body belongs to, unless it is one of a function,
-- the type of its result, and whether the statement stands inside an atomic block.
pub record Context : Type 0 where
  pub tables : Tables
  pub owner : Option ℕ
  pub result : Ty
  pub inside : Bool

-- ---- this

abbrev pub this_layer : ℕ × Meaning → Option Ty
this_layer (k, is.Trait m) = Some (ty.Cap ((record { number = k; mode = m } ∷ []) ∷ []))
this_layer (k, is.Class c) = None
this_layer (k, is.Active) = Some (ty.Actor k)
this_layer (k, is.Fun) = None

-- the type of "this" in a trait or an active class
unfoldable pub this_type : Names → ℕ → Option Ty
this_type names k = option_and_then this_layer (found_at names k)

abbrev read_mode : Mode → Bool
read_mode mode.Read = true
read_mode _ = false

abbrev read_layer : Option (ℕ × Meaning) → Bool
read_layer (Some (k, is.Trait m)) = read_mode m
read_layer _ = false

abbrev read_owner : Names → Option ℕ → Bool
read_owner names None = false
read_owner names (Some k) = read_layer (found_at names k)

-- "this" is of mode read
unfoldable pub only_reads : Context → Bool
only_reads ctx = read_owner ctx.tables.names ctx.owner

-- ---- fields

abbrev slot_type : Option Slot → Option Ty
slot_type None = None
slot_type (Some s) = Some s.ty

abbrev field_at : Tables → ℕ → Option ℕ → Option Ty
field_at t k None = None
field_at t k (Some i) = slot_type (slice_get (fields_of t k) i)

abbrev field_in : Tables → List ℕ → ℕ → Option Ty
field_in t x k = field_at t k (field_of t k x)

-- the type of the field of "this" with this name
unfoldable pub field_type : Context → List ℕ → Option Ty
field_type ctx x = option_and_then (field_in ctx.tables x) ctx.owner

-- there is a field, and it holds of its type
abbrev pub field_fits : (Ty → Bool) → Option Ty → Bool
field_fits want None = false
field_fits want (Some t) = want t

-- ---- functions

abbrev function_at : Tables → ℕ → Option Signature
function_at t k = signature_of t (record { owner = k; index = 0 })

-- the function of this name
unfoldable pub function_of : Tables → List ℕ → Option Signature
function_of t x = option_and_then (function_at t) (function_named t.names x)
