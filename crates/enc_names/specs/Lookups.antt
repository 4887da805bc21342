-- Look-ups in tables.
use Rattle.std.specs.Prelude.{◌==◌, ◌&&◌, ℕ, Bool, true, false, cond, List, [], ◌∷◌, map, filter, filter_map, flat_map, Option, Some, None, option_map, option_and_then, slice_get}
use Rattle.enc_modes.specs.declared.ty.Ty.{Ty, out-Ty}
use Rattle.enc_modes.specs.declared.ty.Ty.TheOpen.{Ty-F}
use Rattle.enc_modes.specs.declared.ty.Ty.TheVariants as ty
use Rattle.enc_modes.specs.Order.{Group}
use Rattle.enc_modes.specs.Modes.{linear_mode}
use Rattle.enc_types.specs.declared.names.Meaning.{Meaning}
use Rattle.enc_types.specs.declared.names.Meaning.TheVariants as is
use Rattle.enc_types.specs.Words.{place_in, every}
use Rattle.enc_types.specs.Names.{Names, found}
use Rattle.enc_names.specs.declared.members.Slot.{Slot}
use Rattle.enc_names.specs.declared.members.Signature.{Signature}
use Rattle.enc_names.specs.declared.members.MethodId.{MethodId}
use Rattle.enc_names.specs.Members.{Members, Tables}

abbrev fields_at : Option Members → List Slot
fields_at None = []
fields_at (Some m) = m.fields

-- the fields of the declaration with this number
abbrev pub fields_of : Tables → ℕ → List Slot
fields_of t k = fields_at (slice_get t.members k)

-- the first field of this name
unfoldable pub field_of : Tables → ℕ → List ℕ → Option ℕ
field_of t k x = place_in (map (λ s. s.word) (fields_of t k)) x

abbrev methods_at : Option Members → List Signature
methods_at None = []
methods_at (Some m) = m.methods

-- the methods of the declaration with this number
abbrev pub methods_of : Tables → ℕ → List Signature
methods_of t k = methods_at (slice_get t.members k)

-- the first method of this name in the declaration with this number
abbrev pub method_in : Tables → List ℕ → ℕ → Option MethodId
method_in t x k = option_map (λ i. record { owner = k; index = i }) (place_in (map (λ s. s.word) (methods_of t k)) x)

-- what the declaration with this number stands for
abbrev meaning_at : Tables → ℕ → Option Meaning
meaning_at t k = option_map (λ n. n.is) (slice_get t.names k)

abbrev active_at : Option Meaning → Bool
active_at (Some is.Active) = true
active_at _ = false

-- the declaration with this number is an active class
abbrev pub is_active : Tables → ℕ → Bool
is_active t k = active_at (meaning_at t k)

abbrev trait_at : Option Meaning → Bool
trait_at (Some (is.Trait m)) = true
trait_at _ = false

-- the declaration with this number is a trait
abbrev pub is_trait : Tables → ℕ → Bool
is_trait t k = trait_at (meaning_at t k)

-- the first method of this name in the active class with this number
abbrev pub active_method : Tables → List ℕ → ℕ → Option MethodId
active_method t x k = cond (is_active t k) (method_in t x k) None

-- the first method of this name in the trait with this number
abbrev pub trait_method : Tables → List ℕ → ℕ → Option MethodId
trait_method t x k = cond (is_trait t k) (method_in t x k) None

-- the signature of a method or a function
abbrev pub signature_of : Tables → MethodId → Option Signature
signature_of t m = slice_get (methods_of t m.owner) m.index

-- the numbers of traits
abbrev pub numbers : Group → List ℕ
numbers = map (λ a. a.number)

-- the traits of a group whose methods can be asked for: its only one, or the linear ones of a disjunction
abbrev pub usable_in : Group → List ℕ
usable_in (a ∷ []) = a.number ∷ []
usable_in alts = numbers (filter (λ a. linear_mode a.mode) alts)

abbrev pub owners_layer : Ty-F Ty → List ℕ
owners_layer (Ty-F.Actor k) = k ∷ []
owners_layer (Ty-F.Cap gs) = flat_map usable_in gs
owners_layer _ = []

-- the traits, or the active class, whose methods can be called on a receiver of the type
unfoldable pub owners_of : Ty → List ℕ
owners_of t = owners_layer (out-Ty t)

abbrev pub same_method : MethodId → MethodId → Bool
same_method m n = (m.owner == n.owner) && (m.index == n.index)

-- the method that all of these are, where there are some and they are one
abbrev pub only : List MethodId → Option MethodId
only [] = None
only (m ∷ ms) = cond (every (same_method m) ms) (Some m) None

abbrev pub method_layer : Tables → List ℕ → Ty-F Ty → Option MethodId
method_layer t x (Ty-F.Actor k) = active_method t x k
method_layer t x (Ty-F.Cap gs) = only (filter_map (trait_method t x) (flat_map usable_in gs))
method_layer t x _ = None

-- the method of this name that can be called on a receiver of the type: that of an active class, or the only one that the usable traits of groups have
unfoldable pub method_for : Tables → Ty → List ℕ → Option MethodId
method_for t u x = method_layer t x (out-Ty u)

abbrev pub sent_layer : Tables → List ℕ → Ty-F Ty → Option MethodId
sent_layer t x (Ty-F.Actor k) = active_method t x k
sent_layer t x (Ty-F.Bestowed a) = trait_method t x a.number
sent_layer t x _ = None

-- the method of this name that a message to a receiver of the type can ask for: one of an active class or of a bestowed trait
unfoldable pub sent_for : Tables → Ty → List ℕ → Option MethodId
sent_for t u x = sent_layer t x (out-Ty u)

abbrev class_layer : ℕ × Meaning → Option Ty
class_layer (k, is.Trait m) = None
class_layer (k, is.Class c) = option_map ty.Cap c
class_layer (k, is.Active) = Some (ty.Actor k)
class_layer (k, is.Fun) = None

-- the type of a new object of the class of this name
unfoldable pub class_named : Names → List ℕ → Option Ty
class_named names x = option_and_then class_layer (found names x)

abbrev function_layer : ℕ × Meaning → Option ℕ
function_layer (k, is.Fun) = Some k
function_layer (k, is.Trait m) = None
function_layer (k, is.Class c) = None
function_layer (k, is.Active) = None

-- the number of the function of this name
unfoldable pub function_named : Names → List ℕ → Option ℕ
function_named names x = option_and_then function_layer (found names x)
