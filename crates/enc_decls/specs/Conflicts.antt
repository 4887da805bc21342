-- When the traits of a disjunction may share a place.
use Rattle.std.specs.Prelude.{bytes_eq, ◌==◌, ℕ, Bool, true, false, not, ◌&&◌, ◌||◌, List, [], ◌∷◌, Option, Some, None, slice_get}
use Rattle.enc_ast.specs.declared.decls.Decl.{Decl}
use Rattle.enc_ast.specs.declared.decls.Decl.TheVariants.{Trait, Class, Active, Fun}
use Rattle.enc_ast.specs.declared.decls.Field.{Field}
use Rattle.enc_ast.specs.declared.decls.Name.{Name}
use Rattle.enc_ast.specs.declared.decls.GroupText.{GroupText}
use Rattle.enc_modes.specs.declared.ty.Alt.{Alt}
use Rattle.enc_modes.specs.declared.ty.Mode.{Mode}
use Rattle.enc_modes.specs.declared.ty.Mode.TheVariants as mode
use Rattle.enc_modes.specs.declared.ty.Ty.{Ty}
use Rattle.enc_modes.specs.Modes.{is_sendable}
use Rattle.enc_modes.specs.Equality.{same}
use Rattle.enc_premises.specs.Premises.{if_known}
use Rattle.enc_types.specs.Words.{every}
use Rattle.enc_types.specs.Names.{Names, trait_named}
use Rattle.enc_types.specs.Written.{type_of}
use Rattle.enc_decls.specs.declared.known.Entry.{Entry}

-- ---- the fields of traits

abbrev pub fields_by : Option Decl → List Field
fields_by None = []
fields_by (Some (Trait d)) = d.fields
fields_by (Some (Class d)) = []
fields_by (Some (Active d)) = []
fields_by (Some (Fun d)) = []

-- the fields of the trait with this number
abbrev pub trait_fields : List Decl → ℕ → List Field
trait_fields ds k = fields_by (slice_get ds k)

abbrev pub add_entry : List ℕ → Option Ty → List Entry → List Entry
add_entry w None es = es
add_entry w (Some t) es = record { word = w; ty = t } ∷ es

-- the fields of a trait whose types are known
abbrev pub known_fields : Names → List Field → List Entry
known_fields names [] = []
known_fields names (f ∷ fs) = add_entry f.name.word (type_of names f.ty) (known_fields names fs)

abbrev pub entries_of : List Decl → Names → Alt → List Entry
entries_of ds names a = known_fields names (trait_fields ds a.number)

-- ---- conflicts

-- they have other names, or one type
abbrev pub agree : Entry → Entry → Bool
agree d e = not (bytes_eq d.word e.word) || same d.ty e.ty

-- each of the one agrees with each of the other
abbrev pub each_agrees : List Entry → List Entry → Bool
each_agrees ds es = every (λ d. every (agree d) es) ds

-- each field of the one trait agrees with each of the other
abbrev pub fit : List Decl → Names → Alt → Alt → Bool
fit ds names a b = each_agrees (entries_of ds names a) (entries_of ds names b)

-- they are one trait, or fit
abbrev pub one_or_fit : List Decl → Names → Alt → Alt → Bool
one_or_fit ds names a b = (a.number == b.number) || fit ds names a b

-- each two of them are one trait, or fit
abbrev pub all_fit : List Decl → Names → List Alt → Bool
all_fit ds names [] = true
all_fit ds names (a ∷ alts) = every (one_or_fit ds names a) alts && all_fit ds names alts

abbrev pub subordinate_mode : Mode → Bool
subordinate_mode mode.Subordinate = true
subordinate_mode _ = false

-- it isn't subordinate, and each of its fields may go to another actor
abbrev pub may_leave : List Decl → Names → Alt → Bool
may_leave ds names a = not (subordinate_mode a.mode) && every (λ f. if_known is_sendable (type_of names f.ty)) (trait_fields ds a.number)

abbrev pub add_trait : Option Alt → List Alt → List Alt
add_trait None alts = alts
add_trait (Some a) alts = a ∷ alts

-- the traits by these names, as far as there are any
abbrev pub traits_in : Names → List Name → List Alt
traits_in names [] = []
traits_in names (x ∷ xs) = add_trait (trait_named names x.word) (traits_in names xs)

abbrev pub alts_share : List Decl → Names → List Alt → Bool
alts_share ds names alts = every (may_leave ds names) alts && all_fit ds names alts

abbrev pub many_share : List Decl → Names → List Name → Bool
many_share ds names (x ∷ y ∷ xs) = alts_share ds names (traits_in names (x ∷ y ∷ xs))
many_share ds names _ = true

-- the group is one trait, or its traits may share a place
unfoldable pub may_share : List Decl → Names → GroupText → Bool
may_share ds names g = many_share ds names g.names
