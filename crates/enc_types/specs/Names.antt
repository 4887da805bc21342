-- What the names of declarations stand for.
use Rattle.std.specs.Prelude.{ℕ, List, map, Option, Some, None, option_map, option_and_then, slice_get}
use Rattle.enc_ast.specs.declared.decls.Decl.{Decl}
use Rattle.enc_ast.specs.declared.decls.Decl.TheVariants.{Trait, Class, Active, Fun}
use Rattle.enc_ast.specs.declared.decls.ModeWord.{ModeWord}
use Rattle.enc_ast.specs.declared.decls.ModeWord.TheVariants as word
use Rattle.enc_ast.specs.declared.decls.ClassDecl.{ClassDecl}
use Rattle.enc_ast.specs.declared.decls.GroupText.{GroupText}
use Rattle.enc_modes.specs.declared.ty.Alt.{Alt}
use Rattle.enc_modes.specs.declared.ty.Mode.{Mode}
use Rattle.enc_modes.specs.declared.ty.Mode.TheVariants as mode
use Rattle.enc_modes.specs.Order.{Group, Cap, in_order}
use Rattle.enc_types.specs.declared.names.Meaning.{Meaning}
use Rattle.enc_types.specs.declared.names.Meaning.TheVariants as is
use Rattle.enc_types.specs.declared.names.Named.{Named}
use Rattle.enc_types.specs.Words.{place_in, all_there}

-- ---- declarations

-- the name of a declaration
abbrev pub word_of : Decl → List ℕ
word_of (Trait d) = d.name.word
word_of (Class d) = d.name.word
word_of (Active d) = d.name.word
word_of (Fun d) = d.name.word

-- the mode that a word says
abbrev pub mode_by : ModeWord → Mode
mode_by word.Linear = mode.Linear
mode_by word.Local = mode.Local
mode_by word.Read = mode.Read
mode_by word.Subordinate = mode.Subordinate

-- the trait that the declaration of this number is
abbrev pub alt_by : ℕ → Option Decl → Option Alt
alt_by k None = None
alt_by k (Some (Trait d)) = Some (record { number = k; mode = mode_by d.mode })
alt_by k (Some (Class d)) = None
alt_by k (Some (Active d)) = None
alt_by k (Some (Fun d)) = None

-- the trait of this name, if the first declaration of the name is a trait
abbrev pub trait_of : List Decl → List ℕ → Option Alt
trait_of ds x = option_and_then (λ k. alt_by k (slice_get ds k)) (place_in (map word_of ds) x)

-- the traits of a group, where each name is one of a trait
abbrev pub group_of : List Decl → GroupText → Option Group
group_of ds g = all_there (λ n. trait_of ds n.word) g.names

-- the groups of a class, where each name is one of a trait
abbrev pub groups_of : List Decl → ClassDecl → Option Cap
groups_of ds c = option_map in_order (all_there (group_of ds) c.groups)

-- what a declaration stands for among these
abbrev pub meaning_of : List Decl → Decl → Meaning
meaning_of ds (Trait d) = is.Trait (mode_by d.mode)
meaning_of ds (Class d) = is.Class (groups_of ds d)
meaning_of ds (Active d) = is.Active
meaning_of ds (Fun d) = is.Fun

-- what each declaration stands for
unfoldable pub names_of : List Decl → List Named
names_of ds = map (λ d. record { word = word_of d; is = meaning_of ds d }) ds

-- ---- look-ups

-- what each declaration of a program stands for
abbrev pub Names : Type 0
Names = List Named

-- the number of the first declaration of this name
unfoldable pub number_of : Names → List ℕ → Option ℕ
number_of names x = place_in (map (λ n. n.word) names) x

-- the number and the meaning of what is declared there
abbrev pub found_at : Names → ℕ → Option (ℕ × Meaning)
found_at names k = option_map (λ n. (k, n.is)) (slice_get names k)

-- the number and the meaning of the first declaration of this name
unfoldable pub found : Names → List ℕ → Option (ℕ × Meaning)
found names x = option_and_then (found_at names) (number_of names x)

-- the trait that a name stands for
abbrev pub alt_in : ℕ × Meaning → Option Alt
alt_in (k, is.Trait m) = Some (record { number = k; mode = m })
alt_in (k, is.Class c) = None
alt_in (k, is.Active) = None
alt_in (k, is.Fun) = None

-- the trait of this name
unfoldable pub trait_named : Names → List ℕ → Option Alt
trait_named names x = option_and_then alt_in (found names x)
