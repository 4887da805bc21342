-- Names, before it is known which groups their classes have.
use Rattle.std.specs.Prelude.{ℕ, List, map, Option, None, option_map}
use Rattle.enc_ast.specs.declared.decls.Decl.{Decl}
use Rattle.enc_ast.specs.declared.decls.Decl.TheVariants.{Trait, Class, Active, Fun}
use Rattle.enc_ast.specs.declared.decls.GroupText.{GroupText}
use Rattle.enc_modes.specs.declared.ty.Alt.{Alt}
use Rattle.enc_modes.specs.Order.{Cap, in_order}
use Rattle.enc_types.specs.declared.names.Meaning.{Meaning}
use Rattle.enc_types.specs.declared.names.Meaning.TheVariants as is
use Rattle.enc_types.specs.declared.names.Named.{Named}
use Rattle.enc_types.specs.Words.{all_there}
use Rattle.enc_types.specs.Names.{Names, word_of, mode_by}

-- the groups, where each name is one of a trait
abbrev pub cap_by : (List ℕ → Option Alt) → List GroupText → Option Cap
cap_by traits gs = option_map in_order (all_there (λ g. all_there (λ n. traits n.word) g.names) gs)

-- what a declaration stands for where these are the traits
abbrev pub meaning_by : (List ℕ → Option Alt) → Decl → Meaning
meaning_by traits (Trait d) = is.Trait (mode_by d.mode)
meaning_by traits (Class d) = is.Class (cap_by traits d.groups)
meaning_by traits (Active d) = is.Active
meaning_by traits (Fun d) = is.Fun

-- a declaration by its name, where these are the traits
abbrev pub named_by : (List ℕ → Option Alt) → Decl → Named
named_by traits d = record { word = word_of d; is = meaning_by traits d }

-- what a declaration stands for, apart from the groups of a class
abbrev pub plain_meaning : Decl → Meaning
plain_meaning (Trait d) = is.Trait (mode_by d.mode)
plain_meaning (Class d) = is.Class None
plain_meaning (Active d) = is.Active
plain_meaning (Fun d) = is.Fun

-- a declaration by its name, apart from the groups of a class
abbrev pub plain_named : Decl → Named
plain_named d = record { word = word_of d; is = plain_meaning d }

-- what each declaration stands for, apart from the groups of classes
abbrev pub plain_names : List Decl → Names
plain_names ds = map plain_named ds
