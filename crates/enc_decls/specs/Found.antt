-- What was found of traits is true.
use Rattle.std.specs.Prelude.{◌≡◌, ℕ, Bool, true, List, Option, nat_eq, ◌&&◌, IfSome}
use Rattle.std.specs.HashMap as map
use Rattle.std.specs.HashSet as set
use Rattle.enc_ast.specs.declared.decls.Decl.{Decl}
use Rattle.enc_modes.specs.declared.ty.Alt.{Alt}
use Rattle.enc_modes.specs.Modes.{is_sendable}
use Rattle.enc_premises.specs.Premises.{if_known}
use Rattle.enc_types.specs.Words.{every}
use Rattle.enc_types.specs.Names.{Names}
use Rattle.enc_types.specs.Written.{type_of}
use Rattle.enc_decls.specs.Conflicts.{trait_fields, entries_of, fit}
use Rattle.enc_decls.specs.declared.traits.Found.{Found}
use Rattle.enc_decls.specs.declared.traits.Traits.{Traits}

-- each field of the trait may go to another actor
abbrev pub all_sendable : List Decl → Names → Alt → Bool
all_sendable ds names a = every (λ f. if_known is_sendable (type_of names f.ty)) (trait_fields ds a.number)

-- what was found of the trait with this number
abbrev pub found_of : Traits → ℕ → Option Found
found_of traits k = map.get_by (nat_eq k) traits.found

-- whether the traits with these numbers were found to fit
abbrev pub are_fitting : Traits → ℕ → ℕ → Bool
are_fitting traits k l = set.contains_by (λ p. nat_eq k p.0 && nat_eq l p.1) traits.fitting

-- Of each trait its own fields are kept, and whether all of them may be sent; and traits that were found to fit do.
pub record Right (ds : List Decl) (names : Names) (traits : Traits) : Type 0 where
  pub known : (a : Alt) → IfSome (found_of traits a.number) (λ found. (found.fields ≡ entries_of ds names a) × (found.may_be_sent ≡ all_sendable ds names a))
  pub fitting : (a b : Alt) → are_fitting traits a.number b.number ≡ true → fit ds names a b ≡ true
