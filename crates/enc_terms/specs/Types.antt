-- Types: which of them stand between two places. One case for each shape of an alternative.
-- The number is that of the brackets that are open around. Around the groups of a class there are none.
use Rattle.std.specs.Prelude.{◌≡◌, ℕ, suc, Bool, true, false, List, [], ◌∷◌}
use Rattle.enc_lex.specs.declared.kinds.Kind.TheVariants as k
use Rattle.enc_ast.specs.declared.decls.Name.{Name}
use Rattle.enc_ast.specs.declared.decls.GroupText.{GroupText}
use Rattle.enc_ast.specs.declared.TypeText.{TypeText}
use Rattle.enc_ast.specs.declared.TypeForm.{TypeForm}
use Rattle.enc_ast.specs.declared.TypeForm.TheVariants as ty
use Rattle.enc_cursor.specs.Counts.{plain, trait_, group_rules, end_groups, end_traits}
use Rattle.enc_cursor.specs.Place.{Place, extent}
use Rattle.enc_cursor.specs.Stretch.{Stretch, IsMarked, by_kind, IsToken, IsOpening, IsOpeningBy, Separated, Closed}
use Rattle.enc_terms.specs.Names.{IsNameAs}
use Rattle.enc_terms.specs.Words.{plain_type, wrapper, wrapped}
use Rattle.enc_terms.specs.declared.words.Wrapper.{Wrapper}

-- a group of these names that stands there
abbrev pub group_of : List Name → Place → Place → GroupText
group_of names a b = record { names = names; span = extent a b }

-- a type of this form that stands there
abbrev pub type_of : TypeForm → Place → Place → TypeText
type_of form a b = record { form = form; span = extent a b }

-- names with "or" between, which are counted as the traits of one disjunction
abbrev pub IsDisjunction : List ℕ → List Name → Stretch
IsDisjunction text = Closed end_traits (Separated k.Or (IsNameAs trait_ text))

-- group = NAME | "(" NAME "or" NAME { "or" NAME } ")", counted where it is one of a class
pub data IsGroup (text : List ℕ) (of_a_class : Bool) : ℕ → GroupText → Place → Place → Type 0 where
  single : {n : ℕ} {x : Name} {a b : Place} → IsNameAs (group_rules of_a_class).name text x a b → IsGroup text of_a_class n (group_of (x ∷ []) a b) a b
  several : {n : ℕ} {x y : Name} {xs : List Name} {a b : Place} (c : Place) {d : Place} → IsOpeningBy ((group_rules of_a_class).opener n) k.OpenParen tt a b → IsDisjunction text (x ∷ y ∷ xs) b c → IsToken k.CloseParen c d → IsGroup text of_a_class n (group_of (x ∷ y ∷ xs) a d) a d

-- the groups of a class
abbrev pub IsClassGroups : List ℕ → List GroupText → Stretch
IsClassGroups text = Closed end_groups (Separated k.And (IsGroup text true 0))

-- cap = group { "and" group }
abbrev pub IsCap : List ℕ → ℕ → TypeText → Stretch
IsCap text n x a b = (xs : List GroupText) × (type_of (ty.Cap xs) a b ≡ x) × Separated k.And (IsGroup text false n) xs a b

-- type = "int" | ... | cap
pub data IsType (text : List ℕ) : ℕ → TypeText → Place → Place → Type 0 where
  -- "int" | "bool" | "text" | "unit"
  simple : {n : ℕ} {form : TypeForm} {a b : Place} → IsMarked plain (by_kind plain_type) form a b → IsType text n (type_of form a b) a b
  -- ( "Fut" | "Par" | "List" | "Bestowed" ) "[" type "]"
  of_type : {n : ℕ} {w : Wrapper} {x : TypeText} {a b c d e : Place} → IsMarked plain (by_kind wrapper) w a b → IsOpening n k.OpenBracket b c → IsType text (suc n) x c d → IsToken k.CloseBracket d e → IsType text n (type_of (wrapped w x) a e) a e
  -- cap
  cap : {n : ℕ} {x : TypeText} {a b : Place} → IsCap text n x a b → IsType text n x a b
