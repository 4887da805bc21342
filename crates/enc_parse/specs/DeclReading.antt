-- The parsers of declarations, as functions from spots to outcomes.
use Rattle.std.specs.Prelude.{ℕ, zero, suc, List, [], Option, Some, None}
use Rattle.enc_ast.specs.declared.rules.Span.{Span}
use Rattle.enc_lex.specs.declared.kinds.Kind.{Kind}
use Rattle.enc_lex.specs.declared.kinds.Kind.TheVariants as k
use Rattle.enc_ast.specs.declared.decls.Name.{Name}
use Rattle.enc_ast.specs.declared.decls.ModeWord.{ModeWord}
use Rattle.enc_ast.specs.declared.decls.GroupText.{GroupText}
use Rattle.enc_ast.specs.declared.decls.Field.{Field}
use Rattle.enc_ast.specs.declared.decls.Param.{Param}
use Rattle.enc_ast.specs.declared.decls.Method.{Method}
use Rattle.enc_ast.specs.declared.decls.Decl.{Decl}
use Rattle.enc_ast.specs.declared.decls.Decl.TheVariants as decl
use Rattle.enc_ast.specs.declared.TypeText.{TypeText}
use Rattle.enc_ast.specs.declared.Stmt.{Stmt}
use Rattle.enc_cursor.specs.Counts.{variable, declared, leave}
use Rattle.enc_cursor.specs.Limits.{Allowed}
use Rattle.enc_cursor.specs.Place.{is}
use Rattle.enc_cursor.specs.Steps.{Parser, wrong, pick, optional, many, separated, spanned, closed, can, but, some, ◌<$>◌, ◌▹◌, ◌◃◌, ◌⊗◌}
use Rattle.enc_cursor.specs.Counted.{kind_token, opened}
use Rattle.enc_terms.specs.Names.{name_as}
use Rattle.enc_terms.specs.TypeReading.{class_groups, type_text, type_inside}
use Rattle.enc_stmts.specs.StmtReading.{block}
use Rattle.enc_parse.specs.Decls.{mode}

-- what is there, or nothing
abbrev pub any_of : {A : Type 0} → Option (List A) → List A
any_of None = []
any_of (Some xs) = xs

-- ---- fields and parameters

-- a field of these parts
abbrev pub field_of : (Name × TypeText) × Span → Field
field_of x = record { name = x.0.0; ty = x.0.1; span = x.1 }

-- a field
unfoldable pub field : List ℕ → Allowed → ℕ → Parser Field
field text C room = field_of <$> spanned (name_as declared text C ⊗ k.Colon ▹ type_text text C room ◃ k.Semicolon)

-- as many fields as there are
unfoldable pub fields : List ℕ → Allowed → ℕ → Parser (List Field)
fields text C room = many (is k.Name) (field text C room)

-- a parameter of these parts
abbrev pub param_of : (Name × TypeText) × Span → Param
param_of x = record { name = x.0.0; ty = x.0.1; span = x.1 }

-- a parameter, which stands inside brackets
unfoldable pub param : List ℕ → Allowed → ℕ → Parser Param
param text C room = param_of <$> spanned (name_as variable text C ⊗ k.Colon ▹ type_inside text C room)

-- one or more parameters
unfoldable pub params : List ℕ → Allowed → ℕ → Parser (List Param)
params text C room = separated k.Comma (param text C room)

-- parameters, or none
unfoldable pub any_params : List ℕ → Allowed → ℕ → Parser (List Param)
any_params text C room = any_of <$> optional (but k.CloseParen) (params text C room)

-- parameters within brackets
unfoldable pub param_list : List ℕ → Allowed → ℕ → Parser (List Param)
param_list text C room = opened room k.OpenParen (any_params text C room ◃ k.CloseParen)

-- ---- methods and functions

-- the parts of a method or a function
abbrev pub RoutineParts : Type 0
RoutineParts = Name × (List Param × (TypeText × List Stmt))

-- a method or a function of these parts
abbrev pub routine_of : RoutineParts × Span → Method
routine_of x = record { name = x.0.0; params = x.0.1.0; result = x.0.1.1.0; body = x.0.1.1.1; span = x.1 }

-- what a method or a function consists of
unfoldable pub routine_parts : List ℕ → Allowed → Kind → ℕ → Parser RoutineParts
routine_parts text C word room = word ▹ name_as declared text C ⊗ param_list text C room ⊗ k.Colon ▹ type_text text C room ⊗ block text C room

-- a method or a function, which begins with the word
unfoldable pub routine : List ℕ → Allowed → Kind → ℕ → Parser Method
routine text C word room = closed leave (routine_of <$> spanned (routine_parts text C word room))

-- as many methods as there are
unfoldable pub methods : List ℕ → Allowed → ℕ → Parser (List Method)
methods text C room = many (is k.Def) (routine text C k.Def room)

-- ---- members

-- the fields and the methods of a declaration
abbrev pub Members : Type 0
Members = List Field × List Method

-- members behind the opening brace
unfoldable pub members_below : List ℕ → Allowed → ℕ → Parser Members
members_below text C room = fields text C room ⊗ methods text C room

-- Inside braces. Where none may be opened it is not asked.
unfoldable pub members_inside : List ℕ → Allowed → ℕ → Parser Members
members_inside text C zero = wrong
members_inside text C (suc n) = members_below text C n

-- members within braces
unfoldable pub members : List ℕ → Allowed → ℕ → Parser Members
members text C room = opened room k.OpenBrace (members_inside text C room ◃ k.CloseBrace)

-- ---- declarations

-- a trait of these parts
abbrev pub trait_of : (ModeWord × (Name × Members)) × Span → Decl
trait_of x = decl.Trait (record { mode = x.0.0; name = x.0.1.0; fields = x.0.1.1.0; methods = x.0.1.1.1; span = x.1 })

-- a trait
unfoldable pub trait_decl : List ℕ → Allowed → ℕ → Parser Decl
trait_decl text C room = trait_of <$> spanned (kind_token mode ⊗ k.Trait ▹ name_as declared text C ⊗ members text C room)

-- a class of passive objects of these parts
abbrev pub class_of : (Name × List GroupText) × Span → Decl
class_of x = decl.Class (record { name = x.0.0; groups = x.0.1; span = x.1 })

-- a class of passive objects
unfoldable pub class_decl : List ℕ → Allowed → ℕ → Parser Decl
class_decl text C room = class_of <$> spanned (k.Class ▹ name_as declared text C ⊗ k.Assign ▹ class_groups text C room ◃ k.Semicolon)

-- an active class of these parts
abbrev pub active_of : (Name × Members) × Span → Decl
active_of x = decl.Active (record { name = x.0.0; fields = x.0.1.0; methods = x.0.1.1; span = x.1 })

-- an active class
unfoldable pub active_decl : List ℕ → Allowed → ℕ → Parser Decl
active_decl text C room = active_of <$> spanned (k.Active ▹ k.Class ▹ name_as declared text C ⊗ members text C room)

-- a function
unfoldable pub fun_decl : List ℕ → Allowed → ℕ → Parser Decl
fun_decl text C room = decl.Fun <$> routine text C k.Fun room

-- any declaration
unfoldable pub declaration : List ℕ → Allowed → ℕ → Parser Decl
declaration text C room =
    pick (can mode) (trait_decl text C room)
    (pick (is k.Class) (class_decl text C room)
    (pick (is k.Active) (active_decl text C room)
    (pick (is k.Fun) (fun_decl text C room)
    wrong)))

-- all the declarations of a text
unfoldable pub declarations : List ℕ → Allowed → ℕ → Parser (List Decl)
declarations text C room = many some (declaration text C room)
