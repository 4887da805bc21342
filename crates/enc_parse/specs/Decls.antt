-- Declarations: which of them stand between two places. One case for each shape of an alternative.
-- The number is that of the brackets that are open around.
use Rattle.std.specs.Prelude.{◌≡◌, ℕ, suc, List, [], ◌∷◌, Option, Some, None}
use Rattle.enc_lex.specs.declared.kinds.Kind.{Kind}
use Rattle.enc_lex.specs.declared.kinds.Kind.TheVariants as k
use Rattle.enc_ast.specs.declared.decls.Name.{Name}
use Rattle.enc_ast.specs.declared.decls.ModeWord.{ModeWord}
use Rattle.enc_ast.specs.declared.decls.ModeWord.TheVariants as modes
use Rattle.enc_ast.specs.declared.decls.GroupText.{GroupText}
use Rattle.enc_ast.specs.declared.decls.Field.{Field}
use Rattle.enc_ast.specs.declared.decls.Param.{Param}
use Rattle.enc_ast.specs.declared.decls.Method.{Method}
use Rattle.enc_ast.specs.declared.decls.Decl.{Decl}
use Rattle.enc_ast.specs.declared.decls.Decl.TheVariants as decl
use Rattle.enc_ast.specs.declared.TypeText.{TypeText}
use Rattle.enc_ast.specs.declared.Stmt.{Stmt}
use Rattle.enc_cursor.specs.Counts.{plain, variable, declared}
use Rattle.enc_cursor.specs.Place.{Place, extent}
use Rattle.enc_cursor.specs.Stretch.{Stretch, IsMarked, by_kind, IsToken, IsOpening, Each, Separated}
use Rattle.enc_terms.specs.Names.{IsNameAs}
use Rattle.enc_terms.specs.Types.{IsType, IsClassGroups}
use Rattle.enc_stmts.specs.Stmts.{IsBlock, left}

-- mode = "linear" | "local" | "read" | "subordinate"
abbrev pub mode : Kind → Option ModeWord
mode k.Linear = Some modes.Linear
mode k.Local = Some modes.Local
mode k.Read = Some modes.Read
mode k.Subordinate = Some modes.Subordinate
mode _ = None

-- field = NAME ":" type ";"
abbrev pub IsField : List ℕ → ℕ → Field → Stretch
IsField text n x a f = (b c d : Place) × IsNameAs declared text x.name a b × IsToken k.Colon b c × IsType text n x.ty c d × IsToken k.Semicolon d f × (x.span ≡ extent a f)

-- NAME ":" type
abbrev pub IsParam : List ℕ → ℕ → Param → Stretch
IsParam text n x a d = (b c : Place) × IsNameAs variable text x.name a b × IsToken k.Colon b c × IsType text n x.ty c d × (x.span ≡ extent a d)

-- [ params ], where params = NAME ":" type { "," NAME ":" type }
abbrev pub IsParams : List ℕ → ℕ → List Param → Stretch
IsParams text n [] a b = a ≡ b
IsParams text n (x ∷ xs) a b = Separated k.Comma (IsParam text n) (x ∷ xs) a b

-- a method or a function of these parts that stands there
abbrev pub method_of : Name → List Param → TypeText → List Stmt → Place → Place → Method
method_of x ps t xs a b = record { name = x; params = ps; result = t; body = xs; span = extent a b }

-- word NAME "(" [ params ] ")" ":" type block, at whose end the parameters are visible no longer
pub data IsRoutine (text : List ℕ) (word : Kind) : ℕ → Method → Place → Place → Type 0 where
  routine : {n : ℕ} {x : Name} {ps : List Param} {t : TypeText} {xs : List Stmt} {a b c d : Place} (f : Place) {g h i j l : Place} → IsToken word a b → IsNameAs declared text x b c → IsOpening n k.OpenParen c d → IsParams text (suc n) ps d f → IsToken k.CloseParen f g → IsToken k.Colon g h → IsType text n t h i → IsBlock text n xs i j → l ≡ left a j → IsRoutine text word n (method_of x ps t xs a j) a l

-- "{" { field } { method } "}"
abbrev pub IsMembers : List ℕ → List Field → List Method → Stretch
IsMembers text fs ms a f = (b c d : Place) × IsOpening 0 k.OpenBrace a b × Each (IsField text 1) fs b c × Each (IsRoutine text k.Def 1) ms c d × IsToken k.CloseBrace d f

-- decl = mode "trait" ... | "fun" NAME ... block
pub data IsDecl (text : List ℕ) : Decl → Place → Place → Type 0 where
  -- mode "trait" NAME "{" { field } { method } "}"
  trait_ : {m : ModeWord} {x : Name} {fs : List Field} {ms : List Method} {a b c d f : Place} → IsMarked plain (by_kind mode) m a b → IsToken k.Trait b c → IsNameAs declared text x c d → IsMembers text fs ms d f → IsDecl text (decl.Trait (record { mode = m; name = x; fields = fs; methods = ms; span = extent a f })) a f
  -- "class" NAME "=" cap ";"
  class : {x : Name} {gs : List GroupText} {a b c d f g : Place} → IsToken k.Class a b → IsNameAs declared text x b c → IsToken k.Assign c d → IsClassGroups text gs d f → IsToken k.Semicolon f g → IsDecl text (decl.Class (record { name = x; groups = gs; span = extent a g })) a g
  -- "active" "class" NAME "{" { field } { method } "}"
  active : {x : Name} {fs : List Field} {ms : List Method} {a b c d f : Place} → IsToken k.Active a b → IsToken k.Class b c → IsNameAs declared text x c d → IsMembers text fs ms d f → IsDecl text (decl.Active (record { name = x; fields = fs; methods = ms; span = extent a f })) a f
  -- "fun" NAME "(" [ params ] ")" ":" type block
  fun : {m : Method} {a b : Place} → IsRoutine text k.Fun 0 m a b → IsDecl text (decl.Fun m) a b

-- the declarations of a whole text
abbrev pub IsProgram : List ℕ → List Decl → Stretch
IsProgram text = Each (IsDecl text)
