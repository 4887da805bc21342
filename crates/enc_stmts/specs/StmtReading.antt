-- The parsers of statements and blocks, as functions from spots to outcomes.
use Rattle.std.specs.Prelude.{ℕ, zero, suc, List, Option}
use Rattle.enc_ast.specs.declared.rules.Span.{Span}
use Rattle.enc_lex.specs.declared.kinds.Kind.TheVariants as k
use Rattle.enc_ast.specs.declared.decls.Name.{Name}
use Rattle.enc_ast.specs.declared.stmts.Receiver.TheVariants as r
use Rattle.enc_ast.specs.declared.Stmt.{Stmt}
use Rattle.enc_ast.specs.declared.StmtForm.{StmtForm}
use Rattle.enc_ast.specs.declared.StmtForm.TheVariants as st
use Rattle.enc_cursor.specs.Counts.{word, variable, leave}
use Rattle.enc_cursor.specs.Limits.{Allowed}
use Rattle.enc_cursor.specs.Place.{is}
use Rattle.enc_cursor.specs.Steps.{Parser, ◌<$>◌, ◌>>=◌, ◌▹◌, ◌◃◌, ◌⊗◌, token, wrong, pick, optional, many, spanned, closed, but}
use Rattle.enc_cursor.specs.Counted.{opened, span_token}
use Rattle.enc_terms.specs.Names.{name_as}
use Rattle.enc_terms.specs.TypeReading.{cap}
use Rattle.enc_terms.specs.ExprReading.{whole, wholes, args}
use Rattle.enc_stmts.specs.Requests.{stmt_asked, action_stmt}
use Rattle.enc_stmts.specs.SourceReading.{sent, asked, source}
use Rattle.enc_stmts.specs.declared.requests.Request.TheVariants as requests
use Rattle.enc_stmts.specs.declared.requests.Action.{Action}
use Rattle.enc_stmts.specs.declared.requests.Action.TheVariants as actions

-- a form and its span
abbrev pub with_span : StmtForm × Span → Stmt
with_span x = record { form = x.0; span = x.1 }

unfoldable pub suspend_form : Parser StmtForm
suspend_form = (λ _. st.Suspend) <$> k.Suspend ▹ token k.Semicolon

unfoldable pub choose_form : List ℕ → Allowed → Parser StmtForm
choose_form text C = (λ x. st.Choose x.0 x.1.0 x.1.1) <$> k.Choose ▹ name_as word text C ⊗ k.As ▹ name_as word text C ⊗ k.Into ▹ name_as variable text C ◃ k.Semicolon

module _ (text : List ℕ) (C : Allowed) (room : ℕ) where
  unfoldable pub let_form : Parser StmtForm
  let_form = (λ x. st.Let x.0 x.1) <$> k.Let ▹ name_as variable text C ⊗ k.Assign ▹ source text C room ◃ k.Semicolon

  unfoldable pub name_form_after : Name → Parser StmtForm
  name_form_after x = pick (is k.Assign) (st.Assign x <$> k.Assign ▹ whole text C room) (stmt_asked (r.Name x) <$> asked text C room)

  unfoldable pub name_form : Parser StmtForm
  name_form = (name_as word text C >>= name_form_after) ◃ k.Semicolon

  -- what follows "this" and ".", and the name
  unfoldable pub field_action_after : Name → Parser Action
  field_action_after x = pick (is k.Assign) (actions.Store x <$> k.Assign ▹ whole text C room) ((λ xs. actions.Asked (requests.Call x xs)) <$> args text C room)

  unfoldable pub field_action : Parser Action
  field_action = k.Dot ▹ name_as word text C >>= field_action_after

  unfoldable pub this_action : Parser Action
  this_action = pick (is k.Dot) field_action (actions.Asked <$> sent text C room)

  unfoldable pub this_form : Parser StmtForm
  this_form = (λ x. action_stmt x.0 x.1) <$> span_token k.This ⊗ this_action ◃ k.Semicolon

  unfoldable pub split_form : Parser StmtForm
  split_form = (λ x. st.Split x.0 x.1.0 x.1.1.0 x.1.1.1.0 x.1.1.1.1)
      <$> k.Split ▹ name_as word text C ⊗ k.Into ▹ name_as variable text C ⊗ k.Colon ▹ cap text C room ⊗ k.Comma ▹ name_as variable text C ⊗ k.Colon ▹ cap text C room ◃ k.Semicolon

  unfoldable pub return_form : Parser StmtForm
  return_form = st.Return <$> k.Return ▹ whole text C room ◃ k.Semicolon

  unfoldable pub print_form : Parser StmtForm
  print_form = st.Print <$> k.Print ▹ wholes text C room ◃ k.Semicolon

  -- statements with no block in them
  unfoldable pub plain_form : Parser StmtForm
  plain_form = pick (is k.Let) let_form (pick (is k.Name) name_form (pick (is k.This) this_form (pick (is k.Split) split_form
      (pick (is k.Choose) (choose_form text C) (pick (is k.Return) return_form (pick (is k.Print) print_form suspend_form))))))

  -- inside reads the statements between the braces
  module _ (inside : Parser (List Stmt)) where
    unfoldable pub braced : Parser (List Stmt)
    braced = closed leave (opened room k.OpenBrace (inside ◃ k.CloseBrace))

    unfoldable pub else_part : Parser (Option (List Stmt))
    else_part = optional (is k.Else) (k.Else ▹ braced)

    unfoldable pub if_form : Parser StmtForm
    if_form = (λ x. st.If x.0 x.1.0 x.1.1) <$> k.If ▹ whole text C room ⊗ braced ⊗ else_part

    unfoldable pub while_form : Parser StmtForm
    while_form = (λ x. st.While x.0 x.1) <$> k.While ▹ whole text C room ⊗ braced

    unfoldable pub atomic_form : Parser StmtForm
    atomic_form = (λ x. st.Atomic x.0 x.1) <$> k.Atomic ▹ whole text C room ⊗ braced

    -- a new variable, which is visible in the block behind it
    unfoldable pub packed : Parser (Name × List Stmt)
    packed = closed leave (name_as variable text C ⊗ braced)

    unfoldable pub pack_form : Parser StmtForm
    pack_form = (λ x. st.Pack x.0 x.1.0 x.1.1.0.0 x.1.1.0.1 x.1.1.1) <$> k.Pack ▹ name_as word text C ⊗ k.And ▹ name_as word text C ⊗ k.Into ▹ packed ⊗ k.Else ▹ braced

    unfoldable pub stmt_form : Parser StmtForm
    stmt_form = pick (is k.If) if_form (pick (is k.While) while_form (pick (is k.Atomic) atomic_form (pick (is k.Pack) pack_form plain_form)))

    unfoldable pub stmt_with : Parser Stmt
    stmt_with = with_span <$> spanned stmt_form

-- Inside braces. Where none may be opened it is not asked.
unfoldable pub stmts_inside : List ℕ → Allowed → ℕ → Parser (List Stmt)
stmts_inside text C zero = wrong
stmts_inside text C (suc n) = many (but k.CloseBrace) (stmt_with text C n (stmts_inside text C n))

-- with so many brackets that may still be opened
abbrev pub stmt : List ℕ → Allowed → ℕ → Parser Stmt
stmt text C room = stmt_with text C room (stmts_inside text C room)

-- statements, up to a closing brace
abbrev pub stmts : List ℕ → Allowed → ℕ → Parser (List Stmt)
stmts text C room = many (but k.CloseBrace) (stmt text C room)

-- block = "{" { stmt } "}", at whose end its variables are visible no longer
abbrev pub block : List ℕ → Allowed → ℕ → Parser (List Stmt)
block text C room = braced text C room (stmts_inside text C room)
