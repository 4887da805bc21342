-- The parsers of what new variables are bound to, as functions from spots to outcomes.
use Rattle.std.specs.Prelude.{◌||◌, ℕ, List, Option}
use Rattle.enc_ast.specs.declared.rules.Span.{Span}
use Rattle.enc_lex.specs.declared.kinds.Kind.TheVariants as k
use Rattle.enc_ast.specs.declared.decls.Name.{Name}
use Rattle.enc_ast.specs.declared.Expr.{Expr}
use Rattle.enc_ast.specs.declared.stmts.Receiver.TheVariants as r
use Rattle.enc_ast.specs.declared.sources.Source.{Source}
use Rattle.enc_ast.specs.declared.sources.SourceForm.{SourceForm}
use Rattle.enc_ast.specs.declared.sources.SourceForm.TheVariants as s
use Rattle.enc_cursor.specs.Counts.{word}
use Rattle.enc_cursor.specs.Limits.{Allowed}
use Rattle.enc_cursor.specs.Place.{is}
use Rattle.enc_cursor.specs.Steps.{Parser, Set, ◌<$>◌, ◌>>=◌, ◌▹◌, ◌⊗◌, pick, optional, spanned, can}
use Rattle.enc_cursor.specs.Counted.{kind_token, span_token}
use Rattle.enc_terms.specs.Names.{name_as}
use Rattle.enc_terms.specs.ExprReading.{whole, whole_after, other_whole, args, named, this_at}
use Rattle.enc_stmts.specs.Words.{single, of_one, double, of_two, applied, of_function}
use Rattle.enc_stmts.specs.Requests.{source_asked, member_of, member_source}
use Rattle.enc_stmts.specs.declared.requests.Request.{Request}
use Rattle.enc_stmts.specs.declared.requests.Request.TheVariants as requests
use Rattle.enc_stmts.specs.declared.requests.Member.{Member}
use Rattle.enc_stmts.specs.declared.requests.Member.TheVariants as members

-- what goes on with a receiver
abbrev pub asks : Set
asks l = is k.Dot l || is k.Bang l

-- a form and its span
abbrev pub with_span : SourceForm × Span → Source
with_span x = record { form = x.0; span = x.1 }

module _ (text : List ℕ) (C : Allowed) where
  unfoldable pub take_source : Parser SourceForm
  take_source = (λ x. s.Take x.0 x.1) <$> k.Take ▹ span_token k.This ⊗ k.Dot ▹ name_as word text C

  unfoldable pub new_source : Parser SourceForm
  new_source = s.New <$> k.New ▹ name_as word text C

module _ (text : List ℕ) (C : Allowed) (room : ℕ) where
  -- NAME args
  unfoldable pub message : Parser (Name × List Expr)
  message = name_as word text C ⊗ args text C room

  -- "!" NAME args
  unfoldable pub sent : Parser Request
  sent = (λ x. requests.Send x.0 x.1) <$> k.Bang ▹ message

  -- "." NAME args, or "!" NAME args
  unfoldable pub asked : Parser Request
  asked = pick (is k.Dot) ((λ x. requests.Call x.0 x.1) <$> k.Dot ▹ message) sent

  unfoldable pub any_args : Parser (Option (List Expr))
  any_args = optional (is k.OpenParen) (args text C room)

  -- "." NAME, and arguments if there are any
  unfoldable pub field_or_call : Parser Member
  field_or_call = (λ x. member_of x.0 x.1) <$> k.Dot ▹ name_as word text C ⊗ any_args

  unfoldable pub this_member : Parser Member
  this_member = pick (is k.Dot) field_or_call (members.Asked <$> sent)

  unfoldable pub name_source_after : Name → Parser SourceForm
  name_source_after x = pick asks (source_asked (r.Name x) <$> asked) (s.Expr <$> whole_after text C room x.span.start (named x))

  unfoldable pub name_source : Parser SourceForm
  name_source = name_as word text C >>= name_source_after

  unfoldable pub this_source_after : Span → Parser SourceForm
  this_source_after v = pick asks (member_source v <$> this_member) (s.Expr <$> whole_after text C room v.start (this_at v))

  unfoldable pub this_source : Parser SourceForm
  this_source = span_token k.This >>= this_source_after

  unfoldable pub lifted : Parser SourceForm
  lifted = pick (is k.Future) (s.LiftFuture <$> k.Future ▹ whole text C room) (s.Lift <$> whole text C room)

  unfoldable pub lift_source : Parser SourceForm
  lift_source = k.Lift ▹ lifted

  unfoldable pub single_source : Parser SourceForm
  single_source = (λ x. of_one x.0 x.1) <$> kind_token single ⊗ whole text C room

  unfoldable pub double_source : Parser SourceForm
  double_source = (λ x. of_two x.0 x.1.0 x.1.1) <$> kind_token double ⊗ whole text C room ⊗ k.Comma ▹ whole text C room

  unfoldable pub applied_source : Parser SourceForm
  applied_source = (λ x. of_function x.0 x.1.0 x.1.1.0 x.1.1.1) <$> kind_token applied ⊗ whole text C room ⊗ k.With ▹ message

  -- what begins with a word of the tables, or is another expression
  unfoldable pub worded_source : Parser SourceForm
  worded_source = pick (can single) single_source (pick (can double) double_source (pick (can applied) applied_source (s.Expr <$> other_whole text C room)))

  -- what begins with neither a name nor "this"
  unfoldable pub other_source : Parser SourceForm
  other_source = pick (is k.Take) (take_source text C) (pick (is k.New) (new_source text C) (pick (is k.Lift) lift_source worded_source))

  unfoldable pub source_form : Parser SourceForm
  source_form = pick (is k.Name) name_source (pick (is k.This) this_source other_source)

  unfoldable pub source : Parser Source
  source = with_span <$> spanned source_form
