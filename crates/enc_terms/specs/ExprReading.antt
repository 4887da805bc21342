-- How expressions are read, as functions from spots to outcomes.
use Rattle.std.specs.Prelude.{ℕ, zero, suc, pos, List, [], Option, Some, None}
use Rattle.enc_ast.specs.declared.rules.Span.{Span}
use Rattle.enc_ast.specs.declared.decls.Name.{Name}
use Rattle.enc_ast.specs.declared.Expr.{Expr}
use Rattle.enc_ast.specs.declared.ExprForm.{ExprForm}
use Rattle.enc_ast.specs.declared.ExprForm.TheVariants as e
use Rattle.enc_ast.specs.declared.Operator.{Operator}
use Rattle.enc_lex.specs.declared.kinds.Kind.TheVariants as k
use Rattle.enc_lex.specs.Values.{bytes_at, int_of, text_of}
use Rattle.enc_cursor.specs.Counts.{word, finish}
use Rattle.enc_cursor.specs.Limits.{Allowed}
use Rattle.enc_cursor.specs.Place.{is, start}
use Rattle.enc_cursor.specs.Steps.{Parser, Item, joined, join_any, ◌<$>◌, ◌>>=◌, ◌▹◌, ◌◃◌, ◌⊗◌, wrong, pick, optional, many, separated, spanned, closed, can, but}
use Rattle.enc_cursor.specs.Counted.{kind_token, span_token, opened, operator_of, level_after}
use Rattle.enc_terms.specs.Words.{or_word, and_word, comparison, sign, factor, prefix, prefixed, constant, typed, value_of_type, single, of_one, double, of_two}
use Rattle.enc_terms.specs.declared.words.Typed.{Typed}
use Rattle.enc_terms.specs.declared.words.Single.{Single}
use Rattle.enc_terms.specs.declared.words.Double.{Double}
use Rattle.enc_terms.specs.Names.{name_as}
use Rattle.enc_terms.specs.TypeReading.{type_inside}

-- ---- what is made of what was read

-- an expression of this form, with its span
abbrev pub with_span : ExprForm × Span → Expr
with_span x = record { form = x.0; span = x.1 }

-- the value of the variable with this name
abbrev pub named : Name → Expr
named n = record { form = e.Name n.word; span = n.span }

-- a "this" with this span
abbrev pub this_at : Span → Expr
this_at v = record { form = e.This; span = v }

-- an operator behind an expression that starts there
abbrev pub join : ℕ → Expr → Item Operator Expr → Expr
join from x i = record { form = e.Binary i.0.0 x i.0.1; span = record { start = from; end = i.1.end } }

-- the expressions, or none
abbrev pub any_of : {A : Type 0} → Option (List A) → List A
any_of None = []
any_of (Some xs) = xs

-- ---- all that may stand behind the first operand

abbrev pub Operators : Type 0
Operators = List (Item Operator Expr)

-- the operators of a sum behind its first operand
abbrev pub SumRest : Type 0
SumRest = Operators × Operators

-- the sum that they make
abbrev pub sum_of : ℕ → Expr → SumRest → Expr
sum_of from x r = joined join from (joined join from x r.0) r.1

-- the operators of a comparison behind its first operand
abbrev pub CompRest : Type 0
CompRest = SumRest × Option (Item Operator Expr)

-- the comparison that they make
abbrev pub comp_of : ℕ → Expr → CompRest → Expr
comp_of from x r = join_any join from (sum_of from x r.0) r.1

-- the same with "and"
abbrev pub ConjRest : Type 0
ConjRest = CompRest × Operators

-- the conjunction that they make
abbrev pub conj_of : ℕ → Expr → ConjRest → Expr
conj_of from x r = joined join from (comp_of from x r.0) r.1

-- all operators of an expression behind its first operand
abbrev pub Rest : Type 0
Rest = ConjRest × Operators

-- the expression that they make
abbrev pub whole_of : ℕ → Expr → Rest → Expr
whole_of from x r = joined join from (conj_of from x r.0) r.1

-- ---- atoms

-- INT
unfoldable pub int_form : List ℕ → Parser ExprForm
int_form text = (λ v. e.Int (pos (int_of (bytes_at text v)))) <$> span_token k.Int

-- TEXT
unfoldable pub quoted_form : List ℕ → Parser ExprForm
quoted_form text = (λ v. e.Text (text_of (bytes_at text v))) <$> span_token k.Text

-- the type behind a word that stands for a value of it, where so many brackets may still be opened
unfoldable pub typed_form : List ℕ → Allowed → ℕ → Typed → Parser ExprForm
typed_form text C room w = value_of_type w <$> opened room k.OpenBracket (type_inside text C room ◃ k.CloseBracket)

-- the elements of a list, which inner reads
unfoldable pub exprs : Parser Expr → Parser (List Expr)
exprs inner = separated k.Comma inner

-- inner reads an expression inside brackets, of which so many may still be opened
module _ (room : ℕ) (inner : Parser Expr) where
  -- an expression in brackets
  unfoldable pub parens_form : Parser ExprForm
  parens_form = e.Parens <$> opened room k.OpenParen (inner ◃ k.CloseParen)

  -- a list
  unfoldable pub list_form : Parser ExprForm
  list_form = e.List <$> opened room k.OpenBracket (exprs inner ◃ k.CloseBracket)

  -- the operand behind a word
  unfoldable pub single_form : Single → Parser ExprForm
  single_form w = of_one w <$> opened room k.OpenParen (inner ◃ k.CloseParen)

  -- the two operands behind a word
  unfoldable pub double_form : Double → Parser ExprForm
  double_form w = (λ x. of_two w x.0 x.1) <$> opened room k.OpenParen (inner ⊗ k.Comma ▹ inner ◃ k.CloseParen)

-- ---- the levels

module _ (text : List ℕ) (C : Allowed) (room : ℕ) (inner : Parser Expr) where
  -- an atom that begins with a word of its own
  unfoldable pub word_form : Parser ExprForm
  word_form =
      pick (can constant) (kind_token constant)
      (pick (can typed) (kind_token typed >>= typed_form text C room)
      (pick (can single) (kind_token single >>= single_form room inner)
      (pick (can double) (kind_token double >>= double_form room inner)
      wrong)))

  -- an atom that is neither a name nor "this"
  unfoldable pub other_atom_form : Parser ExprForm
  other_atom_form =
      pick (is k.Int) (int_form text)
      (pick (is k.Text) (quoted_form text)
      (pick (is k.OpenParen) (parens_form room inner)
      (pick (is k.OpenBracket) (list_form room inner)
      word_form)))

  -- the same with its span
  unfoldable pub other_atom : Parser Expr
  other_atom = with_span <$> spanned other_atom_form

  unfoldable pub atom : Parser Expr
  atom = pick (is k.Name) (named <$> name_as word text C) (pick (is k.This) (this_at <$> span_token k.This) other_atom)

  -- an operator, and its operand
  unfoldable pub prefixed_form : Parser ExprForm
  prefixed_form = (λ x. prefixed x.0 x.1) <$> operator_of C prefix ⊗ atom

  -- the same with its span
  unfoldable pub prefixed_atom : Parser Expr
  prefixed_atom = with_span <$> spanned prefixed_form

  unfoldable pub unary : Parser Expr
  unary = pick (can prefix) prefixed_atom atom

  -- one that begins with neither a name nor "this"
  unfoldable pub other_unary : Parser Expr
  other_unary = pick (can prefix) prefixed_atom other_atom

  -- what goes on with an operand of the level that starts there
  unfoldable pub term_after : ℕ → Expr → Parser Expr
  term_after from x = level_after join C factor unary from x

  unfoldable pub term : Parser Expr
  term = λ a. (unary >>= term_after (start a)) a

  unfoldable pub signs_after : ℕ → Expr → Parser Expr
  signs_after from x = level_after join C sign term from x

  unfoldable pub sum : Parser Expr
  sum = λ a. (term >>= signs_after (start a)) a

  unfoldable pub compared_after : ℕ → Expr → Parser Expr
  compared_after from x = join_any join from x <$> optional (can comparison) (spanned (operator_of C comparison ⊗ sum))

  unfoldable pub comp : Parser Expr
  comp = λ a. (sum >>= compared_after (start a)) a

  unfoldable pub ands_after : ℕ → Expr → Parser Expr
  ands_after from x = level_after join C and_word comp from x

  unfoldable pub conj : Parser Expr
  conj = λ a. (comp >>= ands_after (start a)) a

  unfoldable pub ors_after : ℕ → Expr → Parser Expr
  ors_after from x = level_after join C or_word conj from x

  unfoldable pub expr : Parser Expr
  expr = λ a. (conj >>= ors_after (start a)) a

  -- what goes on with the first operand of all, which starts there
  unfoldable pub expr_after : ℕ → Expr → Parser Expr
  expr_after from x = term_after from x >>= signs_after from >>= compared_after from >>= ands_after from >>= ors_after from

  unfoldable pub sum_rest : Parser SumRest
  sum_rest = many (can factor) (spanned (operator_of C factor ⊗ unary)) ⊗ many (can sign) (spanned (operator_of C sign ⊗ term))

  unfoldable pub comp_rest : Parser CompRest
  comp_rest = sum_rest ⊗ optional (can comparison) (spanned (operator_of C comparison ⊗ sum))

  unfoldable pub conj_rest : Parser ConjRest
  conj_rest = comp_rest ⊗ many (can and_word) (spanned (operator_of C and_word ⊗ comp))

  -- the same without the operand before
  unfoldable pub rest : Parser Rest
  rest = conj_rest ⊗ many (can or_word) (spanned (operator_of C or_word ⊗ conj))

-- An expression inside brackets. Where none may be opened it is not asked.
unfoldable pub expr_inside : List ℕ → Allowed → ℕ → Parser Expr
expr_inside text C zero = wrong
expr_inside text C (suc n) = expr text C n (expr_inside text C n)

-- ---- expressions that stand in no other one, of which so many brackets may still be opened

module _ (text : List ℕ) (C : Allowed) (room : ℕ) where
  unfoldable pub whole : Parser Expr
  whole = closed finish (expr text C room (expr_inside text C room))

  -- behind a first name or "this" that starts there
  unfoldable pub whole_after : ℕ → Expr → Parser Expr
  whole_after from x = closed finish (expr_after text C room (expr_inside text C room) from x)

  -- one that begins with neither a name nor "this"
  unfoldable pub other_whole : Parser Expr
  other_whole = λ a. (other_unary text C room (expr_inside text C room) >>= whole_after (start a)) a

  -- one or more, with commas between
  unfoldable pub wholes : Parser (List Expr)
  wholes = separated k.Comma whole

-- The same inside brackets. Where none may be opened it is not asked.
unfoldable pub wholes_inside : List ℕ → Allowed → ℕ → Parser (List Expr)
wholes_inside text C zero = wrong
wholes_inside text C (suc n) = wholes text C n

module _ (text : List ℕ) (C : Allowed) (room : ℕ) where
  -- the same, or none
  unfoldable pub any_wholes : Parser (List Expr)
  any_wholes = any_of <$> optional (but k.CloseParen) (wholes_inside text C room)

  -- arguments
  unfoldable pub args : Parser (List Expr)
  args = opened room k.OpenParen (any_wholes ◃ k.CloseParen)
