-- The parsers of statements with no block in them are lawful.
use Rattle.std.proofs.Common.{◌≡◌, ℕ, ◌+◌, List, refl, ap, subst, ◌∙◌, inl, inr}
use Rattle.enc_ast.specs.declared.rules.Span.{Span}
use Rattle.enc_lex.specs.declared.kinds.Kind.TheVariants as k
use Rattle.enc_ast.specs.declared.decls.Name.{Name}
use Rattle.enc_ast.specs.declared.Expr.{Expr}
use Rattle.enc_ast.specs.declared.stmts.Receiver.{Receiver}
use Rattle.enc_ast.specs.declared.stmts.Receiver.TheVariants as r
use Rattle.enc_ast.specs.declared.StmtForm.{StmtForm}
use Rattle.enc_ast.specs.declared.StmtForm.TheVariants as st
use Rattle.enc_cursor.specs.Counts.{word, variable}
use Rattle.enc_cursor.specs.Limits.{Limits}
use Rattle.enc_cursor.specs.Place.{Spot, Place, is}
use Rattle.enc_cursor.specs.Stretch.{Stretch, IsToken, IsSpan, After, Before}
use Rattle.enc_cursor.specs.Steps.{◌<$>◌, ◌>>=◌, ◌▹◌, ◌⊗◌, pick}
use Rattle.enc_cursor.proofs.Lawful.{Lawful, none_of, with_sets, law_of_same}
use Rattle.enc_cursor.proofs.Tokens.{IsTokenOf, token_lawful, span_token_lawful}
use Rattle.enc_cursor.proofs.Same.{then_same, either_of, parted}
use Rattle.enc_cursor.proofs.Sets.{clear, within}
use Rattle.enc_cursor.proofs.Words.{Pair, Image, Union, pair_lawful, after_lawful, before_lawful, image_lawful, union_lawful}
use Rattle.enc_terms.specs.Names.{IsNameAs}
use Rattle.enc_terms.specs.Types.{IsCap}
use Rattle.enc_terms.specs.Exprs.{IsWhole, IsWholes, IsArgs}
use Rattle.enc_terms.specs.Sets.{extends_expr}
use Rattle.enc_terms.specs.Names.{name_as}
use Rattle.enc_terms.specs.ExprReading.{whole, args}
use Rattle.enc_stmts.specs.Requests.{stmt_asked, action_stmt}
use Rattle.enc_stmts.specs.Sources as sources
use Rattle.enc_stmts.specs.Sources.{IsReceiver, IsSource}
use Rattle.enc_stmts.specs.Stmts as g
use Rattle.enc_stmts.specs.Stmts.{IsStmt, stmt_of}
use Rattle.enc_stmts.specs.Sets.{begins_plain}
use Rattle.enc_stmts.specs.SourceReading.{asks, asked}
use Rattle.enc_stmts.specs.StmtReading.{let_form, name_form_after, name_form, field_action_after, field_action, this_action, this_form, split_form, choose_form, return_form, print_form, suspend_form, plain_form}
use Rattle.enc_stmts.specs.declared.requests.Request.{Request}
use Rattle.enc_stmts.specs.declared.requests.Request.TheVariants as requests
use Rattle.enc_stmts.specs.declared.requests.Action.{Action}
use Rattle.enc_stmts.specs.declared.requests.Action.TheVariants as actions
use Rattle.enc_terms.proofs.NameLaws.{word_law, variable_law}
use Rattle.enc_terms.proofs.TypeLaws.{cap_law}
use Rattle.enc_terms.proofs.ExprWholes.{whole_law, wholes_law, args_law}
use Rattle.enc_stmts.proofs.SourceLaws.{SentOf, AskedOf, sent_law, asked_law, source_law}

-- ---- the forms of statements

abbrev LetForm : List ℕ → ℕ → StmtForm → Stretch
LetForm text n = Image (λ x. st.Let x.0 x.1) (After k.Let (Pair (IsNameAs variable text) (After k.Assign (Before k.Semicolon (IsSource text n)))))

-- what is asked of a variable
abbrev asked_by : Name → Request → StmtForm
asked_by x q = stmt_asked (r.Name x) q

abbrev NameForm : List ℕ → ℕ → StmtForm → Stretch
NameForm text n = Before k.Semicolon (Image (λ x. either_of st.Assign asked_by x.0 x.1) (Pair (IsNameAs word text) (Union (Image inl (After k.Assign (IsWhole text n))) (Image inr (AskedOf text n)))))

-- a call of a method of "this"
abbrev called : Name → List Expr → Action
called x xs = actions.Asked (requests.Call x xs)

abbrev FieldAction : List ℕ → ℕ → Action → Stretch
FieldAction text n = Image (λ x. either_of actions.Store called x.0 x.1) (Pair (After k.Dot (IsNameAs word text)) (Union (Image inl (After k.Assign (IsWhole text n))) (Image inr (IsArgs text n))))

abbrev ActionOf : List ℕ → ℕ → Action → Stretch
ActionOf text n = Union (FieldAction text n) (Image actions.Asked (SentOf text n))

abbrev ThisForm : List ℕ → ℕ → StmtForm → Stretch
ThisForm text n = Image (λ x. action_stmt x.0 x.1) (Pair (IsSpan k.This) (Before k.Semicolon (ActionOf text n)))

abbrev SplitForm : List ℕ → ℕ → StmtForm → Stretch
SplitForm text n = Image (λ x. st.Split x.0 x.1.0 x.1.1.0 x.1.1.1.0 x.1.1.1.1) (After k.Split (Pair (IsNameAs word text) (After k.Into (Pair (IsNameAs variable text) (After k.Colon (Pair (IsCap text n)
    (After k.Comma (Pair (IsNameAs variable text) (After k.Colon (Before k.Semicolon (IsCap text n)))))))))))

abbrev ChooseForm : List ℕ → StmtForm → Stretch
ChooseForm text = Image (λ x. st.Choose x.0 x.1.0 x.1.1) (After k.Choose (Pair (IsNameAs word text) (After k.As (Pair (IsNameAs word text) (After k.Into (Before k.Semicolon (IsNameAs variable text)))))))

abbrev ReturnForm : List ℕ → ℕ → StmtForm → Stretch
ReturnForm text n = Image st.Return (After k.Return (Before k.Semicolon (IsWhole text n)))

abbrev PrintForm : List ℕ → ℕ → StmtForm → Stretch
PrintForm text n = Image st.Print (After k.Print (Before k.Semicolon (IsWholes text n)))

abbrev SuspendForm : StmtForm → Stretch
SuspendForm = Image (λ _. st.Suspend) (After k.Suspend (IsTokenOf k.Semicolon))

-- a statement with no block in it
abbrev pub PlainForm : List ℕ → ℕ → StmtForm → Stretch
PlainForm text n = Union (LetForm text n) (Union (NameForm text n) (Union (ThisForm text n) (Union (SplitForm text n) (Union (ChooseForm text) (Union (ReturnForm text n) (Union (PrintForm text n) SuspendForm))))))

-- ---- the forms make statements

module _ (text : List ℕ) where
  sent_made : (n : ℕ) (to : Receiver) (q : Request) (a c b d : Place) → IsReceiver text to a c → SentOf text n q c b → IsToken k.Semicolon b d → IsStmt text n (stmt_of (stmt_asked to q) a d) a d
  sent_made n to q a c b d v (x, e, (f, t, (i, u, w))) z = subst (λ (q : Request). IsStmt text n (stmt_of (stmt_asked to q) a d) a d) e (g.send v t u w z)

  asked_made : (n : ℕ) (to : Receiver) (q : Request) (a c b d : Place) → IsReceiver text to a c → AskedOf text n q c b → IsToken k.Semicolon b d → IsStmt text n (stmt_of (stmt_asked to q) a d) a d
  asked_made n to q a c b d v (inl (x, e, (f, t, (i, u, w)))) z = subst (λ (q : Request). IsStmt text n (stmt_of (stmt_asked to q) a d) a d) e (g.call v t u w z)
  asked_made n to q a c b d v (inr h) z = sent_made n to q a c b d v h z

  action_made : (n : ℕ) (v : Span) (q : Action) (a c b d : Place) → IsSpan k.This v a c → ActionOf text n q c b → IsToken k.Semicolon b d → IsStmt text n (stmt_of (action_stmt v q) a d) a d
  action_made n v q a c b d h (inl ((x, y), e, (f, (i, t, u), inl (o, e2, (j, w, z))))) s = subst (λ (q : Action). IsStmt text n (stmt_of (action_stmt v q) a d) a d) (ap (either_of actions.Store called x) e2 ∙ e) (g.store h t u w z s)
  action_made n v q a c b d h (inl ((x, y), e, (f, (i, t, u), inr (xs, e2, w)))) s = subst (λ (q : Action). IsStmt text n (stmt_of (action_stmt v q) a d) a d) (ap (either_of actions.Store called x) e2 ∙ e) (g.call (sources.this h) t u w s)
  action_made n v q a c b d h (inr (x, e, t)) s = subst (λ (q : Action). IsStmt text n (stmt_of (action_stmt v q) a d) a d) e (sent_made n (r.This v) x a c b d (sources.this h) t s)

  pub plain_made : (n : ℕ) (f : StmtForm) (a b : Place) → PlainForm text n f a b → IsStmt text n (stmt_of f a b) a b
  plain_made n f a b (inl (x, e, (c, t, (d, s, (i, u, (j, v, w)))))) = subst (λ (f : StmtForm). IsStmt text n (stmt_of f a b) a b) e (g.let_ t s u v w)
  plain_made n f a b (inr (inl (o, ((x, y), e, (c, s, inl (v, e2, (d, t, u)))), w))) = subst (λ (f : StmtForm). IsStmt text n (stmt_of f a b) a b) (ap (either_of st.Assign asked_by x) e2 ∙ e) (g.assign s t u w)
  plain_made n f a b (inr (inl (o, ((x, y), e, (c, s, inr (q, e2, h))), w))) = subst (λ (f : StmtForm). IsStmt text n (stmt_of f a b) a b) (ap (either_of st.Assign asked_by x) e2 ∙ e) (asked_made n (r.Name x) q a c o b (sources.name s) h w)
  plain_made n f a b (inr (inr (inl (x, e, (c, s, (d, h, w)))))) = subst (λ (f : StmtForm). IsStmt text n (stmt_of f a b) a b) e (action_made n x.0 x.1 a c d b s h w)
  plain_made n f a b (inr (inr (inr (inl (x, e, (c, t, (d, s, (i, u, (j, v, (l, w, (m, y, (o, z, (p, q, (q2, q3, (q4, q5, q6))))))))))))))) =
      subst (λ (f : StmtForm). IsStmt text n (stmt_of f a b) a b) e (g.split t s u v w y z q q3 q5 q6)
  plain_made n f a b (inr (inr (inr (inr (inl (x, e, (c, t, (d, s, (i, u, (j, v, (l, w, (m, y, z)))))))))))) = subst (λ (f : StmtForm). IsStmt text n (stmt_of f a b) a b) e (g.choose t s u v w y z)
  plain_made n f a b (inr (inr (inr (inr (inr (inl (x, e, (c, t, (d, s, u))))))))) = subst (λ (f : StmtForm). IsStmt text n (stmt_of f a b) a b) e (g.return t s u)
  plain_made n f a b (inr (inr (inr (inr (inr (inr (inl (x, e, (c, t, (d, s, u)))))))))) = subst (λ (f : StmtForm). IsStmt text n (stmt_of f a b) a b) e (g.print d t s u)
  plain_made n f a b (inr (inr (inr (inr (inr (inr (inr (x, e, (c, t, u))))))))) = subst (λ (f : StmtForm). IsStmt text n (stmt_of f a b) a b) e (g.suspend t u)

  -- ---- what is asked of a receiver, as a form

  pub call_form : {to : Receiver} {a b : Place} → IsReceiver text to a b → (n : ℕ) (m : Name) (xs : List Expr) (c d f i : Place) → IsToken k.Dot b c → IsNameAs word text m c d → IsArgs text n xs d f → IsToken k.Semicolon f i → PlainForm text n (st.Call to m xs) a i
  call_form (sources.name {x} {a} {b} h) n m xs c d f i t u v w = inr (inl (f, ((x, inr (requests.Call m xs)), refl, (b, h, inr (requests.Call m xs, refl, inl ((m, xs), refl, (c, t, (d, u, v)))))), w))
  call_form (sources.this {v} {a} {b} h) n m xs c d f i t u y w = inr (inr (inl ((v, called m xs), refl, (b, h, (f, inl ((m, inr xs), refl, (d, (c, t, u), inr (xs, refl, y))), w)))))

  pub send_form : {to : Receiver} {a b : Place} → IsReceiver text to a b → (n : ℕ) (m : Name) (xs : List Expr) (c d f i : Place) → IsToken k.Bang b c → IsNameAs word text m c d → IsArgs text n xs d f → IsToken k.Semicolon f i → PlainForm text n (st.Send to m xs) a i
  send_form (sources.name {x} {a} {b} h) n m xs c d f i t u v w = inr (inl (f, ((x, inr (requests.Send m xs)), refl, (b, h, inr (requests.Send m xs, refl, inr ((m, xs), refl, (c, t, (d, u, v)))))), w))
  send_form (sources.this {v} {a} {b} h) n m xs c d f i t u y w = inr (inr (inl ((v, actions.Asked (requests.Send m xs)), refl, (b, h, (f, inr (requests.Send m xs, refl, ((m, xs), refl, (c, t, (d, u, y)))), w)))))

-- ---- the laws

module _ (L : Limits) (text : List ℕ) (n room : ℕ) (fits : n + room ≡ L.brackets) where
  let_law : Lawful L (LetForm text n) (is k.Let) none_of (let_form text L.counts room)
  unfolding let_form
  let_law = image_lawful (λ x. st.Let x.0 x.1) (after_lawful k.Let (pair_lawful (variable_law text) (after_lawful k.Assign (before_lawful k.Semicolon (source_law L text n room fits) (clear _ _ refl))) (clear _ _ refl)))

  name_form_is : (a : Spot) → ((λ x. either_of st.Assign asked_by x.0 x.1) <$> (name_as word text L.counts ⊗ pick (is k.Assign) (inl <$> k.Assign ▹ whole text L.counts room) (inr <$> asked text L.counts room))) a ≡ (name_as word text L.counts >>= name_form_after text L.counts room) a
  unfolding name_form_after
  name_form_is a = parted (name_as word text L.counts) (is k.Assign) (k.Assign ▹ whole text L.counts room) (asked text L.counts room) st.Assign asked_by a ∙ then_same (name_as word text L.counts a) _ _ (λ x b. refl)

  name_law : Lawful L (NameForm text n) (is k.Name) none_of (name_form text L.counts room)
  unfolding name_form
  name_law = before_lawful k.Semicolon (law_of_same (name_as word text L.counts >>= name_form_after text L.counts room) name_form_is (image_lawful (λ x. either_of st.Assign asked_by x.0 x.1)
      (pair_lawful (word_law text) (union_lawful (is k.Assign) (image_lawful inl (after_lawful k.Assign (whole_law L text n room fits))) (image_lawful inr (asked_law L text n room fits)) (within _ _ refl) (clear _ _ refl)) (clear _ _ refl)))) (clear _ _ refl)

  field_action_is : (a : Spot) → ((λ x. either_of actions.Store called x.0 x.1) <$> ((k.Dot ▹ name_as word text L.counts) ⊗ pick (is k.Assign) (inl <$> k.Assign ▹ whole text L.counts room) (inr <$> args text L.counts room))) a ≡ field_action text L.counts room a
  unfolding field_action field_action_after
  field_action_is a = parted (k.Dot ▹ name_as word text L.counts) (is k.Assign) (k.Assign ▹ whole text L.counts room) (args text L.counts room) actions.Store called a ∙ then_same ((k.Dot ▹ name_as word text L.counts) a) _ _ (λ x b. refl)

  action_law : Lawful L (ActionOf text n) asks extends_expr (this_action text L.counts room)
  unfolding this_action
  action_law = with_sets (union_lawful (is k.Dot) (law_of_same (field_action text L.counts room) field_action_is (image_lawful (λ x. either_of actions.Store called x.0 x.1)
      (pair_lawful (after_lawful k.Dot (word_law text)) (union_lawful (is k.Assign) (image_lawful inl (after_lawful k.Assign (whole_law L text n room fits))) (image_lawful inr (args_law L text n room fits)) (within _ _ refl) (clear _ _ refl)) (clear _ _ refl))))
      (image_lawful actions.Asked (sent_law L text n room fits)) (within _ _ refl) (clear _ _ refl)) (within _ _ refl) (clear _ _ refl)

  this_law : Lawful L (ThisForm text n) (is k.This) none_of (this_form text L.counts room)
  unfolding this_form
  this_law = image_lawful (λ x. action_stmt x.0 x.1) (pair_lawful (span_token_lawful k.This) (before_lawful k.Semicolon action_law (clear _ _ refl)) (clear _ _ refl))

  split_law : Lawful L (SplitForm text n) (is k.Split) none_of (split_form text L.counts room)
  unfolding split_form
  split_law = let cap = cap_law L text n room fits in
      image_lawful (λ x. st.Split x.0 x.1.0 x.1.1.0 x.1.1.1.0 x.1.1.1.1) (after_lawful k.Split (pair_lawful (word_law text) (after_lawful k.Into (pair_lawful (variable_law text) (after_lawful k.Colon (pair_lawful cap
      (after_lawful k.Comma (pair_lawful (variable_law text) (after_lawful k.Colon (before_lawful k.Semicolon cap (clear _ _ refl))) (clear _ _ refl))) (clear _ _ refl))) (clear _ _ refl))) (clear _ _ refl)))

  choose_law : Lawful L (ChooseForm text) (is k.Choose) none_of (choose_form text L.counts)
  unfolding choose_form
  choose_law = image_lawful (λ x. st.Choose x.0 x.1.0 x.1.1) (after_lawful k.Choose (pair_lawful (word_law text) (after_lawful k.As (pair_lawful (word_law text) (after_lawful k.Into (before_lawful k.Semicolon (variable_law text) (clear _ _ refl))) (clear _ _ refl))) (clear _ _ refl)))

  return_law : Lawful L (ReturnForm text n) (is k.Return) none_of (return_form text L.counts room)
  unfolding return_form
  return_law = image_lawful st.Return (after_lawful k.Return (before_lawful k.Semicolon (whole_law L text n room fits) (clear _ _ refl)))

  print_law : Lawful L (PrintForm text n) (is k.Print) none_of (print_form text L.counts room)
  unfolding print_form
  print_law = image_lawful st.Print (after_lawful k.Print (before_lawful k.Semicolon (wholes_law L text n room fits) (clear _ _ refl)))

  suspend_law : Lawful L SuspendForm (is k.Suspend) none_of suspend_form
  unfolding suspend_form
  suspend_law = image_lawful (λ _. st.Suspend) (after_lawful k.Suspend (token_lawful k.Semicolon))

  pub plain_law : Lawful L (PlainForm text n) begins_plain none_of (plain_form text L.counts room)
  unfolding plain_form
  plain_law = with_sets (union_lawful (is k.Let) let_law (union_lawful (is k.Name) name_law (union_lawful (is k.This) this_law (union_lawful (is k.Split) split_law
      (union_lawful (is k.Choose) choose_law (union_lawful (is k.Return) return_law (union_lawful (is k.Print) print_law suspend_law
      (within _ _ refl) (clear _ _ refl)) (within _ _ refl) (clear _ _ refl)) (within _ _ refl) (clear _ _ refl)) (within _ _ refl) (clear _ _ refl)) (within _ _ refl) (clear _ _ refl)) (within _ _ refl) (clear _ _ refl)) (within _ _ refl) (clear _ _ refl))
      (within _ _ refl) (clear _ _ refl)
