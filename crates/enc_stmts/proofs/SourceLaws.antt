-- The parsers of what new variables are bound to are lawful.
use Rattle.std.proofs.Common.{◌≡◌, ℕ, ◌+◌, List, Some, None, refl, sym, subst, inl, inr, arith}
use Rattle.enc_ast.specs.declared.rules.Span.{Span}
use Rattle.enc_lex.specs.declared.kinds.Kind.TheVariants as k
use Rattle.enc_ast.specs.declared.decls.Name.{Name}
use Rattle.enc_ast.specs.declared.Expr.{Expr}
use Rattle.enc_ast.specs.declared.stmts.Receiver.{Receiver}
use Rattle.enc_ast.specs.declared.stmts.Receiver.TheVariants as r
use Rattle.enc_ast.specs.declared.sources.Source.{Source}
use Rattle.enc_ast.specs.declared.sources.SourceForm.{SourceForm}
use Rattle.enc_ast.specs.declared.sources.SourceForm.TheVariants as s
use Rattle.enc_cursor.specs.Counts.{plain, word}
use Rattle.enc_cursor.specs.Limits.{Limits, with_brackets, allowed}
use Rattle.enc_cursor.specs.Place.{Spot, Place, is, extent}
use Rattle.enc_cursor.specs.Stretch.{Stretch, IsMarked, by_kind, IsToken, IsSpan, After, Maybe, Spanned}
use Rattle.enc_cursor.specs.Steps.{◌<$>◌, ◌>>=◌, pick, can}
use Rattle.enc_cursor.specs.Counted.{span_token}
use Rattle.enc_cursor.proofs.Lawful.{Lawful, none_of, or, with_sets, law_of_same}
use Rattle.enc_cursor.proofs.Sequence.{as_lawful}
use Rattle.enc_cursor.proofs.Tokens.{span_token_lawful}
use Rattle.enc_cursor.proofs.Names.{kind_token_lawful}
use Rattle.enc_cursor.proofs.Same.{then_same}
use Rattle.enc_cursor.proofs.Sets.{clear, within}
use Rattle.enc_cursor.proofs.Words.{Pair, Image, Union, pair_lawful, after_lawful, image_lawful, union_lawful, optional_law, spanned_law}
use Rattle.enc_terms.specs.Names.{IsNameAs}
use Rattle.enc_terms.specs.Exprs.{IsWhole, IsArgs}
use Rattle.enc_terms.specs.Sets.{begins_other, extends_expr}
use Rattle.enc_terms.specs.Names.{name_as}
use Rattle.enc_terms.specs.ExprReading.{whole_after, named, this_at}
use Rattle.enc_stmts.specs.Words.{single, of_one, double, of_two, applied, of_function}
use Rattle.enc_stmts.specs.Requests.{source_asked, member_of, member_source}
use Rattle.enc_stmts.specs.Sources as g
use Rattle.enc_stmts.specs.Sources.{IsReceiver, IsSource, source_of}
use Rattle.enc_stmts.specs.Sets.{begins_source, extends_source}
use Rattle.enc_stmts.specs.SourceReading.{asks, with_span, message, sent, asked, any_args, field_or_call, this_member, name_source_after, name_source, this_source_after, this_source, take_source, new_source, lifted, lift_source, single_source, double_source, applied_source, worded_source, other_source, source_form, source}
use Rattle.enc_stmts.specs.declared.requests.Request.{Request}
use Rattle.enc_stmts.specs.declared.requests.Request.TheVariants as requests
use Rattle.enc_stmts.specs.declared.requests.Member.{Member}
use Rattle.enc_stmts.specs.declared.requests.Member.TheVariants as members
use Rattle.enc_stmts.specs.declared.words.Single.TheVariants as singles
use Rattle.enc_stmts.specs.declared.words.Double.TheVariants as doubles
use Rattle.enc_stmts.specs.declared.words.Applied.TheVariants as applieds
use Rattle.enc_terms.proofs.NameLaws.{word_law}
use Rattle.enc_terms.proofs.ExprWholes.{whole_law, args_law}
use Rattle.enc_terms.proofs.ExprLed.{other_whole_law, name_led_law, this_led_law, Begun, LedOf, whole_split}

-- limits with room for no bracket more
pub full_fits : (n : ℕ) → n + 0 ≡ (with_brackets n allowed).brackets
full_fits n = omega arith

-- ---- what stands behind a receiver

-- a method's name, and arguments
abbrev pub Message : List ℕ → ℕ → Name × List Expr → Stretch
Message text n = Pair (IsNameAs word text) (IsArgs text n)

-- a message that is sent
abbrev pub SentOf : List ℕ → ℕ → Request → Stretch
SentOf text n = Image (λ x. requests.Send x.0 x.1) (After k.Bang (Message text n))

-- what is asked of any receiver
abbrev pub AskedOf : List ℕ → ℕ → Request → Stretch
AskedOf text n = Union (Image (λ x. requests.Call x.0 x.1) (After k.Dot (Message text n))) (SentOf text n)

-- what makes a source of "this"
abbrev MemberOf : List ℕ → ℕ → Member → Stretch
MemberOf text n = Union (Image (λ x. member_of x.0 x.1) (After k.Dot (Pair (IsNameAs word text) (Maybe (IsArgs text n))))) (Image members.Asked (SentOf text n))

-- ---- the forms of sources

abbrev NameSource : List ℕ → ℕ → SourceForm → Stretch
NameSource text n = LedOf text n k.Name (IsNameAs word text) (AskedOf text n) (λ x q. source_asked (r.Name x) q) s.Expr

abbrev ThisSource : List ℕ → ℕ → SourceForm → Stretch
ThisSource text n = LedOf text n k.This (IsSpan k.This) (MemberOf text n) member_source s.Expr

abbrev TakeSource : List ℕ → SourceForm → Stretch
TakeSource text = Image (λ x. s.Take x.0 x.1) (After k.Take (Pair (IsSpan k.This) (After k.Dot (IsNameAs word text))))

abbrev NewSource : List ℕ → SourceForm → Stretch
NewSource text = Image s.New (After k.New (IsNameAs word text))

abbrev LiftSource : List ℕ → ℕ → SourceForm → Stretch
LiftSource text n = After k.Lift (Union (Image s.LiftFuture (After k.Future (IsWhole text n))) (Image s.Lift (IsWhole text n)))

abbrev SingleSource : List ℕ → ℕ → SourceForm → Stretch
SingleSource text n = Image (λ x. of_one x.0 x.1) (Pair (IsMarked plain (by_kind single)) (IsWhole text n))

abbrev DoubleSource : List ℕ → ℕ → SourceForm → Stretch
DoubleSource text n = Image (λ x. of_two x.0 x.1.0 x.1.1) (Pair (IsMarked plain (by_kind double)) (Pair (IsWhole text n) (After k.Comma (IsWhole text n))))

abbrev AppliedSource : List ℕ → ℕ → SourceForm → Stretch
AppliedSource text n = Image (λ x. of_function x.0 x.1.0 x.1.1.0 x.1.1.1) (Pair (IsMarked plain (by_kind applied)) (Pair (IsWhole text n) (After k.With (Message text n))))

abbrev WordedSource : List ℕ → ℕ → SourceForm → Stretch
WordedSource text n = Union (SingleSource text n) (Union (DoubleSource text n) (Union (AppliedSource text n) (Image s.Expr (Begun begins_other (IsWhole text n)))))

abbrev OtherSource : List ℕ → ℕ → SourceForm → Stretch
OtherSource text n = Union (TakeSource text) (Union (NewSource text) (Union (LiftSource text n) (WordedSource text n)))

abbrev SourceFormOf : List ℕ → ℕ → SourceForm → Stretch
SourceFormOf text n = Union (NameSource text n) (Union (ThisSource text n) (OtherSource text n))

-- ---- the forms make sources

module _ (text : List ℕ) where
  sent_made : (n : ℕ) (to : Receiver) (q : Request) (a c b : Place) → IsReceiver text to a c → SentOf text n q c b → IsSource text n (source_of (source_asked to q) a b) a b
  sent_made n to q a c b v (x, e, (d, t, (f, u, w))) = subst (λ (q : Request). IsSource text n (source_of (source_asked to q) a b) a b) e (g.send v t u w)

  asked_made : (n : ℕ) (to : Receiver) (q : Request) (a c b : Place) → IsReceiver text to a c → AskedOf text n q c b → IsSource text n (source_of (source_asked to q) a b) a b
  asked_made n to q a c b v (inl (x, e, (d, t, (f, u, w)))) = subst (λ (q : Request). IsSource text n (source_of (source_asked to q) a b) a b) e (g.call v t u w)
  asked_made n to q a c b v (inr h) = sent_made n to q a c b v h

  member_made : (n : ℕ) (v : Span) (m : Member) (a c b : Place) → IsSpan k.This v a c → MemberOf text n m c b → IsSource text n (source_of (member_source v m) a b) a b
  member_made n v m a c b h (inl ((x, None), e, (d, t, (f, u, w)))) = subst (λ (m : Member). IsSource text n (source_of (member_source v m) a b) a b) e (g.field h t (subst (λ (f : Place). IsNameAs word text x d f) w u))
  member_made n v m a c b h (inl ((x, Some xs), e, (d, t, (f, u, w)))) = subst (λ (m : Member). IsSource text n (source_of (member_source v m) a b) a b) e (g.call (g.this h) t u w)
  member_made n v m a c b h (inr (q, e, t)) = subst (λ (m : Member). IsSource text n (source_of (member_source v m) a b) a b) e (sent_made n (r.This v) q a c b (g.this h) t)

  worded_made : (n : ℕ) (f : SourceForm) (a b : Place) → WordedSource text n f a b → IsSource text n (source_of f a b) a b
  worded_made n f a b (inl (x, e, (c, t, u))) = subst (λ (f : SourceForm). IsSource text n (source_of f a b) a b) e (g.on_one t u)
  worded_made n f a b (inr (inl (x, e, (c, t, (d, u, (i, v, w)))))) = subst (λ (f : SourceForm). IsSource text n (source_of f a b) a b) e (g.on_two t u v w)
  worded_made n f a b (inr (inr (inl (x, e, (c, t, (d, u, (i, v, (j, w, z)))))))) = subst (λ (f : SourceForm). IsSource text n (source_of f a b) a b) e (g.by_function t u v w z)
  worded_made n f a b (inr (inr (inr (x, e, t)))) = subst (λ (f : SourceForm). IsSource text n (source_of f a b) a b) e (g.value t.0)

  source_made : (n : ℕ) (f : SourceForm) (a b : Place) → SourceFormOf text n f a b → IsSource text n (source_of f a b) a b
  source_made n f a b (inl (inl (x, q, c, e, t, u))) = subst (λ (f : SourceForm). IsSource text n (source_of f a b) a b) e (asked_made n (r.Name x) q a c b (g.name t) u)
  source_made n f a b (inl (inr (x, e, t))) = subst (λ (f : SourceForm). IsSource text n (source_of f a b) a b) e (g.value t.0)
  source_made n f a b (inr (inl (inl (v, m, c, e, t, u)))) = subst (λ (f : SourceForm). IsSource text n (source_of f a b) a b) e (member_made n v m a c b t u)
  source_made n f a b (inr (inl (inr (x, e, t)))) = subst (λ (f : SourceForm). IsSource text n (source_of f a b) a b) e (g.value t.0)
  source_made n f a b (inr (inr (inl (x, e, (c, t, (d, u, (i, v, w))))))) = subst (λ (f : SourceForm). IsSource text n (source_of f a b) a b) e (g.take t u v w)
  source_made n f a b (inr (inr (inr (inl (x, e, (c, t, u)))))) = subst (λ (f : SourceForm). IsSource text n (source_of f a b) a b) e (g.new t u)
  source_made n f a b (inr (inr (inr (inr (inl (c, t, inl (x, e, (d, u, v)))))))) = subst (λ (f : SourceForm). IsSource text n (source_of f a b) a b) e (g.lift_future t u v)
  source_made n f a b (inr (inr (inr (inr (inl (c, t, inr (x, e, u))))))) = subst (λ (f : SourceForm). IsSource text n (source_of f a b) a b) e (g.lift t u)
  source_made n f a b (inr (inr (inr (inr (inr h))))) = worded_made n f a b h

  -- ---- and each source is of one of the forms

  value_form : (n : ℕ) (x : Expr) (a b : Place) → IsWhole text n x a b → SourceFormOf text n (s.Expr x) a b
  value_form n x a b h = elim (whole_split (with_brackets n allowed) text n 0 (full_fits n) x a b h) [
    | inl t ↦ inl (inr (x, refl, t))
    | inr u ↦ elim u [
      | inl t ↦ inr (inl (inr (x, refl, t)))
      | inr t ↦ inr (inr (inr (inr (inr (inr (inr (inr (x, refl, t))))))))
    ]
  ]

  call_form : {to : Receiver} {a b : Place} → IsReceiver text to a b → (n : ℕ) (m : Name) (xs : List Expr) (c d f : Place) → IsToken k.Dot b c → IsNameAs word text m c d → IsArgs text n xs d f → SourceFormOf text n (s.Call to m xs) a f
  call_form (g.name {x} {a} {b} h) n m xs c d f t u v = inl (inl (x, requests.Call m xs, b, refl, h, inl ((m, xs), refl, (c, t, (d, u, v)))))
  call_form (g.this {v} {a} {b} h) n m xs c d f t u w = inr (inl (inl (v, members.Asked (requests.Call m xs), b, refl, h, inl ((m, Some xs), refl, (c, t, (d, u, w))))))

  send_form : {to : Receiver} {a b : Place} → IsReceiver text to a b → (n : ℕ) (m : Name) (xs : List Expr) (c d f : Place) → IsToken k.Bang b c → IsNameAs word text m c d → IsArgs text n xs d f → SourceFormOf text n (s.Send to m xs) a f
  send_form (g.name {x} {a} {b} h) n m xs c d f t u v = inl (inl (x, requests.Send m xs, b, refl, h, inr ((m, xs), refl, (c, t, (d, u, v)))))
  send_form (g.this {v} {a} {b} h) n m xs c d f t u w = inr (inl (inl (v, members.Asked (requests.Send m xs), b, refl, h, inr (requests.Send m xs, refl, ((m, xs), refl, (c, t, (d, u, w)))))))

  source_cases : {n : ℕ} {x : Source} {a b : Place} → IsSource text n x a b → Image with_span (Spanned (SourceFormOf text n)) x a b
  source_cases (g.value {n} {x} {a} {b} t) = ((s.Expr x, extent a b), refl, (value_form n x a b t, refl))
  source_cases (g.new {n} {x} {a} {b} {c} t u) = ((s.New x, extent a c), refl, (inr (inr (inr (inl (x, refl, (b, t, u))))), refl))
  source_cases (g.field {n} {v} {x} {a} {b} {c} {d} t u w) = ((s.Field v x, extent a d), refl, (inr (inl (inl (v, members.Field x, b, refl, t, inl ((x, None), refl, (c, u, (d, w, refl)))))), refl))
  source_cases (g.take {n} {v} {x} {a} {b} {c} {d} {f} t u w z) = ((s.Take v x, extent a f), refl, (inr (inr (inl ((v, x), refl, (b, t, (c, u, (d, w, z)))))), refl))
  source_cases (g.call {n} {to} {m} {xs} {a} {b} {c} {d} {f} t u v w) = ((s.Call to m xs, extent a f), refl, (call_form t n m xs c d f u v w, refl))
  source_cases (g.send {n} {to} {m} {xs} {a} {b} {c} {d} {f} t u v w) = ((s.Send to m xs, extent a f), refl, (send_form t n m xs c d f u v w, refl))
  source_cases (g.on_one {n} {w} {x} {a} {b} {c} t u) = ((of_one w x, extent a c), refl, (inr (inr (inr (inr (inr (inl ((w, x), refl, (b, t, u))))))), refl))
  source_cases (g.lift {n} {x} {a} {b} {c} t u) = ((s.Lift x, extent a c), refl, (inr (inr (inr (inr (inl (b, t, inr (x, refl, u)))))), refl))
  source_cases (g.lift_future {n} {x} {a} {b} {c} {d} t u v) = ((s.LiftFuture x, extent a d), refl, (inr (inr (inr (inr (inl (b, t, inl (x, refl, (c, u, v))))))), refl))
  source_cases (g.on_two {n} {w} {x} {y} {a} {b} {c} {d} {f} t u v z) = ((of_two w x y, extent a f), refl, (inr (inr (inr (inr (inr (inr (inl ((w, (x, y)), refl, (b, t, (c, u, (d, v, z)))))))))), refl))
  source_cases (g.by_function {n} {w} {x} {m} {xs} {a} {b} {c} {d} {f} {g = i} t u v y z) = ((of_function w x m xs, extent a i), refl, (inr (inr (inr (inr (inr (inr (inr (inl ((w, (x, (m, xs))), refl, (b, t, (c, u, (d, v, (f, y, z)))))))))))), refl))

-- ---- the laws

module _ (L : Limits) (text : List ℕ) (n room : ℕ) (fits : n + room ≡ L.brackets) where
  pub message_law : Lawful L (Message text n) (is k.Name) none_of (message text L.counts room)
  unfolding message
  message_law = pair_lawful (word_law text) (args_law L text n room fits) (clear _ _ refl)

  pub sent_law : Lawful L (SentOf text n) (is k.Bang) none_of (sent text L.counts room)
  unfolding sent
  sent_law = image_lawful (λ x. requests.Send x.0 x.1) (after_lawful k.Bang message_law)

  pub asked_law : Lawful L (AskedOf text n) asks none_of (asked text L.counts room)
  unfolding asked
  asked_law = with_sets (union_lawful (is k.Dot) (image_lawful (λ x. requests.Call x.0 x.1) (after_lawful k.Dot message_law)) sent_law (within _ _ refl) (clear _ _ refl)) (within _ _ refl) (clear _ _ refl)

  member_law : Lawful L (MemberOf text n) asks (is k.OpenParen) (this_member text L.counts room)
  unfolding this_member field_or_call any_args
  member_law = with_sets (union_lawful (is k.Dot) (image_lawful (λ x. member_of x.0 x.1) (after_lawful k.Dot (pair_lawful (word_law text) (optional_law (is k.OpenParen) (args_law L text n room fits) (within _ _ refl)) (clear _ _ refl))))
      (image_lawful members.Asked sent_law) (within _ _ refl) (clear _ _ refl)) (within _ _ refl) (clear _ _ refl)

  name_source_is : (a : Spot) → (name_as word text L.counts >>= (λ x. pick asks ((λ q. source_asked (r.Name x) q) <$> asked text L.counts room) (s.Expr <$> whole_after text L.counts room x.span.start (named x)))) a ≡ name_source text L.counts room a
  unfolding name_source name_source_after
  name_source_is a = then_same (name_as word text L.counts a) _ _ (λ x b. refl)

  name_source_law : Lawful L (NameSource text n) (is k.Name) extends_expr (name_source text L.counts room)
  name_source_law = with_sets (law_of_same (name_source text L.counts room) name_source_is (name_led_law L text n room fits asks asked_law (within _ _ refl) (within _ _ refl) (λ x q. source_asked (r.Name x) q) s.Expr)) (within _ _ refl) (clear _ _ refl)

  this_source_is : (a : Spot) → (span_token k.This >>= (λ v. pick asks (member_source v <$> this_member text L.counts room) (s.Expr <$> whole_after text L.counts room v.start (this_at v)))) a ≡ this_source text L.counts room a
  unfolding this_source this_source_after
  this_source_is a = then_same (span_token k.This a) _ _ (λ x b. refl)

  this_source_law : Lawful L (ThisSource text n) (is k.This) extends_source (this_source text L.counts room)
  this_source_law = with_sets (law_of_same (this_source text L.counts room) this_source_is (this_led_law L text n room fits asks member_law (within _ _ refl) (within _ _ refl) member_source s.Expr)) (within _ _ refl) (clear _ _ refl)

  take_law : Lawful L (TakeSource text) (is k.Take) none_of (take_source text L.counts)
  unfolding take_source
  take_law = image_lawful (λ x. s.Take x.0 x.1) (after_lawful k.Take (pair_lawful (span_token_lawful k.This) (after_lawful k.Dot (word_law text)) (clear _ _ refl)))

  lift_law : Lawful L (LiftSource text n) (is k.Lift) extends_expr (lift_source text L.counts room)
  unfolding lift_source lifted
  lift_law = let whole = whole_law L text n room fits in
      with_sets (after_lawful k.Lift (union_lawful (is k.Future) (image_lawful s.LiftFuture (after_lawful k.Future whole)) (image_lawful s.Lift whole) (within _ _ refl) (clear _ _ refl))) (within _ _ refl) (clear _ _ refl)

  single_law : Lawful L (SingleSource text n) (can single) extends_expr (single_source text L.counts room)
  unfolding single_source
  single_law = image_lawful (λ x. of_one x.0 x.1) (pair_lawful (kind_token_lawful single k.Get singles.Get refl) (whole_law L text n room fits) (clear _ _ refl))

  double_law : Lawful L (DoubleSource text n) (can double) extends_expr (double_source text L.counts room)
  unfolding double_source
  double_law = let whole = whole_law L text n room fits in
      image_lawful (λ x. of_two x.0 x.1.0 x.1.1) (pair_lawful (kind_token_lawful double k.Both doubles.Both refl) (pair_lawful whole (after_lawful k.Comma whole) (clear _ _ refl)) (clear _ _ refl))

  applied_law : Lawful L (AppliedSource text n) (can applied) none_of (applied_source text L.counts room)
  unfolding applied_source
  applied_law = image_lawful (λ x. of_function x.0 x.1.0 x.1.1.0 x.1.1.1) (pair_lawful (kind_token_lawful applied k.Chain applieds.Chain refl) (pair_lawful (whole_law L text n room fits) (after_lawful k.With message_law) (clear _ _ refl)) (clear _ _ refl))

  worded_law : Lawful L (WordedSource text n) (or (can single) (or (can double) (or (can applied) begins_other))) extends_expr (worded_source text L.counts room)
  unfolding worded_source
  worded_law = with_sets (union_lawful (can single) single_law (union_lawful (can double) double_law (union_lawful (can applied) applied_law (image_lawful s.Expr (other_whole_law L text n room fits))
      (within _ _ refl) (clear _ _ refl)) (within _ _ refl) (clear _ _ refl)) (within _ _ refl) (clear _ _ refl)) (within _ _ refl) (clear _ _ refl)

  source_form_law : Lawful L (SourceFormOf text n) begins_source extends_source (source_form text L.counts room)
  unfolding source_form other_source new_source
  source_form_law = with_sets (union_lawful (is k.Name) name_source_law (union_lawful (is k.This) this_source_law (union_lawful (is k.Take) take_law
      (union_lawful (is k.New) (image_lawful s.New (after_lawful k.New (word_law text))) (union_lawful (is k.Lift) lift_law worded_law
      (within _ _ refl) (clear _ _ refl)) (within _ _ refl) (clear _ _ refl)) (within _ _ refl) (clear _ _ refl)) (within _ _ refl) (clear _ _ refl)) (within _ _ refl) (clear _ _ refl)) (within _ _ refl) (clear _ _ refl)

  pub source_law : Lawful L (IsSource text n) begins_source extends_source (source text L.counts room)
  unfolding source
  source_law = as_lawful with_span (IsSource text n)
      (λ x a b h. subst (λ (v : Span). IsSource text n (with_span (x.0, v)) a b) (sym h.1) (source_made text n x.0 a b h.0)) (λ x a b h. source_cases text h) (spanned_law source_form_law refl refl)
