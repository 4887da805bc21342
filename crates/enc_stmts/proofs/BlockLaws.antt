-- The parsers of blocks, and of statements with blocks in them, are lawful.
use Rattle.std.proofs.Common.{◌≡◌, ℕ, zero, suc, ◌+◌, true, List, [], ◌∷◌, Some, None, refl, sym, subst, inl, inr, arith}
use Rattle.enc_ast.specs.declared.rules.Span.{Span}
use Rattle.enc_lex.specs.declared.kinds.Kind.TheVariants as k
use Rattle.enc_ast.specs.declared.decls.Name.{Name}
use Rattle.enc_ast.specs.declared.Expr.{Expr}
use Rattle.enc_ast.specs.declared.TypeText.{TypeText}
use Rattle.enc_ast.specs.declared.stmts.Receiver.{Receiver}
use Rattle.enc_ast.specs.declared.sources.Source.{Source}
use Rattle.enc_ast.specs.declared.Stmt.{Stmt}
use Rattle.enc_ast.specs.declared.StmtForm.{StmtForm}
use Rattle.enc_ast.specs.declared.StmtForm.TheVariants as st
use Rattle.enc_cursor.specs.Counts.{plain, word, variable, leave}
use Rattle.enc_cursor.specs.Limits.{Limits, with_brackets, allowed}
use Rattle.enc_cursor.specs.Place.{Place, is, extent}
use Rattle.enc_cursor.specs.Stretch.{Stretch, IsSpan, span_of, Each, After, Before, Maybe, Opened, Closed, Spanned}
use Rattle.enc_cursor.specs.Steps.{Parser, Set, many, but}
use Rattle.enc_cursor.proofs.Lawful.{Lawful, Later, later_same, later_then, none_of, with_sets, same_sentences}
use Rattle.enc_cursor.proofs.Sequence.{as_lawful}
use Rattle.enc_cursor.proofs.Tokens.{marked_later}
use Rattle.enc_cursor.proofs.Names.{token_later, opening_later, later3}
use Rattle.enc_cursor.proofs.Openings.{Inside, opened_lawful, zero_fits}
use Rattle.enc_cursor.proofs.Endings.{closed_later, closed_lawful}
use Rattle.enc_cursor.proofs.Many.{TurnsSo, many_turn}
use Rattle.enc_cursor.proofs.Sets.{clear, within}
use Rattle.enc_cursor.proofs.Words.{Pair, Image, Union, pair_lawful, after_lawful, image_lawful, union_lawful, many_law, optional_law, spanned_law}
use Rattle.enc_cursor.proofs.Inside.{inside_of, inside_before}
use Rattle.enc_terms.specs.Names.{IsNameAs}
use Rattle.enc_terms.specs.Types.{IsCap}
use Rattle.enc_terms.specs.Exprs.{IsWhole, IsWholes, IsArgs}
use Rattle.enc_stmts.specs.Sources as sources
use Rattle.enc_stmts.specs.Sources.{IsReceiver, IsSource}
use Rattle.enc_stmts.specs.Stmts as g
use Rattle.enc_stmts.specs.Stmts.{IsStmt, IsBlock, IsStmts, stmt_of, left}
use Rattle.enc_stmts.specs.Sets.{begins_stmt}
use Rattle.enc_stmts.specs.declared.requests.Action.TheVariants as actions
use Rattle.enc_stmts.specs.StmtReading.{with_span, braced, else_part, if_form, while_form, atomic_form, packed, pack_form, stmt_form, stmt_with, stmts_inside, stmt, block}
use Rattle.enc_terms.proofs.NameLaws.{word_law, variable_law, named_later}
use Rattle.enc_terms.proofs.TypeLaws.{cap_law}
use Rattle.enc_terms.proofs.ExprWholes.{whole_law, whole_later, wholes_law, args_law}
use Rattle.enc_stmts.proofs.SourceLaws.{full_fits, source_law}
use Rattle.enc_stmts.proofs.StmtLaws.{PlainForm, plain_made, call_form, send_form, plain_law}

-- ---- the forms of statements with blocks in them

abbrev IfForm : List ℕ → ℕ → StmtForm → Stretch
IfForm text n = Image (λ x. st.If x.0 x.1.0 x.1.1) (After k.If (Pair (IsWhole text n) (Pair (IsBlock text n) (Maybe (After k.Else (IsBlock text n))))))

abbrev WhileForm : List ℕ → ℕ → StmtForm → Stretch
WhileForm text n = Image (λ x. st.While x.0 x.1) (After k.While (Pair (IsWhole text n) (IsBlock text n)))

abbrev AtomicForm : List ℕ → ℕ → StmtForm → Stretch
AtomicForm text n = Image (λ x. st.Atomic x.0 x.1) (After k.Atomic (Pair (IsWhole text n) (IsBlock text n)))

-- a new variable and the block in which it is visible
abbrev Packed : List ℕ → ℕ → Name × List Stmt → Stretch
Packed text n = Closed leave (Pair (IsNameAs variable text) (IsBlock text n))

abbrev PackForm : List ℕ → ℕ → StmtForm → Stretch
PackForm text n = Image (λ x. st.Pack x.0 x.1.0 x.1.1.0.0 x.1.1.0.1 x.1.1.1) (After k.Pack (Pair (IsNameAs word text) (After k.And (Pair (IsNameAs word text) (After k.Into (Pair (Packed text n) (After k.Else (IsBlock text n))))))))

abbrev StmtFormOf : List ℕ → ℕ → StmtForm → Stretch
StmtFormOf text n = Union (IfForm text n) (Union (WhileForm text n) (Union (AtomicForm text n) (Union (PackForm text n) (PlainForm text n))))

-- ---- the forms make statements, and each statement is of one of the forms

module _ (text : List ℕ) where
  stmt_made : (n : ℕ) (f : StmtForm) (a b : Place) → StmtFormOf text n f a b → IsStmt text n (stmt_of f a b) a b
  stmt_made n f a b (inl ((x, (xs, None)), e, (c, t, (d, s, (i, u, v))))) = subst (λ (f : StmtForm). IsStmt text n (stmt_of f a b) a b) e (g.if_ t s (subst (λ (i : Place). IsBlock text n xs d i) v u))
  stmt_made n f a b (inl ((x, (xs, Some ys)), e, (c, t, (d, s, (i, u, (j, v, w)))))) = subst (λ (f : StmtForm). IsStmt text n (stmt_of f a b) a b) e (g.if_else t s u v w)
  stmt_made n f a b (inr (inl (x, e, (c, t, (d, s, u))))) = subst (λ (f : StmtForm). IsStmt text n (stmt_of f a b) a b) e (g.while_ t s u)
  stmt_made n f a b (inr (inr (inl (x, e, (c, t, (d, s, u)))))) = subst (λ (f : StmtForm). IsStmt text n (stmt_of f a b) a b) e (g.atomic t s u)
  stmt_made n f a b (inr (inr (inr (inl (x, e, (c, t, (d, s, (i, u, (j, v, (l, w, (m, (o, (p, q, q2), q3), (q4, q5, q6)))))))))))) =
      subst (λ (f : StmtForm). IsStmt text n (stmt_of f a b) a b) e (g.pack t s u v w q q2 q3 q5 q6)
  stmt_made n f a b (inr (inr (inr (inr h)))) = plain_made text n f a b h

  stmt_cases : {n : ℕ} {x : Stmt} {a b : Place} → IsStmt text n x a b → Image with_span (Spanned (StmtFormOf text n)) x a b
  stmt_cases (g.let_ {n} {x} {y} {a} {b} {c} {d} {f} {g = i} t s u v w) = ((st.Let x y, extent a i), refl, (inr (inr (inr (inr (inl ((x, y), refl, (b, t, (c, s, (d, u, (f, v, w))))))))), refl))
  stmt_cases (g.assign {n} {x} {y} {a} {b} {c} {d} {f} s t u v) = ((st.Assign x y, extent a f), refl, (inr (inr (inr (inr (inr (inl (d, ((x, inl y), refl, (b, s, inl (y, refl, (c, t, u)))), v)))))), refl))
  stmt_cases (g.store {n} {v} {x} {y} {a} {b} {c} {d} {f} {g = i} {h = j} s t u w z o) = ((st.Store v x y, extent a j), refl, (inr (inr (inr (inr (inr (inr (inl ((v, actions.Store x y), refl, (b, s, (i, inl ((x, inl y), refl, (d, (c, t, u), inl (y, refl, (f, w, z)))), o))))))))), refl))
  stmt_cases (g.call {n} {to} {m} {xs} {a} {b} {c} {d} {f} {g = i} s t u v w) = ((st.Call to m xs, extent a i), refl, (inr (inr (inr (inr (call_form text s n m xs c d f i t u v w)))), refl))
  stmt_cases (g.send {n} {to} {m} {xs} {a} {b} {c} {d} {f} {g = i} s t u v w) = ((st.Send to m xs, extent a i), refl, (inr (inr (inr (inr (send_form text s n m xs c d f i t u v w)))), refl))
  stmt_cases (g.if_ {n} {x} {xs} {a} {b} {c} {d} t s u) = ((st.If x xs None, extent a d), refl, (inl ((x, (xs, None)), refl, (b, t, (c, s, (d, u, refl)))), refl))
  stmt_cases (g.if_else {n} {x} {xs} {ys} {a} {b} {c} {d} {f} {g = i} t s u v w) = ((st.If x xs (Some ys), extent a i), refl, (inl ((x, (xs, Some ys)), refl, (b, t, (c, s, (d, u, (f, v, w))))), refl))
  stmt_cases (g.while_ {n} {x} {xs} {a} {b} {c} {d} t s u) = ((st.While x xs, extent a d), refl, (inr (inl ((x, xs), refl, (b, t, (c, s, u)))), refl))
  stmt_cases (g.atomic {n} {x} {xs} {a} {b} {c} {d} t s u) = ((st.Atomic x xs, extent a d), refl, (inr (inr (inl ((x, xs), refl, (b, t, (c, s, u))))), refl))
  stmt_cases (g.split {n} {x} {y} {z} {t} {u} {a} {b} {c} {d} {f} {g = p} {h} {i} {j} {l} {m} {o} s1 s2 s3 s4 s5 s6 s7 s8 s9 s10 s11) =
      ((st.Split x y t z u, extent a o), refl, (inr (inr (inr (inr (inr (inr (inr (inl ((x, (y, (t, (z, u)))), refl, (b, s1, (c, s2, (d, s3, (f, s4, (p, s5, (h, s6, (i, s7, (j, s8, (l, s9, (m, s10, s11)))))))))))))))))), refl))
  stmt_cases (g.pack {n} {x} {y} {z} {xs} {ys} {a} {b} {c} {d} {f} {g = p} {h} {i} {j} {l} {m} s1 s2 s3 s4 s5 s6 s7 s8 s9 s10) =
      ((st.Pack x y z xs ys, extent a m), refl, (inr (inr (inr (inl ((x, (y, ((z, xs), ys))), refl, (b, s1, (c, s2, (d, s3, (f, s4, (p, s5, (j, (i, (h, s6, s7), s8), (l, s9, s10))))))))))), refl))
  stmt_cases (g.choose {n} {x} {t} {y} {a} {b} {c} {d} {f} {g = p} {h} {i} s1 s2 s3 s4 s5 s6 s7) = ((st.Choose x t y, extent a i), refl, (inr (inr (inr (inr (inr (inr (inr (inr (inl ((x, (t, y)), refl, (b, s1, (c, s2, (d, s3, (f, s4, (p, s5, (h, s6, s7))))))))))))))), refl))
  stmt_cases (g.return {n} {x} {a} {b} {c} {d} t s u) = ((st.Return x, extent a d), refl, (inr (inr (inr (inr (inr (inr (inr (inr (inr (inl (x, refl, (b, t, (c, s, u)))))))))))), refl))
  stmt_cases (g.print {n} {xs} {a} {b} c {d} t s u) = ((st.Print xs, extent a d), refl, (inr (inr (inr (inr (inr (inr (inr (inr (inr (inr (inl (xs, refl, (b, t, (c, s, u))))))))))))), refl))
  stmt_cases (g.suspend {n} {a} {b} {c} t u) = ((st.Suspend, extent a c), refl, (inr (inr (inr (inr (inr (inr (inr (inr (inr (inr (inr (tt, refl, (b, t, u)))))))))))), refl))

  stmts_made : (n : ℕ) (xs : List Stmt) (a b : Place) → Each (IsStmt text n) xs a b → IsStmts text n xs a b
  stmts_made n [] a b s = subst (λ (c : Place). IsStmts text n [] a c) s g.none
  stmts_made n (x ∷ xs) a b s = g.more s.1 (stmts_made n xs s.0 b s.2)

  stmts_cases : {n : ℕ} {xs : List Stmt} {a b : Place} → IsStmts text n xs a b → Each (IsStmt text n) xs a b
  stmts_cases (g.none {n} {a}) = refl
  stmts_cases (g.more {n} {x} {xs} {a} {b} {c} s t) = (b, s, stmts_cases t)

  block_cases : {n : ℕ} {xs : List Stmt} {a b : Place} → IsBlock text n xs a b → Closed leave (Opened n k.OpenBrace (Before k.CloseBrace (IsStmts text (suc n)))) xs a b
  block_cases (g.block {n} {xs} {a} {b} {c} {d} {f} t s u v) = (d, (b, t, (c, s, u)), v)

-- ---- the laws

-- any kind, and the end
abbrev pub every_kind : Set
every_kind l = true

-- what goes on with statements
abbrev pub extends_stmts : Set
extends_stmts = but k.CloseBrace

module _ (L : Limits) (text : List ℕ) (n room : ℕ) (fits : n + room ≡ L.brackets) {inside : Parser (List Stmt)} (below : Inside L room (IsStmts text (suc n)) every_kind extends_stmts inside) where
  pub braced_law : Lawful L (IsBlock text n) (is k.OpenBrace) none_of (braced text L.counts room inside)
  unfolding braced
  braced_law = same_sentences (IsBlock text n) (λ x a b s. g.block s.1.1 s.1.2.1 s.1.2.2 s.2) (λ x a b s. block_cases text s) (closed_lawful leave (opened_lawful n room k.OpenBrace fits (inside_before k.CloseBrace below (clear _ _ refl))))

  if_law : Lawful L (IfForm text n) (is k.If) (is k.Else) (if_form text L.counts room inside)
  unfolding if_form else_part
  if_law = with_sets (image_lawful (λ x. st.If x.0 x.1.0 x.1.1) (after_lawful k.If (pair_lawful (whole_law L text n room fits) (pair_lawful braced_law (optional_law (is k.Else) (after_lawful k.Else braced_law) (within _ _ refl)) (clear _ _ refl)) (clear _ _ refl)))) (within _ _ refl) (clear _ _ refl)

  while_law : Lawful L (WhileForm text n) (is k.While) none_of (while_form text L.counts room inside)
  unfolding while_form
  while_law = image_lawful (λ x. st.While x.0 x.1) (after_lawful k.While (pair_lawful (whole_law L text n room fits) braced_law (clear _ _ refl)))

  atomic_law : Lawful L (AtomicForm text n) (is k.Atomic) none_of (atomic_form text L.counts room inside)
  unfolding atomic_form
  atomic_law = image_lawful (λ x. st.Atomic x.0 x.1) (after_lawful k.Atomic (pair_lawful (whole_law L text n room fits) braced_law (clear _ _ refl)))

  pack_law : Lawful L (PackForm text n) (is k.Pack) none_of (pack_form text L.counts room inside)
  unfolding pack_form packed
  pack_law = image_lawful (λ x. st.Pack x.0 x.1.0 x.1.1.0.0 x.1.1.0.1 x.1.1.1) (after_lawful k.Pack (pair_lawful (word_law text) (after_lawful k.And (pair_lawful (word_law text)
      (after_lawful k.Into (pair_lawful (closed_lawful leave (pair_lawful (variable_law text) braced_law (clear _ _ refl))) (after_lawful k.Else braced_law) (clear _ _ refl))) (clear _ _ refl))) (clear _ _ refl)))

  form_law : Lawful L (StmtFormOf text n) begins_stmt (is k.Else) (stmt_form text L.counts room inside)
  unfolding stmt_form
  form_law = with_sets (union_lawful (is k.If) if_law (union_lawful (is k.While) while_law (union_lawful (is k.Atomic) atomic_law (union_lawful (is k.Pack) pack_law (plain_law L text n room fits)
      (within _ _ refl) (clear _ _ refl)) (within _ _ refl) (clear _ _ refl)) (within _ _ refl) (clear _ _ refl)) (within _ _ refl) (clear _ _ refl)) (within _ _ refl) (clear _ _ refl)

  pub stmt_with_law : Lawful L (IsStmt text n) begins_stmt (is k.Else) (stmt_with text L.counts room inside)
  unfolding stmt_with
  stmt_with_law = as_lawful with_span (IsStmt text n)
      (λ x a b s. subst (λ (v : Span). IsStmt text n (with_span (x.0, v)) a b) (sym s.1) (stmt_made text n x.0 a b s.0)) (λ x a b s. stmt_cases text s) (spanned_law form_law refl refl)

  pub many_stmts_law : Lawful L (IsStmts text n) every_kind extends_stmts (many (but k.CloseBrace) (stmt_with text L.counts room inside))
  many_stmts_law = same_sentences (IsStmts text n) (stmts_made text n) (λ x a b s. stmts_cases text s) (with_sets (many_law (but k.CloseBrace) stmt_with_law refl refl (within _ _ refl) (clear _ _ refl)) (within _ _ refl) (clear _ _ refl))

-- ---- tokens of statements are counted once

-- behind the part, with the variables of before it
left_later : (a b c : Place) → Later a b → c ≡ left a b → Later a c
left_later a b c s e = closed_later {A = Unit {0}} {S = λ x p q. Later p q} (λ p q x s. s) leave a c tt (b, s, e)

module _ (text : List ℕ) where
  wholes_later : (n : ℕ) (a b : Place) (xs : List Expr) → IsWholes text n xs a b → Later a b
  wholes_later n a b xs s = (wholes_law (with_brackets n allowed) text n 0 (full_fits n)).later a b xs s

  args_later : (n : ℕ) (a b : Place) (xs : List Expr) → IsArgs text n xs a b → Later a b
  args_later n a b xs s = (args_law (with_brackets n allowed) text n 0 (full_fits n)).later a b xs s

  cap_later : (n : ℕ) (a b : Place) (t : TypeText) → IsCap text n t a b → Later a b
  cap_later n a b t s = (cap_law (with_brackets n allowed) text n 0 (full_fits n)).later a b t s

  source_later : (n : ℕ) (a b : Place) (x : Source) → IsSource text n x a b → Later a b
  source_later n a b x s = (source_law (with_brackets n allowed) text n 0 (full_fits n)).later a b x s

  this_later : (v : Span) (a b : Place) → IsSpan k.This v a b → Later a b
  this_later v a b s = marked_later plain (span_of k.This) v a b s

  receiver_later : {to : Receiver} {a b : Place} → IsReceiver text to a b → Later a b
  receiver_later (sources.name {x} {a} {b} s) = named_later word text a b x s
  receiver_later (sources.this {v} {a} {b} s) = this_later v a b s

  mutual
    stmt_later : {n : ℕ} {x : Stmt} {a b : Place} → IsStmt text n x a b → Later a b
    stmt_later (g.let_ {n} {x} {y} {a} {b} {c} {d} {f} {g = i} t s u v w) = later3 a b c i (token_later k.Let a b t) (named_later variable text b c x s) (later3 c d f i (token_later k.Assign c d u) (source_later n d f y v) (token_later k.Semicolon f i w))
    stmt_later (g.assign {n} {x} {y} {a} {b} {c} {d} {f} s t u v) = later3 a b c f (named_later word text a b x s) (token_later k.Assign b c t) (later_then c d f (whole_later text n c d y u) (token_later k.Semicolon d f v))
    stmt_later (g.store {n} {v} {x} {y} {a} {b} {c} {d} {f} {g = i} {h = j} s t u w z o) = later3 a b c j (this_later v a b s) (token_later k.Dot b c t)
        (later3 c d f j (named_later word text c d x u) (token_later k.Assign d f w) (later_then f i j (whole_later text n f i y z) (token_later k.Semicolon i j o)))
    stmt_later (g.call {n} {to} {m} {xs} {a} {b} {c} {d} {f} {g = i} s t u v w) = later3 a b c i (receiver_later s) (token_later k.Dot b c t) (later3 c d f i (named_later word text c d m u) (args_later n d f xs v) (token_later k.Semicolon f i w))
    stmt_later (g.send {n} {to} {m} {xs} {a} {b} {c} {d} {f} {g = i} s t u v w) = later3 a b c i (receiver_later s) (token_later k.Bang b c t) (later3 c d f i (named_later word text c d m u) (args_later n d f xs v) (token_later k.Semicolon f i w))
    stmt_later (g.if_ {n} {x} {xs} {a} {b} {c} {d} t s u) = later3 a b c d (token_later k.If a b t) (whole_later text n b c x s) (block_later u)
    stmt_later (g.if_else {n} {x} {xs} {ys} {a} {b} {c} {d} {f} {g = i} t s u v w) = later3 a b c i (token_later k.If a b t) (whole_later text n b c x s) (later3 c d f i (block_later u) (token_later k.Else d f v) (block_later w))
    stmt_later (g.while_ {n} {x} {xs} {a} {b} {c} {d} t s u) = later3 a b c d (token_later k.While a b t) (whole_later text n b c x s) (block_later u)
    stmt_later (g.atomic {n} {x} {xs} {a} {b} {c} {d} t s u) = later3 a b c d (token_later k.Atomic a b t) (whole_later text n b c x s) (block_later u)
    stmt_later (g.split {n} {x} {y} {z} {t} {u} {a} {b} {c} {d} {f} {g = p} {h} {i} {j} {l} {m} {o} s1 s2 s3 s4 s5 s6 s7 s8 s9 s10 s11) =
        later3 a b c o (token_later k.Split a b s1) (named_later word text b c x s2) (later3 c d f o (token_later k.Into c d s3) (named_later variable text d f y s4) (later3 f p h o (token_later k.Colon f p s5) (cap_later n p h t s6)
        (later3 h i j o (token_later k.Comma h i s7) (named_later variable text i j z s8) (later3 j l m o (token_later k.Colon j l s9) (cap_later n l m u s10) (token_later k.Semicolon m o s11)))))
    stmt_later (g.pack {n} {x} {y} {z} {xs} {ys} {a} {b} {c} {d} {f} {g = p} {h} {i} {j} {l} {m} s1 s2 s3 s4 s5 s6 s7 s8 s9 s10) =
        later3 a b c m (token_later k.Pack a b s1) (named_later word text b c x s2) (later3 c d f m (token_later k.And c d s3) (named_later word text d f y s4) (later3 f p j m (token_later k.Into f p s5)
        (left_later p i j (later_then p h i (named_later variable text p h z s6) (block_later s7)) s8) (later_then j l m (token_later k.Else j l s9) (block_later s10))))
    stmt_later (g.choose {n} {x} {t} {y} {a} {b} {c} {d} {f} {g = p} {h} {i} s1 s2 s3 s4 s5 s6 s7) = later3 a b c i (token_later k.Choose a b s1) (named_later word text b c x s2) (later3 c d f i (token_later k.As c d s3) (named_later word text d f t s4)
        (later3 f p h i (token_later k.Into f p s5) (named_later variable text p h y s6) (token_later k.Semicolon h i s7)))
    stmt_later (g.return {n} {x} {a} {b} {c} {d} t s u) = later3 a b c d (token_later k.Return a b t) (whole_later text n b c x s) (token_later k.Semicolon c d u)
    stmt_later (g.print {n} {xs} {a} {b} c {d} t s u) = later3 a b c d (token_later k.Print a b t) (wholes_later n b c xs s) (token_later k.Semicolon c d u)
    stmt_later (g.suspend {n} {a} {b} {c} t u) = later_then a b c (token_later k.Suspend a b t) (token_later k.Semicolon b c u)

    block_later : {n : ℕ} {xs : List Stmt} {a b : Place} → IsBlock text n xs a b → Later a b
    block_later (g.block {n} {xs} {a} {b} {c} {d} {f} t s u v) = left_later a d f (later3 a b c d (opening_later n k.OpenBrace a b t) (stmts_later s) (token_later k.CloseBrace c d u)) v

    pub stmts_later : {n : ℕ} {xs : List Stmt} {a b : Place} → IsStmts text n xs a b → Later a b
    stmts_later (g.none {n} {a}) = later_same a a refl
    stmts_later (g.more {n} {x} {xs} {a} {b} {c} s t) = later_then a b c (stmt_later s) (stmts_later t)

-- ---- with so many brackets that may still be opened

pub stmts_inside_law : (L : Limits) (text : List ℕ) (n room : ℕ) → n + room ≡ L.brackets → Inside L room (IsStmts text (suc n)) every_kind extends_stmts (stmts_inside text L.counts room)
unfolding stmts_inside
stmts_inside_law L text n zero fits = record { law = λ r e. absurd (omega arith); later = λ a b x s. stmts_later text s; sample = ([], λ a r l. ([], a, l, g.none)) }
stmts_inside_law L text n (suc m) fits = inside_of (suc m) (let h : suc n + m ≡ L.brackets = omega arith in many_stmts_law L text (suc n) m h (stmts_inside_law L text (suc n) m h))

module _ (L : Limits) (text : List ℕ) (n room : ℕ) (fits : n + room ≡ L.brackets) where
  pub stmt_law : Lawful L (IsStmt text n) begins_stmt (is k.Else) (stmt text L.counts room)
  stmt_law = stmt_with_law L text n room fits (stmts_inside_law L text n room fits)

  pub block_law : Lawful L (IsBlock text n) (is k.OpenBrace) none_of (block text L.counts room)
  block_law = braced_law L text n room fits (stmts_inside_law L text n room fits)

-- how the loop over statements turns
pub stmt_turns : (text : List ℕ) (room : ℕ) → TurnsSo (but k.CloseBrace) (stmt text allowed room)
stmt_turns text room = many_turn (but k.CloseBrace) refl refl (within _ _ refl) (clear _ _ refl) (stmt_law (with_brackets room allowed) text 0 room (zero_fits room))
