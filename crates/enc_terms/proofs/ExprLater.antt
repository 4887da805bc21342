-- Each token of an expression is counted once, and there are expressions.
use Rattle.std.proofs.Common.{ℕ, List, [], ◌∷◌, refl, subst}
use Rattle.enc_lex.specs.declared.tokens.Token.{Token}
use Rattle.enc_lex.specs.declared.kinds.Kind.TheVariants as k
use Rattle.enc_ast.specs.declared.Expr.{Expr}
use Rattle.enc_ast.specs.declared.ExprForm.TheVariants as e
use Rattle.enc_cursor.specs.Counts.{plain, word}
use Rattle.enc_cursor.specs.Place.{Place, place, upon}
use Rattle.enc_cursor.specs.Stretch.{span_of, by_kind, IsToken, Separated}
use Rattle.enc_cursor.proofs.Lawful.{Later, Sample, later_then}
use Rattle.enc_cursor.proofs.Tokens.{marked_later}
use Rattle.enc_cursor.proofs.Names.{token_later, name_later, opening_later, operator_later, later3}
use Rattle.enc_terms.specs.Words.{or_word, and_word, comparison, sign, factor, prefix, constant, typed, single, double}
use Rattle.enc_terms.specs.Exprs as gr
use Rattle.enc_terms.specs.Exprs.{expr_of, IsExpr, IsConj, IsComp, IsSum, IsTerm, IsUnary, IsAtom, IsExprs}
use Rattle.enc_terms.proofs.TypeLaws.{type_later}

mutual
  pub expr_later : {text : List ℕ} {n : ℕ} {x : Expr} {a b : Place} → IsExpr text n x a b → Later a b
  expr_later (gr.conj s) = conj_later s
  expr_later (gr.either {n} {o} {x} {y} {a} {b} {c} {d} s t u) = later3 a b c d (expr_later s) (operator_later or_word o b c t) (conj_later u)

  pub conj_later : {text : List ℕ} {n : ℕ} {x : Expr} {a b : Place} → IsConj text n x a b → Later a b
  conj_later (gr.comp s) = comp_later s
  conj_later (gr.also {n} {o} {x} {y} {a} {b} {c} {d} s t u) = later3 a b c d (conj_later s) (operator_later and_word o b c t) (comp_later u)

  pub comp_later : {text : List ℕ} {n : ℕ} {x : Expr} {a b : Place} → IsComp text n x a b → Later a b
  comp_later (gr.sum s) = sum_later s
  comp_later (gr.compared {n} {o} {x} {y} {a} {b} {c} {d} s t u) = later3 a b c d (sum_later s) (operator_later comparison o b c t) (sum_later u)

  pub sum_later : {text : List ℕ} {n : ℕ} {x : Expr} {a b : Place} → IsSum text n x a b → Later a b
  sum_later (gr.term s) = term_later s
  sum_later (gr.added {n} {o} {x} {y} {a} {b} {c} {d} s t u) = later3 a b c d (sum_later s) (operator_later sign o b c t) (term_later u)

  pub term_later : {text : List ℕ} {n : ℕ} {x : Expr} {a b : Place} → IsTerm text n x a b → Later a b
  term_later (gr.unary s) = unary_later s
  term_later (gr.multiplied {n} {o} {x} {y} {a} {b} {c} {d} s t u) = later3 a b c d (term_later s) (operator_later factor o b c t) (unary_later u)

  pub unary_later : {text : List ℕ} {n : ℕ} {x : Expr} {a b : Place} → IsUnary text n x a b → Later a b
  unary_later (gr.atom s) = atom_later s
  unary_later (gr.before {n} {p} {x} {a} {b} {c} s t) = later_then a b c (operator_later prefix p a b s) (atom_later t)

  pub atom_later : {text : List ℕ} {n : ℕ} {x : Expr} {a b : Place} → IsAtom text n x a b → Later a b
  atom_later (gr.int {n} {v} {a} {b} s) = marked_later plain (span_of k.Int) v a b s
  atom_later (gr.quoted {n} {v} {a} {b} s) = marked_later plain (span_of k.Text) v a b s
  atom_later (gr.this {n} {a} {b} s) = token_later k.This a b s
  atom_later (gr.fixed {n} {form} {a} {b} s) = marked_later plain (by_kind constant) form a b s
  atom_later (gr.name {n} {v} {a} {b} s) = name_later word v a b s
  atom_later (gr.parens {n} {x} {a} {b} {c} {d} s t u) = later3 a b c d (opening_later n k.OpenParen a b s) (expr_later t) (token_later k.CloseParen c d u)
  atom_later (gr.list {n} {xs} {a} {b} {c} {d} s t u) = later3 a b c d (opening_later n k.OpenBracket a b s) (exprs_later t) (token_later k.CloseBracket c d u)
  atom_later {text} (gr.of_type {n} {w} {t} {a} {b} {c} {d} {f} s u v z) = later_then a b f (marked_later plain (by_kind typed) w a b s) (later3 b c d f (opening_later n k.OpenBracket b c u) (type_later text v) (token_later k.CloseBracket d f z))
  atom_later (gr.on_one {n} {w} {x} {a} {b} {c} {d} {f} s u v z) = later_then a b f (marked_later plain (by_kind single) w a b s) (later3 b c d f (opening_later n k.OpenParen b c u) (expr_later v) (token_later k.CloseParen d f z))
  atom_later (gr.on_two {n} {w} {x} {y} {a} {b} {c} {d} {f} {g} {h} s t u v z o) =
      later3 a b d h (marked_later plain (by_kind double) w a b s) (later_then b c d (opening_later n k.OpenParen b c t) (expr_later u))
      (later3 d f g h (token_later k.Comma d f v) (expr_later z) (token_later k.CloseParen g h o))

  pub exprs_later : {text : List ℕ} {n : ℕ} {xs : List Expr} {a b : Place} → IsExprs text n xs a b → Later a b
  exprs_later (gr.one s) = expr_later s
  exprs_later (gr.more {n} {x} {xs} {a} {b} {c} {d} s t u) = later3 a b c d (expr_later s) (token_later k.Comma b c t) (exprs_later u)

some_this : Token
some_this = record { kind = k.This; span = record { start = 0; end = 0 } }

-- "this" is an expression
pub expr_sample : (text : List ℕ) (n : ℕ) → Sample (IsExpr text n)
unfolding some_this
expr_sample text n = (
  some_this ∷ [],
  λ a r l.
      let b : Place = place (record { last = some_this.span; ahead = r; counts = a.counts }) ((plain some_this.span a.counts).1 ∷ l) in
      (expr_of e.This (place (upon a (some_this ∷ r)) l) b, b.spot, b.log, gr.conj (gr.comp (gr.sum (gr.term (gr.unary (gr.atom (gr.this (some_this, r, refl, refl, refl)))))))),
)

-- ---- lists, as one relation and as another

pub exprs_to : {text : List ℕ} {n : ℕ} {xs : List Expr} {a b : Place} → IsExprs text n xs a b → Separated k.Comma (IsExpr text n) xs a b
exprs_to (gr.one {n} {x} {a} {b} s) = (b, s, refl)
exprs_to {text} (gr.more {n} {x} {xs} {a} {b} {c} {d} s t u) = go xs s t (exprs_to u)
  where
    go : (xs : List Expr) → IsExpr text n x a b → IsToken k.Comma b c → Separated k.Comma (IsExpr text n) xs c d → Separated k.Comma (IsExpr text n) (x ∷ xs) a d
    go [] s t u = absurd u
    go (y ∷ ys) s t u = (b, s, (u.0, (c, t, u.1), u.2))

pub exprs_from : (text : List ℕ) (n : ℕ) (xs : List Expr) (a b : Place) → Separated k.Comma (IsExpr text n) xs a b → IsExprs text n xs a b
exprs_from text n [] a b s = absurd s
exprs_from text n (x ∷ []) a b s = subst (λ (c : Place). IsExprs text n (x ∷ []) a c) s.2 (gr.one s.1)
exprs_from text n (x ∷ y ∷ ys) a b s = gr.more s.1 s.2.1.1 (exprs_from text n (y ∷ ys) s.2.1.0 b (s.2.0, s.2.1.2, s.2.2))
