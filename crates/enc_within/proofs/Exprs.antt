-- The expressions that a text spells are within the limits.
use Rattle.std.proofs.Common.{◌≡◌, ℕ, suc, ◌+◌, Bool, true, List, map, sym, ap, ◌∙◌, subst, arith, nat_le, le-leb, Option, Some}
use Rattle.enc_ast.specs.declared.rules.Span.{Span}
use Rattle.enc_ast.specs.declared.Operator.{Operator}
use Rattle.enc_ast.specs.declared.TypeText.{TypeText}
use Rattle.enc_ast.specs.declared.Expr.{Expr}
use Rattle.enc_ast.specs.declared.ExprForm.{ExprForm, out-ExprForm}
use Rattle.enc_ast.specs.declared.ExprForm.TheVariants as e
use Rattle.enc_ast.specs.declared.ExprForm.TheOpen.{ExprForm-F}
use Rattle.enc_ast.specs.declared.ExprForm.TheFolds.{map-ExprForm, fold-ExprForm, fold_out-ExprForm, fold_out-Expr}
use Rattle.enc_lex.specs.declared.kinds.Kind.{Kind}
use Rattle.enc_lex.specs.declared.kinds.Kind.TheVariants as k
use Rattle.enc_lex.specs.declared.tokens.Token.{Token}
use Rattle.enc_lex.specs.Values.{bytes_at, word_of}
use Rattle.enc_cursor.specs.Counts.{plain, bracket, operator, finish}
use Rattle.enc_cursor.specs.Place.{Place}
use Rattle.enc_cursor.specs.Stretch.{IsMarked}
use Rattle.enc_terms.specs.Words.{prefixed, constant, value_of_type, of_one, of_two}
use Rattle.enc_terms.specs.declared.words.Prefix.{Prefix}
use Rattle.enc_terms.specs.declared.words.Prefix.TheVariants as prefixes
use Rattle.enc_terms.specs.declared.words.Typed.{Typed}
use Rattle.enc_terms.specs.declared.words.Typed.TheVariants as typeds
use Rattle.enc_terms.specs.declared.words.Single.{Single}
use Rattle.enc_terms.specs.declared.words.Single.TheVariants as singles
use Rattle.enc_terms.specs.declared.words.Double.{Double}
use Rattle.enc_terms.specs.declared.words.Double.TheVariants as doubles
use Rattle.enc_terms.specs.Exprs.{expr_of, IsExpr, IsConj, IsComp, IsSum, IsTerm, IsUnary, IsAtom, IsExprs, IsWhole, IsWholes, IsArgs}
use Rattle.enc_terms.specs.Exprs as gr
use Rattle.enc_limits.specs.Numbers.{max_operators, every, is_name}
use Rattle.enc_limits.specs.Types.{type_fits}
use Rattle.enc_limits.specs.Exprs.{Measure, leaf, one_more, both, all_of, in_brackets, expr_form, expr_node, measured, whole_fits, arguments_fit}
use Rattle.enc_within.proofs.Leads.{Leads, here, then, before, also, reaches, closed}
use Rattle.enc_within.proofs.Tokens.{token, opening, operated}
use Rattle.enc_within.proofs.Names.{word_at}
use Rattle.enc_within.proofs.Types.{counts, listed, type_is}

-- ---- layers of expressions

-- a level of an expression, with the measures of its parts
abbrev parts : ExprForm-F ExprForm Expr → ExprForm-F Measure Measure
parts l = map-ExprForm ExprForm Expr Measure Measure (fold-ExprForm Measure Measure expr_form expr_node) measured l

-- an expression is measured by its outer level
measured_layer : (f : ExprForm) (v : Span) (l : ExprForm-F ExprForm Expr) → out-ExprForm f ≡ l → expr_form (parts l) ≡ measured (record { form = f; span = v })
unfolding measured
measured_layer f v l is = sym (fold_out-Expr Measure Measure expr_form expr_node (record { form = f; span = v }) ∙ (fold_out-ExprForm Measure Measure expr_form expr_node f ∙ ap (λ z. expr_form (parts z)) is))

-- what an operator before its operand is measured as
prefixed_measure : (w : Prefix) (x : Expr) (v : Span) → one_more (measured x) ≡ measured (record { form = prefixed w x; span = v })
prefixed_measure prefixes.Minus x v = measured_layer _ v _ (e.outs-Negative x)
prefixed_measure prefixes.Not x v = measured_layer _ v _ (e.outs-Not x)

-- what a value of a type is measured as
typed_measure : (w : Typed) (t : TypeText) (v : Span) → in_brackets (leaf (type_fits t)) ≡ measured (record { form = value_of_type w t; span = v })
typed_measure typeds.Null t v = measured_layer _ v _ (e.outs-Null t)
typed_measure typeds.Empty t v = measured_layer _ v _ (e.outs-Empty t)
typed_measure typeds.Nil t v = measured_layer _ v _ (e.outs-Nil t)

-- what a word with one operand is measured as
single_measure : (w : Single) (x : Expr) (v : Span) → in_brackets (measured x) ≡ measured (record { form = of_one w x; span = v })
single_measure singles.Len x v = measured_layer _ v _ (e.outs-Len x)
single_measure singles.IsNull x v = measured_layer _ v _ (e.outs-IsNull x)

-- what a word with two operands is measured as
double_measure : (w : Double) (x y : Expr) (v : Span) → in_brackets (both (measured x) (measured y)) ≡ measured (record { form = of_two w x y; span = v })
double_measure doubles.At x y v = measured_layer _ v _ (e.outs-At x y)
double_measure doubles.Append x y v = measured_layer _ v _ (e.outs-Append x y)

-- what a word that is a value is measured as
constant_measure : (kind : Kind) (f : ExprForm) (v : Span) → constant kind ≡ Some f → leaf (λ n. true) ≡ measured (record { form = f; span = v })
constant_measure kind f v is = go kind is
  where
    at : (g : ExprForm) → Some g ≡ Some f → leaf (λ n. true) ≡ measured (record { form = g; span = v }) → leaf (λ n. true) ≡ measured (record { form = f; span = v })
    at g is h = let same : g ≡ f = cc in subst (λ z. leaf (λ n. true) ≡ measured (record { form = z; span = v })) same h

    go : (kind : Kind) → constant kind ≡ Some f → leaf (λ n. true) ≡ measured (record { form = f; span = v })
    go k.True is = at _ is (measured_layer _ v _ e.outs-True)
    go k.False is = at _ is (measured_layer _ v _ e.outs-False)
    go k.Unit is = at _ is (measured_layer _ v _ e.outs-Unit)
    go _ is = absurd cc

-- ---- measures

-- Whatever operators there are before, the stretch leads to as many more as the measure has, and the measure fits.
pub record Adds (text : List ℕ) (i m n : ℕ) (x : Measure) (a b : Place) : Type 0 where
  pub adds : (o : ℕ) → Leads text (counts i o m 0) (counts i (o + x.operators) m 0) (x.fits n) a b

module _ {text : List ℕ} {i m n : ℕ} where
  -- no operator
  leaf_adds : {a b : Place} (fits : ℕ → Bool) → ((o : ℕ) → Leads text (counts i o m 0) (counts i o m 0) (fits n) a b) → Adds text i m n (leaf fits) a b
  leaf_adds fits s = record { adds = λ o. reaches (λ z. counts i z m 0) (omega arith) (s o) }

  -- an operator between two operands
  binary_adds : {X : Type 0} {f : Token → Option X} {w : X} {x y : Measure} {a b c d : Place} → Adds text i m n x a b → IsMarked operator f w b c → Adds text i m n y c d → Adds text i m n (one_more (both x y)) a d
  binary_adds {x = x} {y} s t u = record { adds = λ o. reaches (λ z. counts i z m 0) (omega arith) (then (s.adds o) (then (operated t) (u.adds (o + x.operators + 1)))) }

  -- an operator before its operand
  prefix_adds : {X : Type 0} {f : Token → Option X} {w : X} {x : Measure} {a b c : Place} → IsMarked operator f w a b → Adds text i m n x b c → Adds text i m n (one_more x) a c
  prefix_adds {x = x} s t = record { adds = λ o. reaches (λ z. counts i z m 0) (omega arith) (then (operated s) (t.adds (o + 1))) }

  -- two operands with a token between
  pair_adds : {X : Type 0} {f : Token → Option X} {w : X} {x y : Measure} {a b c d : Place} → Adds text i m n x a b → IsMarked plain f w b c → Adds text i m n y c d → Adds text i m n (both x y) a d
  pair_adds {x = x} {y} s t u = record { adds = λ o. reaches (λ z. counts i z m 0) (omega arith) (then (s.adds o) (then (token t) (u.adds (o + x.operators)))) }

  -- the last of several operands
  last_adds : {x : Measure} {a b : Place} → Adds text i m n x a b → Adds text i m n (both x (leaf (λ n. true))) a b
  last_adds {x = x} s = record { adds = λ o. reaches (λ z. counts i z m 0) (omega arith) (then (s.adds o) here) }

  -- operands in brackets
  bracketed_adds : {X Y : Type 0} {f : Token → Option X} {g : Token → Option Y} {v : X} {w : Y} {x : Measure} {a b c d : Place} → IsMarked (bracket n) f v a b → Adds text i m (suc n) x b c → IsMarked plain g w c d → Adds text i m n (in_brackets x) a d
  bracketed_adds s t u = record { adds = λ o. then (opening n s) (before (t.adds o) (token u)) }

  -- behind a word
  worded_adds : {X : Type 0} {f : Token → Option X} {w : X} {x : Measure} {a b c : Place} → IsMarked plain f w a b → Adds text i m n x b c → Adds text i m n x a c
  worded_adds s t = record { adds = λ o. then (token s) (t.adds o) }

  -- the same measure
  measured_as : {x : Measure} {a b : Place} (y : Measure) → x ≡ y → Adds text i m n x a b → Adds text i m n y a b
  measured_as {x} {a} {b} y is s = subst (λ z. Adds text i m n z a b) is s

-- ---- expressions

-- the expression leads to as many more operators as it has, and fits
abbrev pub Fits : List ℕ → ℕ → ℕ → ℕ → Expr → Place → Place → Type 0
Fits text i m n x a b = Adds text i m n (measured x) a b

-- two operands
two : {text : List ℕ} {i m n : ℕ} {X : Type 0} {f : Token → Option X} {w : X} (o : Operator) (x y : Expr) {a b c d : Place} → Fits text i m n x a b → IsMarked operator f w b c → Fits text i m n y c d → Fits text i m n (expr_of (e.Binary o x y) a d) a d
two o x y {a} {d = d} s t u = measured_as (measured (expr_of (e.Binary o x y) a d)) (measured_layer _ _ _ (e.outs-Binary o x y)) (binary_adds s t u)

module _ {text : List ℕ} {i m : ℕ} where
  mutual
    pub expr_fits : {n : ℕ} {x : Expr} {a b : Place} → IsExpr text n x a b → Fits text i m n x a b
    expr_fits (gr.conj s) = conj_fits s
    expr_fits (gr.either {o = o} {x} {y} s t u) = two o x y (expr_fits s) t (conj_fits u)

    conj_fits : {n : ℕ} {x : Expr} {a b : Place} → IsConj text n x a b → Fits text i m n x a b
    conj_fits (gr.comp s) = comp_fits s
    conj_fits (gr.also {o = o} {x} {y} s t u) = two o x y (conj_fits s) t (comp_fits u)

    comp_fits : {n : ℕ} {x : Expr} {a b : Place} → IsComp text n x a b → Fits text i m n x a b
    comp_fits (gr.sum s) = sum_fits s
    comp_fits (gr.compared {o = o} {x} {y} s t u) = two o x y (sum_fits s) t (sum_fits u)

    sum_fits : {n : ℕ} {x : Expr} {a b : Place} → IsSum text n x a b → Fits text i m n x a b
    sum_fits (gr.term s) = term_fits s
    sum_fits (gr.added {o = o} {x} {y} s t u) = two o x y (sum_fits s) t (term_fits u)

    term_fits : {n : ℕ} {x : Expr} {a b : Place} → IsTerm text n x a b → Fits text i m n x a b
    term_fits (gr.unary s) = unary_fits s
    term_fits (gr.multiplied {o = o} {x} {y} s t u) = two o x y (term_fits s) t (unary_fits u)

    unary_fits : {n : ℕ} {x : Expr} {a b : Place} → IsUnary text n x a b → Fits text i m n x a b
    unary_fits (gr.atom s) = atom_fits s
    unary_fits (gr.before {p = p} {x} s t) = measured_as _ (prefixed_measure p x _) (prefix_adds s (atom_fits t))

    atom_fits : {n : ℕ} {x : Expr} {a b : Place} → IsAtom text n x a b → Fits text i m n x a b
    atom_fits (gr.int s) = measured_as _ (measured_layer _ _ _ (e.outs-Int _)) (leaf_adds (λ n. true) (λ o. token s))
    atom_fits (gr.quoted s) = measured_as _ (measured_layer _ _ _ (e.outs-Text _)) (leaf_adds (λ n. true) (λ o. token s))
    atom_fits (gr.this s) = measured_as _ (measured_layer _ _ _ e.outs-This) (leaf_adds (λ n. true) (λ o. token s))
    atom_fits (gr.fixed {form = form} s) = measured_as _ (constant_measure s.0.kind form _ s.3) (leaf_adds (λ n. true) (λ o. token s))
    atom_fits (gr.name {v = v} s) = measured_as _ (measured_layer _ _ _ (e.outs-Name _)) (leaf_adds (λ n. is_name (word_of (bytes_at text v))) (λ o. word_at s))
    atom_fits (gr.parens s t u) = measured_as _ (measured_layer _ _ _ (e.outs-Parens _)) (bracketed_adds s (expr_fits t) u)
    atom_fits (gr.list s t u) = measured_as _ (measured_layer _ _ _ (e.outs-List _)) (bracketed_adds s (exprs_fit t) u)
    atom_fits (gr.of_type {w = w} {t} s u v z) = measured_as _ (typed_measure w t _) (worded_adds s (bracketed_adds u (leaf_adds (type_fits t) (λ o. type_is v)) z))
    atom_fits (gr.on_one {w = w} {x} s t u v) = measured_as _ (single_measure w x _) (worded_adds s (bracketed_adds t (expr_fits u) v))
    atom_fits (gr.on_two {w = w} {x} {y} s t u v z o) = measured_as _ (double_measure w x y _) (worded_adds s (bracketed_adds t (pair_adds (expr_fits u) v (expr_fits z)) o))

    exprs_fit : {n : ℕ} {xs : List Expr} {a b : Place} → IsExprs text n xs a b → Adds text i m n (all_of (map measured xs)) a b
    exprs_fit (gr.one s) = last_adds (expr_fits s)
    exprs_fit (gr.more s t u) = pair_adds (expr_fits s) t (exprs_fit u)

  -- ---- whole expressions

  -- with no operators before, since they are counted together
  pub whole_is : {n : ℕ} {x : Expr} {a b : Place} → IsWhole text n x a b → Leads text (counts i 0 m 0) (counts i 0 m 0) (whole_fits n x) a b
  whole_is {n} {x} s =
      closed finish (λ v w. record { variables = w.variables; operators = v.operators; names = w.names; groups = w.groups; traits = w.traits })
      (also (nat_le (measured x).operators max_operators) (λ w. le-leb _ _ (omega (arith, w.operators))) ((expr_fits s.1).adds 0)) s.2

  -- whole expressions, one after the other
  pub wholes_are : (n : ℕ) (xs : List Expr) {a b : Place} → IsWholes text n xs a b → Leads text (counts i 0 m 0) (counts i 0 m 0) (every (whole_fits n) xs) a b
  wholes_are n xs {a} {b} s = listed k.Comma (λ x c d t. whole_is t) xs a b s

  -- whole expressions in brackets
  pub arguments_are : {n : ℕ} {xs : List Expr} {a b : Place} → IsArgs text n xs a b → Leads text (counts i 0 m 0) (counts i 0 m 0) (arguments_fit n xs) a b
  arguments_are (gr.none {n = n} s t) = then (opening n s) (token t)
  arguments_are (gr.some {n = n} {xs} c s t u) = then (opening n s) (before (wholes_are (suc n) xs t) (token u))
