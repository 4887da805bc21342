-- The body that runs has no more statements than the text has bytes.
use Rattle.std.proofs.Common.{◌≡◌, ℕ, zero, suc, ◌+◌, ◌≤◌, Bool, true, false, cond, List, [], ◌∷◌, length, Some, None, refl, sym, ap, ◌∙◌, arith, inl, inr}
use Rattle.enc_ast.specs.declared.decls.Decl.{Decl}
use Rattle.enc_ast.specs.declared.decls.Field.{Field}
use Rattle.enc_ast.specs.declared.decls.Method.{Method}
use Rattle.enc_ast.specs.declared.Program.{Program}
use Rattle.enc_ast.specs.declared.Stmt.{Stmt}
use Rattle.enc_ast.specs.Thin.{first_body, main_body, body_of}
use Rattle.enc_lex.specs.declared.tokens.Token.{Token}
use Rattle.enc_lex.specs.declared.kinds.Kind.{Kind}
use Rattle.enc_lex.specs.declared.kinds.Kind.TheVariants as k
use Rattle.enc_lex.specs.Lexes.{InOrder}
use Rattle.enc_lex.proofs.OneAnswer.{lexes_in_order}
use Rattle.enc_cursor.specs.Counts.{plain, declared}
use Rattle.enc_cursor.specs.Limits.{Limits, Log, passed, with_brackets, allowed}
use Rattle.enc_cursor.specs.Place.{Spot, Place, peek, start_of}
use Rattle.enc_cursor.specs.Stretch.{Stretch, Each}
use Rattle.enc_cursor.specs.Steps.{Outcome, Got, Wrong, Over, Parser, Set, and_then, but, many_from, many}
use Rattle.enc_cursor.proofs.Lawful.{Lawful, Later, count, IsPast, then_got, got_value, got_place}
use Rattle.enc_cursor.proofs.Tokens.{token_begins}
use Rattle.enc_cursor.proofs.Names.{token_later, name_later, opening_later}
use Rattle.enc_cursor.proofs.Loops.{item_shorter}
use Rattle.enc_cursor.proofs.Whole.{past_at}
use Rattle.enc_cursor.proofs.Wide.{total_size, wide_limits, wide_brackets, none_passed}
use Rattle.enc_stmts.specs.Stmts as st
use Rattle.enc_stmts.specs.Stmts.{IsStmt, IsStmts, IsBlock}
use Rattle.enc_stmts.specs.StmtReading.{stmts_inside}
use Rattle.enc_stmts.proofs.BlockLaws.{stmts_inside_law, stmt_law}
use Rattle.enc_terms.proofs.TypeLaws.{type_law}
use Rattle.enc_parse.specs.Decls as g
use Rattle.enc_parse.specs.Decls.{IsField, IsRoutine, IsMembers, IsDecl, IsProgram}
use Rattle.enc_parse.specs.Spells.{Spells}
use Rattle.enc_parse.proofs.DeclLaws.{any_params_inside, fields_law}

-- ---- what a loop has read takes as many tokens

module _ {A : Type 0} {L : Limits} {S : A → Stretch} {F M : Set} {p : Parser A} (law : Lawful L S F M p) (first : F None ≡ false) (last : M None ≡ false) (t : Set) where
  from_few : (n : ℕ) (a b : Spot) (xs : List A) → many_from t p n a ≡ Got xs b → length xs + length b.ahead ≤ length a.ahead
  unfolding many_from
  from_few zero a b xs e = absurd cc
  from_few (suc n) a b xs e = go (from_few n) (t (peek a)) e
    where
      go : ((a b : Spot) (xs : List A) → many_from t p n a ≡ Got xs b → length xs + length b.ahead ≤ length a.ahead) → (c : Bool)
          → cond c (and_then (p a) (λ x b. and_then (many_from t p n b) (λ xs c. Got (x ∷ xs) c))) (Got [] a) ≡ Got xs b → length xs + length b.ahead ≤ length a.ahead
      go below true e =
          let one = then_got (p a) (λ x b. and_then (many_from t p n b) (λ xs c. Got (x ∷ xs) c)) xs b e in
          let more = then_got (many_from t p n one.1) (λ xs c. Got (one.0 ∷ xs) c) xs b one.3 in
          let shorter = item_shorter law first last a one.1 one.0 one.2 in
          let rest = below one.1 more.1 more.0 more.2 in
          let all : one.0 ∷ more.0 ≡ xs = got_value (one.0 ∷ more.0) xs more.1 b more.3 in
          let end : more.1 ≡ b = got_place (one.0 ∷ more.0) xs more.1 b more.3 in
          omega (arith, shorter, rest, ap length all, ap (λ (c : Spot). length c.ahead) end)
      go below false e = let none : [] ≡ xs = got_value [] xs a b e in let same : a ≡ b = got_place [] xs a b e in omega (arith, ap length none, ap (λ (c : Spot). length c.ahead) same)

none_some : (n : ℕ) → None ≡ Some n → ⊥
none_some n e = cc

not_past : {A : Type 0} (L : Limits) (n : ℕ) (log : Log) (o : Outcome A) → passed L log ≡ None → IsPast L n log o → ⊥
not_past L n log (Got x b) e h = h
not_past L n log (Wrong b) e h = h
not_past {A} L n log (Over b) e h = let over = past_at A L n log b h in none_some over.0 (sym e ∙ over.1)

-- ---- the statements of a block

module _ (text : List ℕ) (n : ℕ) (xs : List Stmt) (b c : Place) where
  -- limits that the block does not pass, and how many brackets may still be opened
  room : ℕ
  room = total_size b.log + total_size c.log

  roomy : Limits
  roomy = wide_limits (n + suc room)

  -- what stands before a closing brace takes as many tokens
  stmts_few : IsStmts text (suc n) xs b c → peek c.spot ≡ Some k.CloseBrace → length xs + length c.spot.ahead ≤ length b.spot.ahead
  unfolding room roomy stmts_inside many
  stmts_few s close =
      let fits : n + suc room ≡ roomy.brackets = sym (wide_brackets (n + suc room)) in
      let deeper : suc n + room ≡ roomy.brackets = omega (arith, fits) in
      let law = (stmts_inside_law roomy text n (suc room) fits).law room refl in
      let ends : but k.CloseBrace (peek c.spot) ≡ false = ap (but k.CloseBrace) close in
      let fine_b : passed roomy b.log ≡ None = none_passed (n + suc room) b.log (omega arith) in
      let fine_c : passed roomy c.log ≡ None = none_passed (n + suc room) c.log (omega arith) in
      elim (law.finds b c xs s ends fine_b) [
        | inl found ↦ from_few (stmt_law roomy text (suc n) room deeper) refl refl (but k.CloseBrace) (suc (length b.spot.ahead)) b.spot c.spot xs found.0
        | inr past ↦ absurd (not_past roomy (count b) c.log _ fine_c past)
      ]

-- as many tokens in all
same_count : (a b : Place) → Later a b → count b ≡ count a
same_count a b later = later.2

block_few : (text : List ℕ) {n : ℕ} {xs : List Stmt} {a b : Place} → IsBlock text n xs a b → length xs ≤ count a
block_few text (st.block {n} {xs} {a} {b} {c} {d} {f} o s close e) =
    let few = stmts_few text n xs b c s (token_begins plain k.CloseBrace (λ v. tt) tt c d close) in
    omega (arith, few, same_count a b (opening_later n k.OpenBrace a b o))

routine_few : (text : List ℕ) (word : Kind) {n : ℕ} {m : Method} {a b : Place} → IsRoutine text word n m a b → length m.body ≤ count a
routine_few text word (g.routine {n} {x} {ps} {t} {xs} {a} {b} {c} {d} f {g = m} {h} {i} {j} {l} s u v w y z q o e) =
    let L = with_brackets n allowed in
    let fits : n + 0 ≡ L.brackets = omega arith in
    omega (
      arith,
      block_few text o,
      same_count a b (token_later word a b s),
      same_count b c (name_later declared u.0 b c u.2),
      same_count c d (opening_later n k.OpenParen c d v),
      same_count d f ((any_params_inside L text n 0 fits).later d f ps w),
      same_count f m (token_later k.CloseParen f m y),
      same_count m h (token_later k.Colon m h z),
      same_count h i ((type_law L text n 0 fits).later h i t q),
    )

-- ---- the first method of an active class that comes first

methods_few : (text : List ℕ) (ms : List Method) (a b : Place) → Each (IsRoutine text k.Def 1) ms a b → length (first_body ms) ≤ count a
methods_few text [] a b s = omega arith
methods_few text (m ∷ ms) a b s = routine_few text k.Def s.1

members_few : (text : List ℕ) (fs : List Field) (ms : List Method) (a b : Place) → IsMembers text fs ms a b → length (first_body ms) ≤ count a
members_few text fs ms a b s =
    omega (
      arith,
      methods_few text ms s.1 s.2 s.5,
      same_count a s.0 (opening_later 0 k.OpenBrace a s.0 s.3),
      same_count s.0 s.1 ((fields_law (with_brackets 1 allowed) text 1 0 refl).later s.0 s.1 fs s.4),
    )

decl_few : (text : List ℕ) {x : Decl} {a b : Place} (xs : List Decl) → IsDecl text x a b → length (main_body (x ∷ xs)) ≤ count a
decl_few text xs (g.trait_ s t u v) = omega arith
decl_few text xs (g.class s t u v w) = omega arith
decl_few text xs (g.active {x} {fs} {ms} {a} {b} {c} {d} {f} s t u v) =
    omega (
      arith,
      members_few text fs ms d f v,
      same_count a b (token_later k.Active a b s),
      same_count b c (token_later k.Class b c t),
      same_count c d (name_later declared u.0 c d u.2),
    )
decl_few text xs (g.fun s) = omega arith

program_few : (text : List ℕ) (xs : List Decl) (a b : Place) → IsProgram text xs a b → length (main_body xs) ≤ count a
program_few text [] a b s = omega arith
program_few text (x ∷ xs) a b s = decl_few text xs s.1

-- each token has a byte
order_few : (start end : ℕ) (tokens : List Token) → InOrder start end tokens → start + length tokens ≤ end
order_few start end [] order = omega arith
order_few start end (t ∷ tokens) order = omega (arith, order.0, order.1, order_few t.span.end end tokens order.2)

-- the program of a text has no more statements in the body that runs than the text has bytes
pub few : (text : List ℕ) (program : Program) → Spells text program → length (body_of program) ≤ length text
few text program spells =
    let tree = spells.fits.spells in
    omega (arith, program_few text program.decls (start_of spells.tokens) tree.end tree.tree, order_few 0 (length text) spells.tokens (lexes_in_order text spells.tokens spells.lexes))
