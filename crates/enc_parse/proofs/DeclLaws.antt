-- The parsers of declarations are lawful.
use Rattle.std.proofs.Common.{true, ◌≡◌, ℕ, zero, suc, ◌+◌, List, [], ◌∷◌, Option, Some, None, refl, sym, subst, inl, inr, arith}
use Rattle.enc_ast.specs.declared.rules.Span.{Span}
use Rattle.enc_lex.specs.declared.kinds.Kind.{Kind}
use Rattle.enc_lex.specs.declared.kinds.Kind.TheVariants as k
use Rattle.enc_ast.specs.declared.decls.ModeWord.TheVariants as modes
use Rattle.enc_ast.specs.declared.decls.Param.{Param}
use Rattle.enc_ast.specs.declared.decls.Method.{Method}
use Rattle.enc_ast.specs.declared.decls.Decl.{Decl}
use Rattle.enc_ast.specs.declared.decls.Decl.TheVariants as decl
use Rattle.enc_cursor.specs.Counts.{plain, declared, leave}
use Rattle.enc_cursor.specs.Limits.{Limits, with_brackets, allowed}
use Rattle.enc_cursor.specs.Place.{Place, is, extent}
use Rattle.enc_cursor.specs.Stretch.{Stretch, IsMarked, by_kind, Each, After, Before, Separated, Maybe, Opened, Closed, Spanned}
use Rattle.enc_cursor.specs.Steps.{Set, but, some, can}
use Rattle.enc_cursor.proofs.Lawful.{Lawful, or, none_of, with_sets, same_sentences}
use Rattle.enc_cursor.proofs.Sequence.{as_lawful}
use Rattle.enc_cursor.proofs.Choice.{only_lawful}
use Rattle.enc_cursor.proofs.Names.{kind_token_lawful}
use Rattle.enc_cursor.proofs.Openings.{Inside, opened_lawful}
use Rattle.enc_cursor.proofs.Endings.{closed_lawful}
use Rattle.enc_cursor.proofs.Sets.{clear, within}
use Rattle.enc_cursor.proofs.Words.{Pair, Image, Union, pair_lawful, after_lawful, before_lawful, image_lawful, union_lawful, many_law, spanned_law}
use Rattle.enc_cursor.proofs.Inside.{inside_of, inside_pair, inside_as, inside_before, inside_after, inside_optional, inside_separated, inside_spanned, inside_sets}
use Rattle.enc_terms.specs.Names.{IsNameAs}
use Rattle.enc_terms.specs.Types.{IsType, IsClassGroups}
use Rattle.enc_terms.specs.Sets.{extends_type}
use Rattle.enc_terms.proofs.NameLaws.{variable_law, declared_law}
use Rattle.enc_terms.proofs.TypeLaws.{type_law, type_inside_law, class_groups_law}
use Rattle.enc_stmts.specs.Stmts.{IsBlock}
use Rattle.enc_parse.specs.Decls as g
use Rattle.enc_parse.specs.Decls.{mode, IsField, IsParam, IsParams, IsRoutine, IsMembers, IsDecl, IsProgram}
use Rattle.enc_parse.specs.DeclReading.{any_of, field_of, field, fields, param_of, param, params, any_params, param_list, RoutineParts, routine_of, routine_parts, routine, methods, Members, members_below, members_inside, members, trait_of, trait_decl, class_of, class_decl, active_of, active_decl, fun_decl, declaration, declarations}
use Rattle.enc_stmts.proofs.BlockLaws.{block_law}

-- any kind, and the end
abbrev pub every_kind : Set
every_kind l = true

-- what begins a declaration
abbrev pub begins_decl : Set
begins_decl = or (can mode) (or (is k.Class) (or (is k.Active) (is k.Fun)))

-- ---- fields and parameters

module _ (L : Limits) (text : List ℕ) (n room : ℕ) (fits : n + room ≡ L.brackets) where
  pub field_law : Lawful L (IsField text n) (is k.Name) none_of (field text L.counts room)
  unfolding field
  field_law = as_lawful field_of (IsField text n)
      (λ x a b s. (s.0.0, s.0.2.0, s.0.2.2.0, s.0.1, s.0.2.1, s.0.2.2.1, s.0.2.2.2, s.1)) (λ x a b s. (((x.name, x.ty), x.span), refl, ((s.0, s.3, (s.1, s.4, (s.2, s.5, s.6))), s.7)))
      (spanned_law (pair_lawful (declared_law text) (after_lawful k.Colon (before_lawful k.Semicolon (type_law L text n room fits) (clear _ _ refl))) (clear _ _ refl)) refl refl)

  pub param_inside : Inside L room (IsParam text (suc n)) (is k.Name) extends_type (param text L.counts room)
  unfolding param
  param_inside = inside_as param_of (IsParam text (suc n))
      (λ x a b s. (s.0.0, s.0.2.0, s.0.1, s.0.2.1, s.0.2.2, s.1)) (λ x a b s. (((x.name, x.ty), x.span), refl, ((s.0, s.2, (s.1, s.3, s.4)), s.5)))
      (inside_spanned (inside_pair (inside_of room (variable_law text)) (inside_after k.Colon (type_inside_law L text n room fits)) (clear _ _ refl)) refl refl)

  pub params_inside : Inside L room (Separated k.Comma (IsParam text (suc n))) (is k.Name) (or (is k.Comma) extends_type) (params text L.counts room)
  unfolding params
  params_inside = inside_separated k.Comma param_inside refl (clear _ _ refl)

params_made : (text : List ℕ) (n : ℕ) (x : Option (List Param)) (a b : Place) → Maybe (Separated k.Comma (IsParam text n)) x a b → IsParams text n (any_of x) a b
params_made text n None a b s = s
params_made text n (Some []) a b s = absurd s
params_made text n (Some (x ∷ xs)) a b s = s

params_cases : (text : List ℕ) (n : ℕ) (xs : List Param) (a b : Place) → IsParams text n xs a b → Image any_of (Maybe (Separated k.Comma (IsParam text n))) xs a b
params_cases text n [] a b s = (None, refl, s)
params_cases text n (x ∷ xs) a b s = (Some (x ∷ xs), refl, s)

-- parameters within brackets
abbrev ParamList : List ℕ → ℕ → List Param → Stretch
ParamList text n = Opened n k.OpenParen (Before k.CloseParen (IsParams text (suc n)))

module _ (L : Limits) (text : List ℕ) (n room : ℕ) (fits : n + room ≡ L.brackets) where
  pub any_params_inside : Inside L room (IsParams text (suc n)) every_kind (or (but k.CloseParen) (or (is k.Comma) extends_type)) (any_params text L.counts room)
  unfolding any_params
  any_params_inside = inside_sets (inside_as any_of (IsParams text (suc n)) (params_made text (suc n)) (params_cases text (suc n)) (inside_optional (but k.CloseParen) (within _ _ refl) (params_inside L text n room fits))) (within _ _ refl) (clear _ _ refl)

  param_list_law : Lawful L (ParamList text n) (is k.OpenParen) none_of (param_list text L.counts room)
  unfolding param_list
  param_list_law = opened_lawful n room k.OpenParen fits (inside_before k.CloseParen any_params_inside (clear _ _ refl))

-- ---- methods and functions

-- the parts of a method or a function
abbrev PartsOf : List ℕ → Kind → ℕ → RoutineParts → Stretch
PartsOf text word n = After word (Pair (IsNameAs declared text) (Pair (ParamList text n) (After k.Colon (Pair (IsType text n) (IsBlock text n)))))

routine_made : (text : List ℕ) (word : Kind) (n : ℕ) (x : Method) (a b : Place) → Closed leave (Image routine_of (Spanned (PartsOf text word n))) x a b → IsRoutine text word n x a b
routine_made text word n x a b (i, (p, o, ((c, s, (d, u, (f, (m, v, (e, w, y)), (h, z, (j, q, l))))), r)), t) =
    subst (λ (x : Method). IsRoutine text word n x a b) o (subst (λ (v : Span). IsRoutine text word n (routine_of (p.0, v)) a b) (sym r) (g.routine e s u v w y z q l t))

routine_cases : {text : List ℕ} {word : Kind} {n : ℕ} {x : Method} {a b : Place} → IsRoutine text word n x a b → Closed leave (Image routine_of (Spanned (PartsOf text word n))) x a b
routine_cases (g.routine {n} {x} {ps} {t} {xs} {a} {b} {c} {d} f {g = m} {h} {i} {j} {l} s u v w y z q o e) = (j, (((x, (ps, (t, xs))), extent a j), refl, ((b, s, (c, u, (m, (d, v, (f, w, y)), (h, z, (i, q, o))))), refl)), e)

module _ (L : Limits) (text : List ℕ) (n room : ℕ) (fits : n + room ≡ L.brackets) where
  pub routine_law : (word : Kind) → Lawful L (IsRoutine text word n) (is word) none_of (routine text L.counts word room)
  unfolding routine routine_parts
  routine_law word = same_sentences (IsRoutine text word n) (routine_made text word n) (λ x a b s. routine_cases s) (closed_lawful leave (image_lawful routine_of
      (spanned_law (after_lawful word (pair_lawful (declared_law text) (pair_lawful (param_list_law L text n room fits)
      (after_lawful k.Colon (pair_lawful (type_law L text n room fits) (block_law L text n room fits) (clear _ _ refl))) (clear _ _ refl)) (clear _ _ refl))) refl refl)))

  pub fields_law : Lawful L (Each (IsField text n)) every_kind (is k.Name) (fields text L.counts room)
  unfolding fields
  fields_law = with_sets (many_law (is k.Name) (field_law L text n room fits) refl refl (within _ _ refl) (clear _ _ refl)) (within _ _ refl) (clear _ _ refl)

  -- behind the methods there is neither a method nor a field
  methods_law : Lawful L (Each (IsRoutine text k.Def n)) (but k.Name) (or (is k.Def) (is k.Name)) (methods text L.counts room)
  unfolding methods
  methods_law = let one : Lawful L (IsRoutine text k.Def n) (is k.Def) (is k.Name) (routine text L.counts k.Def room) = with_sets (routine_law k.Def) (within _ _ refl) (clear _ _ refl) in
      with_sets (many_law (is k.Def) one refl refl (within _ _ refl) (clear _ _ refl)) (within _ _ refl) (clear _ _ refl)

-- ---- members

-- members behind the opening brace
abbrev MembersBelow : List ℕ → ℕ → Members → Stretch
MembersBelow text n = Pair (Each (IsField text n)) (Each (IsRoutine text k.Def n))

-- members within braces
abbrev MembersOf : List ℕ → Members → Stretch
MembersOf text = Opened 0 k.OpenBrace (Before k.CloseBrace (MembersBelow text 1))

members_below_law : (L : Limits) (text : List ℕ) (n room : ℕ) → n + room ≡ L.brackets → Lawful L (MembersBelow text n) every_kind (or (is k.Def) (is k.Name)) (members_below text L.counts room)
unfolding members_below
members_below_law L text n room fits = pair_lawful (fields_law L text n room fits) (methods_law L text n room fits) (clear _ _ refl)

members_inside_law : (L : Limits) (text : List ℕ) (room : ℕ) → 0 + room ≡ L.brackets → Inside L room (MembersBelow text 1) every_kind (or (is k.Def) (is k.Name)) (members_inside text L.counts room)
unfolding members_inside
members_inside_law L text zero fits = let one = members_below_law (with_brackets 1 allowed) text 1 0 refl in record { law = λ r e. absurd (omega arith); later = one.later; sample = one.sample }
members_inside_law L text (suc m) fits = inside_of (suc m) (let h : 1 + m ≡ L.brackets = omega arith in members_below_law L text 1 m h)

pub members_law : (L : Limits) (text : List ℕ) (room : ℕ) → 0 + room ≡ L.brackets → Lawful L (MembersOf text) (is k.OpenBrace) none_of (members text L.counts room)
unfolding members
members_law L text room fits = opened_lawful 0 room k.OpenBrace fits (inside_before k.CloseBrace (members_inside_law L text room fits) (clear _ _ refl))

-- ---- declarations

-- a trait
abbrev TraitOf : List ℕ → Decl → Stretch
TraitOf text = Image trait_of (Spanned (Pair (IsMarked plain (by_kind mode)) (After k.Trait (Pair (IsNameAs declared text) (MembersOf text)))))

-- a class of passive objects
abbrev ClassOf : List ℕ → Decl → Stretch
ClassOf text = Image class_of (Spanned (After k.Class (Pair (IsNameAs declared text) (After k.Assign (Before k.Semicolon (IsClassGroups text))))))

-- an active class
abbrev ActiveOf : List ℕ → Decl → Stretch
ActiveOf text = Image active_of (Spanned (After k.Active (After k.Class (Pair (IsNameAs declared text) (MembersOf text)))))

-- a function
abbrev FunOf : List ℕ → Decl → Stretch
FunOf text = Image decl.Fun (IsRoutine text k.Fun 0)

-- any declaration
abbrev DeclOf : List ℕ → Decl → Stretch
DeclOf text = Union (TraitOf text) (Union (ClassOf text) (Union (ActiveOf text) (FunOf text)))

decl_made : (text : List ℕ) (x : Decl) (a b : Place) → DeclOf text x a b → IsDecl text x a b
decl_made text x a b (inl (p, o, ((c, s, (d, t, (f, u, (h, v, (j, (i, w, y), z))))), r))) =
    subst (λ (x : Decl). IsDecl text x a b) o (subst (λ (v : Span). IsDecl text (trait_of (p.0, v)) a b) (sym r) (g.trait_ s t u (h, i, j, v, w, y, z)))
decl_made text x a b (inr (inl (p, o, ((c, s, (d, t, (f, u, (h, v, w)))), r)))) =
    subst (λ (x : Decl). IsDecl text x a b) o (subst (λ (v : Span). IsDecl text (class_of (p.0, v)) a b) (sym r) (g.class s t u v w))
decl_made text x a b (inr (inr (inl (p, o, ((c, s, (d, t, (f, u, (h, v, (j, (i, w, y), z))))), r))))) =
    subst (λ (x : Decl). IsDecl text x a b) o (subst (λ (v : Span). IsDecl text (active_of (p.0, v)) a b) (sym r) (g.active s t u (h, i, j, v, w, y, z)))
decl_made text x a b (inr (inr (inr (m, o, s)))) = subst (λ (x : Decl). IsDecl text x a b) o (g.fun s)

decl_cases : {text : List ℕ} {x : Decl} {a b : Place} → IsDecl text x a b → DeclOf text x a b
decl_cases (g.trait_ {m} {x} {fs} {ms} {a} {b} {c} {d} {f} s t u (h, i, j, v, w, y, z)) = inl (((m, (x, (fs, ms))), extent a f), refl, ((b, s, (c, t, (d, u, (h, v, (j, (i, w, y), z))))), refl))
decl_cases (g.class {x} {gs} {a} {b} {c} {d} {f} {g = l} s t u v w) = inr (inl (((x, gs), extent a l), refl, ((b, s, (c, t, (d, u, (f, v, w)))), refl)))
decl_cases (g.active {x} {fs} {ms} {a} {b} {c} {d} {f} s t u (h, i, j, v, w, y, z)) = inr (inr (inl (((x, (fs, ms)), extent a f), refl, ((b, s, (c, t, (d, u, (h, v, (j, (i, w, y), z))))), refl))))
decl_cases (g.fun {m} {a} {b} s) = inr (inr (inr (m, refl, s)))

module _ (L : Limits) (text : List ℕ) (room : ℕ) (fits : 0 + room ≡ L.brackets) where
  trait_law : Lawful L (TraitOf text) (can mode) none_of (trait_decl text L.counts room)
  unfolding trait_decl
  trait_law = image_lawful trait_of (spanned_law (pair_lawful (kind_token_lawful mode k.Linear modes.Linear refl) (after_lawful k.Trait (pair_lawful (declared_law text) (members_law L text room fits) (clear _ _ refl))) (clear _ _ refl)) refl refl)

  class_law : Lawful L (ClassOf text) (is k.Class) none_of (class_decl text L.counts room)
  unfolding class_decl
  class_law = image_lawful class_of (spanned_law (after_lawful k.Class (pair_lawful (declared_law text) (after_lawful k.Assign (before_lawful k.Semicolon (class_groups_law L text room fits) (clear _ _ refl))) (clear _ _ refl))) refl refl)

  active_law : Lawful L (ActiveOf text) (is k.Active) none_of (active_decl text L.counts room)
  unfolding active_decl
  active_law = image_lawful active_of (spanned_law (after_lawful k.Active (after_lawful k.Class (pair_lawful (declared_law text) (members_law L text room fits) (clear _ _ refl)))) refl refl)

  fun_law : Lawful L (FunOf text) (is k.Fun) none_of (fun_decl text L.counts room)
  unfolding fun_decl
  fun_law = image_lawful decl.Fun (routine_law L text 0 room fits k.Fun)

  pub declaration_law : Lawful L (IsDecl text) begins_decl none_of (declaration text L.counts room)
  unfolding declaration
  declaration_law = with_sets (same_sentences (IsDecl text) (decl_made text) (λ x a b s. decl_cases s)
      (union_lawful (can mode) trait_law (union_lawful (is k.Class) class_law (union_lawful (is k.Active) active_law (only_lawful (is k.Fun) fun_law (within _ _ refl)) (within _ _ refl) (clear _ _ refl)) (within _ _ refl) (clear _ _ refl)) (within _ _ refl) (clear _ _ refl)))
      (within _ _ refl) (clear _ _ refl)

  pub declarations_law : Lawful L (IsProgram text) every_kind some (declarations text L.counts room)
  unfolding declarations
  declarations_law = with_sets (many_law some declaration_law refl refl (within _ _ refl) (clear _ _ refl)) (within _ _ refl) (clear _ _ refl)
