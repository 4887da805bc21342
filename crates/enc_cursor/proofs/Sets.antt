-- Facts about all kinds, by computing.
use Rattle.std.proofs.Common.{◌≡◌, ℕ, zero, suc, Bool, true, false, List, [], ◌∷◌, Option, Some, None, refl}
use Rattle.std.specs.Prelude.{not, ◌&&◌}
use Rattle.enc_lex.specs.declared.kinds.Kind.{Kind}
use Rattle.enc_cursor.specs.Steps.{Set}
use Rattle.enc_cursor.proofs.Lawful.{Clear, Within}
use Rattle.enc_lex.specs.declared.kinds.Kind.TheVariants as k

abbrev every : List (Option Kind) → Set → Bool
every [] P = true
every (k ∷ ks) P = P k && every ks P

abbrev at : List (Option Kind) → ℕ → Option (Option Kind)
at [] n = None
at (k ∷ ks) zero = Some k
at (k ∷ ks) (suc n) = at ks n

and_parts : (b c : Bool) → (b && c) ≡ true → (b ≡ true) × (c ≡ true)
and_parts true c e = (refl, e)
and_parts false c e = absurd cc

every_at : (ks : List (Option Kind)) (P : Set) (n : ℕ) (k : Option Kind) → every ks P ≡ true → at ks n ≡ Some k → P k ≡ true
every_at [] P n k h e = absurd cc
every_at (l ∷ ks) P zero k h e = let same : l ≡ k = cc in let first = (and_parts (P l) (every ks P) h).0 in rw (← same) first
every_at (l ∷ ks) P (suc n) k h e = every_at ks P n k (and_parts (P l) (every ks P) h).1 e

-- every kind, and the end
abbrev pub kinds : List (Option Kind)
kinds = None ∷ Some k.Name ∷ Some k.Int ∷ Some k.Text ∷ Some k.Active ∷ Some k.And ∷ Some k.Append ∷ Some k.As ∷ Some k.At ∷ Some k.Atomic ∷ Some k.Await ∷ Some k.Bestow ∷ Some k.Bestowed ∷ Some k.TypeBool ∷ Some k.Both ∷ Some k.Chain ∷ Some k.Choose ∷ Some k.Class ∷ Some k.Def ∷ Some k.Each ∷ Some k.Else ∷ Some k.Empty ∷ Some k.Extract ∷ Some k.False ∷ Some k.Fun ∷ Some k.Fut ∷ Some k.Future ∷ Some k.Get ∷ Some k.If ∷ Some k.TypeInt ∷ Some k.Into ∷ Some k.IsNull ∷ Some k.Join ∷ Some k.Len ∷ Some k.Let ∷ Some k.Lift ∷ Some k.Linear ∷ Some k.List ∷ Some k.Local ∷ Some k.New ∷ Some k.Nil ∷ Some k.Not ∷ Some k.Null ∷ Some k.Or ∷ Some k.Otherwise ∷ Some k.Pack ∷ Some k.Par ∷ Some k.Print ∷ Some k.Prune ∷ Some k.Read ∷ Some k.Return ∷ Some k.Seq ∷ Some k.Split ∷ Some k.Subordinate ∷ Some k.Suspend ∷ Some k.Take ∷ Some k.TypeText ∷ Some k.This ∷ Some k.Trait ∷ Some k.True ∷ Some k.Unit ∷ Some k.While ∷ Some k.With ∷ Some k.OpenBrace ∷ Some k.CloseBrace ∷ Some k.OpenParen ∷ Some k.CloseParen ∷ Some k.OpenBracket ∷ Some k.CloseBracket ∷ Some k.Colon ∷ Some k.Semicolon ∷ Some k.Comma ∷ Some k.Dot ∷ Some k.Bang ∷ Some k.Assign ∷ Some k.Equal ∷ Some k.NotEqual ∷ Some k.Less ∷ Some k.LessEqual ∷ Some k.Greater ∷ Some k.GreaterEqual ∷ Some k.Plus ∷ Some k.Minus ∷ Some k.Star ∷ Some k.Slash ∷ Some k.Percent ∷ []

abbrev pub all_kinds : Set → Bool
all_kinds P = every kinds P

pub of_all : (P : Set) → all_kinds P ≡ true → (k : Option Kind) → P k ≡ true
of_all P h None = every_at kinds P 0 None h refl
of_all P h (Some k.Name) = every_at kinds P 1 (Some k.Name) h refl
of_all P h (Some k.Int) = every_at kinds P 2 (Some k.Int) h refl
of_all P h (Some k.Text) = every_at kinds P 3 (Some k.Text) h refl
of_all P h (Some k.Active) = every_at kinds P 4 (Some k.Active) h refl
of_all P h (Some k.And) = every_at kinds P 5 (Some k.And) h refl
of_all P h (Some k.Append) = every_at kinds P 6 (Some k.Append) h refl
of_all P h (Some k.As) = every_at kinds P 7 (Some k.As) h refl
of_all P h (Some k.At) = every_at kinds P 8 (Some k.At) h refl
of_all P h (Some k.Atomic) = every_at kinds P 9 (Some k.Atomic) h refl
of_all P h (Some k.Await) = every_at kinds P 10 (Some k.Await) h refl
of_all P h (Some k.Bestow) = every_at kinds P 11 (Some k.Bestow) h refl
of_all P h (Some k.Bestowed) = every_at kinds P 12 (Some k.Bestowed) h refl
of_all P h (Some k.TypeBool) = every_at kinds P 13 (Some k.TypeBool) h refl
of_all P h (Some k.Both) = every_at kinds P 14 (Some k.Both) h refl
of_all P h (Some k.Chain) = every_at kinds P 15 (Some k.Chain) h refl
of_all P h (Some k.Choose) = every_at kinds P 16 (Some k.Choose) h refl
of_all P h (Some k.Class) = every_at kinds P 17 (Some k.Class) h refl
of_all P h (Some k.Def) = every_at kinds P 18 (Some k.Def) h refl
of_all P h (Some k.Each) = every_at kinds P 19 (Some k.Each) h refl
of_all P h (Some k.Else) = every_at kinds P 20 (Some k.Else) h refl
of_all P h (Some k.Empty) = every_at kinds P 21 (Some k.Empty) h refl
of_all P h (Some k.Extract) = every_at kinds P 22 (Some k.Extract) h refl
of_all P h (Some k.False) = every_at kinds P 23 (Some k.False) h refl
of_all P h (Some k.Fun) = every_at kinds P 24 (Some k.Fun) h refl
of_all P h (Some k.Fut) = every_at kinds P 25 (Some k.Fut) h refl
of_all P h (Some k.Future) = every_at kinds P 26 (Some k.Future) h refl
of_all P h (Some k.Get) = every_at kinds P 27 (Some k.Get) h refl
of_all P h (Some k.If) = every_at kinds P 28 (Some k.If) h refl
of_all P h (Some k.TypeInt) = every_at kinds P 29 (Some k.TypeInt) h refl
of_all P h (Some k.Into) = every_at kinds P 30 (Some k.Into) h refl
of_all P h (Some k.IsNull) = every_at kinds P 31 (Some k.IsNull) h refl
of_all P h (Some k.Join) = every_at kinds P 32 (Some k.Join) h refl
of_all P h (Some k.Len) = every_at kinds P 33 (Some k.Len) h refl
of_all P h (Some k.Let) = every_at kinds P 34 (Some k.Let) h refl
of_all P h (Some k.Lift) = every_at kinds P 35 (Some k.Lift) h refl
of_all P h (Some k.Linear) = every_at kinds P 36 (Some k.Linear) h refl
of_all P h (Some k.List) = every_at kinds P 37 (Some k.List) h refl
of_all P h (Some k.Local) = every_at kinds P 38 (Some k.Local) h refl
of_all P h (Some k.New) = every_at kinds P 39 (Some k.New) h refl
of_all P h (Some k.Nil) = every_at kinds P 40 (Some k.Nil) h refl
of_all P h (Some k.Not) = every_at kinds P 41 (Some k.Not) h refl
of_all P h (Some k.Null) = every_at kinds P 42 (Some k.Null) h refl
of_all P h (Some k.Or) = every_at kinds P 43 (Some k.Or) h refl
of_all P h (Some k.Otherwise) = every_at kinds P 44 (Some k.Otherwise) h refl
of_all P h (Some k.Pack) = every_at kinds P 45 (Some k.Pack) h refl
of_all P h (Some k.Par) = every_at kinds P 46 (Some k.Par) h refl
of_all P h (Some k.Print) = every_at kinds P 47 (Some k.Print) h refl
of_all P h (Some k.Prune) = every_at kinds P 48 (Some k.Prune) h refl
of_all P h (Some k.Read) = every_at kinds P 49 (Some k.Read) h refl
of_all P h (Some k.Return) = every_at kinds P 50 (Some k.Return) h refl
of_all P h (Some k.Seq) = every_at kinds P 51 (Some k.Seq) h refl
of_all P h (Some k.Split) = every_at kinds P 52 (Some k.Split) h refl
of_all P h (Some k.Subordinate) = every_at kinds P 53 (Some k.Subordinate) h refl
of_all P h (Some k.Suspend) = every_at kinds P 54 (Some k.Suspend) h refl
of_all P h (Some k.Take) = every_at kinds P 55 (Some k.Take) h refl
of_all P h (Some k.TypeText) = every_at kinds P 56 (Some k.TypeText) h refl
of_all P h (Some k.This) = every_at kinds P 57 (Some k.This) h refl
of_all P h (Some k.Trait) = every_at kinds P 58 (Some k.Trait) h refl
of_all P h (Some k.True) = every_at kinds P 59 (Some k.True) h refl
of_all P h (Some k.Unit) = every_at kinds P 60 (Some k.Unit) h refl
of_all P h (Some k.While) = every_at kinds P 61 (Some k.While) h refl
of_all P h (Some k.With) = every_at kinds P 62 (Some k.With) h refl
of_all P h (Some k.OpenBrace) = every_at kinds P 63 (Some k.OpenBrace) h refl
of_all P h (Some k.CloseBrace) = every_at kinds P 64 (Some k.CloseBrace) h refl
of_all P h (Some k.OpenParen) = every_at kinds P 65 (Some k.OpenParen) h refl
of_all P h (Some k.CloseParen) = every_at kinds P 66 (Some k.CloseParen) h refl
of_all P h (Some k.OpenBracket) = every_at kinds P 67 (Some k.OpenBracket) h refl
of_all P h (Some k.CloseBracket) = every_at kinds P 68 (Some k.CloseBracket) h refl
of_all P h (Some k.Colon) = every_at kinds P 69 (Some k.Colon) h refl
of_all P h (Some k.Semicolon) = every_at kinds P 70 (Some k.Semicolon) h refl
of_all P h (Some k.Comma) = every_at kinds P 71 (Some k.Comma) h refl
of_all P h (Some k.Dot) = every_at kinds P 72 (Some k.Dot) h refl
of_all P h (Some k.Bang) = every_at kinds P 73 (Some k.Bang) h refl
of_all P h (Some k.Assign) = every_at kinds P 74 (Some k.Assign) h refl
of_all P h (Some k.Equal) = every_at kinds P 75 (Some k.Equal) h refl
of_all P h (Some k.NotEqual) = every_at kinds P 76 (Some k.NotEqual) h refl
of_all P h (Some k.Less) = every_at kinds P 77 (Some k.Less) h refl
of_all P h (Some k.LessEqual) = every_at kinds P 78 (Some k.LessEqual) h refl
of_all P h (Some k.Greater) = every_at kinds P 79 (Some k.Greater) h refl
of_all P h (Some k.GreaterEqual) = every_at kinds P 80 (Some k.GreaterEqual) h refl
of_all P h (Some k.Plus) = every_at kinds P 81 (Some k.Plus) h refl
of_all P h (Some k.Minus) = every_at kinds P 82 (Some k.Minus) h refl
of_all P h (Some k.Star) = every_at kinds P 83 (Some k.Star) h refl
of_all P h (Some k.Slash) = every_at kinds P 84 (Some k.Slash) h refl
of_all P h (Some k.Percent) = every_at kinds P 85 (Some k.Percent) h refl

clear_by : (b c : Bool) → not (b && c) ≡ true → b ≡ true → c ≡ false
clear_by true true h e = absurd cc
clear_by true false h e = refl
clear_by false c h e = absurd cc

within_by : (b c : Bool) → not (b && not c) ≡ true → b ≡ true → c ≡ true
within_by true true h e = refl
within_by true false h e = absurd cc
within_by false c h e = absurd cc

-- of two sets that are known it is `clear _ _ refl`
pub clear : (F M : Set) → all_kinds (λ k. not (F k && M k)) ≡ true → Clear F M
clear F M h k e = clear_by (F k) (M k) (of_all (λ k. not (F k && M k)) h k) e

-- of two sets that are known it is `within _ _ refl`
pub within : (F G : Set) → all_kinds (λ k. not (F k && not (G k))) ≡ true → Within F G
within F G h k e = within_by (F k) (G k) (of_all (λ k. not (F k && not (G k))) h k) e
