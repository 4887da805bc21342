-- What a row ends as, once a `&mut` into it has ended.
use Rattle.std.specs.Prelude.{ℕ, List, slice_set, Option}
use Rattle.std.specs.Borrow.{Fml, RattleType, MutBor, LendsIf}
use Rattle.enc_ast.specs.contracts.row.Row.{the_row}

-- the row ends with the item in this place set to the last value behind the result, and as it was at `None`
abbrev pub LendsItem : (T : RattleType) → MutBor (List T.Denot) → ℕ → Option (MutBor T.Denot) → Fml
LendsItem T row at result = LendsIf (the_row T) T row result (slice_set row.now at) row.now
