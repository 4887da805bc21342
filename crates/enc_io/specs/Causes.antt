-- When a call over an object that counts its faults fails, and what a cut write leaves.
use Rattle.std.specs.Prelude.{◌≡◌, ◌<◌, ◌≤◌, ℕ, List, length, take, Option, Result, OnOk, OnErr, IsErrOf}
use Rattle.std.specs.Io.KnownBytes.{Appends}
use Rattle.enc_io.specs.declared.failed.ReadFail.{ReadFail}
use Rattle.enc_io.specs.declared.failed.ReadFail.TheVariants.{Failed, Memory}

-- an error exactly where the count of faults rose
pub record HasCause {T E : Type 0} (before now : ℕ) (result : Result T E) : Type 0 where
  pub ok : OnOk result (now ≡ before)
  pub failed : OnErr result (before < now)

-- a fault exactly where the count of faults rose
pub record HasReadCause {T : Type 0} (before now : ℕ) (result : Result T ReadFail) : Type 0 where
  pub ok : OnOk result (now ≡ before)
  pub failed : IsErrOf result Failed → before < now
  pub memory : IsErrOf result Memory → now ≡ before

-- known bytes grow by some front part of bs
abbrev pub AppendsPrefix : Option (List ℕ) → Option (List ℕ) → List ℕ → Type 0
AppendsPrefix old new bs = (n : ℕ) × (n ≤ length bs) × Appends old new (take n bs)
