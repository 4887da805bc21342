-- What the functions of a parser promise.
use Rattle.std.specs.Prelude.{◌≡◌, Result, Ok, Err}
use Rattle.enc_cursor.specs.declared.error.ParseError.{ParseError}
use Rattle.enc_cursor.specs.declared.error.ParseError.TheVariants as errors
use Rattle.enc_cursor.specs.Place.{Spot}
use Rattle.enc_cursor.specs.Steps.{Outcome, Got, Wrong, Over}

-- What a function returned is the outcome, and the cursor stands there, unless memory ran out.
abbrev pub Reads : {A : Type 0} → Outcome A → Result A ParseError → Spot → Type 0
Reads outcome (Ok x) new = outcome ≡ Got x new
Reads outcome (Err errors.Memory) new = Unit {0}
Reads outcome (Err errors.Form) new = outcome ≡ Wrong new
Reads outcome (Err errors.Over) new = outcome ≡ Over new
