-- Types that are the same.
use Rattle.std.proofs.Common.{◌≡◌, true, refl}
use Rattle.enc_modes.specs.declared.ty.Ty.{Ty}
use Rattle.enc_modes.specs.Equality.{same}
use Rattle.enc_modes.proofs.Equal.{same_is_equal}

-- a type is the same as itself
pub same_self : (t : Ty) → same t t ≡ true
same_self t = (same_is_equal t t).1 refl

-- types that are the same are equal
pub same_is : (t u : Ty) → same t u ≡ true → t ≡ u
same_is t u h = (same_is_equal t u).0 h
