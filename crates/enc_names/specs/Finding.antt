-- Methods that are found one after another.
use Rattle.std.specs.Prelude.{ℕ, cond, List, [], ◌∷◌, Option, Some, None}
use Rattle.enc_names.specs.declared.finding.Found.{Found}
use Rattle.enc_names.specs.declared.finding.Found.TheVariants.{Nothing, One, Several}
use Rattle.enc_names.specs.declared.members.MethodId.{MethodId}
use Rattle.enc_names.specs.Lookups.{same_method}

-- what was found, behind one more place that may have a method
abbrev pub more : Found → Option MethodId → Found
more s None = s
more Nothing (Some m) = One m
more (One n) (Some m) = cond (same_method n m) (One n) Several
more Several (Some m) = Several

-- what was found, behind each of these places
abbrev pub find_all : (ℕ → Option MethodId) → Found → List ℕ → Found
find_all f s [] = s
find_all f s (k ∷ ks) = find_all f (more s (f k)) ks

-- the one method, where one alone was found
abbrev pub one_of : Found → Option MethodId
one_of Nothing = None
one_of (One m) = Some m
one_of Several = None
