-- Files that are held as pairs.
use Rattle.std.specs.Prelude.{ℕ, List, map, Option, IsSome, string_bytes, String, Vec}
use Rattle.std.specs.Option.{ForSome}
use Rattle.std.specs.declared.alloc.Global.{Global}
use Rattle.enc_io.specs.Texts.{Texts, text_of}
use Rattle.enc_io.specs.declared.mem_files.Begun.{Begun}

-- the names and the bytes of the pairs
abbrev pub pairs_of : List (String Global × Vec ℕ Global) → Texts
pairs_of files = map (λ file. (string_bytes file.0, file.1.items)) files

-- the bytes of the first pair of this name
abbrev pub text_in : List (String Global × Vec ℕ Global) → List ℕ → Option (List ℕ)
text_in files name = text_of (pairs_of files) name

-- a file that is begun is one of the pairs
abbrev pub IsAmong : List (String Global × Vec ℕ Global) → Option Begun → Type 0
IsAmong files begun = ForSome begun (λ b. IsSome (text_in files (string_bytes b.name)))
