-- Laws of files in memory.
use Rattle.std.specs.Prelude.{◌≡◌, ℕ, List, [], Option, Some, None, IsSome, drop, refl, unwrap_or, string_bytes, String, Vec}
use Rattle.std.specs.Option.{option_map}
use Rattle.std.proofs.lemmas.Bool.{false≢true}
use Rattle.std.specs.declared.alloc.Global.{Global}
use Rattle.enc_io.specs.MemFiles.{pairs_of, text_in, IsAmong}
use Rattle.enc_io.specs.MemFilesView.{mem_files_texts, mem_files_begun, mem_files_rest}
use Rattle.enc_io.specs.Texts.{IsRestOf}
use Rattle.enc_io.specs.declared.mem_files.Begun.{Begun}
use Rattle.enc_io.specs.declared.mem_files.MemFiles.{MemFiles}

-- a text that is known has an end part
rest_of_some : (text : Option (List ℕ)) (offset : ℕ) → IsSome text → (bytes : List ℕ) × (from : ℕ) × (text ≡ Some bytes) × (Some (drop offset (unwrap_or text [])) ≡ Some (drop from bytes))
rest_of_some None offset some = absurd (false≢true some)
rest_of_some (Some bytes) offset some = (bytes, offset, refl, refl)

-- the same of any pairs and any begun file among them
rest_among : (files : List (String Global × Vec ℕ Global)) (begun : Option Begun) → IsAmong files begun → IsRestOf (Some (pairs_of files)) (option_map (λ b. string_bytes b.name) begun) (option_map (λ b. drop b.offset (unwrap_or (text_in files (string_bytes b.name)) [])) begun)
rest_among files None among = tt
rest_among files (Some b) among = rest_of_some (text_in files (string_bytes b.name)) b.offset (among b refl)

-- the rest of the begun file is an end part of its text
pub mem_files_tied : (m : MemFiles) → IsRestOf (Some (mem_files_texts m)) (mem_files_begun m) (mem_files_rest m)
mem_files_tied m = rest_among m.files.items m.begun m.among
