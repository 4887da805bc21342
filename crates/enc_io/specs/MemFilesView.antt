-- What is known of files in memory.
use Rattle.std.specs.Prelude.{◌≡◌, ℕ, Contains, IsNone, List, [], Option, drop, string_bytes, unwrap_or}
use Rattle.std.specs.Option.{option_map}
use Rattle.enc_io.specs.Calls.{next_call}
use Rattle.enc_io.specs.MemFiles.{pairs_of, text_in}
use Rattle.enc_io.specs.Texts.{Texts, text_of}
use Rattle.enc_io.specs.declared.mem_files.MemFiles.{MemFiles}

-- the names and the bytes of the pairs
abbrev pub mem_files_texts : MemFiles → Texts
mem_files_texts m = pairs_of m.files.items

-- the name of the begun file
abbrev pub mem_files_begun : MemFiles → Option (List ℕ)
mem_files_begun m = option_map (λ begun. string_bytes begun.name) m.begun

-- what is still to be read of the begun file
abbrev pub mem_files_rest : MemFiles → Option (List ℕ)
mem_files_rest m = option_map (λ begun. drop begun.offset (unwrap_or (text_in m.files.items (string_bytes begun.name)) [])) m.begun

-- what is still to be read, nothing where no file is begun
abbrev pub mem_files_left : MemFiles → List ℕ
mem_files_left m = unwrap_or (mem_files_rest m) []

-- the name at which the latest failed call failed
abbrev pub mem_files_failed : MemFiles → Option (List ℕ)
mem_files_failed m = option_map string_bytes m.failed

-- how many calls have failed
abbrev pub mem_files_faults : MemFiles → ℕ
mem_files_faults m = m.faults

-- how many calls were made
abbrev pub mem_files_calls : MemFiles → ℕ
mem_files_calls m = m.calls.made

-- the numbers of the calls that are to fail
abbrev pub mem_files_failing : MemFiles → List ℕ
mem_files_failing m = m.calls.failing.items

-- the next call is one of those that are to fail
abbrev pub IsNextListed : MemFiles → Type 0
IsNextListed m = Contains (mem_files_failing m) (next_call (mem_files_calls m))

-- no pair has this name
abbrev pub IsMissing : MemFiles → List ℕ → Type 0
IsMissing m name = IsNone (text_of (mem_files_texts m) name)

-- one more call was made, and the calls that are to fail stay the same
pub record CountsCall (old new : MemFiles) : Type 0 where
  pub made : mem_files_calls new ≡ next_call (mem_files_calls old)
  pub failing : mem_files_failing new ≡ mem_files_failing old
