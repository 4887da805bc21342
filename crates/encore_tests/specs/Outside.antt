-- What a run of the top calls is given.
use Rattle.std.specs.Prelude.{◌≡◌, ℕ, List, [], ◌∷◌, codes, map, max}
use Rattle.std.specs.Borrow.{Bor}
use Rattle.enc_io.specs.MemFilesView.{mem_files_texts, mem_files_failing, mem_files_calls, mem_files_faults}
use Rattle.enc_io.specs.MemSinkView.{mem_sink_written, mem_sink_room, mem_sink_piece, mem_sink_failing, mem_sink_calls, mem_sink_faults}
use Rattle.enc_io.specs.declared.mem_files.MemFiles.{MemFiles}
use Rattle.enc_io.specs.declared.mem_sink.MemSink.{MemSink}
use Rattle.encore_tests.specs.declared.outside.Flow.{Flow}

-- what the words say
abbrev pub words_in : List (Bor (List ℕ)) → List (List ℕ)
words_in words = map (λ word. word.now) words

-- the sink has taken nothing yet, and takes bytes as the flow says
pub record TakesAs (sink : MemSink) (flow : Flow) : Type 0 where
  pub unwritten : mem_sink_written sink ≡ []
  pub room : mem_sink_room sink ≡ flow.room
  pub piece : mem_sink_piece sink ≡ max flow.piece 1
  pub failing : mem_sink_failing sink ≡ flow.fault ∷ []
  pub uncalled : mem_sink_calls sink ≡ 0
  pub faultless : mem_sink_faults sink ≡ 0

-- the files are `p.enc` with this text alone, no call was made, and the one of this number is to fail
pub record Holds (files : MemFiles) (text : List ℕ) (fault : ℕ) : Type 0 where
  pub texts : mem_files_texts files ≡ (codes "p.enc", text) ∷ []
  pub failing : mem_files_failing files ≡ fault ∷ []
  pub uncalled : mem_files_calls files ≡ 0
  pub faultless : mem_files_faults files ≡ 0
