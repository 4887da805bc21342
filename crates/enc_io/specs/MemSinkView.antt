-- What is known of a sink in memory.
use Rattle.std.specs.Prelude.{◌≡◌, ◌-◌, ℕ, Contains, List, min, take, vec_len}
use Rattle.enc_io.specs.Calls.{next_call}
use Rattle.enc_io.specs.declared.mem_sink.MemSink.{MemSink}

-- the bytes that were written
abbrev pub mem_sink_written : MemSink → List ℕ
mem_sink_written s = take s.used s.buffer.items

-- how many bytes it still takes
abbrev pub mem_sink_room : MemSink → ℕ
mem_sink_room s = vec_len s.buffer - s.used

-- how many bytes it takes in one call at most
abbrev pub mem_sink_piece : MemSink → ℕ
mem_sink_piece s = s.piece

-- how many calls have failed
abbrev pub mem_sink_faults : MemSink → ℕ
mem_sink_faults s = s.faults

-- how many calls were made
abbrev pub mem_sink_calls : MemSink → ℕ
mem_sink_calls s = s.calls.made

-- the numbers of the calls that are to fail
abbrev pub mem_sink_failing : MemSink → List ℕ
mem_sink_failing s = s.calls.failing.items

-- the next call is one of those that are to fail
abbrev pub IsNextListed : MemSink → Type 0
IsNextListed s = Contains (mem_sink_failing s) (next_call (mem_sink_calls s))

-- how many of so many bytes it takes in one call
abbrev pub mem_sink_taken : MemSink → ℕ → ℕ
mem_sink_taken s count = min (min count (mem_sink_piece s)) (mem_sink_room s)

-- one more call was made, and the piece and the calls that are to fail stay the same
pub record CountsCall (old new : MemSink) : Type 0 where
  pub made : mem_sink_calls new ≡ next_call (mem_sink_calls old)
  pub failing : mem_sink_failing new ≡ mem_sink_failing old
  pub piece : mem_sink_piece new ≡ mem_sink_piece old
