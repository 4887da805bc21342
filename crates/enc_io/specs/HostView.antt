-- What is known of the adapters to the system: their faults, and names of files.
use Rattle.std.specs.Prelude.{ℕ, List, Option, string_bytes}
use Rattle.std.specs.Option.{option_map}
use Rattle.enc_io.specs.declared.host_files.HostFiles.{HostFiles}
use Rattle.enc_io.specs.declared.host_new.HostNew.{HostNew}
use Rattle.enc_io.specs.declared.host_sink.HostErr.{HostErr}
use Rattle.enc_io.specs.declared.host_sink.HostOut.{HostOut}

-- how many calls to the files have failed
abbrev pub host_files_faults : {R F D : Type 0} → HostFiles R F D → ℕ
host_files_faults files = files.faults

-- the name of the begun file
abbrev pub host_files_begun : {R F D : Type 0} → HostFiles R F D → Option (List ℕ)
host_files_begun files = option_map (λ file. string_bytes file.name) files.«open»

-- the name at which the latest failed call failed
abbrev pub host_files_failed : {R F D : Type 0} → HostFiles R F D → Option (List ℕ)
host_files_failed files = option_map string_bytes files.failed

-- the path of the new file
abbrev pub host_new_name : {R F D : Type 0} → HostNew R F D → List ℕ
host_new_name file = file.name.now

-- how many writes to the new file have failed
abbrev pub host_new_faults : {R F D : Type 0} → HostNew R F D → ℕ
host_new_faults file = file.faults

-- how many writes to the standard error have failed
abbrev pub host_err_faults : {R : Type 0} → HostErr R → ℕ
host_err_faults sink = sink.faults

-- how many writes to the standard output have failed
abbrev pub host_out_faults : {R : Type 0} → HostOut R → ℕ
host_out_faults sink = sink.faults
