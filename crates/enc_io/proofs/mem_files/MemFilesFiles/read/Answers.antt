use Rattle.std.proofs.Common.{◌≡◌, Some}
use Rattle.std.specs.Prelude.{unwrap_or, string_bytes, drop, take, []}
use Rattle.enc_io.specs.MemFiles.{text_in}
use Rattle.enc_io.specs.MemFilesView.{mem_files_rest}
use Rattle.enc_io.proofs.Known.{consumes-front}
use Rattle.enc_io.proofs.mem_files.MemFilesFiles.read.Goals as goal

pub returns-clause-bytes : goal.returns-clause-bytes
returns-clause-bytes c =
    let old = c.args.self.now in
    let begun = c.in-Some.field-0 in
    let was : old.begun ≡ Some begun = cc c.in-Some.ensures.value in
    let text = unwrap_or (text_in old.files.items (string_bytes begun.name)) [] in
    let left : mem_files_rest old ≡ Some (drop begun.offset text) = rw was in
    let count = c.copy_front-count.result in
    consumes-front _ text begun.offset count (take count c.copy_front-count.new.into) left (cc (c.copy_front-count.ensures.bytes, c.rest_in.ensures.rest))
