use Rattle.std.proofs.Common.{string_bytes, ◌∙◌}
use Rattle.std.proofs.lemmas.Map.Text.{hash_map_updates_text}
use Rattle.enc_decls.proofs.Agreeing.{index_more}
use Rattle.enc_decls.proofs.known.types_of.Goals as goal

pub loop-entry-preserved : goal.loop-entry-preserved
loop-entry-preserved c =
    index_more c.loop-entry.types c.insert.new.self c.args.entries.now c.loop-entry.entry-index c.entry-item.result c.loop-entry-test.true c.entry-item.is c.loop-entry.invariant (string_bytes c.into_string.result) c.in_ok-ty.ty (c.into_string.ensures ∙ c.in_ok-word.ensures) c.in_ok-ty.ensures (hash_map_updates_text (string_bytes c.into_string.result) c.loop-entry.types c.insert.new.self _ c.in_ok-insert.ensures.updates)
