use Rattle.std.proofs.Common.{◌<◌, ◌-◌, ◌^◌, length, rules, sym, ◌∙◌, string_bytes}
use Rattle.std.proofs.lemmas.Map.Text.{hash_map_updates_text}
use Rattle.enc_types.proofs.Finding.{kept_known, kept_new}
use Rattle.enc_types.proofs.places.Places.add.Goals as goal

pub invariant_of-self-then-contains_key : goal.invariant_of-self-then-contains_key
invariant_of-self-then-contains_key c =
    let few : length c.self.inside.words < 2 ^ 32 - 2 = search rules in
    rw (c.in_ok-push.ensures.ok, c.in_ok-copy.ensures) (kept_known c.self.inside.words c.args.word.now c.self.inside.firsts c.self.invariant few (rw c.as_str.ensures at (sym c.if-contains_key.true ∙ c.contains_key.ensures)))

pub invariant_of-self-in-Ok : goal.invariant_of-self-in-Ok
invariant_of-self-in-Ok c =
    let few : length c.self.inside.words < 2 ^ 32 - 2 = search rules in
    rw (c.in_ok-push-2.ensures.ok, c.in_ok-copy-3.ensures) (kept_new c.self.inside.words c.args.word.now (string_bytes c.into_string-key.result) c.len-place.result c.self.inside.firsts c.insert.new.self c.self.invariant few (c.into_string-key.ensures ∙ c.in_ok-copy-2.ensures) c.len-place.ensures (rw c.as_str.ensures at (sym c.if-contains_key.false ∙ c.contains_key.ensures)) (hash_map_updates_text (string_bytes c.into_string-key.result) c.self.inside.firsts c.insert.new.self _ c.in-Ok.ensures.updates))
