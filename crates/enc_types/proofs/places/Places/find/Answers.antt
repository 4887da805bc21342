use Rattle.std.proofs.Common.{◌≡◌, rules}
use Rattle.enc_types.specs.Words.{place_in}
use Rattle.enc_types.proofs.Finding.{place_within}
use Rattle.enc_types.proofs.places.Places.find.Goals as goal

pub returns-clause-within : goal.returns-clause-within
returns-clause-within c =
    let e : c.copied.result ≡ place_in c.args.self.now c.args.word.now = search rules in
    rw e (place_within c.args.self.now c.args.word.now)
