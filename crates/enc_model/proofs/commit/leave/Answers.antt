use Rattle.std.proofs.Common.{sym, ap, ◌∙◌}
use Rattle.std.specs.Option.{option_copied_mut}
use Rattle.enc_model.proofs.Leaving.{commit_at-leave}
use Rattle.enc_model.proofs.commit.leave.Goals as goal

pub returns : goal.returns
returns c =
    commit_at-leave c.args.config.now c.args.number c.in-Some.actor.now c.in-Some-take.task c.take.new.self c.fill.new.cells
    (sym c.get_mut.ensures.value ∙ ap option_copied_mut c.in-Some.is)
    (sym c.take.ensures.value ∙ c.in-Some-take.is)
    c.requires.known c.take.ensures.after c.fill.ensures
