use Rattle.std.proofs.Common.{◌≡◌}
use Rattle.enc_premises.specs.Premises.{if_known}
use Rattle.enc_premises.proofs.Passing.{over}
use Rattle.enc_types.specs.Names.{groups_of}
use Rattle.enc_decls.specs.Rules.{is_class}
use Rattle.enc_decls.specs.Nodes.{groups_named}
use Rattle.enc_decls.proofs.Passing.{demanded}
use Rattle.enc_decls.proofs.classes.judge_class.Goals as goal

pub returns-clause-passes : goal.returns-clause-passes
returns-clause-passes c =
    let own : groups_named c.args.names.now c.args.class.now.name.word ≡ groups_of c.args.decls.now c.args.class.now = c.requires.own (demanded _ _ _ c.in_ok-demand.ensures) in
    let e : c.is_class.result ≡ if_known is_class (groups_of c.args.decls.now c.args.class.now) = cc (c.is_class.ensures, c.groups_named-groups.ensures, c.as_str.ensures, own) in
    over _ _ (rw c.as_slice.ensures at c.in_ok-each_group.ensures.passes) _ (over _ _ c.in_ok-demand.ensures _ (rw e at c.demand-2.ensures))
