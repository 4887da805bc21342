use Rattle.enc_flow.proofs.Unders.{cut_under}
use Rattle.enc_rules.proofs.Growth.{types_grown, all_grown, pack_grown, branches_under, branch_under, loop_under}
use Rattle.enc_rules.proofs.laws.usable_after.Goals as goal

pub returns : goal.returns
returns c = record {
  statement = λ ctx env last form d. types_grown d;
  statements = λ ctx env last xs d. all_grown d;
  block = λ ctx env last xs d. cut_under env last (all_grown d);
  branches = λ ctx env left right a b d e. branches_under (all_grown d) (all_grown e);
  one_branch = λ ctx env left a d. branch_under (all_grown d);
  loops = λ ctx env last a d m. loop_under (all_grown d) m;
  pack_statements = λ ctx env last x y z v a h d. pack_grown x y z v h d;
  pack_block = λ ctx env last x y z v a h d. cut_under env last (pack_grown x y z v h d);
  pack_branches = λ ctx env left right x y z v a b h d e. branches_under (pack_grown x y z v h d) (all_grown e);
}
