use Rattle.std.proofs.Common.{arith}
use Rattle.std.proofs.lemmas.Result.{err_from_is_err_and}
use Rattle.std.specs.Option.{option_copied}
use Rattle.enc_premises.proofs.Loops.{rest_start, rest_more}
use Rattle.enc_exprs.proofs.Elements.{element, element_err, element_end, list_err, list_ok}
use Rattle.enc_exprs.proofs.Meaning.{ty-binary, ty-at, ty-append}
use Rattle.enc_exprs.proofs.+expr.Goals as goal

pub exprs::expr_type-returns-in-Binary-clause-ty : goal.exprs::expr_type-returns-in-Binary-clause-ty
exprs::expr_type-returns-in-Binary-clause-ty t c = grind (arith, ty-binary)

pub exprs::expr_type-returns-in-At-clause-ty : goal.exprs::expr_type-returns-in-At-clause-ty
exprs::expr_type-returns-in-At-clause-ty t c = grind (arith, ty-at)

pub exprs::expr_type-returns-in-Append-clause-ty : goal.exprs::expr_type-returns-in-Append-clause-ty
exprs::expr_type-returns-in-Append-clause-ty t c = grind (arith, ty-append)

pub lists::all_match-loop-element-init : goal.lists::all_match-loop-element-init
lists::all_match-loop-element-init t c = rest_start (element c.args.names.now c.args.env.now (option_copied c.args.first)) c.args.elements.now

pub lists::all_match-returns-in_err-matching : goal.lists::all_match-returns-in_err-matching
lists::all_match-returns-in_err-matching t c =
    let p = err_from_is_err_and c.from_residual.result c.from_residual.ensures.1 in
    rw (p.1, p.2) (element_err c.args.names.now c.args.env.now (option_copied c.args.first) c.args.elements.now c.loop-element.element-index c.element-item.result c.loop-element-test.true c.element-item.is c.loop-element.invariant _ c.in_err-matching.ensures.premises)

pub lists::all_match-loop-element-preserved : goal.lists::all_match-loop-element-preserved
lists::all_match-loop-element-preserved t c = rest_more (element c.args.names.now c.args.env.now (option_copied c.args.first)) c.args.elements.now c.loop-element.element-index c.element-item.result c.loop-element-test.true c.element-item.is c.loop-element.invariant c.in_ok-matching.ensures.premises

pub lists::all_match-returns : goal.lists::all_match-returns
lists::all_match-returns t c = element_end c.args.names.now c.args.env.now (option_copied c.args.first) c.args.elements.now c.loop-element.element-index c.loop-element-test.false c.loop-element.invariant

pub lists::list-returns-in_err-all_match-in-len1-up-clause-premises : goal.lists::list-returns-in_err-all_match-in-len1-up-clause-premises
lists::list-returns-in_err-all_match-in-len1-up-clause-premises t c =
    let p = err_from_is_err_and c.from_residual-in_err-all_match-in-len1-up.result c.from_residual-in_err-all_match-in-len1-up.ensures.1 in
    let q = rw (c.ty.ensures, c.in_ok-ty-in-len1-up.ensures.ty) at c.in_err-all_match-in-len1-up.ensures in
    rw (p.1, p.2) (list_err c.args.names.now c.args.env.now c.args.elements.now c.first-item.result c.in-len1-up.len_at_least c.first-item.is _ c.in_ok-ty-in-len1-up.ensures.premises q)

pub lists::list-returns-in_ok-list_of-in-len1-up-clause-premises : goal.lists::list-returns-in_ok-list_of-in-len1-up-clause-premises
lists::list-returns-in_ok-list_of-in-len1-up-clause-premises t c =
    let q = rw (c.ty.ensures, c.in_ok-ty-in-len1-up.ensures.ty) at c.in_ok-all_match-in-len1-up.ensures in
    list_ok c.args.names.now c.args.env.now c.args.elements.now c.first-item.result c.in-len1-up.len_at_least c.first-item.is c.in_ok-ty-in-len1-up.ensures.premises q
