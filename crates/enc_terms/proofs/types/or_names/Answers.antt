use Rattle.std.proofs.Common.{refl, sym, ◌∙◌}
use Rattle.std.proofs.lemmas.Result.{err_from_is_err_and}
use Rattle.enc_lex.specs.declared.kinds.Kind.TheVariants as k
use Rattle.enc_cursor.specs.Counts.{trait_}
use Rattle.enc_cursor.specs.Limits.{allowed, with_brackets}
use Rattle.enc_cursor.proofs.Loops.{sep_kept, sep_failed, sep_done, kind_shorter}
use Rattle.enc_cursor.proofs.Turns.{separated_turns}
use Rattle.enc_cursor.proofs.Sets.{clear}
use Rattle.enc_terms.specs.Names.{name_as}
use Rattle.enc_terms.proofs.NameLaws.{trait_law}
use Rattle.enc_terms.proofs.types.or_names.Goals as goal

pub returns-in_err-trait_name-2 : goal.returns-in_err-trait_name-2
returns-in_err-trait_name-2 c =
    let p = err_from_is_err_and c.from_residual-in_err-trait_name-2.result c.from_residual-in_err-trait_name-2.ensures.1 in
    rw (p.1, p.2) (sep_failed k.Or (name_as trait_ c.args.text.now allowed) (separated_turns k.Or (trait_law {L = with_brackets 0 allowed} c.args.text.now) refl (clear _ _ refl)) c.names.names c.names.cursor c.take.new.self c.trait_name-in-names.new.cursor _ c.in_err-trait_name-2.field-0.0 (sym c.sees.ensures ∙ c.names-test.true) c.take.ensures c.in_err-trait_name-2.ensures c.names.invariant)

pub names-smaller : goal.names-smaller
names-smaller c = kind_shorter (trait_law {L = with_brackets 0 allowed} c.args.text.now) k.Or c.names.cursor c.take.new.self c.trait_name-in-names.new.cursor _ (sym c.sees.ensures ∙ c.names-test.true) c.take.ensures c.in_ok-trait_name-2.ensures

pub names-preserved : goal.names-preserved
names-preserved c =
    let e = sep_kept k.Or (name_as trait_ c.args.text.now allowed) (separated_turns k.Or (trait_law {L = with_brackets 0 allowed} c.args.text.now) refl (clear _ _ refl)) c.names.names c.in_ok-trait_name-2.field-0 c.names.cursor c.take.new.self c.trait_name-in-names.new.cursor _ (sym c.sees.ensures ∙ c.names-test.true) c.take.ensures c.in_ok-trait_name-2.ensures c.names.invariant in
    rw c.in_ok-push-2.ensures.ok e

pub returns : goal.returns
returns c = sep_done k.Or (name_as trait_ c.args.text.now allowed) (separated_turns k.Or (trait_law {L = with_brackets 0 allowed} c.args.text.now) refl (clear _ _ refl)) c.names.names c.names.cursor _ (sym c.sees.ensures ∙ c.names-test.false) c.names.invariant
