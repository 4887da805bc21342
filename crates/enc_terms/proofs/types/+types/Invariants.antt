use Rattle.std.proofs.Common.{◌+◌, ◌*◌}
use Rattle.enc_terms.proofs.types.+types.Given as goal

abbrev pub decreases-type_inside : goal.decreases-type_inside
decreases-type_inside l = 4 * l.depth

abbrev pub decreases-of_type : goal.decreases-of_type
decreases-of_type l = 4 * l.depth + 1

abbrev pub decreases-type_form : goal.decreases-type_form
decreases-type_form l = 4 * l.depth + 2

abbrev pub decreases-type_text : goal.decreases-type_text
decreases-type_text l = 4 * l.depth + 3
