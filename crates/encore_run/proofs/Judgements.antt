-- What a call comes to, from what its parts come to.
use Rattle.std.proofs.Common.{◌≡◌, ℕ, List, Option, Some, Result, Ok, Err, [], false, refl, subst, inl, inr}
use Rattle.std.specs.Prelude.{IfOk}
use Rattle.enc_ast.specs.declared.Program.{Program}
use Rattle.enc_ast.specs.declared.Reject.{Reject}
use Rattle.enc_ast.specs.declared.Rule.TheVariants.{Stage}
use Rattle.enc_ast.specs.Thin.{is_thin}
use Rattle.enc_io.specs.Texts.{Texts, IsReadOf}
use Rattle.enc_model.specs.declared.Pair.{Pair}
use Rattle.enc_parse.specs.Failure.{Refuses}
use Rattle.enc_parse.specs.Spells.{Spells}
use Rattle.enc_rules.specs.Programs.{IsFirstFailure}
use Rattle.enc_rules.specs.WellTyped.{WellTyped}
use Rattle.encore_run.specs.declared.reply.Reply.{Reply}
use Rattle.encore_run.specs.declared.status.Status.TheVariants.{Rejected}
use Rattle.encore_run.specs.declared.words.Command.{Command}
use Rattle.encore_run.specs.Built.{Runs}
use Rattle.encore_run.specs.Answer.{IsAnswer, judged, IsJudgement, rejected, ran, Reports}
use Rattle.encore_run.specs.Command.{source_of}
use Rattle.encore_run.specs.Lines.{reject_line}
use Rattle.encore_run.proofs.Refusals.{one_run}

-- a run of the program that the text spells, or no memory
pub judgement-of_run : {E : Type 0} (file text : List ℕ) (pairs : List Pair) (program : Program) (result : Result Reply E) → Runs text program → IfOk result (Reports file text program pairs) → IfOk result (IsJudgement file text pairs)
judgement-of_run file text pairs program (Ok reply) runs reports = ran program runs (λ other other_runs. one_run text other program other_runs runs) reports
judgement-of_run file text pairs program (Err e) runs reports = tt

-- a refusal of the text by the parser
pub judgement-of_refusal : (file text : List ℕ) (pairs : List Pair) (reply : Reply) (reject : Reject) → Refuses text reject → pairs ≡ [] → reply.status ≡ Rejected → reply.output ≡ [] → reply.line ≡ reject_line file text reject.rule reject.span → IsJudgement file text pairs reply
judgement-of_refusal file text pairs reply reject refused none status output line = rejected status output none (record { rule = reject.rule; span = reject.span; fails = inl refused; says = line })

-- a refusal of the program by the checker
pub judgement-of_ill_typed : (file text : List ℕ) (pairs : List Pair) (reply : Reply) (program : Program) (reject : Reject) → Spells text program → IsFirstFailure program reject → pairs ≡ [] → reply.status ≡ Rejected → reply.output ≡ [] → reply.line ≡ reject_line file text reject.rule reject.span → IsJudgement file text pairs reply
judgement-of_ill_typed file text pairs reply program reject spells first none status output line =
    rejected status output none (record { rule = reject.rule; span = reject.span; fails = inr (inl (record { program = program; spells = spells; first = first })); says = line })

-- a refusal of a program that isn't built
pub judgement-of_stage : (file text : List ℕ) (pairs : List Pair) (reply : Reply) (program : Program) → Spells text program → WellTyped program → is_thin program ≡ false → pairs ≡ [] → reply.status ≡ Rejected → reply.output ≡ [] → reply.line ≡ reject_line file text Stage program.span → IsJudgement file text pairs reply
judgement-of_stage file text pairs reply program spells typed unbuilt none status output line =
    rejected status output none (record { rule = Stage; span = program.span; fails = inr (inr (record { program = program; spells = spells; typed = typed; unbuilt = unbuilt; stage = refl; all = spells.span })); says = line })

-- a judgement on what was read, or no memory
pub answer-of_judgement : {E : Type 0} (command : Command) (texts : Option Texts) (before now : ℕ) (failed : Option (List ℕ)) (pairs : List Pair) (bytes : List ℕ) (result : Result Reply E) → now ≡ before → IsReadOf texts (source_of command) 1048577 bytes → IfOk result (IsJudgement (source_of command) bytes pairs) → IfOk result (IsAnswer (Some command) texts before now failed pairs)
answer-of_judgement command texts before now failed pairs bytes (Ok reply) same read judgement = judged command refl same bytes read judgement
answer-of_judgement command texts before now failed pairs bytes (Err e) same read judgement = tt

-- the answer to what was asked for, under another name
pub answer-asked : (given asked : Option Command) (texts : Option Texts) (before now : ℕ) (failed : Option (List ℕ)) (pairs : List Pair) (reply : Reply) → given ≡ asked → IsAnswer given texts before now failed pairs reply → IsAnswer asked texts before now failed pairs reply
answer-asked given asked texts before now failed pairs reply e h = subst (λ (a : Option Command). IsAnswer a texts before now failed pairs reply) e h
