-- The line that the error stream got is that of the status.
use Rattle.std.proofs.Common.{◌≡◌, ◌∙◌, ℕ, List, [], ◌∷◌, Option, Some, refl, sym, ap, subst}
use Rattle.std.proofs.lemmas.Bool.{false≢true}
use Rattle.enc_ast.specs.declared.Program.{Program}
use Rattle.enc_ast.specs.declared.Rule.{Rule}
use Rattle.enc_ast.specs.declared.Span.{Span}
use Rattle.enc_io.specs.Texts.{Texts}
use Rattle.enc_model.specs.declared.Config.{Config}
use Rattle.enc_model.specs.declared.Pair.{Pair}
use Rattle.enc_model.specs.declared.Phase.{Phase}
use Rattle.enc_model.specs.declared.Phase.TheVariants as phases
use Rattle.enc_model.specs.Exec.{steps_of}
use Rattle.enc_model.specs.Phase.{phase_of}
use Rattle.encore_run.specs.declared.reply.Reply.{Reply}
use Rattle.encore_run.specs.declared.status.Status.{Status}
use Rattle.encore_run.specs.declared.status.Status.TheVariants.{Ended, Rejected, Usage, Trapped, Blocked, Budget, Memory, ReadFault, WriteFault}
use Rattle.encore_run.specs.declared.words.Command.{Command}
use Rattle.encore_run.specs.Built.{Runs, FirstFailure}
use Rattle.encore_run.specs.Answer as answers
use Rattle.encore_run.specs.Answer.{IsAnswer, IsJudgement, IsDelivery, Reports, Tells, line_due}
use Rattle.encore_run.specs.Command.{source_of}
use Rattle.encore_run.specs.Due.{due, status_of, stop_line}
use Rattle.encore_run.specs.Lines.{read_line, reject_line}
use Rattle.encore_run.specs.Status.{code_of, Is, IsOneOf}
use Rattle.encore_run.proofs.Dues.{due-line}
use Rattle.encore_run.proofs.Kept.{IsOfText, unmade, unread, judged, kept, delivered}
use Rattle.encore_run.proofs.Refusals.{no_failure, one_failure}
use Rattle.encore_run.proofs.Statuses.{is-status, not-among, phase-not}

-- a status that has a line of its own
pub said-own : (wanted status : Status) (line : List ℕ) (S : List ℕ → Type 0) → S (line_due status line) → Is wanted (code_of status) → S (line_due wanted line)
said-own wanted status line S got is = subst (λ (s : Status). S (line_due s line)) (is-status wanted status is) got

phase_line : (phase : Phase) (line : List ℕ) → line_due (status_of phase) line ≡ line
phase_line phases.Running line = refl
phase_line phases.Trapped line = refl
phase_line phases.Blocked line = refl
phase_line phases.Ended line = refl

-- after a run whose output was written whole, the line is the reply's
run_line : (status : Status) (phase : Phase) (line : List ℕ) (S : List ℕ → Type 0) → status ≡ status_of phase → S (line_due status line) → S line
run_line status phase line S same got = subst S (ap (λ s. line_due s line) same ∙ phase_line phase line) got

ended_line : (file text : List ℕ) (steps : ℕ) (c : Config) (phase : Phase) → Is Ended (code_of (status_of phase)) → stop_line file text steps c phase ≡ []
ended_line file text steps c phases.Ended is = refl
ended_line file text steps c phases.Trapped is = absurd (false≢true is)
ended_line file text steps c phases.Blocked is = absurd (false≢true is)
ended_line file text steps c phases.Running is = absurd (false≢true is)

ended_run : (file text : List ℕ) (program : Program) (pairs : List Pair) (before now : ℕ) (old new : Option (List ℕ)) (reply : Reply) (status : Status) (S : List ℕ → Type 0) → Reports file text program pairs reply → IsDelivery before now old new reply status → S (line_due status reply.line) → Is Ended (code_of status) → S []
ended_run file text program pairs before now old new reply status S reports d got is =
    let whole = delivered before now old new reply status d (λ fault. not-among (Ended ∷ []) WriteFault status refl fault is) in
    let same : status ≡ status_of (phase_of program reports.config) = whole.0 ∙ reports.status in
    let is_phase : Is Ended (code_of (status_of (phase_of program reports.config))) = subst (λ (s : Status). Is Ended (code_of s)) same is in
    subst S (reports.line ∙ ended_line file text (steps_of pairs) reports.config (phase_of program reports.config) is_phase)
    (run_line status (phase_of program reports.config) reply.line S same got)

pub said-ended : (asked : Option Command) (texts : Option Texts) (begun done : ℕ) (failed : Option (List ℕ)) (pairs : List Pair) (before now : ℕ) (old new : Option (List ℕ)) (reply : Reply) (status : Status) (S : List ℕ → Type 0) → IsAnswer asked texts begun done failed pairs reply → IsDelivery before now old new reply status → S (line_due status reply.line) → Is Ended (code_of status) → S []
said-ended asked texts begun done failed pairs before now old new reply status S (answers.memory s o) d got is =
    absurd (not-among (Ended ∷ []) Memory status refl (kept before now old new reply status d o ∙ s) is)
said-ended asked texts begun done failed pairs before now old new reply status S (answers.usage a s o n e) d got is =
    absurd (not-among (Ended ∷ []) Usage status refl (kept before now old new reply status d o ∙ s) is)
said-ended asked texts begun done failed pairs before now old new reply status S (answers.unread c a s o r e f l) d got is =
    absurd (not-among (Ended ∷ []) ReadFault status refl (kept before now old new reply status d o ∙ s) is)
said-ended asked texts begun done failed pairs before now old new reply status S (answers.judged c a n bytes r (answers.rejected s o e t)) d got is =
    absurd (not-among (Ended ∷ []) Rejected status refl (kept before now old new reply status d o ∙ s) is)
said-ended asked texts begun done failed pairs before now old new reply status S (answers.judged c a n bytes r (answers.ran program spells only reports)) d got is =
    ended_run (source_of c) bytes program pairs before now old new reply status S reports d got is

-- a run has no status of the files
run_not_unread : (file text : List ℕ) (program : Program) (pairs : List Pair) (before now : ℕ) (old new : Option (List ℕ)) (reply : Reply) (status : Status) → Reports file text program pairs reply → IsDelivery before now old new reply status → Is ReadFault (code_of status) → ⊥
run_not_unread file text program pairs before now old new reply status reports d is =
    let whole = delivered before now old new reply status d (λ fault. not-among (ReadFault ∷ []) WriteFault status refl fault is) in
    phase-not (ReadFault ∷ []) (phase_of program reports.config) refl refl refl refl (subst (λ (s : Status). Is ReadFault (code_of s)) (whole.0 ∙ reports.status) is)

same_file : (failed : Option (List ℕ)) (one two : List ℕ) → failed ≡ Some one → failed ≡ Some two → one ≡ two
same_file failed one two e f = cc

pub said-unread : (asked : Option Command) (texts : Option Texts) (begun done : ℕ) (failed : Option (List ℕ)) (pairs : List Pair) (before now : ℕ) (old new : Option (List ℕ)) (reply : Reply) (status : Status) (S : List ℕ → Type 0) → IsAnswer asked texts begun done failed pairs reply → IsDelivery before now old new reply status → S (line_due status reply.line) → Is ReadFault (code_of status) → (file : List ℕ) → failed ≡ Some file → S (read_line file)
said-unread asked texts begun done failed pairs before now old new reply status S (answers.memory s o) d got is file e =
    absurd (not-among (ReadFault ∷ []) Memory status refl (kept before now old new reply status d o ∙ s) is)
said-unread asked texts begun done failed pairs before now old new reply status S (answers.usage a s o n p) d got is file e =
    absurd (not-among (ReadFault ∷ []) Usage status refl (kept before now old new reply status d o ∙ s) is)
said-unread asked texts begun done failed pairs before now old new reply status S (answers.unread c a s o r p f l) d got is file e =
    subst S (l ∙ ap read_line (same_file failed (source_of c) file f e)) (said-own ReadFault status reply.line S got is)
said-unread asked texts begun done failed pairs before now old new reply status S (answers.judged c a n bytes r (answers.rejected s o p t)) d got is file e =
    absurd (not-among (ReadFault ∷ []) Rejected status refl (kept before now old new reply status d o ∙ s) is)
said-unread asked texts begun done failed pairs before now old new reply status S (answers.judged c a n bytes r (answers.ran program spells only reports)) d got is file e =
    absurd (run_not_unread (source_of c) bytes program pairs before now old new reply status reports d is)

pub said-rejected : (file text : List ℕ) (pairs : List Pair) (before now : ℕ) (old new : Option (List ℕ)) (reply : Reply) (status : Status) (S : List ℕ → Type 0) → IsOfText file text pairs reply → IsDelivery before now old new reply status → S (line_due status reply.line) → Is Rejected (code_of status) → (rule : Rule) (span : Span) → FirstFailure text rule span → S (reject_line file text rule span)
said-rejected file text pairs before now old new reply status S (unmade s o) d got is rule span f =
    absurd (not-among (Rejected ∷ []) Memory status refl (kept before now old new reply status d o ∙ s) is)
said-rejected file text pairs before now old new reply status S (unread s o) d got is rule span f =
    absurd (not-among (Rejected ∷ []) ReadFault status refl (kept before now old new reply status d o ∙ s) is)
said-rejected file text pairs before now old new reply status S (judged (answers.rejected s o n tells)) d got is rule span f =
    subst S (tells.says ∙ one_failure file text tells.rule rule tells.span span tells.fails f) (said-own Rejected status reply.line S got is)
said-rejected file text pairs before now old new reply status S (judged (answers.ran program spells only reports)) d got is rule span f =
    absurd (no_failure text program rule span spells f)

-- the statuses of runs that have a line
abbrev stopped : List Status
stopped = Trapped ∷ Blocked ∷ Budget ∷ []

pub said-stopped : (command : Command) (text : List ℕ) (pairs : List Pair) (before now : ℕ) (old new : Option (List ℕ)) (reply : Reply) (status : Status) (S : List ℕ → Type 0) (other : Program) → IsOfText (source_of command) text pairs reply → IsDelivery before now old new reply status → S (line_due status reply.line) → Runs text other → IsOneOf stopped (code_of status) → S (due command text other pairs).line
said-stopped command text pairs before now old new reply status S other (unmade s o) d got spelled is =
    absurd (not-among stopped Memory status refl (kept before now old new reply status d o ∙ s) is)
said-stopped command text pairs before now old new reply status S other (unread s o) d got spelled is =
    absurd (not-among stopped ReadFault status refl (kept before now old new reply status d o ∙ s) is)
said-stopped command text pairs before now old new reply status S other (judged (answers.rejected s o n tells)) d got spelled is =
    absurd (no_failure text other tells.rule tells.span spelled tells.fails)
said-stopped command text pairs before now old new reply status S other (judged (answers.ran program spells only reports)) d got spelled is =
    let whole = delivered before now old new reply status d (λ fault. not-among stopped WriteFault status refl fault is) in
    subst (λ (p : Program). S (due command text p pairs).line) (sym (only other spelled))
    (subst S (reports.line ∙ sym (due-line command text program pairs reports.config reports.stops))
    (run_line status (phase_of program reports.config) reply.line S (whole.0 ∙ reports.status) got))
