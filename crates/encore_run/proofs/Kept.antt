-- What a call has come to and what was written of it keep the promises.
use Rattle.std.proofs.Common.{◌≡◌, ◌∙◌, ℕ, true, false, List, [], ◌∷◌, Option, Some, None, take, refl, sym, ap, subst, arith}
use Rattle.std.specs.Prelude.{IsSome}
use Rattle.std.specs.Option.{option_map}
use Rattle.std.specs.Io.KnownBytes.{Appends}
use Rattle.enc_ast.specs.declared.Program.{Program}
use Rattle.enc_io.specs.Causes.{AppendsPrefix}
use Rattle.enc_io.specs.Texts.{Texts, text_of, IsReadOf}
use Rattle.enc_io.proofs.Known.{Appends-none}
use Rattle.enc_model.specs.declared.Pair.{Pair}
use Rattle.enc_model.specs.Phase.{phase_of}
use Rattle.encore_run.specs.declared.reply.Reply.{Reply}
use Rattle.encore_run.specs.declared.status.Status.{Status}
use Rattle.encore_run.specs.declared.status.Status.TheVariants.{Ended, Rejected, Trapped, Blocked, Budget, Memory, ReadFault, WriteFault}
use Rattle.encore_run.specs.declared.words.Command.{Command}
use Rattle.encore_run.specs.Built.{Runs, HasFailure}
use Rattle.encore_run.specs.Answer as answers
use Rattle.encore_run.specs.Answer.{IsAnswer, IsJudgement, IsDelivery, Reports, Tells, line_due}
use Rattle.encore_run.specs.Command.{source_of}
use Rattle.encore_run.specs.Due.{due, IsScheduleFor}
use Rattle.encore_run.specs.Status.{code_of, is_one_of, Is, IsOneOf, ExactlyWhere}
use Rattle.encore_run.proofs.Dues.{due-status, due-output, due-scheduled}
use Rattle.encore_run.proofs.Refusals.{no_failure}
use Rattle.encore_run.proofs.Statuses.{is-status, not-among, among, phase-among, phase-not}
use Rattle.encore_run.proofs.WholeTexts.{judgement-read, read-front}

-- What a call comes to, where the text of its source is known.
pub data IsOfText (file text : List ℕ) (pairs : List Pair) (reply : Reply) : Type 0 where
  unmade : reply.status ≡ Memory → reply.output ≡ [] → IsOfText file text pairs reply
  unread : reply.status ≡ ReadFault → reply.output ≡ [] → IsOfText file text pairs reply
  judged : IsJudgement file text pairs reply → IsOfText file text pairs reply

same_command : (asked : Option Command) (one two : Command) → asked ≡ Some one → asked ≡ Some two → one ≡ two
same_command asked one two e f = cc

not_asked : (asked : Option Command) (command : Command) → asked ≡ None → asked ≡ Some command → ⊥
not_asked asked command e f = absurd (cc e)

-- what the answer comes to for the text of what was asked for
pub of_text : (asked : Option Command) (texts : Option Texts) (before now : ℕ) (failed : Option (List ℕ)) (pairs : List Pair) (reply : Reply) (command : Command) (known : Texts) (text : List ℕ) → IsAnswer asked texts before now failed pairs reply → asked ≡ Some command → texts ≡ Some known → text_of known (source_of command) ≡ Some text → IsOfText (source_of command) text pairs reply
of_text asked texts before now failed pairs reply command known text (answers.memory status output) e t f = unmade status output
of_text asked texts before now failed pairs reply command known text (answers.usage none status output same empty) e t f = absurd (not_asked asked command none e)
of_text asked texts before now failed pairs reply command known text (answers.unread other is status output rose empty name line) e t f = unread status output
of_text asked texts before now failed pairs reply command known text (answers.judged other is still bytes read judgement) e t f =
    let same : other ≡ command = same_command asked other command is e in
    let front : bytes ≡ take 1048577 text = read-front texts (source_of other) 1048577 bytes known text read t (ap (λ c. text_of known (source_of c)) same ∙ f) in
    judged (subst (λ (c : Command). IsJudgement (source_of c) text pairs reply) same (judgement-read (source_of other) text bytes pairs reply judgement front))

-- without output the status is the reply's
pub kept : (before now : ℕ) (old new : Option (List ℕ)) (reply : Reply) (status : Status) → IsDelivery before now old new reply status → reply.output ≡ [] → status ≡ reply.status
kept before now old new reply status (answers.whole same still appends) none = same
kept before now old new reply status (answers.cut fault rose some front) none = absurd (some none)

-- ---- the status

-- after a run the status is that of its phase, or a fault
run_status : (file text : List ℕ) (program : Program) (pairs : List Pair) (before now : ℕ) (old new : Option (List ℕ)) (reply : Reply) (status : Status) → Reports file text program pairs reply → IsDelivery before now old new reply status → IsOneOf (Ended ∷ Trapped ∷ Blocked ∷ Budget ∷ WriteFault ∷ []) (code_of status)
run_status file text program pairs before now old new reply status reports (answers.whole same still appends) =
    subst (λ (s : Status). IsOneOf (Ended ∷ Trapped ∷ Blocked ∷ Budget ∷ WriteFault ∷ []) (code_of s)) (sym (same ∙ reports.status)) (phase-among (Ended ∷ Trapped ∷ Blocked ∷ Budget ∷ WriteFault ∷ []) (phase_of program reports.config) refl refl refl refl)
run_status file text program pairs before now old new reply status reports (answers.cut fault rose some front) = among (Ended ∷ Trapped ∷ Blocked ∷ Budget ∷ WriteFault ∷ []) WriteFault status refl fault

-- those statuses aren't 1
not_rejected : (status : Status) → IsOneOf (Ended ∷ Trapped ∷ Blocked ∷ Budget ∷ WriteFault ∷ []) (code_of status) → Is Rejected (code_of status) → ⊥
not_rejected status ran is = not-among (Ended ∷ Trapped ∷ Blocked ∷ Budget ∷ WriteFault ∷ []) Rejected status refl (is-status Rejected status is) ran

exactly : (status : Status) (P : Type 0) → status ≡ Rejected → P → ExactlyWhere P (code_of status) Rejected (Memory ∷ ReadFault ∷ [])
exactly status P e p = record { only = λ is. p; whenever = λ p. among (Rejected ∷ Memory ∷ ReadFault ∷ []) Rejected status refl e }

in_its_place : (status other : Status) (P : Type 0) → is_one_of (Rejected ∷ []) (code_of other) ≡ false → is_one_of (Rejected ∷ Memory ∷ ReadFault ∷ []) (code_of other) ≡ true → status ≡ other → ExactlyWhere P (code_of status) Rejected (Memory ∷ ReadFault ∷ [])
in_its_place status other P none some e = record {
  only = λ is. absurd (not-among (Rejected ∷ []) other status none e is);
  whenever = λ p. among (Rejected ∷ Memory ∷ ReadFault ∷ []) other status some e;
}

pub kept-rejected : (file text : List ℕ) (pairs : List Pair) (before now : ℕ) (old new : Option (List ℕ)) (reply : Reply) (status : Status) → IsOfText file text pairs reply → IsDelivery before now old new reply status → ExactlyWhere (HasFailure text) (code_of status) Rejected (Memory ∷ ReadFault ∷ [])
kept-rejected file text pairs before now old new reply status (unmade s o) d =
    in_its_place status Memory _ refl refl (kept before now old new reply status d o ∙ s)
kept-rejected file text pairs before now old new reply status (unread s o) d =
    in_its_place status ReadFault _ refl refl (kept before now old new reply status d o ∙ s)
kept-rejected file text pairs before now old new reply status (judged (answers.rejected s o n tells)) d =
    exactly status _ (kept before now old new reply status d o ∙ s) (tells.rule, tells.span, tells.fails)
kept-rejected file text pairs before now old new reply status (judged (answers.ran program spells only reports)) d = record {
  only = λ is. absurd (not_rejected status (run_status file text program pairs before now old new reply status reports d) is);
  whenever = λ failure. absurd (no_failure text program failure.0 failure.1 spells failure.2);
}

-- ---- where the command has run

-- the statuses of a run whose output was written whole
abbrev ended : List Status
ended = Ended ∷ Trapped ∷ Blocked ∷ Budget ∷ []

abbrev ran : List Status
ran = Ended ∷ Trapped ∷ Blocked ∷ Budget ∷ WriteFault ∷ []

pub kept-legal : (command : Command) (text : List ℕ) (pairs : List Pair) (before now : ℕ) (old new : Option (List ℕ)) (reply : Reply) (status : Status) (other : Program) → IsOfText (source_of command) text pairs reply → IsDelivery before now old new reply status → Runs text other → IsOneOf ran (code_of status) → IsScheduleFor command other pairs
kept-legal command text pairs before now old new reply status other (unmade s o) d spelled is =
    absurd (not-among ran Memory status refl (kept before now old new reply status d o ∙ s) is)
kept-legal command text pairs before now old new reply status other (unread s o) d spelled is =
    absurd (not-among ran ReadFault status refl (kept before now old new reply status d o ∙ s) is)
kept-legal command text pairs before now old new reply status other (judged (answers.rejected s o n tells)) d spelled is =
    absurd (no_failure text other tells.rule tells.span spelled tells.fails)
kept-legal command text pairs before now old new reply status other (judged (answers.ran program spells only reports)) d spelled is =
    subst (λ (p : Program). IsScheduleFor command p pairs) (sym (only other spelled)) (due-scheduled command program pairs reports.config reports.stops)

-- a status that isn't the fault of a sink is the reply's, and the output was written whole
pub delivered : (before now : ℕ) (old new : Option (List ℕ)) (reply : Reply) (status : Status) → IsDelivery before now old new reply status → (status ≡ WriteFault → ⊥) → (status ≡ reply.status) × Appends old new reply.output
delivered before now old new reply status (answers.whole same still appends) no_fault = (same, appends)
delivered before now old new reply status (answers.cut fault rose some front) no_fault = absurd (no_fault fault)

settled : (command : Command) (text : List ℕ) (program : Program) (pairs : List Pair) (reply : Reply) (status : Status) → Reports (source_of command) text program pairs reply → status ≡ reply.status → option_map code_of (due command text program pairs).status ≡ Some (code_of status)
settled command text program pairs reply status reports same =
    ap (option_map code_of) (due-status command text program pairs reports.config reports.stops)
    ∙ ap (λ s. Some (code_of s)) (sym (same ∙ reports.status))

pub kept-settled : (command : Command) (text : List ℕ) (pairs : List Pair) (before now : ℕ) (old new : Option (List ℕ)) (reply : Reply) (status : Status) (other : Program) → IsOfText (source_of command) text pairs reply → IsDelivery before now old new reply status → Runs text other → IsOneOf ended (code_of status) → option_map code_of (due command text other pairs).status ≡ Some (code_of status)
kept-settled command text pairs before now old new reply status other (unmade s o) d spelled is =
    absurd (not-among ended Memory status refl (kept before now old new reply status d o ∙ s) is)
kept-settled command text pairs before now old new reply status other (unread s o) d spelled is =
    absurd (not-among ended ReadFault status refl (kept before now old new reply status d o ∙ s) is)
kept-settled command text pairs before now old new reply status other (judged (answers.rejected s o n tells)) d spelled is =
    absurd (no_failure text other tells.rule tells.span spelled tells.fails)
kept-settled command text pairs before now old new reply status other (judged (answers.ran program spells only reports)) d spelled is =
    let same = delivered before now old new reply status d (λ fault. not-among ended WriteFault status refl fault is) in
    subst (λ (p : Program). option_map code_of (due command text p pairs).status ≡ Some (code_of status)) (sym (only other spelled)) (settled command text program pairs reply status reports same.0)

output_due : (command : Command) (text : List ℕ) (program : Program) (pairs : List Pair) (reply : Reply) → Reports (source_of command) text program pairs reply → reply.output ≡ (due command text program pairs).output
output_due command text program pairs reply reports = reports.output ∙ sym (due-output command text program pairs reports.config reports.stops)

pub kept-written : (command : Command) (text : List ℕ) (pairs : List Pair) (before now : ℕ) (old new : Option (List ℕ)) (reply : Reply) (status : Status) (other : Program) → IsOfText (source_of command) text pairs reply → IsDelivery before now old new reply status → Runs text other → IsOneOf ended (code_of status) → Appends old new (due command text other pairs).output
kept-written command text pairs before now old new reply status other (unmade s o) d spelled is =
    absurd (not-among ended Memory status refl (kept before now old new reply status d o ∙ s) is)
kept-written command text pairs before now old new reply status other (unread s o) d spelled is =
    absurd (not-among ended ReadFault status refl (kept before now old new reply status d o ∙ s) is)
kept-written command text pairs before now old new reply status other (judged (answers.rejected s o n tells)) d spelled is =
    absurd (no_failure text other tells.rule tells.span spelled tells.fails)
kept-written command text pairs before now old new reply status other (judged (answers.ran program spells only reports)) d spelled is =
    let whole = delivered before now old new reply status d (λ fault. not-among ended WriteFault status refl fault is) in
    subst (λ (p : Program). Appends old new (due command text p pairs).output) (sym (only other spelled))
    (subst (Appends old new) (output_due command text program pairs reply reports) whole.1)

-- ---- where a sink has failed

-- what the history got, which is nothing
nothing_due : (command : Command) (text : List ℕ) (program : Program) (pairs : List Pair) (history : Option (List ℕ)) → AppendsPrefix history history (due command text program pairs).history
nothing_due command text program pairs history = (0, omega arith, Appends-none history)

-- a fault comes only where some output was cut
cut_output : (before now : ℕ) (old new : Option (List ℕ)) (reply : Reply) (status : Status) → IsDelivery before now old new reply status → status ≡ WriteFault → (reply.status ≡ WriteFault → ⊥) → AppendsPrefix old new reply.output
cut_output before now old new reply status (answers.whole same still appends) fault no_fault = absurd (no_fault (sym same ∙ fault))
cut_output before now old new reply status (answers.cut _ rose some front) fault no_fault = front

pub kept-cut_short : (command : Command) (text : List ℕ) (pairs : List Pair) (before now : ℕ) (old new history : Option (List ℕ)) (reply : Reply) (status : Status) (other : Program) → IsOfText (source_of command) text pairs reply → IsDelivery before now old new reply status → Runs text other → Is WriteFault (code_of status) → IsSome (due command text other pairs).status × AppendsPrefix old new (due command text other pairs).output × AppendsPrefix history history (due command text other pairs).history
kept-cut_short command text pairs before now old new history reply status other (unmade s o) d spelled is =
    absurd (not-among (WriteFault ∷ []) Memory status refl (kept before now old new reply status d o ∙ s) is)
kept-cut_short command text pairs before now old new history reply status other (unread s o) d spelled is =
    absurd (not-among (WriteFault ∷ []) ReadFault status refl (kept before now old new reply status d o ∙ s) is)
kept-cut_short command text pairs before now old new history reply status other (judged (answers.rejected s o n tells)) d spelled is =
    absurd (no_failure text other tells.rule tells.span spelled tells.fails)
kept-cut_short command text pairs before now old new history reply status other (judged (answers.ran program spells only reports)) d spelled is =
    let fault = is-status WriteFault status is in
    let no_fault : reply.status ≡ WriteFault → ⊥ = λ e. phase-not (WriteFault ∷ []) (phase_of program reports.config) refl refl refl refl (among (WriteFault ∷ []) WriteFault _ refl (sym reports.status ∙ e)) in
    subst (λ (p : Program). IsSome (due command text p pairs).status × AppendsPrefix old new (due command text p pairs).output × AppendsPrefix history history (due command text p pairs).history)
    (sym (only other spelled)) (
      rw (due-status command text program pairs reports.config reports.stops) refl,
      subst (AppendsPrefix old new) (output_due command text program pairs reply reports) (cut_output before now old new reply status d fault no_fault),
      nothing_due command text program pairs history,
    )

-- ---- what else is said

pub kept-spelled : (file text : List ℕ) (pairs : List Pair) (before now : ℕ) (old new : Option (List ℕ)) (reply : Reply) (status : Status) → IsOfText file text pairs reply → IsDelivery before now old new reply status → IsOneOf ran (code_of status) → (program : Program) × Runs text program
kept-spelled file text pairs before now old new reply status (unmade s o) d is =
    absurd (not-among ran Memory status refl (kept before now old new reply status d o ∙ s) is)
kept-spelled file text pairs before now old new reply status (unread s o) d is =
    absurd (not-among ran ReadFault status refl (kept before now old new reply status d o ∙ s) is)
kept-spelled file text pairs before now old new reply status (judged (answers.rejected s o n tells)) d is =
    absurd (not-among ran Rejected status refl (kept before now old new reply status d o ∙ s) is)
kept-spelled file text pairs before now old new reply status (judged (answers.ran program spells only reports)) d is = (program, spells)

-- what was read is of a file that is there
read_there : (texts : Option Texts) (name : List ℕ) (count : ℕ) (bytes : List ℕ) (known : Texts) → IsReadOf texts name count bytes → texts ≡ Some known → text_of known name ≡ None → ⊥
read_there None name count bytes known h e none = absurd (cc e)
read_there (Some others) name count bytes known h e none =
    let same : others ≡ known = cc in
    let found : Some h.0 ≡ None = sym h.1 ∙ (ap (λ ts. text_of ts name) same ∙ none) in
    absurd (cc found)

pub kept-missing : (asked : Option Command) (texts : Option Texts) (begun done : ℕ) (failed : Option (List ℕ)) (pairs : List Pair) (before now : ℕ) (old new : Option (List ℕ)) (reply : Reply) (status : Status) (command : Command) (known : Texts) → IsAnswer asked texts begun done failed pairs reply → IsDelivery before now old new reply status → asked ≡ Some command → texts ≡ Some known → text_of known (source_of command) ≡ None → IsOneOf (ReadFault ∷ Memory ∷ []) (code_of status)
kept-missing asked texts begun done failed pairs before now old new reply status command known (answers.memory s o) d e t none =
    among (ReadFault ∷ Memory ∷ []) Memory status refl (kept before now old new reply status d o ∙ s)
kept-missing asked texts begun done failed pairs before now old new reply status command known (answers.usage a s o n p) d e t none = absurd (not_asked asked command a e)
kept-missing asked texts begun done failed pairs before now old new reply status command known (answers.unread c a s o r p f l) d e t none =
    among (ReadFault ∷ Memory ∷ []) ReadFault status refl (kept before now old new reply status d o ∙ s)
kept-missing asked texts begun done failed pairs before now old new reply status command known (answers.judged other a n bytes read judgement) d e t none =
    let same : other ≡ command = same_command asked other command a e in
    absurd (read_there texts (source_of other) 1048577 bytes known read t (ap (λ c. text_of known (source_of c)) same ∙ none))
