-- Statuses and their numbers.
use Rattle.std.proofs.Common.{◌≡◌, ◌∙◌, ◌||◌, ℕ, Bool, true, false, List, cond, refl, sym, ap, eqb, eqb→eq}
use Rattle.std.proofs.lemmas.Bool.{false≢true}
use Rattle.enc_model.specs.declared.Phase.{Phase}
use Rattle.enc_model.specs.declared.Phase.TheVariants as phases
use Rattle.encore_run.specs.declared.status.Status.{Status}
use Rattle.encore_run.specs.declared.status.Status.TheVariants.{Ended, Rejected, Usage, Trapped, Blocked, Budget, Memory, ReadFault, WriteFault}
use Rattle.encore_run.specs.Due.{status_of}
use Rattle.encore_run.specs.Status.{code_of, is_one_of, Is, IsOneOf}

-- the status of a number
abbrev status_at : ℕ → Status
status_at n =
    cond (eqb n 0) Ended (cond (eqb n 1) Rejected (cond (eqb n 2) Usage (cond (eqb n 3) Trapped (cond (eqb n 4) Blocked (cond (eqb n 5) Budget
    (cond (eqb n 6) Memory (cond (eqb n 7) ReadFault WriteFault)))))))

status_at-code_of : (status : Status) → status_at (code_of status) ≡ status
status_at-code_of Ended = refl
status_at-code_of Rejected = refl
status_at-code_of Usage = refl
status_at-code_of Trapped = refl
status_at-code_of Blocked = refl
status_at-code_of Budget = refl
status_at-code_of Memory = refl
status_at-code_of ReadFault = refl
status_at-code_of WriteFault = refl

only_first : (b : Bool) → (b || false) ≡ true → b ≡ true
only_first true h = refl
only_first false h = h

same_number : (m n : ℕ) → eqb m n ≡ true → m ≡ n
same_number m n e = eqb→eq m n (rw e tt)

-- no two statuses have one number
pub is-status : (wanted status : Status) → Is wanted (code_of status) → status ≡ wanted
is-status wanted status is =
    let same : code_of status ≡ code_of wanted = same_number (code_of status) (code_of wanted) (only_first _ is) in
    sym (status_at-code_of status) ∙ (ap status_at same ∙ status_at-code_of wanted)

-- a status that isn't among these
pub not-among : (statuses : List Status) (other status : Status) → is_one_of statuses (code_of other) ≡ false → status ≡ other → IsOneOf statuses (code_of status) → ⊥
not-among statuses other status none e among =
    false≢true (sym none ∙ (ap (λ s. is_one_of statuses (code_of s)) (sym e) ∙ among))

pub among : (statuses : List Status) (other status : Status) → is_one_of statuses (code_of other) ≡ true → status ≡ other → IsOneOf statuses (code_of status)
among statuses other status some e = ap (λ s. is_one_of statuses (code_of s)) e ∙ some

-- the status of a phase is one of these four
pub phase-among : (statuses : List Status) (phase : Phase) → IsOneOf statuses (code_of Ended) → IsOneOf statuses (code_of Trapped) → IsOneOf statuses (code_of Blocked) → IsOneOf statuses (code_of Budget) → IsOneOf statuses (code_of (status_of phase))
phase-among statuses phases.Ended a b c d = a
phase-among statuses phases.Trapped a b c d = b
phase-among statuses phases.Blocked a b c d = c
phase-among statuses phases.Running a b c d = d

-- the status of a phase is none of these
pub phase-not : (statuses : List Status) (phase : Phase) → is_one_of statuses (code_of Ended) ≡ false → is_one_of statuses (code_of Trapped) ≡ false → is_one_of statuses (code_of Blocked) ≡ false → is_one_of statuses (code_of Budget) ≡ false → IsOneOf statuses (code_of (status_of phase)) → ⊥
phase-not statuses phases.Ended a b c d h = false≢true (sym a ∙ h)
phase-not statuses phases.Trapped a b c d h = false≢true (sym b ∙ h)
phase-not statuses phases.Blocked a b c d h = false≢true (sym c ∙ h)
phase-not statuses phases.Running a b c d h = false≢true (sym d ∙ h)
