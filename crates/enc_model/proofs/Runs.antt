-- Runs, and schedules that go on by one step.
use Rattle.std.proofs.Common.{◌≡◌, ◌+◌, ◌-◌, ◌∙◌, ◌<◌, ◌^◌, ℕ, zero, suc, Bool, true, false, List, [], ◌∷◌, ◌++◌, Some, None, Result, Ok, Err, refl, sym, ap, subst, append_assoc, add-one, length, length-append, arith}
use Rattle.std.specs.Prelude.{replicate, fold, IsTrue, nat_le, IfOk, OnErr}
use Rattle.std.specs.List.{list_all}
use Rattle.std.proofs.lemmas.List.Sums.{fold-append, sum_by_push, sum_by-cons}
use Rattle.std.proofs.lemmas.List.{length-replicate, append-nil}
use Rattle.std.proofs.lemmas.List.Folds.{fold_stays, list_all-append}
use Rattle.std.proofs.lemmas.Bool.{false≢true}
use Rattle.enc_ast.specs.declared.Program.{Program}
use Rattle.enc_ast.specs.declared.Stmt.{Stmt}
use Rattle.enc_ast.specs.Thin.{is_body, is_thin, body_of}
use Rattle.enc_model.specs.declared.config.Cell.TheVariants.{Pending}
use Rattle.enc_model.specs.declared.config.Config.{Config}
use Rattle.enc_model.specs.declared.schedule.Pair.{Pair}
use Rattle.enc_model.specs.declared.schedule.Phase.TheVariants.{Blocked, Running}
use Rattle.enc_model.specs.declared.schedule.Stepped.{Stepped}
use Rattle.enc_model.specs.Exec.{picks, steps_of, start, after_step, next_config, run, exec}
use Rattle.enc_model.specs.Laws.{NeverStuck, NeverBlocked, StopsSoon}
use Rattle.enc_model.specs.Machine.{IsValid}
use Rattle.enc_model.specs.Phase.{is_next, is_ready, first_ready, least_ready, phase_of}
use Rattle.enc_model.specs.Step.{Outcome, Next, NotReady, Stuck, step_of}
use Rattle.enc_model.proofs.Reaching.{Looks, begins, works, traps, ends, alone, task_at, Leads, Keeps, leads-works, keeps-step, few-looks, thin-body}

-- ---- what runs lead to

-- no configuration comes after none
none-stays : (program : Program) (actors : List ℕ) (c : Config) → fold (after_step program) None actors ≡ Some c → ⊥
none-stays program actors c e = let none = fold_stays (after_step program) None (λ a. refl) actors in absurd (cc)

-- the run goes on by one step, and then by the others
goes_on : (program : Program) (body : List Stmt) (n : ℕ) (outcome : Outcome) (actors : List ℕ) (end : Config) → Keeps body n outcome →
    ((c : Config) → Looks body (n + 1) c → fold (after_step program) (Some c) actors ≡ Some end → Looks body (n + 1 + length actors) end) →
    fold (after_step program) (next_config outcome) actors ≡ Some end → Looks body (n + 1 + length actors) end
goes_on program body n (Next c kind) actors end keeps later e = later c keeps e
goes_on program body n NotReady actors end keeps later e = absurd (none-stays program actors end e)
goes_on program body n Stuck actors end keeps later e = absurd keeps

looks-after : (program : Program) (n : ℕ) (c : Config) (actors : List ℕ) (end : Config) → is_body [] (body_of program) ≡ true → Looks (body_of program) n c → fold (after_step program) (Some c) actors ≡ Some end → Looks (body_of program) (n + length actors) end
looks-after program n c [] end thin looks e =
    let same : c ≡ end = cc in
    subst (λ m. Looks (body_of program) m end) (omega arith) (subst (λ d. Looks (body_of program) n d) same looks)
looks-after program n c (a ∷ actors) end thin looks e =
    subst (λ m. Looks (body_of program) m end) (omega arith)
    (goes_on program (body_of program) n (step_of program c a) actors end (keeps-step program n c a thin looks)
    (λ d there f. looks-after program (n + 1) d actors end thin there f) e)

-- how the configuration looks to which the steps of these actors lead
pub looks-run : (program : Program) (actors : List ℕ) (c : Config) → IsTrue (is_thin program) → run program actors ≡ Some c → Looks (body_of program) (length actors) c
looks-run program actors c thin e =
    subst (λ m. Looks (body_of program) m c) (omega arith) (looks-after program 0 start actors c (thin-body program thin) (begins 0 refl) e)

-- a run that goes on by one step leads on
pub run-push : (program : Program) (actors : List ℕ) (c next : Config) (a : ℕ) (kind : Stepped) → run program actors ≡ Some c → step_of program c a ≡ Next next kind → run program (actors ++ a ∷ []) ≡ Some next
run-push program actors c next a kind e s =
    fold-append (after_step program) (Some start) actors (a ∷ [])
    ∙ (ap (λ from. after_step program from a) e ∙ ap next_config s)

-- ---- the laws

not_stuck : (body : List Stmt) (n : ℕ) (outcome : Outcome) → Keeps body n outcome → outcome ≡ Stuck → ⊥
not_stuck body n (Next c kind) keeps e = absurd (cc)
not_stuck body n NotReady keeps e = absurd (cc)
not_stuck body n Stuck keeps e = keeps

pub never_stuck-thin : (program : Program) → IsTrue (is_thin program) → NeverStuck program
never_stuck-thin program thin actors c a e stuck =
    not_stuck (body_of program) (length actors) (step_of program c a) (keeps-step program (length actors) c a (thin-body program thin) (looks-run program actors c thin e)) stuck

pub stops_soon-thin : (program : Program) → IsTrue (is_thin program) → StopsSoon program
stops_soon-thin program thin actors c e = few-looks (body_of program) (length actors) c (looks-run program actors c thin e)

next-leads : (body : List Stmt) (n : ℕ) (outcome : Outcome) → Leads body n outcome → is_next outcome ≡ true
next-leads body n (Next c kind) h = refl
next-leads body n NotReady h = absurd h
next-leads body n Stuck h = absurd h

not_blocked : (program : Program) (n : ℕ) (c : Config) → is_body [] (body_of program) ≡ true → Looks (body_of program) n c → phase_of program c ≡ Blocked → ⊥
not_blocked program n _ thin (begins m e) blocked = absurd (cc)
not_blocked program n _ thin (works m at locals output w) blocked =
    let ready : is_ready program (alone (Some (task_at at locals)) None Pending output) 0 ≡ true =
    next-leads (body_of program) m (step_of program (alone (Some (task_at at locals)) None Pending output) 0) (leads-works program m at locals output w)
    in
    let other : Running ≡ Blocked = rw ready at blocked in
    absurd (cc)
not_blocked program n _ thin (traps m task trap output few) blocked = absurd (cc)
not_blocked program n _ thin (ends m output e) blocked = absurd (cc)

pub never_blocked-thin : (program : Program) → IsTrue (is_thin program) → NeverBlocked program
never_blocked-thin program thin actors c e blocked =
    not_blocked program (length actors) c (thin-body program thin) (looks-run program actors c thin e) blocked

-- ---- machines

pub valid-looks : (program : Program) (c : Config) → (valid : IsValid program c) → Looks (body_of program) (length valid.reached.actors) c
valid-looks program c valid = looks-run program valid.reached.actors c valid.thin valid.reached.reached

-- no actor of a machine is at a step that has no meaning
pub valid-known : (program : Program) (c : Config) (a : ℕ) → IsValid program c → step_of program c a ≡ Stuck → ⊥
valid-known program c a valid = never_stuck-thin program valid.thin valid.reached.actors c a valid.reached.reached

looks-alone : (body : List Stmt) (n : ℕ) (c : Config) → Looks body n c → length c.actors ≡ 1
looks-alone body n _ (begins m e) = refl
looks-alone body n _ (works m at locals output w) = refl
looks-alone body n _ (traps m task trap output few) = refl
looks-alone body n _ (ends m output e) = refl

pub valid-alone : (program : Program) (c : Config) → IsValid program c → length c.actors ≡ 1
valid-alone program c valid = looks-alone (body_of program) (length valid.reached.actors) c (valid-looks program c valid)

pub valid-few : (program : Program) (c : Config) → IsValid program c → length c.actors < 2 ^ 32
valid-few program c valid = let one : length c.actors ≡ 1 = valid-alone program c valid in omega arith

pub valid-start : (program : Program) → IsTrue (is_thin program) → IsValid program start
valid-start program thin = record { thin = thin; reached = record { actors = []; reached = refl } }

-- a machine stays one where an actor makes its next step
pub valid-step : (program : Program) (c next : Config) (a : ℕ) (kind : Stepped) → IsValid program c → step_of program c a ≡ Next next kind → IsValid program next
valid-step program c next a kind valid e = record {
  thin = valid.thin;
  reached = record {
    actors = valid.reached.actors ++ a ∷ [];
    reached = run-push program valid.reached.actors c next a kind valid.reached.reached e;
  };
}

-- and where it was asked for a step, whatever came of it
pub valid-made : {E : Type 0} (program : Program) (c next : Config) (a : ℕ) (result : Result Stepped E) → IsValid program c → IfOk result (λ kind. step_of program c a ≡ Next next kind) → OnErr result (next ≡ c) → IsValid program next
valid-made program c next a (Ok kind) valid made same = valid-step program c next a kind valid made
valid-made program c next a (Err e) valid made same = subst (λ (d : Config). IsValid program d) (sym same) valid

pub ruleset machines = (valid-known, valid-few, valid-start, valid-step)

-- ---- schedules

-- so many steps of an actor, and one
abbrev pub many : ℕ → ℕ → Pair
many a k = record { actor = a; steps = k }

abbrev pub once : ℕ → Pair
once a = many a 1

-- a step for each pick
pub length-picks : (pairs : List Pair) → length (picks pairs) ≡ steps_of pairs
length-picks [] = refl
length-picks (pair ∷ pairs) = length-append (replicate pair.steps pair.actor) (picks pairs) ∙ (rw (length-replicate pair.steps pair.actor, length-picks pairs) refl ∙ sym (sum_by-cons (λ pair. pair.steps) pair pairs))

picks-many : (pairs : List Pair) (a k : ℕ) → picks (pairs ++ many a k ∷ []) ≡ picks pairs ++ replicate k a
picks-many [] a k = append-nil (replicate k a)
picks-many (pair ∷ pairs) a k = rw (picks-many pairs a k) (sym (append_assoc (replicate pair.steps pair.actor) (picks pairs) (replicate k a)))

replicate-push : (k a : ℕ) → replicate (suc k) a ≡ replicate k a ++ a ∷ []
replicate-push zero a = refl
replicate-push (suc k) a = ap (λ actors. a ∷ actors) (replicate-push k a)

pub picks-push : (pairs : List Pair) (a : ℕ) → picks (pairs ++ once a ∷ []) ≡ picks pairs ++ a ∷ []
picks-push pairs a = picks-many pairs a 1

pub picks-more : (pairs : List Pair) (a k : ℕ) → picks (pairs ++ many a (k + 1) ∷ []) ≡ picks (pairs ++ many a k ∷ []) ++ a ∷ []
picks-more pairs a k =
    let next : replicate (k + 1) a ≡ replicate k a ++ a ∷ [] = rw add-one (replicate-push k a) in
    picks-many pairs a (k + 1) ∙ (ap (λ actors. picks pairs ++ actors) next
    ∙ (sym (append_assoc (picks pairs) (replicate k a) (a ∷ [])) ∙ ap (λ actors. actors ++ a ∷ []) (sym (picks-many pairs a k))))

pub steps_of-push : (pairs : List Pair) (a : ℕ) → steps_of (pairs ++ once a ∷ []) ≡ steps_of pairs + 1
steps_of-push pairs a = sum_by_push (λ pair. pair.steps) pairs (once a)

pub steps_of-more : (pairs : List Pair) (a k : ℕ) → steps_of (pairs ++ many a (k + 1) ∷ []) ≡ steps_of (pairs ++ many a k ∷ []) + 1
steps_of-more pairs a k = omega (arith, sum_by_push (λ pair. pair.steps) pairs (many a (k + 1)), sum_by_push (λ pair. pair.steps) pairs (many a k))

-- from a configuration to which the schedule leads, a step that another pair makes leads on
pub exec-push : (program : Program) (pairs : List Pair) (c next : Config) (a : ℕ) (kind : Stepped) → exec program pairs ≡ Some c → step_of program c a ≡ Next next kind → exec program (pairs ++ once a ∷ []) ≡ Some next
exec-push program pairs c next a kind e s = ap (run program) (picks-push pairs a) ∙ run-push program (picks pairs) c next a kind e s

-- and so does one more step of the last pair
pub exec-more : (program : Program) (pairs : List Pair) (c next : Config) (a k : ℕ) (kind : Stepped) → exec program (pairs ++ many a k ∷ []) ≡ Some c → step_of program c a ≡ Next next kind → exec program (pairs ++ many a (k + 1) ∷ []) ≡ Some next
exec-more program pairs c next a k kind e s = ap (run program) (picks-more pairs a k) ∙ run-push program (picks (pairs ++ many a k ∷ [])) c next a kind e s

-- each pair still has a step
pub some_steps-many : (pairs : List Pair) (a k : ℕ) → list_all (λ pair. nat_le 1 pair.steps) pairs ≡ true → nat_le 1 k ≡ true → list_all (λ pair. nat_le 1 pair.steps) (pairs ++ many a k ∷ []) ≡ true
some_steps-many pairs a k e some = list_all-append (λ pair. nat_le 1 pair.steps) pairs (many a k ∷ []) ∙ rw (e, some) refl

pub some_steps-push : (pairs : List Pair) (a : ℕ) → list_all (λ pair. nat_le 1 pair.steps) pairs ≡ true → list_all (λ pair. nat_le 1 pair.steps) (pairs ++ once a ∷ []) ≡ true
some_steps-push pairs a e = some_steps-many pairs a 1 e refl

-- ---- ready actors

found : (program : Program) (c : Config) (a n b : ℕ) (here : Bool) → is_ready program c a ≡ here → ((m : ℕ) → first_ready program c (a + 1) n ≡ Some m → is_ready program c m ≡ true) → first_ready program c a (suc n) ≡ Some b → is_ready program c b ≡ true
found program c a n b true e later f =
    let b_is : Some a ≡ Some b = rw e at f in
    let same : a ≡ b = cc in
    rw (← same) e
found program c a n b false e later f = later b (rw e at f)

pub first_ready-is_ready : (program : Program) (c : Config) (a n b : ℕ) → first_ready program c a n ≡ Some b → is_ready program c b ≡ true
first_ready-is_ready program c a zero b e = absurd (cc e)
first_ready-is_ready program c a (suc n) b e =
    found program c a n b (is_ready program c a) refl (λ m h. first_ready-is_ready program c (a + 1) n m h) e

-- the least ready actor is ready
pub least_ready-not : (program : Program) (c : Config) (a : ℕ) → least_ready program c ≡ Some a → step_of program c a ≡ NotReady → ⊥
least_ready-not program c a e s =
    false≢true (sym (ap is_next s) ∙ first_ready-is_ready program c 0 (length c.actors) a e)

miss : (program : Program) (c : Config) (a n k : ℕ) → n ≡ suc k → is_ready program c a ≡ false → first_ready program c a n ≡ first_ready program c (a + 1) k
miss program c a n k e unready = rw e (rw unready refl)

-- an actor that is not ready is passed over
pub first_ready-miss : (program : Program) (c : Config) (a n : ℕ) → a < n → is_ready program c a ≡ false → first_ready program c a (n - a) ≡ first_ready program c (a + 1) (n - (a + 1))
first_ready-miss program c a n within unready = miss program c a (n - a) (n - (a + 1)) (omega arith) unready
