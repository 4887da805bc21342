-- How far a run has come, by what was found out about its actors.
use Rattle.std.proofs.Common.{◌≡◌, ◌∙◌, ◌+◌, ◌<◌, ℕ, Bool, true, false, cond, ◌||◌, List, [], ◌∷◌, Option, Some, None, Result, Ok, refl, ap, sym, subst, arith}
use Rattle.std.specs.Prelude.{is_some, count_by}
use Rattle.std.specs.List.{list_any}
use Rattle.std.proofs.lemmas.List.Sums.{sum_by-cons}
use Rattle.std.specs.declared.alloc.AllocError.{AllocError}
use Rattle.enc_ast.specs.declared.Span.{Span}
use Rattle.enc_ast.specs.declared.Program.{Program}
use Rattle.enc_model.specs.declared.config.Actor.{Actor}
use Rattle.enc_model.specs.declared.config.Config.{Config}
use Rattle.enc_model.specs.declared.schedule.Phase.{Phase}
use Rattle.enc_model.specs.declared.schedule.Phase.TheVariants.{Trapped, Blocked, Ended}
use Rattle.enc_model.specs.declared.values.TrapKind.{TrapKind}
use Rattle.enc_model.specs.Machine.{Machine}
use Rattle.enc_model.specs.Phase.{least_ready, has_trapped, waits, waiting, phase_by, phase_of, trap_at, first_trap_from, first_trap}

trapped-here : (a : ℕ) (trap : Option (TrapKind × Span)) (later : Option (ℕ × TrapKind × Span)) (others : Bool) → is_some later ≡ others → is_some (trap_at a trap later) ≡ (is_some trap || others)
trapped-here a None later others e = e
trapped-here a (Some trap) later others e = refl

trapped-any : (a : ℕ) (actors : List Actor) → is_some (first_trap_from a actors) ≡ list_any has_trapped actors
trapped-any a [] = refl
trapped-any a (actor ∷ actors) = trapped-here a actor.trap (first_trap_from (a + 1) actors) (list_any has_trapped actors) (trapped-any (a + 1) actors)

waits-here : (here others : Bool) (count : ℕ) → (0 < count → others ≡ true) → 0 < cond here 1 0 + count → (here || others) ≡ true
waits-here true others count later h = refl
waits-here false others count later h = later (omega arith)

waits-some : (actors : List Actor) → 0 < count_by waits actors → list_any waits actors ≡ true
waits-some [] h = absurd (omega arith)
waits-some (actor ∷ actors) h =
    let h' = rw (sum_by-cons (λ x. cond (waits x) 1 0) actor actors) at h in
    waits-here (waits actor) (list_any waits actors) (count_by waits actors) (waits-some actors) h'

none-here : (here others : Bool) (count : ℕ) → (count ≡ 0 → others ≡ false) → cond here 1 0 + count ≡ 0 → (here || others) ≡ false
none-here true others count later h = absurd (omega arith)
none-here false others count later h = later (omega arith)

waits-none : (actors : List Actor) → count_by waits actors ≡ 0 → list_any waits actors ≡ false
waits-none [] h = refl
waits-none (actor ∷ actors) h =
    let h' = rw (sum_by-cons (λ x. cond (waits x) 1 0) actor actors) at h in
    none-here (waits actor) (list_any waits actors) (count_by waits actors) (waits-none actors) h'

phase_by-trapped : (ready trapped waiting : Bool) → ready ≡ false → trapped ≡ true → phase_by ready trapped waiting ≡ Trapped
phase_by-trapped ready trapped waiting r t = rw (r, t) refl

phase_by-blocked : (ready trapped waiting : Bool) → ready ≡ false → trapped ≡ false → waiting ≡ true → phase_by ready trapped waiting ≡ Blocked
phase_by-blocked ready trapped waiting r t w = rw (r, t, w) refl

phase_by-ended : (ready trapped waiting : Bool) → ready ≡ false → trapped ≡ false → waiting ≡ false → phase_by ready trapped waiting ≡ Ended
phase_by-ended ready trapped waiting r t w = rw (r, t, w) refl

pub phase_of-trapped : (program : Program) (c : Config) → is_some (least_ready program c) ≡ false → is_some (first_trap c) ≡ true → phase_of program c ≡ Trapped
phase_of-trapped program c r t = phase_by-trapped (is_some (least_ready program c)) (list_any has_trapped c.actors) (list_any waits c.actors) r (sym (trapped-any 0 c.actors) ∙ t)

pub phase_of-blocked : (program : Program) (c : Config) → is_some (least_ready program c) ≡ false → is_some (first_trap c) ≡ false → 0 < waiting c → phase_of program c ≡ Blocked
phase_of-blocked program c r t w = phase_by-blocked (is_some (least_ready program c)) (list_any has_trapped c.actors) (list_any waits c.actors) r (sym (trapped-any 0 c.actors) ∙ t) (waits-some c.actors w)

pub phase_of-ended : (program : Program) (c : Config) → is_some (least_ready program c) ≡ false → is_some (first_trap c) ≡ false → waiting c ≡ 0 → phase_of program c ≡ Ended
phase_of-ended program c r t w = phase_by-ended (is_some (least_ready program c)) (list_any has_trapped c.actors) (list_any waits c.actors) r (sym (trapped-any 0 c.actors) ∙ t) (waits-none c.actors w)

-- ---- of a machine

same-ok : (x y : Option ℕ) → Path (Result (Option ℕ) AllocError) (Ok x) (Ok y) → x ≡ y
same-ok x y e = cc

not_ready : (m : Machine) (program : Program) (c : Config) (least : Option ℕ) → Path Machine (record { program = program; config = c }) m → Path (Result (Option ℕ) AllocError) (Ok least) (Ok (least_ready m.program m.config)) → is_some least ≡ false → is_some (least_ready program c) ≡ false
not_ready m program c least is known none =
    let P : Machine → Type 0 = λ n. is_some (least_ready n.program n.config) ≡ false in
    subst P (sym is) (subst (λ l. is_some l ≡ false) (same-ok least (least_ready m.program m.config) known) none)

answers : (m : Machine) (program : Program) (c : Config) (phase : Phase) → Path Machine (record { program = program; config = c }) m → phase_of program c ≡ phase → Path (Result Phase AllocError) (Ok phase) (Ok (phase_of m.program m.config))
answers m program c phase is e =
    let P : Machine → Type 0 = λ n. Path (Result Phase AllocError) (Ok phase) (Ok (phase_of n.program n.config)) in
    subst P is (ap (λ p. Ok p) (sym e))

pub answers-trapped : (m : Machine) (program : Program) (c : Config) (least : Option ℕ) → Path Machine (record { program = program; config = c }) m → Path (Result (Option ℕ) AllocError) (Ok least) (Ok (least_ready m.program m.config)) → is_some least ≡ false → is_some (first_trap c) ≡ true → Path (Result Phase AllocError) (Ok Trapped) (Ok (phase_of m.program m.config))
answers-trapped m program c least is known none trapped =
    answers m program c Trapped is (phase_of-trapped program c (not_ready m program c least is known none) trapped)

pub answers-blocked : (m : Machine) (program : Program) (c : Config) (least : Option ℕ) → Path Machine (record { program = program; config = c }) m → Path (Result (Option ℕ) AllocError) (Ok least) (Ok (least_ready m.program m.config)) → is_some least ≡ false → is_some (first_trap c) ≡ false → 0 < waiting c → Path (Result Phase AllocError) (Ok Blocked) (Ok (phase_of m.program m.config))
answers-blocked m program c least is known none untrapped some =
    answers m program c Blocked is (phase_of-blocked program c (not_ready m program c least is known none) untrapped some)

pub answers-ended : (m : Machine) (program : Program) (c : Config) (least : Option ℕ) → Path Machine (record { program = program; config = c }) m → Path (Result (Option ℕ) AllocError) (Ok least) (Ok (least_ready m.program m.config)) → is_some least ≡ false → is_some (first_trap c) ≡ false → waiting c ≡ 0 → Path (Result Phase AllocError) (Ok Ended) (Ok (phase_of m.program m.config))
answers-ended m program c least is known none untrapped no_one =
    answers m program c Ended is (phase_of-ended program c (not_ready m program c least is known none) untrapped no_one)
