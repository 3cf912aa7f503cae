-- What the planner keeps follows the context that the plan's first sends leave (`Follows`), so that it names whom a choice there names
-- (`names_turn`, `names_nobody`), with the send that is planned for that turn (`send_is`).
-- Assumes nothing.
use mathlib.Core.Path.{◌≡◌, refl, sym, ap, ap₂, ◌∙◌, subst}
use mathlib.Core.Logic.{by_cases}
use mathlib.Core.Bool.{Bool, true, false, not, ◌&&◌}
use mathlib.Core.List.{List}
use mathlib.Core.Option.{none, some}
use Prim.Native.Nat.{ℕ, zero, suc, ◌+◌, ◌-◌, ◌≤◌, ◌<◌}
use native.Mathlib.Decide.{ℕ_discrete, dec_lt}
use native.Mathlib.Nat.{sub-zero}
use native.Mathlib.Omega.{arith}
use lib.Dec.{ltb, eqb}
use lib.ListN.{length}
use borrow.Author.Tests.{ne_eqb}
use Rattle.rules.specs.Branch.{if_so, if_lt, so_yes, so_no, so_both, lt_yes, lt_no, lt_both, eq_yes, eq_no}
use Rattle.serial.specs.Psn.{psns}
use Rattle.serial.proofs.Wraps.{minus_self}
use Rattle.ledger.specs.Ring.{long_of, offset_of}
use Rattle.ledger.specs.declared.Flow.{Flow}
use Rattle.ledger.proofs.Facts.{packet_some}
use Rattle.ledger.proofs.Sends.{waits}
use Rattle.flow_table.specs.Words.{flows_most}
use Rattle.sender.specs.Named.{has_room}
use Rattle.context.specs.Context.{Context, flow_count, cap_in, flow_in, ring_in}
use Rattle.context.specs.Look.{packet_in, marked_from}
use Rattle.context.specs.Turns.{has_marked, is_ready, numbers, first_ready, window_open, named_by, turn_of, offered_by}
use Rattle.context.proofs.Sounds.{SoundContext, context_facts, flow_facts}
use Rattle.context.proofs.Offers.{offer_marked, offer_next, offer_is_marked, ready_marked, ready_new}
use Rattle.context.proofs.Rounds.{round_shut, round_front, round_behind}
use Rattle.plan.specs.Ahead.{flow_by, again_to}
use Rattle.plan.specs.Course.{wait_by, ready_by, first_from, send_by}
use Rattle.plan.specs.Course.{named_by as named}
use Rattle.plan.specs.Planner.{planned_for}
use Rattle.plan.specs.declared.Planned.{Planned}
use Rattle.plan.specs.declared.course.Course.{Course}
use Rattle.plan.proofs.Packets.{offset_tells}
use Rattle.plan.proofs.Agrees.{Agrees}
use Rattle.plan.proofs.Seeks.{next_offset, differs, Sought, sought, Seeks, seek_marked, seek_none, seek_first}

-- x is what a plan's first i sends leave of x₀, as far as a choice is told by it
pub record Follows (x₀ : Context) (ws : List ℕ) (i : ℕ) (s : Course) (x : Context) : Type 0 where
  pub turn_same : s.turn ≡ x.state.turn
  pub room : length s.waits.at ≡ flows_most
  pub next_same : (k : ℕ) → k < flow_count x₀ → (wait_by s k).next ≡ (flow_in x₀ k).next
  pub seeks : (k : ℕ) → k < flow_count x₀ → Seeks (flow_in x₀ k) (ring_in x₀ k) (again_to ws i k) (wait_by s k).low

pub low_zero : (f : Flow) → offset_of f f.low ≡ 0
unfolding offset_of
low_zero f = minus_self psns f.low (omega arith)

-- the first marked packet of a flow of a sound context, from any of low..next on
pub first_sought : (x : Context) → SoundContext x → (k : ℕ) → k < flow_count x → (psn : ℕ) → psn < psns
    → offset_of (flow_in x k) psn ≤ long_of (flow_in x k) → Sought (flow_in x k) (ring_in x k) psn (marked_from k psn x)
unfolding marked_from
first_sought x S k h psn fits l =
    let F = flow_facts x S k h in
    sought (flow_in x k) (ring_in x k) F.next_psn (omega (arith, F.fits, F.even.few)) psn fits l

-- ---- the first ready flow

first_told : (a b : ℕ → Bool) (k n : ℕ) → ((j : ℕ) → j < k + n → a j ≡ b j)
    → first_ready b (numbers k n) ≡ if_lt (first_from a k n) (k + n) (some (first_from a k n)) none
unfolding first_ready numbers first_from
first_told a b k zero same = lt_no k (k + 0) none (some k) none (omega arith) refl
first_told a b k (suc n) same = by (a k) refl (first_told a b (suc k) n (λ j l. same j (omega arith)))
  where
    by : (t : Bool) → a k ≡ t
        → first_ready b (numbers (suc k) n) ≡ if_lt (first_from a (suc k) n) (suc k + n) (some (first_from a (suc k) n)) none
        → if_so (b k) (some k) (first_ready b (numbers (suc k) n))
        ≡ if_lt (if_so (a k) k (first_from a (suc k) n)) (k + suc n) (some (if_so (a k) k (first_from a (suc k) n))) none
    by true e on =
        sym (so_yes (b k) (some k) (some k) _ (sym (same k (omega arith)) ∙ e) refl)
        ∙ lt_yes k (k + suc n) (some k) (some k) none (omega arith) refl
        ∙ ap (λ (m : ℕ). if_lt m (k + suc n) (some m) none) (so_yes (a k) k k _ e refl)
    by false e on =
        let long : suc k + n ≡ k + suc n = omega arith in
        sym (so_no (b k) _ (some k) _ (sym (same k (omega arith)) ∙ e) refl) ∙ on
        ∙ ap (λ (m : ℕ). if_lt (first_from a (suc k) n) m (some (first_from a (suc k) n)) none) long
        ∙ ap (λ (m : ℕ). if_lt m (k + suc n) (some m) none) (so_no (a k) _ k _ e refl)

module _ {time : ℕ} {x₀ : Context} {ws : List ℕ} {i : ℕ} {s : Course} {x : Context} (S₀ : SoundContext x₀)
    (A : Agrees time x₀ ws i s.ahead x) (F : Follows x₀ ws i s x) where
  S : SoundContext x
  S = context_facts x A.sound

  -- ---- flow k

  module _ (k : ℕ) (h : k < flow_count x₀) where
    there : k < flow_count x
    there = omega (arith, A.count)

    abbrev seek : ℕ
    seek = (wait_by s k).low

    abbrev f : Flow
    f = flow_in x₀ k

    T : Seeks f (ring_in x₀ k) (again_to ws i k) seek
    T = F.seeks k h

    -- a packet waits exactly if low is not next
    pub waits_so : (seek ≡ (wait_by s k).next → ⊥) → offset_of f seek < long_of f
    waits_so ne =
        by_cases (dec_lt (offset_of f seek) (long_of f)) (λ l. l)
        (λ g.
        absurd (ne (offset_tells f seek f.next T.fits (flow_facts x₀ S₀ k h).next_psn
        (omega (arith, T.within, next_offset f)) ∙ sym (F.next_same k h))))

    waits_not : seek ≡ (wait_by s k).next → long_of f ≤ offset_of f seek
    waits_not e = omega (arith, ap (offset_of f) (e ∙ F.next_same k h), next_offset f)

    -- with a packet that waits, the context has a marked one, and it is the first
    marked_so : offset_of f seek < long_of f → (has_marked x k ≡ true) × (marked_from k (flow_in x k).low x ≡ seek)
    marked_so l =
        let m = (seek_marked f (flow_in x k) (ring_in x₀ k) (ring_in x k) (again_to ws i k) (λ psn size. A.waiting k psn size h) T l).0 in
        let o = packet_some (flow_in x k) (ring_in x k) seek (omega (arith, waits (packet_in k seek x) m)) in
        let G = flow_facts x S k there in
        let first : marked_from k (flow_in x k).low x ≡ seek =
        seek_first f (flow_in x k) (ring_in x₀ k) (ring_in x k) (again_to ws i k) (λ psn size. A.waiting k psn size h) T (A.lows k h)
        (ap (offset_of f) (A.lows k h) ∙ low_zero f) l
        (first_sought x S k there (flow_in x k).low G.low_psn (omega (arith, low_zero (flow_in x k)))) in (
          offer_marked x S k there
              ∙ ap not (ne_eqb _ _ (λ e.
              let z : ⊥ = omega (arith, o, next_offset (flow_in x k), ap (offset_of (flow_in x k)) (sym first ∙ e)) in
              z)),
          first,
        )

    -- and with none it has none
    marked_not : long_of f ≤ offset_of f seek → has_marked x k ≡ false
    marked_not l = by (has_marked x k) refl
      where
        by : (b : Bool) → has_marked x k ≡ b → has_marked x k ≡ false
        by false e = e
        by true e =
            let G = flow_facts x S k there in
            let U = first_sought x S k there (flow_in x k).low G.low_psn (omega (arith, low_zero (flow_in x k))) in
            absurd (differs (offer_is_marked x S k there e) (seek_none f (flow_in x k) (ring_in x₀ k) (ring_in x k) (again_to ws i k)
            (λ psn size. A.waiting k psn size h) T l (marked_from k (flow_in x k).low x) U.fits))

    ready_is : ready_by (cap_in x₀) s k ≡ is_ready x k
    unfolding ready_by
    ready_is =
        by_cases (ℕ_discrete seek (wait_by s k).next)
        (λ e.
        sym (eq_yes seek (wait_by s k).next _ _ _ e
        (ready_new x k (marked_not (waits_not e))
        ∙ sym (ap₂ (λ (g : Flow) (c : ℕ). ltb 0 g.backlog && not (eqb (long_of g) c)) (A.flows k h) (sym A.cap)))))
        (λ ne. sym (eq_no seek (wait_by s k).next _ _ _ ne (ready_marked x k (marked_so (waits_so ne)).0)))

    -- a send of it
    abbrev one : Bool → ℕ → ℕ → Planned
    one b psn bytes = record { flow = k; send = record { psn = psn; size = bytes; resend = b } }

    -- its send is the one that is planned for its turn
    pub send_is : (size : ℕ) → send_by x₀ s size k ≡ planned_for size x (turn_of x k)
    unfolding send_by turn_of
    send_is size =
        by_cases (ℕ_discrete seek (wait_by s k).next) (λ e. sym (eq_yes seek (wait_by s k).next _ _ _ e (new e)))
        (λ ne. sym (eq_no seek (wait_by s k).next _ _ _ ne (again ne)))
      where
        new : seek ≡ (wait_by s k).next → planned_for size x (turn_of x k)
            ≡ record { flow = k; send = record { psn = (flow_by s.ahead k).next; size = size; resend = false } }
        new e =
            let m = marked_not (waits_not e) in
            ap (λ (b : Bool). one b (marked_from k (flow_in x k).low x) (if_so b (packet_in k (marked_from k (flow_in x k).low x) x).size size)) m
            ∙ ap₂ (λ (psn bytes : ℕ). one false psn bytes)
            (offer_next x S k there m ∙ ap (λ (g : Flow). g.next) (sym (A.flows k h))) (sym (so_no false size _ size refl refl))

        again : (seek ≡ (wait_by s k).next → ⊥) → planned_for size x (turn_of x k)
            ≡ record { flow = k; send = record { psn = seek; size = (packet_in k seek x₀).size; resend = true } }
        again ne =
            let l = waits_so ne in
            let m = marked_so l in
            let same = (seek_marked f (flow_in x k) (ring_in x₀ k) (ring_in x k) (again_to ws i k) (λ psn size. A.waiting k psn size h) T l).1 in
            ap₂ (λ (b : Bool) (psn : ℕ). one b psn (if_so b (packet_in k psn x).size size)) m.0 m.1
            ∙ ap (one true seek) (sym (so_yes true _ _ size refl same))

  -- ---- who is named

  window_same : has_room x₀.state.settings.mtu x₀.state.window.cwnd s.ahead.in_flight ≡ window_open x
  window_same = rw (A.settings, A.window, A.in_flight)

  abbrev ready : ℕ → Bool
  ready = ready_by (cap_in x₀) s

  abbrev n : ℕ
  n = flow_count x₀

  abbrev front : ℕ
  front = first_from ready s.turn (n - s.turn)

  abbrev back : ℕ
  back = first_from ready 0 s.turn

  pub turn_in : s.turn < n
  turn_in = omega (arith, F.turn_same, A.count, S.turn_ok)

  -- the flows from the turn on, and those before it
  front_told : first_ready (is_ready x) (numbers x.state.turn (flow_count x - x.state.turn)) ≡ if_lt front n (some front) none
  front_told =
      let end : s.turn + (n - s.turn) ≡ n = omega (arith, turn_in) in
      ap₂ (λ (t m : ℕ). first_ready (is_ready x) (numbers t (m - t))) (sym F.turn_same) A.count
      ∙ first_told ready (is_ready x) s.turn (n - s.turn) (λ j l. ready_is j (omega (arith, turn_in)))
      ∙ ap (λ (m : ℕ). if_lt front m (some front) none) end

  back_told_lem : first_ready (is_ready x) (numbers 0 (x.state.turn - 0)) ≡ if_lt back s.turn (some back) none
  back_told_lem =
      let end : 0 + s.turn ≡ s.turn = omega arith in
      ap (λ (t : ℕ). first_ready (is_ready x) (numbers 0 t)) (sub-zero x.state.turn ∙ sym F.turn_same)
      ∙ first_told ready (is_ready x) 0 s.turn (λ j l. ready_is j (omega (arith, turn_in)))
      ∙ ap (λ (m : ℕ). if_lt back m (some back) none) end

  -- what is said of who is named
  abbrev Told : ℕ → Type 0
  Told m =
      (m < n → some (turn_of x m) ≡ offered_by x (named_by x)) × (n ≤ m → none ≡ offered_by x (named_by x))

  somebody : (m : ℕ) → m < n → some (turn_of x m) ≡ offered_by x (named_by x) → Told m
  somebody m l e = (λ _. e, λ g. absurd (let z : ⊥ = omega arith in z))

  nobody : none ≡ offered_by x (named_by x) → Told n
  nobody e = (λ l. absurd (let z : ⊥ = omega arith in z), λ _. e)

  names : Told (named x₀.state (cap_in x₀) n s)
  unfolding named offered_by
  names =
      so_both Told (has_room x₀.state.settings.mtu x₀.state.window.cwnd s.ahead.in_flight) _ _
      (λ some-room.
      let room = sym window_same ∙ some-room in
      let held : x.state.turn ≤ flow_count x = omega (arith, S.turn_ok) in
      lt_both Told front n _ _
      (λ l.
      somebody front l
      (round_front x room held (ap (offered_by x) (sym (front_told ∙ sym (lt_yes front n (some front) _ _ l refl))))))
      (λ g.
      let on = round_behind x room held (ap (offered_by x) (sym (front_told ∙ sym (lt_no front n none _ _ g refl)))) in
      lt_both Told back s.turn _ _
      (λ l.
      somebody back (omega (arith, turn_in))
      (ap (offered_by x) (sym (back_told_lem ∙ sym (lt_yes back s.turn (some back) _ _ l refl)) ∙ on)))
      (λ q. nobody (ap (offered_by x) (sym (back_told_lem ∙ sym (lt_no back s.turn none _ _ q refl)) ∙ on)))))
      (λ shut. nobody (ap (offered_by x) (sym (round_shut x (sym window_same ∙ shut)))))

  module _ {m : ℕ} (e : m ≡ named x₀.state (cap_in x₀) n s) where
    pub names_turn : m < n → some (turn_of x m) ≡ offered_by x (named_by x)
    names_turn l = (subst Told (sym e) names).0 l

    pub names_nobody : n ≤ m → none ≡ offered_by x (named_by x)
    names_nobody l = (subst Told (sym e) names).1 l
