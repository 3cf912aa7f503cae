-- What is remembered of a flow's events so far agrees with its ledger, along any run: the newest count is the held one, and every packet
-- of the queue has the size of the last new packet of its PSN (`agrees_fresh`, `agrees_step`). A new packet's PSN is none of the others',
-- for there are at most 4,096 of them. By the ledger's laws of queues that are laid and read back.
-- Assumes nothing.
use mathlib.Core.Path.{◌≡◌, refl, sym, ap, ◌∙◌}
use mathlib.Core.Bool.{Bool, true, false, ◌&&◌}
use mathlib.Core.Logic.{by_cases}
use mathlib.Core.List.{List, [], ◌∷◌, ◌++◌}
use Prim.Native.Nat.{ℕ, ◌+◌, ◌%◌, ◌≤◌, ◌<◌}
use native.Mathlib.Decide.{dec_lt, ℕ_discrete}
use native.Mathlib.Omega.{arith}
use lib.ListN.{length, get_or, set, drop, length-set, length-append, length-drop, get_or-append}
use lib.Seq.{get_or-set_same, get_or-set_other, get_or-append_seam, get_or-drop}
use Rattle.rules.specs.Branch.{if_so, if_eq, so_both, eq_yes, eq_no}
use Rattle.rules.specs.Rows.{first_of}
use Rattle.serial.specs.Wrap.{minus}
use Rattle.serial.specs.Psn.{psns, plus, covered}
use Rattle.serial.proofs.Wraps.{minus_self, minus_turns}
use Rattle.serial.proofs.Cover.{plus_plus, plus_minus, minus_plus}
use Rattle.window.specs.declared.Settings.{Settings}
use Rattle.ledger.specs.Packets.{no_packet, marked_status, done_status, with_status, is_out, cover_one, cover_all}
use Rattle.ledger.specs.Ring.{Ledger, ledger, cap_of, laid, long_of, packets, offset_of, packet_of}
use Rattle.ledger.specs.Memory.{Memory}
use Rattle.ledger.specs.Sound.{is_capacity, Others}
use Rattle.ledger.specs.Steps.{changed, new_packet, resent_packet, supplied, supplied_totals, supply_of, push_of, resend_of, mark_of}
use Rattle.ledger.specs.Steps.{acknowledge_of, held_of}
use Rattle.ledger.specs.declared.Flow.{Flow}
use Rattle.ledger.specs.declared.Totals.{Totals}
use Rattle.ledger.specs.declared.Packet.{Packet}
use Rattle.ledger.proofs.Queues.{cover_long, cover_at, gone_of, left_of}
use Rattle.ledger.proofs.Facts.{Facts, packets_long, packets_laid, packet_some}
use Rattle.ledger.proofs.Judging.{new_facts}
use Rattle.ledger.proofs.Sends.{new_room}
use Rattle.sender.specs.World.{World, ring_of, view_of, ledger_of}
use Rattle.sender.specs.Sound.{sound_among}
use Rattle.sender.specs.Start.{fresh_state}
use Rattle.sender.proofs.Starts.{set_up_fresh}
use Rattle.sender.proofs.Stepping.{send_facts}
use Rattle.demands.specs.Events.{Event, new_data, send, ack, nack, loss, path, SetUp}
use Rattle.demands.specs.Sums.{Past, no_past, remember}
use Rattle.demands.specs.Past.{past_rows, Agrees}
use Rattle.demands.proofs.Runs.{ledger_step}
use Rattle.demands.proofs.Sounded.{ledger_facts}
use Rattle.demands.proofs.Ledgers.{settled_by, left_long, settled_long}

-- ---- the sizes of a queue

-- every packet of a queue from low on has the size that is remembered of its PSN
abbrev Sized : (ℕ → ℕ) → ℕ → List Packet → Type 0
Sized bytes low xs = (k : ℕ) → k < length xs → (get_or xs k no_packet).size ≡ bytes (plus low k)

-- one packet changed, but not its size
sized_set : (bytes : ℕ → ℕ) (low : ℕ) (xs : List Packet) (j : ℕ) (y : Packet) → Sized bytes low xs → y.size ≡ (get_or xs j no_packet).size
    → Sized bytes low (set xs j y)
sized_set bytes low xs j y S e k h =
    let l : k < length xs = omega (arith, length-set xs j y) in
    by_cases (ℕ_discrete k j)
    (λ q. rw (q, get_or-set_same xs j y no_packet (omega arith)) (e ∙ rw q at (S k l)))
    (λ q. rw (get_or-set_other xs j k y no_packet q) (S k l))

-- some of the packets done, and those at the front gone
cover_size : (hit : Bool) (x : Packet) → (cover_one hit x).size ≡ x.size
unfolding cover_one
cover_size hit x = so_both (λ (y : Packet). y.size ≡ x.size) (hit && is_out x) (with_status done_status x) x (λ e. refl) (λ e. refl)

sized_drop : (bytes : ℕ → ℕ) (cov : ℕ → Bool) (low gone : ℕ) (xs : List Packet) → low < psns → Sized bytes low xs
    → Sized bytes (plus low gone) (drop gone (cover_all cov low xs))
sized_drop bytes cov low gone xs fits S k h =
    let l : gone + k < length xs = omega (arith, length-drop gone (cover_all cov low xs), cover_long cov low xs) in
    rw (get_or-drop gone (cover_all cov low xs) k no_packet, cover_at cov low (gone + k) xs fits l, plus_plus low gone k)
    (cover_size (cov (plus low (gone + k))) (get_or xs (gone + k) no_packet) ∙ S (gone + k) l)

-- a packet behind the others, remembered with its size
sized_more : (bytes : ℕ → ℕ) (low : ℕ) (xs : List Packet) (y : Packet) → length xs < psns → Sized bytes low xs
    → Sized (λ psn. if_eq psn (plus low (length xs)) y.size (bytes psn)) low (xs ++ (y ∷ []))
sized_more bytes low xs y few S k h =
    by_cases (dec_lt k (length xs))
    (λ l.
    rw (get_or-append xs (y ∷ []) no_packet k l)
    (eq_no (plus low k) (plus low (length xs)) _ _ _ (λ e. apart k l e) (S k l)))
    (λ l.
    let e : k ≡ length xs = omega (arith, length-append xs (y ∷ [])) in
    rw (e, get_or-append_seam xs y [] no_packet) (eq_yes (plus low (length xs)) (plus low (length xs)) _ _ _ refl refl))
  where
    apart : (k : ℕ) → k < length xs → plus low k ≡ plus low (length xs) → ⊥
    apart k l e =
        let z : k ≡ length xs = sym (minus_plus low k (omega arith)) ∙ ap (λ (p : ℕ). minus psns p low) e
        ∙ minus_plus low (length xs) few in
        omega arith

-- ---- the past and a ledger

-- a ledger that a queue is laid in, by the queue
agrees_laid : (p : Past) (cap : ℕ) (f : Flow) (t : Totals) (xs : List Packet) → is_capacity cap ≡ true → long_of f ≡ length xs
    → length xs ≤ cap
    → p.count ≡ f.held → Sized p.bytes f.low xs → Agrees p (ledger f t (laid cap f.low xs))
agrees_laid p cap f t xs ok long fit held S =
    record {
      count_is = held;
      sizes = λ k h. rw (packets_laid cap f xs ok long fit) (S k (omega arith));
    }

module _ {mtu clock : ℕ} {p : Past} (l : Ledger) (F : Facts mtu clock l.flow l.slots) (A : Agrees p l) where
  long : length (packets l.flow l.slots) ≡ long_of l.flow
  long = packets_long l.flow l.slots

  sized : Sized p.bytes l.flow.low (packets l.flow l.slots)
  sized k h = A.sizes k (omega (arith, long))

  -- new data
  supplied_agrees : (bytes : ℕ) → Agrees p (supply_of bytes l)
  unfolding supplied supplied_totals long_of packets
  supplied_agrees bytes = record { count_is = A.count_is; sizes = A.sizes }

  -- one packet changed, but not its size: a resend, a NACK, a loss
  changed_agrees : (psn : ℕ) (t : Totals) (y : Packet) → y.size ≡ (packet_of l.flow l.slots psn).size
      → Agrees p (ledger l.flow t (changed l.flow l.slots psn y))
  unfolding changed packet_of
  changed_agrees psn t y e =
      let xs = packets l.flow l.slots in
      let j = offset_of l.flow psn in
      let n = length-set xs j y in
      agrees_laid p (cap_of l.slots) l.flow t (set xs j y) F.cap (omega (arith, long)) (omega (arith, long, F.fits)) A.count_is
      (sized_set p.bytes l.flow.low xs j y sized e)

  resent_agrees : (time psn : ℕ) → Agrees p (resend_of time psn l)
  unfolding resend_of
  resent_agrees time psn = changed_agrees psn _ (resent_packet time (packet_of l.flow l.slots psn)) refl

  marked_agrees : (psn : ℕ) → Agrees p (mark_of psn l)
  unfolding mark_of
  marked_agrees psn = changed_agrees psn _ (with_status marked_status (packet_of l.flow l.slots psn)) refl

  -- a new packet, whose PSN is next
  module _ (room : long_of l.flow < cap_of l.slots) where
    next_is : plus l.flow.low (long_of l.flow) ≡ l.flow.next
    unfolding long_of
    next_is = plus_minus l.flow.low l.flow.next F.next_psn

    pushed_long : (time size : ℕ) → long_of (push_of time size l).flow ≡ long_of l.flow + 1
    unfolding push_of long_of
    pushed_long time size =
        ap (λ (q : ℕ). minus psns (plus q 1) l.flow.low) (sym next_is)
        ∙ ap (λ (q : ℕ). minus psns q l.flow.low) (plus_plus l.flow.low (long_of l.flow) 1)
        ∙ minus_plus l.flow.low (long_of l.flow + 1) (omega (arith, F.even.few))

    pushed_agrees : (time psn size : ℕ) → psn ≡ l.flow.next
        → Agrees (record { count = p.count; bytes = λ q. if_eq q psn size (p.bytes q) }) (push_of time size l)
    unfolding push_of
    pushed_agrees time psn size e =
        let f = l.flow in
        let xs = packets f l.slots in
        let y = new_packet time size in
        let n = length-append xs (y ∷ []) in
        let behind : psn ≡ plus f.low (length xs) = e ∙ sym next_is ∙ ap (plus f.low) (sym long) in
        agrees_laid _ (cap_of l.slots) _ _ (xs ++ (y ∷ [])) F.cap (omega (arith, pushed_long time size, long))
        (omega (arith, long)) A.count_is
        (rw behind (sized_more p.bytes f.low xs y (omega (arith, F.even.few, long)) sized))

  -- an ACK
  acked_agrees : (cum map count : ℕ)
      → Agrees (record { count = held_of count p.count; bytes = p.bytes }) (acknowledge_of cum map count l)
  unfolding acknowledge_of settled_by
  acked_agrees cum map count =
      let cov = covered cum map in
      let low = l.flow.low in
      let xs = packets l.flow l.slots in
      let held = held_of count l.flow.held in
      let z = (acknowledge_of cum map count l).totals.in_flight in
      agrees_laid _ (cap_of l.slots) _ _ (left_of cov low xs) F.cap (settled_long mtu clock l F cov held z)
      (omega (arith, left_long mtu clock l F cov held z, F.fits)) (ap (held_of count) A.count_is)
      (sized_drop p.bytes cov low (gone_of cov low xs) xs F.low_psn sized)

-- ---- along a run

-- either of two pasts with the ledger that goes with it
agrees_either : (b : Bool) {p q : Past} {l m : Ledger} → (b ≡ true → Agrees p l) → (b ≡ false → Agrees q m)
    → Agrees (if_so b p q) (if_so b l m)
unfolding if_so
agrees_either true f g = f refl
agrees_either false f g = g refl

-- an accepted event, remembered, agrees with what it leaves
pub agrees_step : (o : Others) (e : Event) (w : World) (p : Past) → sound_among o (view_of w) ≡ true → first_of (past_rows e w) ≡ 0
    → Agrees p (ledger_of w) → Agrees (remember e p) (ledger_step e (ledger_of w))
unfolding remember
agrees_step o (new_data time bytes) w p h rows A = supplied_agrees (ledger_of w) (ledger_facts o w h) A bytes
agrees_step o (send time a) w p h rows A =
    let f = w.state.flow in
    let F = ledger_facts o w h in
    let S = send_facts time a w.state (ring_of w) rows in
    agrees_either a.resend
    (λ again. resent_agrees (ledger_of w) F A time a.psn)
    (λ new.
    let R = rw new at S.rows in
    pushed_agrees (ledger_of w) F A (new_room _ _ f (ring_of w) F a.psn a.size R).1 time a.psn a.size
    (new_facts f (cap_of (ring_of w)) a.psn a.size R).0)
agrees_step o (ack time a) w p h rows A = acked_agrees (ledger_of w) (ledger_facts o w h) A a.cum a.map a.count
agrees_step o (nack time a) w p h rows A = marked_agrees (ledger_of w) (ledger_facts o w h) A a.psn
agrees_step o (loss time a) w p h rows A = marked_agrees (ledger_of w) (ledger_facts o w h) A a.psn
agrees_step o (path time) w p h rows A = A

-- going on from low by how far a number lies ahead leads to its PSN
leads_there : (low psn : ℕ) → plus low (minus psns psn low) ≡ psn % psns
unfolding plus
leads_there low psn = omega (arith, minus_turns psns psn low (omega arith))

-- the bytes that are remembered of a packet of the queue are its size
pub size_remembered : (p : Past) (l : Ledger) (psn : ℕ) → Agrees p l → 0 < (packet_of l.flow l.slots psn).status
    → (packet_of l.flow l.slots psn).size ≡ p.bytes (psn % psns)
unfolding packet_of offset_of
size_remembered p l psn A some =
    A.sizes (offset_of l.flow psn) (packet_some l.flow l.slots psn some) ∙ ap p.bytes (leads_there l.flow.low psn)

-- at the start nothing is remembered, and the queue is empty
pub agrees_fresh : {s : Settings} {m : Memory} {times : List ℕ} {w : World} → SetUp s m times w → Agrees no_past (ledger_of w)
unfolding fresh_state long_of
agrees_fresh {s} {m} {times} {w} U =
    rw (U.gives, (set_up_fresh s m times U.accepted).2)
    (record {
      count_is = refl;
      sizes = λ k h. absurd (let z : ⊥ = omega (arith, minus_self psns s.first_psn (omega arith)) in z);
    })
