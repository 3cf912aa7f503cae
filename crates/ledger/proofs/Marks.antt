-- A NACK or a loss: what the code's store leaves is the definition's ledger, and it holds together, by the laws of one packet changed.
-- Assumes nothing.
use Rattle.std.proofs.Common.{◌≡◌, ℕ, ◌+◌, ◌-◌, ◌%◌, ◌^◌, ◌<◌, ◌≤◌, true, ℤ, pos, ◌-ℤ◌, refl, arith}
use Rattle.rules.specs.Rows.{first_of}
use Rattle.serial.specs.Psn.{psns}
use Rattle.ledger.specs.declared.Packet.{Packet}
use Rattle.ledger.specs.Packets.{flying_status, marked_status, with_status, is_flying, is_done, flying_one}
use Rattle.ledger.specs.Ring.{Ring, Ledger, ledger, cap_of, put_at, long_of, offset_of, packet_of}
use Rattle.ledger.specs.Sound.{Others, sound_ledger, SoundLedger}
use Rattle.ledger.specs.Steps.{mark_of}
use Rattle.ledger.specs.Rows.{mark_rows}
use Rattle.ledger.proofs.Facts.{Live, live_later, packet_live, packet_some, sound_ledger_facts}
use Rattle.ledger.proofs.Signs.{flown_less}
use Rattle.ledger.proofs.Judging.{mark_facts}
use Rattle.ledger.proofs.Sends.{flying_adds, marked_adds, flies, found_le, put_changed, sound_ledger_tells, change_keeps}

-- a marked packet is live
marked_live : (mtu clock : ℕ) (x : Packet) → Live mtu clock x → Live mtu clock (with_status marked_status x)
marked_live mtu clock x l =
    record {
      status_least = omega arith;
      status_most = omega arith;
      size_least_lem = l.size_least_lem;
      size_most = l.size_most;
      sent_most = l.sent_most;
      resent_most_lem = l.resent_most_lem;
    }

pub mark_keeps : (mtu maxwnd clock time psn : ℕ) (o : Others) (l : Ledger) → sound_ledger mtu maxwnd clock o l ≡ true
    → first_of (mark_rows l.flow l.totals.in_flight l.slots psn) ≡ 0 → clock ≤ time
    → sound_ledger mtu maxwnd time o (mark_of psn l) ≡ true
unfolding mark_of is_done
mark_keeps mtu maxwnd clock time psn o l co rows later =
    let f = l.flow in
    let r = l.slots in
    let x = packet_of f r psn in
    let y = with_status marked_status x in
    let k = sound_ledger_tells mtu maxwnd clock o l co in
    let m = mark_facts f l.totals.in_flight r psn rows in
    let w : x.status ≡ flying_status = flies x m.0 in
    let h : offset_of f psn < long_of f = packet_some f r psn (omega arith) in
    let live = live_later later (packet_live mtu clock f r k.0 psn h) in
    let a = flying_adds x w in
    let b = marked_adds y refl in
    change_keeps mtu maxwnd clock time psn o l co later h y (marked_live mtu time x live) refl (mark_of psn l).totals
    (λ s e. omega (arith, a.0, b.0)) (λ s e. omega (arith, a.1, b.1)) (λ s e. omega (arith, a.2, b.2))
    refl
    (flown_less maxwnd l.totals.in_flight x.size k.1 m.1)

-- what the code asks of the packet that it finds
pub record Markable (l : Ledger) (x : Packet) : Type 0 where
  pub one : 1 ≤ l.totals.flying
  pub small : x.size < 2 ^ 32

pub mark_some : (l : Ledger) (psn : ℕ) → is_flying (packet_of l.flow l.slots psn) ≡ true → (x : Packet)
    → x ≡ packet_of l.flow l.slots psn → 0 < x.status
mark_some l psn m x e = rw e (omega (arith, flies (packet_of l.flow l.slots psn) m))

module _ (l : Ledger) (c : SoundLedger l) (psn : ℕ) (m : is_flying (packet_of l.flow l.slots psn) ≡ true) (x : Packet)
    (e : x ≡ packet_of l.flow l.slots psn) where
  there : offset_of l.flow psn < long_of l.flow
  there = packet_some l.flow l.slots psn (omega (arith, flies (packet_of l.flow l.slots psn) m))

  pub mark_ready : Markable l x
  mark_ready =
      let F = sound_ledger_facts c in
      let le = found_le c.mtu c.clock l.flow l.slots F psn there flying_one in
      let a = flying_adds (packet_of l.flow l.slots psn) (flies (packet_of l.flow l.slots psn) m) in
      let live = packet_live c.mtu c.clock l.flow l.slots F psn there in
      rw e (record { one = omega (arith, a.0, c.flying_least); small = omega (arith, live.size_most, c.mtu_high) })

  -- what the code leaves
  pub mark_is : psn < psns → (i : ℕ) (z : ℤ) (s : Ring) → i ≡ psn % cap_of l.slots → z ≡ l.totals.in_flight -ℤ pos x.size
      → s ≡ put_at l.slots i (with_status marked_status x)
      → ledger l.flow
      (record {
        flying = l.totals.flying - 1;
        marked = l.totals.marked + 1;
        marked_bytes = l.totals.marked_bytes + x.size;
        backlog = l.totals.backlog;
        in_flight = z;
      }) s
      ≡ mark_of psn l
  unfolding mark_of
  mark_is fits i z s ei ez es =
      let p = put_changed c.mtu c.clock l.flow l.slots (sound_ledger_facts c) psn there fits i ei (with_status marked_status x) in
      rw (ez, es, p, e)
