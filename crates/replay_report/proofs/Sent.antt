-- REQUEST M-105, "the bytes sent new and sent again": from zeros each of the two figures is the exact sum (`report_bytes`). An accepted
-- send is at most as large as the greatest MTU, and a turn takes a byte of the log at least, so that no log of fewer than 2^50 bytes comes
-- to the greatest word. Assumes nothing.
use mathlib.Core.Path.{◌≡◌, refl}
use mathlib.Core.Bool.{Bool, false}
use mathlib.Core.List.{List, []}
use Prim.Native.Nat.{ℕ, zero, suc, ◌-◌, ◌*◌, ◌≤◌, ◌<◌}
use lib.ListN.{length, get_or, get_or-replicate}
use borrow.Author.Tests.{not-false}
use native.Mathlib.Omega.{arith}
use Rattle.rules.specs.Branch.{if_eq, so_both, eq_both}
use Rattle.rules.specs.Test.{inside_tells}
use Rattle.rules.specs.Rows.{none_here}
use Rattle.window.specs.Limits.{mtu_most}
use Rattle.ledger.specs.Bounds.{size_least}
use Rattle.sender.specs.declared.Send.{Send}
use Rattle.context.specs.Context.{Context, Answered, joined_of, world_at}
use Rattle.context.specs.Events.{decided, on_send}
use Rattle.context.proofs.Sounds.{context_facts}
use Rattle.replay.specs.Answers.{Telling, on_first, on_later, on_event}
use Rattle.replay.specs.Places.{Feed, logged, found_at, end_from, end_of, Turning, turn_of, turns_in, turns_of}
use Rattle.replay.specs.declared.Place.{Place}
use Rattle.replay.specs.declared.records.Event.{Event}
use Rattle.replay.specs.declared.records.Event.TheVariants as event
use Rattle.replay.specs.declared.turns.Found.{Found}
use Rattle.replay.specs.declared.turns.Found.TheVariants as found
use Rattle.replay.proofs.Progress.{turn_cases}
use Rattle.report_text.specs.Places.{figure_count}
use Rattle.replay_report.specs.Figures.{sent_at}
use Rattle.replay_report.specs.Tallies.{counting}
use Rattle.replay_report.specs.Statements.{send_bytes, event_bytes, record_bytes, bytes_sent, bytes_end, zeros, report_from}
use Rattle.replay_report.proofs.Adding.{sent_inside}
use Rattle.replay_report.proofs.Exact.{bytes_count}

-- ---- an accepted send is small: number 2 has tested the settings, and row 4 the size against the MTU

-- accepted is 0: no row applies
decided_none : (n : ℕ) (w after : Context) → (decided n w after).number ≡ 0 → n ≡ 0
unfolding decided
decided_none n w after =
    eq_both (λ (x : Answered). x.number ≡ 0 → n ≡ 0) n 0 _ _ (λ zero _. zero) (λ _ e. e)

send_small : (time k : ℕ) (a : Send) (w : Context) → (on_send time k a w).number ≡ 0 → a.size ≤ mtu_most
unfolding on_send world_at joined_of
send_small time k a w accepted =
    let unsound = none_here 2 _ _ (omega arith) (decided_none _ w _ accepted) in
    let late = none_here 3 _ _ (omega arith) unsound.1 in
    let out = none_here 25 _ _ (omega arith) late.1 in
    let wide = none_here 4 _ _ (omega arith) out.1 in
    let good = context_facts w (not-false _ unsound.0) in
    let size = inside_tells size_least a.size w.state.settings.mtu (not-false _ wide.0) in
    omega (arith, size.1, good.range.mtu_high)

module _ (again : Bool) where
  abbrev Small : ℕ → Type 0
  Small n = n ≤ mtu_most

  size_small : (a : Send) → a.size ≤ mtu_most → Small (send_bytes again a)
  unfolding send_bytes
  size_small a h =
      so_both Small a.resend _ _
      (λ _. so_both Small again _ _ (λ _. h) (λ _. omega arith))
      (λ _. so_both Small again _ _ (λ _. omega arith) (λ _. h))

  -- it is no first record
  accepted_send : (done time k : ℕ) (a : Send) (w : Context) → (on_event done (event.Send time k a) w).number ≡ 0
      → (on_send time k a w).number ≡ 0
  unfolding on_event on_first on_later
  accepted_send done time k a w =
      eq_both (λ (t : Telling). t.number ≡ 0 → (on_send time k a w).number ≡ 0) done 0 _ _
      (λ _ e. absurd (let no : ⊥ = omega (arith, e) in no))
      (λ _ e. e)

  event_small : (done : ℕ) (e : Event) (w : Context) → (on_event done e w).number ≡ 0 → Small (event_bytes again e)
  unfolding event_bytes
  event_small done (event.NewData time k bytes) w accepted = omega arith
  event_small done (event.Send time k a) w accepted = size_small a (send_small time k a w (accepted_send done time k a w accepted))
  event_small done (event.Ack time k a) w accepted = omega arith
  event_small done (event.Nack time k a) w accepted = omega arith
  event_small done (event.Loss time k a) w accepted = omega arith
  event_small done (event.Path time k) w accepted = omega arith
  event_small done (event.SetUp s) w accepted = omega arith

  refused_small : (x : Found) → Small (record_bytes again 12 x)
  unfolding record_bytes if_eq
  refused_small (found.Whole e next) = omega arith
  refused_small found.End = omega arith
  refused_small found.Malformed = omega arith

  whole_small : (done : ℕ) (e : Event) (next : ℕ) (w : Context) → Small (record_bytes again (on_event done e w).number (found.Whole e next))
  unfolding record_bytes
  whole_small done e next w = eq_both Small (on_event done e w).number 0 _ 0 (λ accepted. event_small done e w accepted) (λ _. omega arith)

  -- a turn's bytes
  turn_small : (f : Feed) (p : Place) (w : Context) → (turn_of f p w).ended ≡ false
      → Small (record_bytes again (turn_of f p w).number (found_at f p.at))
  turn_small f p w =
      turn_cases f p w (λ (t : Turning). t.ended ≡ false → Small (record_bytes again t.number (found_at f p.at)))
      (λ e. absurd (let z : ◌≡◌ {A = ℕ} 0 1 = cc in let no : ⊥ = omega arith in no))
      (λ e next _ is _. rw is (whole_small p.done e next w))
      (λ _ _ _. refused_small (found_at f p.at))

  -- and those of all turns
  turns_small : (k : ℕ) (f : Feed) (p : Place) (w : Context) → bytes_sent again f p (turns_in k f p w) ≤ mtu_most * k
  unfolding turns_in bytes_sent
  turns_small zero f p w = omega arith
  turns_small (suc k) f p w =
      let t = turn_of f p w in
      so_both (λ (ts : List Turning). bytes_sent again f p ts ≤ mtu_most * suc k) t.ended [] _
      (λ _. omega arith)
      (λ go. omega (arith, turn_small f p w go, turns_small k f t.place t.after))

  -- THE BYTES ARE EXACT SUMS, whatever is replayed, from zeros
  pub bytes_exact : (f : Feed) (p : Place) (w : Context) → end_of f < bytes_end
      → get_or (counting f p (turns_of f p w) zeros) (sent_at again) 0 ≡ bytes_sent again f p (turns_of f p w)
  unfolding turns_of
  bytes_exact f p w fits =
      let none : get_or zeros (sent_at again) 0 ≡ 0 = get_or-replicate figure_count (sent_at again) 0 0 (sent_inside again refl) in
      omega (arith, bytes_count again f p (turns_of f p w) zeros refl (omega arith), turns_small (end_of f - p.at) f p w)

  -- and so of a report over one log
  pub report_bytes : (log : List ℕ) (p : Place) (w : Context) → length log < bytes_end
      → get_or (report_from log p w) (sent_at again) 0 ≡ bytes_sent again (logged log) p (turns_of (logged log) p w)
  unfolding end_from
  report_bytes log p w fits = bytes_exact (logged log) p w fits
