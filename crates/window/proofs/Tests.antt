-- The tests of refusals 1 and 2 hold exactly where the facts do; the fresh window is sound; a sample exists exactly as document 01 has it.
-- Assumes nothing.
use mathlib.Core.Path.{◌≡◌, refl, sym, ap}
use mathlib.Core.Bool.{Bool, true, false, ◌&&◌, ◌||◌}
use mathlib.Core.Logic.{◌⊎◌, inl, inr}
use Prim.Native.Nat.{ℕ, ◌+◌, ◌-◌, ◌≤◌, ◌<◌, min}
use lib.Dec.{ltb, eqb}
use borrow.Author.Tests.{ltb-true, lt-ltb, eqb-true, eq-eqb}
use borrow.Author.Rules.{rules}
use native.Mathlib.Omega.{arith}
use Rattle.rules.specs.Branch.{so_both, lt_both, so_yes, so_no, lt_yes, lt_no}
use Rattle.rules.specs.Test.{inside, both, whole, inside_tells, inside_yes}
use Rattle.rules.specs.Mode.{is_mode, mode_tells, mode_yes}
use Rattle.serial.specs.Psn.{psns}
use Rattle.window.specs.Limits.{mtu_least, mtu_most, window_most, delay_most, gain_most, alpha_most, parts, period_most, threshold_most}
use Rattle.window.specs.Limits.{sample_most, avg_most, inc_stop, tally_stop, later_end, max_wnd_of}
use Rattle.window.specs.Range.{is_ev_count, in_range, InRange}
use Rattle.window.specs.Sound.{sound_window, SoundWindow, fresh_of}
use Rattle.window.specs.Delays.{one_send, sample_of, take_sample_of, sampling_of, sample_in, Sampled}
use Rattle.window.specs.declared.Settings.{Settings}
use Rattle.window.specs.declared.Window.{Window}
use Rattle.window.specs.Sample.{Sample}
use Rattle.std.specs.Prelude.{Some, None}
use Rattle.window.specs.declared.Sampling.{Sampling}
use Rattle.window.proofs.MaxWnd.{max_wnd_fresh}

-- the last row of a list of ranges, and the rows before it
row : (rest : Bool) (low x high : ℕ) → (rest && inside low x high) ≡ true → (rest ≡ true) × ((low ≤ x) × (x ≤ high))
row rest low x high e =
    let p = both rest (inside low x high) e in
    (p.0, inside_tells low x high p.1)

-- either part of a test holds where the whole does
either : {A : Type 0} (a b : Bool) → (a ≡ true → A) → (b ≡ true → A) → (a || b) ≡ true → A
either true b f g e = f refl
either false b f g e = g e

-- a number of EVs is at least 256 and at most 4,096
pub ev_count_bounds : (n : ℕ) → is_ev_count n ≡ true → (256 ≤ n) × (n ≤ 4096)
unfolding is_ev_count
ev_count_bounds n =
    either _ _
    (either _ _
    (either _ _
    (either _ _ (is 256 (omega arith) (omega arith)) (is 512 (omega arith) (omega arith)))
    (is 1024 (omega arith) (omega arith)))
    (is 2048 (omega arith) (omega arith)))
    (is 4096 (omega arith) (omega arith))
  where
    is : (k : ℕ) → 256 ≤ k → k ≤ 4096 → eqb n k ≡ true → (256 ≤ n) × (n ≤ 4096)
    is k low high e = omega (arith, eqb-true n k e)

pub range_facts : (s : Settings) → in_range s ≡ true → InRange s
unfolding in_range
range_facts s e =
    let evs = both _ (is_ev_count s.ev_count) e in
    let off = both _ (is_mode s.quick_adapt_off) evs.0 in
    let psn = both _ (ltb s.first_psn psns) off.0 in
    let threshold = row _ 0 s.qa_threshold threshold_most psn.0 in
    let bytes = row _ 1 s.adjust_bytes window_most threshold.0 in
    let period = row _ 1 s.adjust_period period_most bytes.0 in
    let jump = row _ 0 s.max_md_jump parts period.0 in
    let gamma = row _ 0 s.gamma parts jump.0 in
    let alpha = row _ 0 s.alpha alpha_most gamma.0 in
    let eta = row _ 0 s.eta gain_most alpha.0 in
    let fi = row _ 0 s.fi gain_most eta.0 in
    let target = row _ 1 s.target_qdelay delay_most fi.0 in
    let rtt = row _ 1 s.config_base_rtt delay_most target.0 in
    let maxwnd = row (inside mtu_least s.mtu mtu_most) s.mtu s.maxwnd window_most rtt.0 in
    let mtu = inside_tells mtu_least s.mtu mtu_most maxwnd.0 in
    record {
      mtu_low = mtu.0;
      mtu_high = mtu.1;
      maxwnd_low = maxwnd.1.0;
      maxwnd_high = maxwnd.1.1;
      rtt_low = rtt.1.0;
      rtt_high = rtt.1.1;
      target_low = target.1.0;
      target_high = target.1.1;
      fi_high = fi.1.1;
      eta_high = eta.1.1;
      alpha_high = alpha.1.1;
      gamma_high = gamma.1.1;
      jump_high = jump.1.1;
      period_low = period.1.0;
      period_high = period.1.1;
      bytes_low = bytes.1.0;
      bytes_high = bytes.1.1;
      threshold_high = threshold.1.1;
      psn_high = ltb-true s.first_psn psns psn.1;
      off_high = mode_tells s.quick_adapt_off off.1;
      evs_allowed = evs.1;
    }

pub range_test : (s : Settings) → InRange s → in_range s ≡ true
unfolding in_range
range_test s R = search (rules, whole, inside_yes, mode_yes, lt-ltb) depth 20

pub window_facts : (s : Settings) (clock : ℕ) (w : Window) → sound_window s clock w ≡ true → SoundWindow s clock w
unfolding sound_window
window_facts s clock w e =
    let trigger = both _ (is_mode w.trigger) e in
    let fast = both _ (is_mode w.fast) trigger.0 in
    let dec = row _ 0 w.last_dec clock fast.0 in
    let adjust = row _ 0 w.last_adjust clock dec.0 in
    let end = row _ 0 w.qa_end (later_end - 1) adjust.0 in
    let fi = row _ 0 w.fi_count tally_stop end.0 in
    let ignore = row _ 0 w.bytes_to_ignore s.maxwnd fi.0 in
    let ignored = row _ 0 w.ignored tally_stop ignore.0 in
    let achieved = row _ 0 w.achieved tally_stop ignored.0 in
    let received = row _ 0 w.received tally_stop achieved.0 in
    let inc = row _ 0 w.inc_bytes inc_stop received.0 in
    let avg = row _ 0 w.avg avg_most inc.0 in
    let cwnd = row (inside 1 w.base s.config_base_rtt) s.mtu w.cwnd (max_wnd_of s w.base) avg.0 in
    let base = inside_tells 1 w.base s.config_base_rtt cwnd.0 in
    omega (arith, mode_tells w.fast fast.1, mode_tells w.trigger trigger.1)

pub window_test : (s : Settings) (clock : ℕ) (w : Window) → SoundWindow s clock w → sound_window s clock w ≡ true
unfolding sound_window
window_test s clock w H =
    let end : w.qa_end ≤ later_end - 1 = omega arith in
    search (rules, whole, inside_yes, mode_yes) depth 20

pub fresh_window : {s : Settings} → InRange s → SoundWindow s 0 (fresh_of s)
unfolding fresh_of
fresh_window R = omega (arith, max_wnd_fresh R)

-- a sound window stays so while the clock moves on
pub window_later : {s : Settings} {a b : ℕ} {w : Window} → SoundWindow s a w → a ≤ b → SoundWindow s b w
window_later H h = omega arith

-- "its resend count is 0 with the retx flag clear, or 1 with it set"
abbrev pub OneCopy : ℕ → Bool → Type 0
OneCopy resent retx = ((resent ≡ 0) × (retx ≡ false)) ⊎ ((resent ≡ 1) × (retx ≡ true))

-- "A sample exists if the trigger packet is flying or marked before the ACK, and .., and now - sent - service is at least 1."
pub record Exists (outstanding : Bool) (resent : ℕ) (retx : Bool) (time sent service : ℕ) : Type 0 where
  pub known : outstanding ≡ true
  pub copy : OneCopy resent retx
  pub late : sent + service + 1 ≤ time

one_copy : (resent : ℕ) (retx : Bool) → OneCopy resent retx → one_send resent retx ≡ true
unfolding one_send
one_copy resent retx (inl p) = sym (so_no retx true _ (eqb resent 0) p.1 (sym (eq-eqb resent 0 p.0)))
one_copy resent retx (inr p) = sym (so_yes retx true (eqb resent 1) _ p.1 (sym (eq-eqb resent 1 p.0)))

copy_one : (resent : ℕ) (retx : Bool) → one_send resent retx ≡ true → OneCopy resent retx
unfolding one_send
copy_one resent retx =
    so_both (λ b. b ≡ true → OneCopy resent retx) retx (eqb resent 1) (eqb resent 0)
    (λ set e. inr (eqb-true resent 1 e, set))
    (λ clear e. inl (eqb-true resent 0 e, clear))

module _ (outstanding : Bool) (resent : ℕ) (retx : Bool) (time sent service : ℕ) where
  -- where 01's conditions hold the sample is now - sent - service, cut at 2^20 ..
  pub sample_exists :
      Exists outstanding resent retx time sent service →
      sample_of outstanding resent retx time sent service ≡ Some (min (time - sent - service) sample_most)
  unfolding sample_of
  sample_exists x =
      let cut : min (time - sent - service) sample_most ≡ min (time - (sent + service)) sample_most = omega arith in
      let copy = one_copy resent retx x.copy in
      let late : sent + service < time = omega arith in
      sym (so_yes _ _ _ _ x.known (so_yes _ _ _ _ copy (lt_yes _ _ _ _ _ late (ap Some cut))))

  -- .. and where there is a sample they hold, and it is that
  pub exists_sample :
      (t : ℕ) → sample_of outstanding resent retx time sent service ≡ Some t →
      Exists outstanding resent retx time sent service × (t ≡ min (time - sent - service) sample_most)
  unfolding sample_of
  exists_sample t =
      let P : Sample → Type 0 =
      λ p. p ≡ Some t → Exists outstanding resent retx time sent service × (t ≡ min (time - sent - service) sample_most) in
      so_both P outstanding _ _
      (λ known.
      so_both P (one_send resent retx) _ _
      (λ copy.
      lt_both P (sent + service) time _ _
      (λ late e.
      let is : min (time - (sent + service)) sample_most ≡ t = cc in
      (record { known = known; copy = copy_one resent retx copy; late = omega arith }, omega arith))
      (λ late e. never e))
      (λ copy e. never e))
      (λ known e. never e)
    where
      never : {A : Type 0} {t : ℕ} → None ≡ Some t → A
      never e = let z : ◌≡◌ {A = ℕ} 0 1 = cc in absurd (let k : ⊥ = omega arith in k)

  pub sample_bounds : Sampled (sample_of outstanding resent retx time sent service)
  sample_bounds =
      record {
        low = λ t e. let x = exists_sample t e in omega (arith, x.0.late, x.1);
        high = λ t e. let x = exists_sample t e in omega (arith, x.1);
      }

  -- request M-103 leaves the window's rules the sample that they had
  pub same_sample : sample_in (sampling_of outstanding resent retx time sent service) ≡ sample_of outstanding resent retx time sent service
  unfolding sampling_of sample_of sample_in take_sample_of
  same_sample =
      let P : Sampling → Type 0 = λ p. sample_in p ≡ sample_of outstanding resent retx time sent service in
      so_both P outstanding _ _
      (λ known.
      so_both P (one_send resent retx) _ _
      (λ copy.
      lt_both P (sent + service) time _ _
      (λ late.
      lt_both P sample_most (time - (sent + service)) _ _
      (λ above. so_yes _ _ _ _ known (so_yes _ _ _ _ copy (lt_yes _ _ _ _ _ late (ap Some (omega arith)))))
      (λ above. so_yes _ _ _ _ known (so_yes _ _ _ _ copy (lt_yes _ _ _ _ _ late (ap Some (omega arith))))))
      (λ late. so_yes _ _ _ _ known (so_yes _ _ _ _ copy (lt_no _ _ _ _ _ late refl))))
      (λ copy. so_yes _ _ _ _ known (so_no _ _ _ _ copy refl)))
      (λ known. so_no _ _ _ _ known refl)
