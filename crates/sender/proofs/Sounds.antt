-- What soundness (refusal 2) says, fact by fact, and the way back: a state that holds together, named by the rule, with EV times in their
-- bounds, is sound (`stated_sound`, `settled_sound`). By the laws of `window` and `ledger`.
-- Assumes nothing.
use mathlib.Core.Path.{◌≡◌, refl, sym, ap, ap₂, ◌∙◌}
use mathlib.Core.Bool.{Bool, true, false, not, ◌&&◌, and-true, and_assoc}
use mathlib.Core.List.{List, [], ◌∷◌, ◌++◌}
use Prim.Native.Nat.{ℕ, zero, suc, ◌+◌, ◌*◌, ◌^◌, ◌≤◌, ◌<◌}
use native.Mathlib.Nat.{zero-mul, not-suc-le-zero, le_of_suc-le-suc}
use native.Mathlib.Omega.{arith}
use native.Mathlib.Numerals.{add-one}
use Rattle.std.specs.Simd.{first_chunks}
use lib.Dec.{ltb, eqb}
use lib.ListN.{length, get_or, set, take, drop, length-set, take-append-drop}
use lib.Seq.{take-suc, drop-drop}
use borrow.Author.Tests.{ltb-true, eqb-true, lt-ltb, eq-eqb, not-true, not-false}
use Rattle.rules.specs.Branch.{so_both, eq_both}
use Rattle.rules.specs.Test.{both, whole}
use Rattle.window.specs.Limits.{time_end, later_end}
use Rattle.window.specs.Range.{in_range, InRange}
use Rattle.window.specs.Sound.{sound_window, SoundWindow}
use Rattle.window.specs.declared.Settings.{Settings}
use Rattle.window.specs.declared.Window.{Window}
use Rattle.window.proofs.Tests.{ev_count_bounds, range_facts, range_test, window_facts, window_test}
use Rattle.window.proofs.MaxWnd.{max_wnd_high}
use Rattle.paths.specs.Path.{Early}
use Rattle.ledger.specs.Ring.{Ring, Ledger, ledger}
use Rattle.ledger.specs.Sound.{Others, alone, Few, sound_ledger, SoundLedger}
use Rattle.ledger.specs.declared.Flow.{Flow}
use Rattle.ledger.specs.declared.Totals.{Totals}
use Rattle.ledger.proofs.Signs.{sound_ledger_flown}
use Rattle.ledger.proofs.Facts.{sound_ledger_is, sound_ledger_facts}
use Rattle.sender.specs.World.{World, View, view, view_of, ledger_in, ledger_of}
use Rattle.sender.specs.Named.{active, phase_of}
use Rattle.sender.specs.Sound.{times_ok, named_ok, sound_among, sound_view, sound, Holds}
use Rattle.sender.specs.Bounds.{Bounded}
use Rattle.sender.specs.Steps.{state_of, settled, avoided_in}
use Rattle.sender.specs.declared.Controller.{Controller}

-- ---- the state's name

-- it is one of four numbers
pub phase_high : (mtu cwnd : ℕ) (t : Totals) → phase_of mtu cwnd t ≤ active
unfolding phase_of
phase_high mtu cwnd t =
    let P : ℕ → Type 0 = λ n. n ≤ active in
    so_both P _ _ _ (λ _. eq_both P _ _ _ _ (λ _. omega arith) (λ _. omega arith))
    (λ _. so_both P _ _ _ (λ _. omega arith) (λ _. omega arith))

-- ---- the EV times

pub times_none : times_ok [] ≡ true
unfolding times_ok
times_none = refl

-- times behind others
times_append : (ts us : List ℕ) → times_ok (ts ++ us) ≡ (times_ok ts && times_ok us)
unfolding times_ok
times_append [] us = refl
times_append (t ∷ ts) us = rw (times_append ts us) (sym (and_assoc (ltb t later_end) (times_ok ts) (times_ok us)))

-- the first k times, and one more
pub times_more : (ts : List ℕ) (k : ℕ) (ok : Bool) → k < length ts → ok ≡ times_ok (take k ts)
    → (ok && ltb (get_or ts k 0) later_end) ≡ times_ok (take (k + 1) ts)
unfolding times_ok
times_more ts k ok l e =
    rw (add-one, take-suc ts k 0 l)
    (ap₂ (λ (x y : Bool). x && y) e (sym (and-true (ltb (get_or ts k 0) later_end)))
    ∙ sym (times_append (take k ts) (get_or ts k 0 ∷ [])))

-- block i of n times each
block_at : (n k i : ℕ) (ts : List ℕ) → i < k → get_or (first_chunks n k ts) i [] ≡ take n (drop (i * n) ts)
block_at n zero i ts h = absurd (not-suc-le-zero h)
block_at n (suc k) zero ts h = rw zero-mul
block_at n (suc k) (suc i) ts h =
    let next : n + i * n ≡ suc i * n = omega arith in
    rw (← next, ← drop-drop (i * n) n ts) (block_at n k i (drop n ts) (omega arith))

-- so far so good, and the times from block i on: those of the block are looked at, and found good or not
pub times_block : (ts : List ℕ) (blocks : List (List ℕ)) (n k i : ℕ) (ok : Bool) → blocks ≡ first_chunks n k ts → i < k
    → times_ok ts ≡ times_ok (drop (i * n) ts) → times_ok (get_or blocks i []) ≡ ok
    → times_ok ts ≡ (ok && times_ok (drop ((i + 1) * n) ts))
times_block ts blocks n k i ok e h so is =
    let from = drop (i * n) ts in
    let next : i * n + n ≡ (i + 1) * n = omega arith in
    let block : times_ok (take n from) ≡ ok = rw (← block_at n k i ts h, ← e) is in
    so
    ∙ ap times_ok (sym (take-append-drop n from))
    ∙ times_append (take n from) (drop n from)
    ∙ ap₂ (λ (x y : Bool). x && y) block (ap times_ok (rw (← next) (drop-drop n (i * n) ts)))

-- each of them is in its bound, which is what `paths` asks of them
times_each : (ts : List ℕ) → times_ok ts ≡ true → (k : ℕ) → k < length ts → get_or ts k 0 < later_end
unfolding times_ok
times_each [] e k h = absurd (not-suc-le-zero h)
times_each (x ∷ xs) e zero h = ltb-true x later_end (both (ltb x later_end) (times_ok xs) e).0
times_each (x ∷ xs) e (suc k) h = times_each xs (both (ltb x later_end) (times_ok xs) e).1 k (le_of_suc-le-suc h)

pub times_early : (ts : List ℕ) → times_ok ts ≡ true → Early ts
times_early ts e = record { each = λ k h. omega (arith, times_each ts e k h) }

-- one time overwritten by one in its bound
times_set : (ts : List ℕ) (k t : ℕ) → t < later_end → times_ok ts ≡ true → times_ok (set ts k t) ≡ true
unfolding times_ok
times_set [] k t h e = e
times_set (x ∷ xs) zero t h e = whole (lt-ltb t later_end h) (both (ltb x later_end) (times_ok xs) e).1
times_set (x ∷ xs) (suc k) t h e =
    let p = both (ltb x later_end) (times_ok xs) e in
    whole p.0 (times_set xs k t h p.1)

module _ (on : Bool) (ev time base : ℕ) (times : List ℕ) where
  -- an EV that is avoided: as many times, all in their bounds
  pub avoided_long : length (avoided_in on ev time base times) ≡ length times
  unfolding avoided_in
  avoided_long =
      so_both (λ (ts : List ℕ). length ts ≡ length times) on (set times ev (time + base)) times
      (λ e. length-set times ev (time + base))
      (λ e. refl)

  pub avoided_ok : time < time_end → base ≤ 2 ^ 14 → times_ok times ≡ true → times_ok (avoided_in on ev time base times) ≡ true
  unfolding avoided_in
  avoided_ok h b ok =
      so_both (λ (ts : List ℕ). times_ok ts ≡ true) on (set times ev (time + base)) times
      (λ e. times_set times ev (time + base) (omega arith) ok)
      (λ e. ok)

-- ---- number 2

-- what a view has that is sound among others
pub record SoundFacts (o : Others) (v : View) : Type 0 where
  pub range : InRange v.state.settings
  pub sound_window_lem : SoundWindow v.state.settings v.state.clock v.state.window
  pub sound_ledger_lem : sound_ledger v.state.settings.mtu v.state.settings.maxwnd v.state.clock o (ledger_in v) ≡ true
  pub clock_ok : v.state.clock < time_end
  pub times_long : length v.times ≡ v.state.settings.ev_count
  pub times_ok_lem : times_ok v.times ≡ true
  pub cursor_ok : v.state.cursor < v.state.settings.ev_count
  pub named : v.state.phase ≡ phase_of v.state.settings.mtu v.state.window.cwnd v.state.totals

pub name_facts : (c : Controller) → named_ok c ≡ true → c.phase ≡ phase_of c.settings.mtu c.window.cwnd c.totals
unfolding named_ok
name_facts c e = eqb-true _ _ e

pub name_test : (c : Controller) → c.phase ≡ phase_of c.settings.mtu c.window.cwnd c.totals → named_ok c ≡ true
unfolding named_ok
name_test c e = eq-eqb _ _ e

pub among_facts : (o : Others) (v : View) → sound_among o v ≡ true → SoundFacts o v
unfolding sound_among
among_facts o v e =
    let c = v.state in
    let name = both _ (named_ok c) e in
    let cursor = both _ (ltb c.cursor c.settings.ev_count) name.0 in
    let times = both _ (times_ok v.times) cursor.0 in
    let long = both _ (eqb (length v.times) c.settings.ev_count) times.0 in
    let clock = both _ (ltb c.clock time_end) long.0 in
    let ledger = both _ (sound_ledger c.settings.mtu c.settings.maxwnd c.clock o (ledger_in v)) clock.0 in
    let first = both (in_range c.settings) (sound_window c.settings c.clock c.window) ledger.0 in
    record {
      range = range_facts c.settings first.0;
      sound_window_lem = window_facts c.settings c.clock c.window first.1;
      sound_ledger_lem = ledger.1;
      clock_ok = ltb-true c.clock time_end clock.1;
      times_long = eqb-true (length v.times) c.settings.ev_count long.1;
      times_ok_lem = times.1;
      cursor_ok = ltb-true c.cursor c.settings.ev_count cursor.1;
      named = name_facts c name.1;
    }

pub sound_facts : (v : View) → sound_view v ≡ true → SoundFacts alone v
sound_facts v e = among_facts alone v e

pub facts_among : (o : Others) (v : View) → SoundFacts o v → sound_among o v ≡ true
unfolding sound_among
facts_among o v S =
    let c = v.state in
    whole
    (whole
    (whole
    (whole
    (whole
    (whole
    (whole (range_test c.settings S.range) (window_test c.settings c.clock c.window S.sound_window_lem))
    S.sound_ledger_lem)
    (lt-ltb c.clock time_end S.clock_ok))
    (eq-eqb (length v.times) c.settings.ev_count S.times_long))
    S.times_ok_lem)
    (lt-ltb c.cursor c.settings.ev_count S.cursor_ok))
    (name_test c S.named)

-- ---- what judging and stepping rely on

-- of the first three tests alone: the last, the state's name, is taken only after them
module _ (o : Others) (few : Few o) (v : View) (R : InRange v.state.settings)
    (e : sound_ledger v.state.settings.mtu v.state.settings.maxwnd v.state.clock o (ledger_in v) ≡ true) where
  parts_ledger : SoundLedger (ledger_in v)
  parts_ledger =
      sound_ledger_is v.state.settings.mtu v.state.settings.maxwnd v.state.clock o (ledger_in v)
      (omega (arith, R.mtu_high)) (omega (arith, R.maxwnd_high)) few e

  parts_bounded : SoundWindow v.state.settings v.state.clock v.state.window → Bounded v.state
  parts_bounded H =
      record {
        flown = sound_ledger_flown parts_ledger;
        backlog_high = (sound_ledger_facts parts_ledger).backlog;
        total_high = parts_ledger.backlog_most_lem;
        mtu_high = omega (arith, R.mtu_high);
        evs_high = (ev_count_bounds v.state.settings.ev_count R.evs_allowed).1;
        cwnd_high = omega (arith, H.cwnd_high, max_wnd_high R v.state.window.base H.base_high, R.maxwnd_high);
      }

pub holds_ledger : (w : World) → Holds w → SoundLedger (ledger_of w)
holds_ledger w H =
    let S = among_facts H.others (view_of w) H.so in
    parts_ledger H.others H.few (view_of w) S.range S.sound_ledger_lem

pub holds_bounded : (w : World) → Holds w → Bounded w.state
holds_bounded w H =
    let S = among_facts H.others (view_of w) H.so in
    parts_bounded H.others H.few (view_of w) S.range S.sound_ledger_lem S.sound_window_lem

-- a flow by itself is one among no others
pub alone_few : Few alone
alone_few = record { flying = omega arith; marked = omega arith; bytes = omega arith; backlog = omega arith }

pub sound_holds : (w : World) → sound w ≡ true → Holds w
sound_holds w e = record { others = alone; few = alone_few; so = e }

pub sound_to_ledger : (w : World) → sound w ≡ true → SoundLedger (ledger_of w)
sound_to_ledger w e = holds_ledger w (sound_holds w e)

pub sound_bounded : (w : World) → sound w ≡ true → Bounded w.state
sound_bounded w e = holds_bounded w (sound_holds w e)

-- ---- the tests in their order, as the code makes them

module _ (o : Others) (few : Few o) (v : View) (range : Bool) (range-is : range ≡ in_range v.state.settings) where
  pub not_range : not range ≡ true → false ≡ sound_among o v
  unfolding sound_among
  not_range e = rw (sym range-is ∙ not-true range e)

  module _ (r : not range ≡ false) (window-ok : Bool)
      (window-is : window-ok ≡ sound_window v.state.settings v.state.clock v.state.window) where
    pub not_window : not window-ok ≡ true → false ≡ sound_among o v
    unfolding sound_among
    not_window e = rw (sym range-is ∙ not-false range r, sym window-is ∙ not-true window-ok e)

    module _
        (h : not window-ok ≡ false) (books : Bool)
        (books-is : books ≡ sound_ledger v.state.settings.mtu v.state.settings.maxwnd v.state.clock o (ledger_in v)) where
      pub not_ledger : not books ≡ true → false ≡ sound_among o v
      unfolding sound_among
      not_ledger e = rw (sym range-is ∙ not-false range r, sym window-is ∙ not-false window-ok h, sym books-is ∙ not-true books e)

      module _ (l : not books ≡ false) where
        pub tests_bounded : Bounded v.state
        tests_bounded =
            parts_bounded o few v (range_facts v.state.settings (sym range-is ∙ not-false range r)) (sym books-is ∙ not-false books l)
            (window_facts v.state.settings v.state.clock v.state.window (sym window-is ∙ not-false window-ok h))

        pub tests_left :
            (ok : Bool) (name : ℕ) → ok ≡ times_ok v.times →
            name ≡ phase_of v.state.settings.mtu v.state.window.cwnd v.state.totals →
            (ltb v.state.clock time_end && eqb (length v.times) v.state.settings.ev_count && ok
            && ltb v.state.cursor v.state.settings.ev_count && eqb v.state.phase name) ≡ sound_among o v
        unfolding sound_among named_ok
        tests_left ok name t is =
            rw (sym range-is ∙ not-false range r, sym window-is ∙ not-false window-ok h, sym books-is ∙ not-false books l, t, is)

-- ---- the way back

-- a state that the rule names is sound where its parts are
pub stated_sound :
    (o : Others) (s : Settings) (f : Flow) (t : Totals) (v : Window) (time cursor : ℕ) (r : Ring) (times : List ℕ) →
    InRange s → SoundWindow s time v → sound_ledger s.mtu s.maxwnd time o (ledger f t r) ≡ true → time < time_end →
    length times ≡ s.ev_count → times_ok times ≡ true → cursor < s.ev_count
    → sound_among o (view (state_of s f t v time cursor) r times) ≡ true
unfolding state_of
stated_sound o s f t v time cursor r times range window-ok sound_ledger_lem clock long ok at =
    facts_among o (view (state_of s f t v time cursor) r times)
    (record {
      range = range;
      sound_window_lem = window-ok;
      sound_ledger_lem = sound_ledger_lem;
      clock_ok = clock;
      times_long = long;
      times_ok_lem = ok;
      cursor_ok = at;
      named = refl;
    })

pub settled_sound :
    (o : Others) (time : ℕ) (c : Controller) (l : Ledger) (v : Window) (times : List ℕ) →
    InRange c.settings → SoundWindow c.settings time v → sound_ledger c.settings.mtu c.settings.maxwnd time o l ≡ true
    → time < time_end →
    length times ≡ c.settings.ev_count → times_ok times ≡ true → c.cursor < c.settings.ev_count
    → sound_among o (settled time c l v times) ≡ true
unfolding settled
settled_sound o time c l v times = stated_sound o c.settings l.flow l.totals v time c.cursor l.slots times
