-- An ACK whose outcome is ambiguous, request M-106: another service time gives the same answer, says the same of the sample and leaves the
-- same context, because the ambiguous resend is told by the packet of the ACK's flow and the retx flag, and the window's rules see no
-- sample. Assumes nothing.
use mathlib.Core.Path.{◌≡◌, refl, sym, ap, ◌∙◌}
use mathlib.Core.Bool.{Bool}
use mathlib.Core.Option.{Option, none, some}
use Prim.Native.Nat.{ℕ, ◌+◌, ◌-◌}
use native.Mathlib.Omega.{arith}
use Rattle.rules.specs.Branch.{so_yes, so_no, so_both, lt_both, eq_no, eq_both}
use Rattle.window.specs.Delays.{one_send, take_sample_of, sampling_of, sample_in}
use Rattle.window.specs.Limits.{sample_most}
use Rattle.window.specs.declared.Sampling.{Sampling}
use Rattle.window.specs.declared.Sampling.TheVariants.{Cut, Gone, Ambiguous, NotPositive}
use Rattle.window.proofs.Tests.{same_sample}
use Rattle.sender.specs.World.{World, View, view_of, world_of}
use Rattle.sender.specs.Steps.{ack_sample, ack_sampling, ack_step}
use Rattle.sender.specs.Events.{says}
use Rattle.sender.specs.declared.Ack.{Ack}
use Rattle.context.specs.Context.{Context, Answered, world_at, put_world}
use Rattle.context.specs.Events.{decided, on_ack}
use Rattle.replay.specs.Answers.{Telling, shown_says, heard_by, on_first, on_later, on_event}
use Rattle.replay.specs.declared.Shown.TheVariants.{Sample as Showing}
use Rattle.replay.specs.declared.records.Event.TheVariants as event

-- the same ACK with another service time
abbrev pub served : ℕ → Ack → Ack
served service a =
    record {
      cum = a.cum;
      map = a.map;
      trigger = a.trigger;
      count = a.count;
      service = service;
      ev = a.ev;
      marked = a.marked;
      retx = a.retx;
    }

never : {A : Type 0} {q : Sampling} → q ≡ Ambiguous → (q ≡ Ambiguous → ◌≡◌ {A = ℕ} 0 1) → A
never e f = absurd (let wrong : ⊥ = omega (arith, f e) in wrong)

-- "tested in the order gone, ambiguous, not positive": the service time comes after
module _ (out : Bool) (resent : ℕ) (retx : Bool) (time sent service other : ℕ) where
  sampling_served : sampling_of out resent retx time sent service ≡ Ambiguous → sampling_of out resent retx time sent other ≡ Ambiguous
  unfolding sampling_of take_sample_of
  sampling_served =
      let P : Sampling → Type 0 = λ q. q ≡ Ambiguous → sampling_of out resent retx time sent other ≡ Ambiguous in
      so_both P out _ Gone
      (λ known.
      so_both P (one_send resent retx) _ Ambiguous
      (λ _.
      lt_both P (sent + service) time _ NotPositive
      (λ _. lt_both P sample_most (time - (sent + service)) Cut _ (λ _ e. never e (λ _. cc)) (λ _ e. never e (λ _. cc)))
      (λ _ e. never e (λ _. cc)))
      (λ copy _. sym (so_yes out _ _ _ known (so_no (one_send resent retx) _ _ _ copy refl))))
      (λ _ e. never e (λ _. cc))

module _ (time : ℕ) (a : Ack) (w : World) (service : ℕ) (is : ack_sampling time a (view_of w) ≡ Ambiguous) where
  says_served : ack_sampling time (served service a) (view_of w) ≡ Ambiguous
  unfolding ack_sampling
  says_served = sampling_served _ _ _ _ _ a.service service is

  sample_served : ack_sample time (served service a) (view_of w) ≡ ack_sample time a (view_of w)
  unfolding ack_sample ack_sampling
  sample_served = sym (same_sample _ _ _ _ _ service) ∙ (ap sample_in (says_served ∙ sym is) ∙ same_sample _ _ _ _ _ a.service)

  step_served : ack_step time (served service a) (view_of w) ≡ ack_step time a (view_of w)
  unfolding ack_step
  step_served = rw sample_served

-- of flow k, whose packet the outcome is about
module _ (time k : ℕ) (a : Ack) (x : Context) (service : ℕ) (is : ack_sampling time a (view_of (world_at k x)) ≡ Ambiguous) where
  -- THE ANSWER AND THE CONTEXT AFTERWARDS ARE THE SAME: no row looks at the service time
  ack_served : on_ack time k (served service a) x ≡ on_ack time k a x
  unfolding on_ack
  ack_served = ap (decided _ x) (ap (λ (v : View). put_world k x (world_of v)) (step_served time a (world_at k x) service is))

  heard_served : on_later (event.Ack time k (served service a)) x ≡ on_later (event.Ack time k a) x
  unfolding on_later
  heard_served =
      ap (λ (y : Answered). heard_by (says y.number (ack_sampling time (served service a) (view_of (world_at k x)))) y) ack_served
      ∙ ap (λ (q : Sampling). heard_by (says (on_ack time k a x).number q) (on_ack time k a x))
      (says_served time a (world_at k x) service is ∙ sym is)

-- an answer that shows a sample is an acceptance
shown_said : (n : ℕ) (q r : Sampling) → shown_says (says n q) ≡ Showing r → (n ≡ 0) × (q ≡ r)
unfolding says shown_says
shown_said n q r =
    eq_both (λ (o : Option Sampling). shown_says o ≡ Showing r → (n ≡ 0) × (q ≡ r)) n 0 (some q) none
    (λ zero e. (zero, cc))
    (λ _ e. let z : ◌≡◌ {A = ℕ} 0 1 = cc in absurd (let wrong : ⊥ = omega arith in wrong))

module _ (done time k : ℕ) (a : Ack) (x : Context) (shows : (on_event done (event.Ack time k a) x).shown ≡ Showing Ambiguous) where
  -- it is no first record
  later_on : (on_event done (event.Ack time k a) x ≡ on_later (event.Ack time k a) x) × (done ≡ 0 → ⊥)
  unfolding on_event on_first
  later_on =
      let e = event.Ack time k a in
      eq_both (λ (t : Telling). t.shown ≡ Showing Ambiguous → (t ≡ on_later e x) × (done ≡ 0 → ⊥)) done 0 (on_first e x) (on_later e x)
      (λ _ s. let z : ◌≡◌ {A = ℕ} 0 1 = cc in absurd (let wrong : ⊥ = omega arith in wrong))
      (λ not _. (refl, not)) shows

  said : ((on_ack time k a x).number ≡ 0) × (ack_sampling time a (view_of (world_at k x)) ≡ Ambiguous)
  unfolding on_later
  said = shown_said _ _ _ (ap (λ (t : Telling). t.shown) (sym later_on.0) ∙ shows)

  pub ambiguous_accepted : (on_event done (event.Ack time k a) x).number ≡ 0
  unfolding on_later
  ambiguous_accepted = ap (λ (t : Telling). t.number) later_on.0 ∙ said.0

  -- WHERE AN ACK IS AMBIGUOUS ITS SERVICE TIME DOES NOT MATTER
  pub ambiguous_served : (service : ℕ) → on_event done (event.Ack time k (served service a)) x ≡ on_event done (event.Ack time k a) x
  unfolding on_event
  ambiguous_served service =
      sym (eq_no done 0 (on_event done (event.Ack time k a) x) _ _ later_on.1
      (later_on.0 ∙ sym (heard_served time k a x service said.1)))
