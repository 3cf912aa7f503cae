-- What the planner tells of flow after flow: the first that is ready, who is named, and the records of the packets that wait.
-- Assumes nothing.
use mathlib.Core.Path.{◌≡◌, refl, sym, ap, ap₂, ◌∙◌}
use mathlib.Core.Bool.{Bool, true, false}
use Prim.Native.Nat.{ℕ, suc, ◌+◌, ◌-◌, ◌≤◌, ◌<◌}
use native.Mathlib.Omega.{arith}
use native.Mathlib.Numerals.{add-one}
use Rattle.std.specs.Prelude.{Option, Some, None}
use Rattle.std.proofs.lemmas.Option.{none-some, same_Some}
use Rattle.rules.specs.Branch.{so_yes, so_no, lt_yes, lt_no, lt_both}
use Rattle.ledger.specs.declared.Flow.{Flow}
use Rattle.flow_table.specs.Lent.{no_flows, with_record}
use Rattle.flow_table.specs.declared.lent.Flows.{Flows}
use Rattle.sender.specs.Named.{has_room}
use Rattle.context.specs.Context.{Context, flow_count, flow_in}
use Rattle.context.specs.declared.Controller.{Controller}
use Rattle.plan.specs.Course.{waiting_from, waits_to, ready_by, first_from, flow_below, named_by}
use Rattle.plan.specs.declared.course.Course.{Course}

-- ---- the first that is ready

module _ (ready : ℕ → Bool) (k end : ℕ) where
  pub first_none : k ≤ end → end ≤ k → first_from ready k (end - k) ≡ end
  unfolding first_from
  first_none l h =
      let none : end - k ≡ 0 = omega arith in
      let here : k ≡ end = omega arith in
      ap (first_from ready k) none ∙ here

  module _ (h : k < end) where
    one_more : end - k ≡ suc (end - (k + 1))
    one_more = omega arith

    pub first_here : ready k ≡ true → k ≡ first_from ready k (end - k)
    unfolding first_from
    first_here e = so_yes (ready k) k k (first_from ready (suc k) (end - (k + 1))) e refl ∙ sym (ap (first_from ready k) one_more)

    pub first_later : ready k ≡ false → first_from ready k (end - k) ≡ first_from ready (k + 1) (end - (k + 1))
    unfolding first_from
    first_later e =
        ap (first_from ready k) one_more
        ∙ sym (so_no (ready k) (first_from ready (suc k) (end - (k + 1))) k (first_from ready (suc k) (end - (k + 1))) e refl)
        ∙ ap (λ (i : ℕ). first_from ready i (end - (k + 1))) (sym (add-one k))

-- somebody is found below n, or nobody is
module _ {n m : ℕ} where
  pub below_some : {k : ℕ} → Some k ≡ flow_below n m → (k ≡ m) × (k < n)
  below_some {k} e =
      lt_both (λ (o : Option ℕ). Some k ≡ o → (k ≡ m) × (k < n)) m n (Some m) None
      (λ l q. let same = same_Some k m q in (same, omega (arith, same, l))) (λ _ q. absurd (none-some k (sym q))) e

  pub below_none : None ≡ flow_below n m → n ≤ m
  below_none e = lt_both (λ (o : Option ℕ). None ≡ o → n ≤ m) m n (Some m) None (λ _ q. absurd (none-some m q)) (λ l _. l) e

-- ---- who is named

module _ (c : Controller) (cap n : ℕ) (s : Course) where
  abbrev front : ℕ
  front = first_from (ready_by cap s) s.turn (n - s.turn)

  abbrev back : ℕ
  back = first_from (ready_by cap s) 0 s.turn

  abbrev named : ℕ
  named = named_by c cap n s

  nobody : n ≡ named → None ≡ flow_below n named
  nobody e = lt_no named n None (Some named) None (omega (arith, e)) refl

  somebody : {k : ℕ} → k < n → k ≡ named → Some k ≡ flow_below n named
  somebody {k} l e = lt_yes named n (Some k) (Some named) None (omega (arith, l, e)) (ap Some e)

  pub named_shut : has_room c.settings.mtu c.window.cwnd s.ahead.in_flight ≡ false → None ≡ flow_below n named
  unfolding named_by
  named_shut e = nobody (so_no _ n _ n e refl)

  module _ (opened : has_room c.settings.mtu c.window.cwnd s.ahead.in_flight ≡ true) where
    pub named_front : {k : ℕ} → Some k ≡ flow_below n front → Some k ≡ flow_below n named
    unfolding named_by
    named_front {k} e =
        let found = below_some e in
        somebody found.1 (so_yes _ k _ n opened (lt_yes front n k front _ (omega (arith, found.0, found.1)) found.0))

    pub named_back : s.turn < n → None ≡ flow_below n front → {o : Option ℕ} → o ≡ flow_below s.turn back → o ≡ flow_below n named
    unfolding named_by
    named_back h e {o} f =
        lt_both (λ (q : Option ℕ). o ≡ q → o ≡ flow_below n named) back s.turn (Some back) None
        (λ l q. q ∙ somebody (omega (arith, l, h)) (so_yes _ back _ n opened (lt_no front n back front _ (below_none e) (lt_yes back s.turn back back n l refl))))
        (λ g q. q ∙ nobody (so_yes _ n _ n opened (lt_no front n n front _ (below_none e) (lt_no back s.turn n back n g refl)))) f

-- ---- the packets that wait

module _ (x : Context) where
  pub waits_none : {fs : Flows} {n : ℕ} → fs ≡ no_flows n → n ≡ flow_count x → fs ≡ waits_to x 0
  unfolding waits_to
  waits_none e c = e ∙ ap no_flows c

  pub waits_next : (k : ℕ) {fs r : Flows} {f w : Flow} → fs ≡ waits_to x k → f ≡ flow_in x k → w ≡ waiting_from k f.low x
      → r ≡ with_record fs k w → r ≡ waits_to x (k + 1)
  unfolding waits_to
  waits_next k e g h p =
      p
      ∙ ap₂ (λ (a : Flows) (b : Flow). with_record a k b) e (h ∙ ap (λ (a : Flow). waiting_from k a.low x) g)
      ∙ ap (waits_to x) (sym (add-one k))
