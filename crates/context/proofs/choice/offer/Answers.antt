-- `offer` asks for the first marked PSN from low on, which tells whether there is one (proofs/Offers).
use mathlib.Core.Path.{◌≡◌, sym, ap, ap₂, ◌∙◌}
use mathlib.Core.Bool.{Bool, not, ◌&&◌}
use Prim.Native.Nat.{ℕ, ◌/◌}
use lib.Dec.{ltb, eqb}
use lib.ListN.{length}
use Rattle.ledger.specs.Ring.{long_of}
use Rattle.ledger.specs.declared.Flow.{Flow}
use Rattle.context.specs.Context.{flow_in}
use Rattle.context.specs.Lent.{context_given}
use Rattle.context.specs.Look.{marked_from}
use Rattle.context.specs.Turns.{has_marked, is_ready, turn_of}
use Rattle.context.proofs.Sounds.{SoundContext, context_facts}
use Rattle.context.proofs.Joins.{flow_fits}
use Rattle.context.proofs.Offers.{offer_marked, offered_so, offered_none, ready_marked, ready_new}
use Rattle.std.proofs.Common.{ne_eqb, eq-eqb}
use Rattle.context.proofs.choice.offer.Goals as goal
use Rattle.context.proofs.choice.offer.Goals.{After-marked_from-psn, After-psn_minus, Start}

facts : (c : Start) →
    let handed = let a = c.args in
    context_given a.c a.flows.now a.outstanding.now a.marked.now a.sizes.now a.sent.now a.evs.now in
    SoundContext (handed)
facts c =
    let handed = let a = c.args in
    context_given a.c a.flows.now a.outstanding.now a.marked.now a.sizes.now a.sent.now a.evs.now in
    context_facts (handed) c.requires.evs_value

-- it is the first marked one from low on ..
first : (c : After-marked_from-psn) →
    let handed = let a = c.args in
    context_given a.c a.flows.now a.outstanding.now a.marked.now a.sizes.now a.sent.now a.evs.now in
    c.marked_from-psn.result ≡ marked_from c.args.k (flow_in (handed) c.args.k).low (handed)
first c =
    let handed = let a = c.args in
    context_given a.c a.flows.now a.outstanding.now a.marked.now a.sizes.now a.sent.now a.evs.now in
    c.marked_from-psn.ensures ∙ ap (λ (f : Flow). marked_from c.args.k f.low (handed)) c.flow_at-f.ensures

-- .. and next exactly where there is none
resends : (c : After-marked_from-psn) →
    let handed = let a = c.args in
    context_given a.c a.flows.now a.outstanding.now a.marked.now a.sizes.now a.sent.now a.evs.now in
    not (eqb c.marked_from-psn.result c.flow_at-f.result.next) ≡ has_marked (handed) c.args.k
resends c =
    let handed = let a = c.args in
    context_given a.c a.flows.now a.outstanding.now a.marked.now a.sizes.now a.sent.now a.evs.now in
    let facts : SoundContext (handed) = context_facts (handed) c.requires.evs_value in
    ap₂ (λ (p q : ℕ). not (eqb p q)) (first c) (ap (λ (f : Flow). f.next) c.flow_at-f.ensures)
    ∙ sym (offer_marked (handed) (facts) c.args.k c.requires.k_bound)

turn_is : (c : After-marked_from-psn) →
    let handed = let a = c.args in
    context_given a.c a.flows.now a.outstanding.now a.marked.now a.sizes.now a.sent.now a.evs.now in
    record {
      flow = c.args.k;
      psn = c.marked_from-psn.result;
      resend = not (eqb c.marked_from-psn.result c.flow_at-f.result.next);
    }
    ≡ turn_of (handed) c.args.k
unfolding turn_of
turn_is c =
    ap₂ (λ (p : ℕ) (b : Bool). record { flow = c.args.k; psn = p; resend = b }) (first c) (resends c)

-- a new packet's test
tested : (c : After-psn_minus) →
    let handed = let a = c.args in
    context_given a.c a.flows.now a.outstanding.now a.marked.now a.sizes.now a.sent.now a.evs.now in
    let f = c.flow_at-f.result in
    (ltb 0 f.backlog && not (eqb c.psn_minus.result c.share-cap.result))
    ≡ is_ready (handed) c.args.k
unfolding long_of
tested c =
    let handed = let a = c.args in
    context_given a.c a.flows.now a.outstanding.now a.marked.now a.sizes.now a.sent.now a.evs.now in
    let first : c.marked_from-psn.result ≡ marked_from c.args.k (flow_in (handed) c.args.k).low (handed) = c.marked_from-psn.ensures ∙ ap (λ (f : Flow). marked_from c.args.k f.low (handed)) c.flow_at-f.ensures in
    let facts : SoundContext (handed) = context_facts (handed) c.requires.evs_value in
    let resends : not (eqb c.marked_from-psn.result c.flow_at-f.result.next) ≡ has_marked (handed) c.args.k = ap₂ (λ (p q : ℕ). not (eqb p q)) (first) (ap (λ (f : Flow). f.next) c.flow_at-f.ensures)
    ∙ sym (offer_marked (handed) (facts) c.args.k c.requires.k_bound) in
    let f = c.flow_at-f.ensures in
    let cap = c.share-cap.ensures ∙ ap (λ (n : ℕ). length c.args.sizes.now / n) c.count.ensures in
    ap₂ (λ (g : Flow) (b : Bool). ltb 0 g.backlog && not b) f (ap₂ eqb (c.psn_minus.ensures ∙ ap long_of f) cap)
    ∙ sym (ready_new (handed) c.args.k (sym (resends) ∙ ap not (eq-eqb _ _ c.if-resend.false)))

pub flow_at-f-requires : goal.flow_at-f-requires
flow_at-f-requires c =
    let handed = let a = c.args in
    context_given a.c a.flows.now a.outstanding.now a.marked.now a.sizes.now a.sent.now a.evs.now in
    record {
      k_bound = c.requires.k_bound;
      fits = flow_fits (handed) (facts (goal.at.flow_at-f-requires c).Start) c.args.k c.requires.k_bound;
    }

pub returns-then-resend : goal.returns-then-resend
returns-then-resend c =
    let handed = let a = c.args in
    context_given a.c a.flows.now a.outstanding.now a.marked.now a.sizes.now a.sent.now a.evs.now in
    offered_so (handed) c.args.k _ (turn_is (goal.at.returns-then-resend c).After-marked_from-psn) (ready_marked (handed) c.args.k (sym (resends (goal.at.returns-then-resend c).After-marked_from-psn) ∙ ap not (ne_eqb _ _ c.if-resend.true)))

pub returns-then-f-psn_minus : goal.returns-then-f-psn_minus
returns-then-f-psn_minus c =
    let handed = let a = c.args in
    context_given a.c a.flows.now a.outstanding.now a.marked.now a.sizes.now a.sent.now a.evs.now in
    offered_so (handed) c.args.k _ (turn_is (goal.at.returns-then-f-psn_minus c).After-marked_from-psn) (sym (tested (goal.at.returns-then-f-psn_minus c).After-psn_minus) ∙ c.if-f-psn_minus.true)

pub returns : goal.returns
returns c =
    let handed = let a = c.args in
    context_given a.c a.flows.now a.outstanding.now a.marked.now a.sizes.now a.sent.now a.evs.now in
    offered_none (handed) c.args.k (sym (tested (goal.at.returns c).After-psn_minus) ∙ c.if-f-psn_minus.false)
