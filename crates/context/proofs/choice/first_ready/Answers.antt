-- `first_ready` asks flow by flow: up to k nobody is ready (proofs/Rounds).
use mathlib.Core.Path.{refl, sym, ap, ◌∙◌}
use native.Mathlib.Omega.{arith}
use Rattle.ledger.specs.Memory.{memory}
use Rattle.context.specs.Context.{context}
use Rattle.context.specs.Turns.{is_ready, offered_by, choice_of}
use Rattle.context.proofs.Rounds.{named_none, named_here, named_later}
use Rattle.context.proofs.choice.first_ready.Goals as goal

pub loop-k-init : goal.loop-k-init
loop-k-init c = refl

pub offer-offered-requires : goal.offer-offered-requires
offer-offered-requires c = record {
  evs_value = c.requires.evs_value;
  k_bound = omega (arith, c.requires.from_le_end);
}

pub returns-in-Some : goal.returns-in-Some
unfolding choice_of
returns-in-Some c =
    let handed = let a = c.args in
    context a.c a.flows.now (memory a.outstanding.now a.marked.now a.sizes.now a.sent.now) a.evs.now in
    let x = handed in
    named_here x (is_ready x) _ _ c.loop-k-test.true (ap choice_of (sym c.in-Some.is) ∙ c.offer-offered.ensures)
    ∙ sym (ap (offered_by x) c.loop-k.invariant)

pub loop-k-preserved : goal.loop-k-preserved
unfolding choice_of
loop-k-preserved c =
    let handed = let a = c.args in
    context a.c a.flows.now (memory a.outstanding.now a.marked.now a.sizes.now a.sent.now) a.evs.now in
    let x = handed in
    c.loop-k.invariant
    ∙ named_later x (is_ready x) _ _ c.loop-k-test.true (ap choice_of (sym c.in_default.is) ∙ c.offer-offered.ensures)

pub returns : goal.returns
unfolding choice_of offered_by
returns c =
    let handed = let a = c.args in
    context a.c a.flows.now (memory a.outstanding.now a.marked.now a.sizes.now a.sent.now) a.evs.now in
    let x = handed in
    sym (ap (offered_by x) (c.loop-k.invariant ∙ named_none x (is_ready x) _ _ c.loop-k-test.false))
