-- `choose` tests number 2, asks the round, and moves the turn where somebody is named (proofs/Choices).
use mathlib.Core.Path.{◌≡◌, sym, ap, ◌∙◌}
use mathlib.Core.Bool.{true}
use mathlib.Core.Option.{some}
use Prim.Native.Nat.{ℕ, ◌+◌, ◌%◌}
use native.Mathlib.Omega.{arith}
use Rattle.rules.specs.Verdict.{number_of}
use Rattle.context.specs.Context.{context}
use Rattle.context.specs.Lent.{context_given}
use Rattle.context.specs.Sound.{sound_context}
use Rattle.context.specs.Turns.{choice_of, named_in, chose}
use Rattle.context.specs.declared.Controller.{Controller}
use Rattle.context.proofs.Choices.{choose_unsound, choose_nobody, choose_in, choose_named}
use Rattle.context.proofs.choice.choose.Goals as goal
use Rattle.context.proofs.choice.choose.Goals.{After-round-choice}

-- past number 2
holds : (c : After-round-choice) →
    let handed = let a = c.args in
    context_given a.c a.flows.now a.outstanding.now a.marked.now a.sizes.now a.sent.now a.evs.now in
    sound_context (handed) ≡ true
holds c = sym c.is_sound.ensures ∙ c.if-not-is_sound.false

pub returns-then-not-is_sound : goal.returns-then-not-is_sound
unfolding choice_of named_in number_of
returns-then-not-is_sound c =
    let handed = let a = c.args in
    context_given a.c a.flows.now a.outstanding.now a.marked.now a.sizes.now a.sent.now a.evs.now in
    choose_unsound (handed) (sym c.is_sound.ensures ∙ c.if-not-is_sound.true)

pub round-choice-requires : goal.round-choice-requires
round-choice-requires c = sym c.is_sound.ensures ∙ c.if-not-is_sound.false

pub returns-in_default : goal.returns-in_default
unfolding choice_of named_in number_of
returns-in_default c =
    let handed = let a = c.args in
    context_given a.c a.flows.now a.outstanding.now a.marked.now a.sizes.now a.sent.now a.evs.now in
    choose_nobody (handed) (holds (goal.at.returns-in_default c).After-round-choice) (ap choice_of (sym c.in_default.is) ∙ c.round-choice.ensures)

pub after-requires : goal.after-requires
unfolding choice_of
after-requires c =
    let handed = let a = c.args in
    context_given a.c a.flows.now a.outstanding.now a.marked.now a.sizes.now a.sent.now a.evs.now in
    let x = handed in
    let e = ap choice_of (sym c.in-Some.is) ∙ c.round-choice.ensures in
    omega (arith, c.count.ensures, choose_in x (holds (goal.at.after-requires c).After-round-choice) _ e)

pub returns : goal.returns
unfolding choice_of named_in number_of
returns c =
    let handed = let a = c.args in
    context_given a.c a.flows.now a.outstanding.now a.marked.now a.sizes.now a.sent.now a.evs.now in
    let x = handed in
    let t = c.in-Some.turn in
    let e = ap choice_of (sym c.in-Some.is) ∙ c.round-choice.ensures in
    ap (λ (d : Controller). chose 0 (some t) (context d x.flows x.slots x.times)) c.with_turn.ensures
    ∙ choose_named x (holds (goal.at.returns c).After-round-choice) t e _ (c.after.ensures ∙ ap (λ (n : ℕ). (t.flow + 1) % n) c.count.ensures)
