-- `resend` overwrites the slot of the marked packet that it finds (`resend_kept`); what the totals must leave is `resend_ready`.
use Rattle.std.proofs.Common.{◌≡◌, ℤ, pos, ◌+ℤ◌, ap, ◌∙◌, arith}
use Rattle.ledger.specs.Ring.{packet_of}
use Rattle.ledger.specs.Lent.{memory_of_mut}
use Rattle.ledger.specs.Memory.{ledger_shown}
use Rattle.ledger.specs.declared.Packet.{Packet}
use Rattle.ledger.proofs.Signs.{sound_ledger_flown, word, flown_word}
use Rattle.ledger.proofs.Sends.{Resendable, resend_ready, resend_some}
use Rattle.ledger.proofs.Keeping.{sound_lengths, times_cap, resend_kept}
use mir.Facts.{to_z-of_z}
use mir.Syntax.{w64}
use Rattle.ledger.proofs.send.resend.Goals as goal
use Rattle.ledger.proofs.send.resend.Goals.{Start}

-- what a ledger that holds together says of the packet found
ready : (c : Start) (x : Packet) →
    let slots = memory_of_mut c.args.ring.now in
    let books-in = ledger_shown c.args.books.flow c.args.books.totals (slots) in
    x ≡ packet_of (books-in).flow (books-in).slots c.args.psn → Resendable (books-in) x
ready c x e =
    let slots = memory_of_mut c.args.ring.now in
    let books-in = ledger_shown c.args.books.flow c.args.books.totals (slots) in
    resend_ready (books-in) c.requires.sound_ledger c.args.psn c.requires.psn_value x e

pub find-x-requires : goal.find-x-requires
find-x-requires c =
    rw c.look.ensures (sound_lengths _ _ (memory_of_mut c.args.ring.now) c.requires.sound_ledger)

pub place-i-requires : goal.place-i-requires
place-i-requires c =
    let slots = memory_of_mut c.args.ring.now in
    times_cap _ _ (slots) c.requires.sound_ledger

pub once_more-requires : goal.once_more-requires
once_more-requires c =
    (ready (goal.at.once_more-requires c).Start c.find-x.result (rw c.look.ensures at c.find-x.ensures)).resent

pub fly-requires : goal.fly-requires
fly-requires c =
    let slots = memory_of_mut c.args.ring.now in
    let L = sound_lengths _ _ (slots) c.requires.sound_ledger in
    let R = ready (goal.at.fly-requires c).Start c.find-x.result (rw c.look.ensures at c.find-x.ensures) in
    record {
      lengths = L;
      i_in_bounds = (
        omega (arith, c.place-i.ensures.1, L.sent),
        R.small,
        omega
            (arith, c.once_more.ensures),
      );
    }

pub overflow_add-result : goal.overflow_add-result
overflow_add-result c = omega
    (arith, c.requires.sound_ledger.flying_most)

pub overflow_sub-result : goal.overflow_sub-result
overflow_sub-result c =
    (ready (goal.at.overflow_sub-result c).Start c.find-x.result (rw c.look.ensures at c.find-x.ensures)).one

pub overflow_sub-result-2 : goal.overflow_sub-result-2
overflow_sub-result-2 c =
    (ready (goal.at.overflow_sub-result-2 c).Start c.find-x.result (rw c.look.ensures at c.find-x.ensures)).bytes

pub more-requires : goal.more-requires
more-requires c = record {
  flown = flown_word c.args.books.totals.in_flight (sound_ledger_flown c.requires.sound_ledger);
  bytes_bound = omega (arith, (ready (goal.at.more-requires c).Start c.find-x.result (rw c.look.ensures at c.find-x.ensures)).small);
}

pub returns-clause-kept : goal.returns-clause-kept
returns-clause-kept c =
    let slots = memory_of_mut c.args.ring.now in
    let books-in = ledger_shown c.args.books.flow c.args.books.totals (slots) in
    let a = c.args in
    let x = c.find-x.result in
    rw (to_z-of_z {w = w64} {z = c.more.result} (record { sfits = c.more.type_inv }))
    (resend_kept a.books.flow a.books.totals (slots) c.requires.sound_ledger a.psn c.place-i.result (omega (arith, c.ranges))
    c.place-i.ensures.0 x (rw c.look.ensures at c.find-x.ensures) (resend_some (books-in) a.psn c.requires.psn_value x (rw c.look.ensures at c.find-x.ensures)) c.requires.psn_value a.time
    c.once_more.result c.more.result c.once_more.ensures
    (c.more.ensures ∙ ap (λ (z : ℤ). z +ℤ pos x.size) (word a.books.totals.in_flight (sound_ledger_flown c.requires.sound_ledger)))
    _ c.fly.ensures.memory)
