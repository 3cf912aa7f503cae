-- `mark` puts the marked bit of the flying packet that it finds (`mark_kept`); what the totals must leave is `mark_ready`.
use Rattle.std.proofs.Common.{◌≡◌, ℤ, pos, ◌-ℤ◌, ap, ◌∙◌, arith}
use Rattle.ledger.specs.Ring.{packet_of}
use Rattle.ledger.specs.Lent.{memory_of_marks}
use Rattle.ledger.specs.Memory.{ledger_shown}
use Rattle.ledger.specs.declared.Packet.{Packet}
use Rattle.ledger.proofs.Signs.{sound_ledger_flown, word, flown_word}
use Rattle.ledger.proofs.Marks.{Markable, mark_ready, mark_some}
use Rattle.ledger.proofs.Keeping.{sound_lengths, times_cap, mark_kept}
use mir.Facts.{to_z-of_z}
use mir.Syntax.{w64}
use Rattle.ledger.proofs.mark.mark.Goals as goal
use Rattle.ledger.proofs.mark.mark.Goals.{Start}

-- what a ledger that holds together says of the packet found
ready : (c : Start) (x : Packet) →
    let slots = memory_of_marks c.args.ring.now in
    let books-in = ledger_shown c.args.books.flow c.args.books.totals (slots) in
    x ≡ packet_of (books-in).flow (books-in).slots c.args.psn → Markable (books-in) x
ready c x e =
    let slots = memory_of_marks c.args.ring.now in
    let books-in = ledger_shown c.args.books.flow c.args.books.totals (slots) in
    mark_ready (books-in) c.requires.sound_ledger c.args.psn c.requires.psn_value x e

pub find-x-requires : goal.find-x-requires
find-x-requires c =
    let slots = memory_of_marks c.args.ring.now in
    rw c.look.ensures (sound_lengths _ _ (slots) c.requires.sound_ledger)

pub place-i-requires : goal.place-i-requires
place-i-requires c =
    let slots = memory_of_marks c.args.ring.now in
    times_cap _ _ (slots)
    c.requires.sound_ledger

pub put-requires : goal.put-requires
put-requires c =
    let slots = memory_of_marks c.args.ring.now in
    let L = sound_lengths _ _ (slots) c.requires.sound_ledger in
    omega (arith, c.place-i.ensures.1, L.sent, L.marked)

pub overflow_sub-result : goal.overflow_sub-result
overflow_sub-result c =
    (ready (goal.at.overflow_sub-result c).Start c.find-x.result (rw c.look.ensures at c.find-x.ensures)).one

pub less-requires : goal.less-requires
less-requires c = record {
  flown = flown_word c.args.books.totals.in_flight (sound_ledger_flown c.requires.sound_ledger);
  bytes_bound = (ready (goal.at.less-requires c).Start c.find-x.result (rw c.look.ensures at c.find-x.ensures)).small;
}

pub returns-clause-kept : goal.returns-clause-kept
returns-clause-kept c =
    let slots = memory_of_marks c.args.ring.now in
    let books-in = ledger_shown c.args.books.flow c.args.books.totals (slots) in
    let a = c.args in
    let x = c.find-x.result in
    rw (to_z-of_z {w = w64} {z = c.less.result} (record { sfits = c.less.type_inv }))
    (mark_kept a.books.flow a.books.totals (slots) c.requires.sound_ledger a.psn c.place-i.result (omega (arith, c.ranges))
    c.place-i.ensures.0 x (rw c.look.ensures at c.find-x.ensures) (mark_some (books-in) a.psn c.requires.psn_value x (rw c.look.ensures at c.find-x.ensures)) c.requires.psn_value
    c.less.result
    (c.less.ensures ∙ ap (λ (z : ℤ). z -ℤ pos x.size) (word a.books.totals.in_flight (sound_ledger_flown c.requires.sound_ledger)))
    _ c.put.ensures)
