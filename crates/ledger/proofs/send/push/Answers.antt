-- `push` stores a packet behind the others (`push_kept`); a ledger that holds together leaves room for every sum.
use Rattle.std.proofs.Common.{ℤ, pos, ◌+ℤ◌, ap, ◌∙◌, arith}
use Rattle.ledger.specs.Lent.{memory_of_mut}
use Rattle.ledger.proofs.Signs.{sound_ledger_flown, word, flown_word}
use Rattle.ledger.proofs.Keeping.{sound_lengths, times_cap, push_kept}
use mir.Facts.{to_z-of_z}
use mir.Syntax.{w64}
use Rattle.ledger.proofs.send.push.Goals as goal

pub place-i-requires : goal.place-i-requires
place-i-requires c =
    let slots = memory_of_mut c.args.ring.now in
    times_cap _ _ (slots) c.requires.sound_ledger

pub fly-requires : goal.fly-requires
fly-requires c =
    let slots = memory_of_mut c.args.ring.now in
    let L = sound_lengths _ _ (slots) c.requires.sound_ledger in
    record {
      lengths = L;
      i_in_bounds = (omega (arith, c.place-i.ensures.1, L.sent), c.requires.bytes_le_backlog.1, omega arith);
    }

pub overflow_sub-result-2 : goal.overflow_sub-result-2
overflow_sub-result-2 c =
    omega (arith, c.requires.sound_ledger.backlog_least, c.requires.bytes_le_backlog.0)

pub more-requires : goal.more-requires
more-requires c = record {
  flown = flown_word c.args.books.totals.in_flight (sound_ledger_flown c.requires.sound_ledger);
  bytes_bound = omega arith;
}

pub returns-clause-kept : goal.returns-clause-kept
returns-clause-kept c =
    let slots = memory_of_mut c.args.ring.now in
    let a = c.args in
    rw (to_z-of_z {w = w64} {z = c.more.result} (record { sfits = c.more.type_inv }))
    (push_kept a.books.flow a.books.totals (slots) c.requires.sound_ledger c.requires.flow_bound c.place-i.result c.place-i.ensures.0
    a.time a.bytes c.psn_plus.result c.more.result c.requires.bytes_le_backlog.1 c.psn_plus.ensures
    (c.more.ensures ∙ ap (λ (z : ℤ). z +ℤ pos a.bytes) (word a.books.totals.in_flight (sound_ledger_flown c.requires.sound_ledger)))
    _ c.fly.ensures.memory)
