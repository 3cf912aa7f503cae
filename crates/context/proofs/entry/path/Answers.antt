-- `path` tests number 2 and then relies on it: either answer is a case of `on_path`.
use mathlib.Core.Path.{sym, ◌∙◌}
use Rattle.rules.specs.Verdict.{number_of}
use Rattle.ledger.specs.Memory.{memory}
use Rattle.context.specs.Context.{context}
use Rattle.context.specs.Events.{on_path, path_of}
use Rattle.context.proofs.Kept.{past_path_lem}
use Rattle.context.proofs.Entries.{unsound_route}
use Rattle.context.proofs.entry.path.Goals as goal

pub returns-then-not-is_sound : goal.returns-then-not-is_sound
unfolding number_of on_path
returns-then-not-is_sound c =
    let handed = context c.args.c c.args.flows.now
    (memory c.args.outstanding.now c.args.marked.now c.args.sizes.now c.args.sent.now) c.args.evs.now in
    unsound_route (handed) (sym c.is_sound.ensures ∙ c.if-not-is_sound.true)
    (path_of c.args.time c.args.flow (handed)) _ _

pub path-requires : goal.path-requires
path-requires c =
    sym c.is_sound.ensures ∙ c.if-not-is_sound.false

pub returns : goal.returns
returns c =
    let handed = context c.args.c c.args.flows.now
    (memory c.args.outstanding.now c.args.marked.now c.args.sizes.now c.args.sent.now) c.args.evs.now in
    let so = sym c.is_sound.ensures ∙ c.if-not-is_sound.false in
    c.path.ensures ∙ past_path_lem (handed) so c.args.time c.args.flow
