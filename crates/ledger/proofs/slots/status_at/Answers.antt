-- `slots::status_at` tests the two bits of the slot; what a slice of numbers of 64 bits holds are words.
use Rattle.std.proofs.Common.{true, ap₂, ◌∙◌}
use Rattle.bits.proofs.Words.{word_yes}
use Rattle.ledger.specs.Memory.{status_of}
use Rattle.ledger.proofs.slots.status_at.Goals as goal

pub returns-clause-status : goal.returns-clause-status
returns-clause-status c = c.status_of.ensures ∙ ap₂ (status_of true) c.is_set.ensures c.is_set-2.ensures

pub returns-clause-words : goal.returns-clause-words
returns-clause-words c = (λ q h. word_yes _ (c.type_inv.outstanding q).fits, λ q h. word_yes _ (c.type_inv.marked q).fits)
