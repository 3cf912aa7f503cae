-- The refusals of each event of a flow, in their order: 2, 3, 25, then the others. Request M-107: "A flow out of range is refusal 25,
-- tested after 3." The rows behind it are the sender's, of flow k.
-- Assumes nothing.
use Rattle.std.specs.Prelude.{not, List, [], ◌∷◌, ℕ, leb}
use Rattle.rules.specs.Rows.{Row, row}
use Rattle.context.specs.Context.{Context, flow_count}
use Rattle.context.specs.Sound.{sound_context}

-- a flow out of range (25)
abbrev pub flow_row : ℕ → Context → Row
flow_row k x = row (leb (flow_count x) k) 25

-- behind the first row of an event, which is the time's (3)
abbrev pub with_flow_row : ℕ → Context → List Row → List Row
with_flow_row k x [] = flow_row k x ∷ []
with_flow_row k x (time ∷ rows) = time ∷ flow_row k x ∷ rows

-- "state or buffers don't hold together" (2), before all others
abbrev pub with_sound : Context → List Row → List Row
with_sound x rows = row (not (sound_context x)) 2 ∷ rows
