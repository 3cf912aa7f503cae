-- What the accepted events of all flows sent, reported and took out as lost. As in `demands` the sums know nothing of the state: what is
-- remembered of the events so far is kept for each flow, since counts and PSNs are a flow's own.
-- Assumes nothing.
use Rattle.std.specs.Prelude.{List, [], ◌∷◌, ℕ, ◌+◌}
use Rattle.rules.specs.Branch.{if_eq}
use Rattle.context.specs.Context.{Context}
use Rattle.demands.specs.Events.{Event}
use Rattle.demands.specs.Sums.{Past, no_past, remember}
use Rattle.context_demands.specs.Events.{Flowed, answer}

-- what is remembered of each flow
abbrev pub Pasts : Type 0
Pasts = ℕ → Past

abbrev pub no_pasts : Pasts
no_pasts = λ j. no_past

-- an accepted event, remembered of its flow
unfoldable pub remember_at : ℕ → Event → Pasts → Pasts
remember_at k e ps = λ j. if_eq j k (remember e (ps k)) (ps j)

-- summed over the accepted events of a history
unfoldable pub sum : (Event → Past → ℕ) → Context → Pasts → List Flowed → ℕ
sum by x ps [] = 0
sum by x ps (e ∷ es) =
    if_eq (answer e x).number 0
    (by e.event (ps e.flow) + sum by (answer e x).after (remember_at e.flow e.event ps) es)
    (sum by (answer e x).after ps es)
