-- A run report, request M-105: "Over one log it reports .. Every figure has a definition over the log and the controller's answers".
-- Assumes nothing.
use Rattle.std.specs.Prelude.{◌&&◌, List, [], ◌∷◌, ℕ, eqb, length}
use Rattle.rules.specs.Branch.{if_so}
use Rattle.ledger.specs.Memory.{Memory}
use Rattle.context.specs.Context.{Context, context}
use Rattle.context.specs.declared.Controller.{Controller}
use Rattle.replay.specs.Places.{Feed, found_at, Turning, sound_place, turns_of, last_place, last_context}
use Rattle.replay.specs.declared.Place.{Place}
use Rattle.report_text.specs.Places.{figure_count}
use Rattle.replay_report.specs.Figures.{counted}

-- the figures after turns: each turn's record stands where the turn before it ended
unfoldable pub counting : Feed → Place → List Turning → List ℕ → List ℕ
counting f p [] figures = figures
counting f p (t ∷ ts) figures = counting f t.place ts (counted (found_at f p.at) t.number t.shown figures)

-- what a call answers, and the lent figures
pub record Tallying : Type 0 where
  pub number : ℕ
  pub place : Place
  pub after : Context
  pub figures : List ℕ

abbrev pub tallying : ℕ → Place → Controller → List ℕ → Memory → List ℕ → List ℕ → Tallying
tallying n p c fs r t figures = record { number = n; place = p; after = context c fs r t; figures = figures }

-- all turns from a place on, and the figures with them
abbrev pub led : Feed → Place → Context → List Turning → List ℕ → Tallying
led f p w ts figures = record { number = 0; place = last_place p ts; after = last_context w ts; figures = counting f p ts figures }

unfoldable pub tally_turns_of : Feed → Place → Context → List ℕ → Tallying
tally_turns_of f p w figures = led f p w (turns_of f p w) figures

-- number 2, also where the figures are not so many, or the turns
unfoldable pub tally_of : Feed → Place → Context → List ℕ → Tallying
tally_of f p w figures =
    if_so (eqb (length figures) figure_count && sound_place p w)
    (tally_turns_of f p w figures)
    (record { number = 2; place = p; after = w; figures = figures })
