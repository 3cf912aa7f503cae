-- A call is a batch of one event: its word is the event's number, with a path choice's EV, or the kind of an ACK's
-- or a NACK's sample, above 32 bits.
-- Assumes nothing.
use mathlib.Core.Path.{◌≡◌, refl, sym, ap, ◌∙◌}
use mathlib.Core.Bool.{Bool, true, false, not}
use mathlib.Core.List.{List, ◌∷◌}
use mathlib.Core.Option.{Option, none, some}
use Prim.Native.Nat.{ℕ, ◌+◌, ◌*◌, ◌^◌, ◌%◌, ◌/◌, ◌≤◌}
use native.Mathlib.Omega.{arith}
use lib.Dec.{leb}
use Rattle.rules.specs.Branch.{if_so, if_eq, so_yes, so_no, so_both, eq_no, eq_both}
use Rattle.rules.specs.Rows.{Row, row, first_of}
use Rattle.rules.specs.Test.{inside}
use Rattle.window.specs.declared.Sampling.{Sampling}
use Rattle.ledger.specs.Memory.{Memory}
use Rattle.sender.specs.World.{ring_of, view_of}
use Rattle.sender.specs.Steps.{ack_sampling, nack_sampling, route_of}
use Rattle.sender.specs.Events.{says}
use Rattle.sender.specs.declared.Send.{Send}
use Rattle.sender.specs.declared.Ack.{Ack}
use Rattle.sender.specs.declared.Nack.{Nack}
use Rattle.sender.specs.declared.Loss.{Loss}
use Rattle.sender.proofs.Rowing.{numbered, first_most, send_all_numbered}
use Rattle.context.specs.Context.{Context, context, Answered, Routing, flow_count, world_at}
use Rattle.context.specs.Sound.{sound_context}
use Rattle.context.specs.Rows.{flow_row, with_sound}
use Rattle.context.specs.Events.{decided, chosen, new_data_of, send_of, ack_of, ack_left, nack_of, nack_left, loss_of, path_of, path_left}
use Rattle.context.specs.Events.{on_new_data, on_send, on_ack, on_nack, on_loss, on_path}
use Rattle.context.proofs.Entries.{unsound_answer, unsound_route}
use Rattle.replay.specs.Answers.{stated, shown_says, heard_by, routed_by, shown_path, on_later}
use Rattle.replay.specs.Batches.{above_of, Saying, worded, once_of}
use Rattle.replay.specs.declared.Shown.{Shown}
use Rattle.replay.specs.declared.Shown.TheVariants.{State, Path}
use Rattle.replay.specs.declared.records.Event.{Event}
use Rattle.replay.specs.declared.records.Event.TheVariants as event
use Rattle.c_state.specs.Layout.{state_from, words_ok}
use Rattle.c_api.specs.Calls.{Called, called, words_after, packed_word, Beside, path_beside, kind_in, ack_beside, nack_beside, beside_word}
use Rattle.c_api.specs.Calls.{on_words, on_event_words, on_beside_words}

-- a number stands in the low 32 bits, another above them
pub word_parts : (ev n : ℕ) → n ≤ 25 → ((2 ^ 32 * ev + n) % 2 ^ 32 ≡ n) × ((2 ^ 32 * ev + n) / 2 ^ 32 ≡ ev)
word_parts ev n h = (omega arith, omega arith)

-- a word and a context
abbrev said : ℕ → Context → Saying
said n x = record { word = n; after = x }

-- ---- one event, by its rows

-- 2, 3, a flow out of range (25), and the other rows of an event, whose numbers are those of 01's table
with_most : (x : Context) (late : Bool) (k : ℕ) (xs : List Row) → numbered xs ≡ true
    → first_of (with_sound x (row late 3 ∷ flow_row k x ∷ xs)) ≤ 25
unfolding first_of
with_most x late k xs e =
    so_both (λ (n : ℕ). n ≤ 25) (not (sound_context x)) 2 _ (λ _. omega arith)
    (λ _.
    so_both (λ (n : ℕ). n ≤ 25) late 3 _ (λ _. omega arith)
    (λ _.
    so_both (λ (n : ℕ). n ≤ 25) (leb (flow_count x) k) 25 _ (λ _. omega arith)
    (λ _. omega (arith, first_most xs e))))

-- the event's answer is what one event is answered, and its number is one of the table's
pub record Single (e : Event) (x : Context) (a : Answered) : Type 0 where
  pub is : once_of e x ≡ said a.number a.after
  pub most : a.number ≤ 25

plain : (n : ℕ) → 2 ^ 32 * 0 + n ≡ n
plain n = omega arith

module _ (e : Event) (x : Context) (xs : List Row) (after : Context) where
  abbrev judged : Answered
  judged = decided (first_of (with_sound x xs)) x after

  judged_most : first_of (with_sound x xs) ≤ 25 → judged.number ≤ 25
  unfolding decided
  judged_most m = eq_both (λ (a : Answered). a.number ≤ 25) (first_of (with_sound x xs)) 0 _ _ (λ _. omega arith) (λ _. m)

  judged_unsound : sound_context x ≡ false → record { number = 2; after = x } ≡ judged
  judged_unsound h = unsound_answer x h xs after

  judged_said : on_later e x ≡ stated judged → (s : Bool) → sound_context x ≡ s → once_of e x ≡ said judged.number judged.after
  unfolding once_of
  judged_said q true h =
      sym (so_yes (sound_context x) (worded (on_later e x)) (worded (on_later e x)) (said 2 x) h refl)
      ∙ (ap worded q ∙ ap (λ (n : ℕ). said n judged.after) (plain judged.number))
  judged_said q false h =
      sym (so_no (sound_context x) (said 2 x) (worded (on_later e x)) (said 2 x) h refl)
      ∙ ap (λ (a : Answered). said a.number a.after) (judged_unsound h)

  single_by : first_of (with_sound x xs) ≤ 25 → on_later e x ≡ stated judged → Single e x judged
  single_by m q = record { is = judged_said q (sound_context x) refl; most = judged_most m }

module _ (time k : ℕ) (x : Context) where
  pub new_data_single : (bytes : ℕ) → Single (event.NewData time k bytes) x (on_new_data time k bytes x)
  unfolding on_new_data on_later numbered inside
  new_data_single bytes = single_by (event.NewData time k bytes) x (new_data_of time k bytes x) _ (with_most x _ k _ refl) refl

  pub send_single : (a : Send) → Single (event.Send time k a) x (on_send time k a x)
  unfolding on_send on_later numbered inside
  send_single a = single_by (event.Send time k a) x (send_of time k a x) _
      (with_most x _ k _ (send_all_numbered time a (world_at k x).state (ring_of (world_at k x)))) refl

  pub loss_single : (a : Loss) → Single (event.Loss time k a) x (on_loss time k a x)
  unfolding on_loss on_later numbered inside
  loss_single a = single_by (event.Loss time k a) x (loss_of time k a x) _ (with_most x _ k _ refl) refl

-- ---- an event whose answer has a second number

-- the event's answer is what one event is answered, its word of both numbers, and the first is one of the table's
pub record Double (e : Event) (x : Context) (a : Beside) : Type 0 where
  pub is : once_of e x ≡ said (beside_word a) a.after
  pub most : a.number ≤ 25

-- from its word where state and buffers hold together, and from 2 alone where they don't
double_said : (e : Event) (x : Context) (a : Beside) → worded (on_later e x) ≡ said (beside_word a) a.after
    → (sound_context x ≡ false → record { number = 2; above = 0; after = x } ≡ a) → (s : Bool) → sound_context x ≡ s
    → once_of e x ≡ said (beside_word a) a.after
unfolding once_of
double_said e x a f g true h = sym (so_yes (sound_context x) (worded (on_later e x)) (worded (on_later e x)) (said 2 x) h refl) ∙ f
double_said e x a f g false h =
    sym (so_no (sound_context x) (said 2 x) (worded (on_later e x)) (said 2 x) h refl)
    ∙ ap (λ (b : Beside). said (beside_word b) b.after) (g h)

-- ---- a path choice

shown_yes : (ev : ℕ) → shown_path 0 ev ≡ Path ev
unfolding shown_path if_eq
shown_yes ev = refl

shown_no : (n ev : ℕ) → (n ≡ 0 → ⊥) → shown_path n ev ≡ State
unfolding shown_path
shown_no n ev h = sym (eq_no n 0 State (Path ev) State h refl)

module _ (time k : ℕ) (x : Context) where
  pub path_most : (on_path time k x).number ≤ 25
  unfolding on_path chosen numbered inside
  path_most =
      eq_both (λ (a : Routing). a.number ≤ 25) (first_of (with_sound x (path_of time k x))) 0 _ _ (λ _. omega arith)
      (λ _. with_most x _ k _ refl)

  -- its word has the EV where it was accepted; a refused one has the EV 0
  path_worded : worded (routed_by (on_path time k x)) ≡ said (beside_word (path_beside time k x)) (on_path time k x).after
  unfolding on_path chosen
  path_worded =
      let n = first_of (with_sound x (path_of time k x)) in
      eq_both (λ (a : Routing). worded (routed_by a) ≡ said (2 ^ 32 * a.ev + a.number) a.after) n 0 _ _
      (λ _.
      ap (λ (s : Shown). worded (record { number = 0; shown = s; after = path_left time k x }))
      (shown_yes (route_of time (view_of (world_at k x))).ev))
      (λ no. ap (λ (s : Shown). worded (record { number = n; shown = s; after = x })) (shown_no n 0 no))

  path_unsound : sound_context x ≡ false → record { number = 2; ev = 0; after = x } ≡ on_path time k x
  unfolding on_path
  path_unsound h = unsound_route x h (path_of time k x) _ _

  pub path_double : Double (event.Path time k) x (path_beside time k x)
  unfolding on_later
  path_double =
      record {
        is =
            double_said (event.Path time k) x (path_beside time k x) path_worded
            (λ h. ap (λ (a : Routing). record { number = a.number; above = a.ev; after = a.after }) (path_unsound h))
            (sound_context x) refl;
        most = path_most;
      }

-- ---- an ACK or a NACK

-- what its line shows tells the kind of its sample
kind_shown : (says : Option Sampling) → above_of (shown_says says) ≡ kind_in says
unfolding shown_says kind_in
kind_shown none = refl
kind_shown (some sampling) = refl

module _ (e : Event) (x : Context) (xs : List Row) (after : Context) (sampling : Sampling) where
  abbrev sensed : Answered
  sensed = decided (first_of (with_sound x xs)) x after

  abbrev beside : Answered → Beside
  beside a = record { number = a.number; above = kind_in (says a.number sampling); after = a.after }

  heard_unsound : sound_context x ≡ false → record { number = 2; above = 0; after = x } ≡ beside sensed
  unfolding says kind_in if_eq
  heard_unsound h = ap beside (judged_unsound e x xs after h)

  heard_double : first_of (with_sound x xs) ≤ 25 → on_later e x ≡ heard_by (says sensed.number sampling) sensed → Double e x (beside sensed)
  heard_double m q =
      record {
        is =
            double_said e x (beside sensed)
            (ap worded q ∙ ap (λ (n : ℕ). said (2 ^ 32 * n + sensed.number) sensed.after) (kind_shown (says sensed.number sampling)))
            heard_unsound (sound_context x) refl;
        most = judged_most e x xs after m;
      }

module _ (time k : ℕ) (x : Context) where
  pub ack_double : (a : Ack) → Double (event.Ack time k a) x (ack_beside time k a x)
  unfolding on_ack on_later numbered inside
  ack_double a = heard_double (event.Ack time k a) x (ack_of time k a x) (ack_left time k a x)
      (ack_sampling time a (view_of (world_at k x))) (with_most x _ k _ refl) refl

  pub nack_double : (a : Nack) → Double (event.Nack time k a) x (nack_beside time k a x)
  unfolding on_nack on_later numbered inside
  nack_double a = heard_double (event.Nack time k a) x (nack_of time k a x) (nack_left time k a x)
      (nack_sampling time a (view_of (world_at k x))) (with_most x _ k _ refl) refl

-- ---- over lent words

module _ (ws fs : List ℕ) (r : Memory) (t : List ℕ) where
  pub words_on : (e : Event) (on : Context → Answered) → ((x : Context) → Single e x (on x))
      → on_event_words e ws fs r t ≡ on_words ws fs r t on
  unfolding on_event_words on_words
  words_on e on single =
      let x = context (state_from ws) fs r t in
      let a = on x in
      let low : a.number % 2 ^ 32 ≡ a.number = omega (arith, (single x).most) in
      ap (λ (c : Called). if_so (words_ok ws) c (called 2 ws fs r t))
      (ap (packed_word ws) (single x).is
      ∙ ap (λ (n : ℕ). called a.number (words_after n ws a.after.state) a.after.flows a.after.slots a.after.times) low)

  pub word_most_lem : (e : Event) (on : Context → Answered) → ((x : Context) → Single e x (on x)) → (c : Called)
      → c ≡ on_event_words e ws fs r t → c.number ≤ 25
  unfolding on_words
  word_most_lem e on single c q =
      rw (q ∙ words_on e on single)
      (so_both (λ (d : Called). d.number ≤ 25) (words_ok ws) _ _ (λ _. (single (context (state_from ws) fs r t)).most) (λ _. omega arith))

  pub beside_words_on : (e : Event) (on : Context → Beside) → ((x : Context) → Double e x (on x))
      → on_event_words e ws fs r t ≡ on_beside_words ws fs r t on
  unfolding on_event_words on_beside_words
  beside_words_on e on double =
      let x = context (state_from ws) fs r t in
      let a = on x in
      ap (λ (c : Called). if_so (words_ok ws) c (called 2 ws fs r t))
      (ap (packed_word ws) (double x).is
      ∙ ap (λ (n : ℕ). called (beside_word a) (words_after n ws a.after.state) a.after.flows a.after.slots a.after.times)
      (word_parts a.above a.number (double x).most).0)
