-- REQUEST M-106, "Ambiguous packets must not matter" (`ambiguous_does_not_matter`): turn by turn, what stands in the two logs is the
-- same or an ACK with another service time whose outcome is ambiguous, so the turn is the same and so are the bytes that may differ
-- from there on. Assumes nothing.
use mathlib.Core.Path.{◌≡◌, refl, sym, ap, ◌∙◌}
use mathlib.Core.Bool.{Bool, true, false, ◌&&◌, ◌||◌}
use mathlib.Core.List.{List, [], ◌∷◌}
use Prim.Native.Nat.{ℕ, zero, suc, ◌+◌, ◌-◌, ◌≤◌, ◌<◌}
use lib.ListN.{length, get_or, drop, set, length-set}
use lib.Seq.{get_or-set_other}
use native.Mathlib.Omega.{arith}
use Rattle.rules.specs.Branch.{if_so, if_eq, so_yes, so_no, so_both, eq_no, eq_both}
use Rattle.rules.specs.Test.{inside, inside_tells}
use Rattle.log_bytes.specs.Little.{number_at}
use Rattle.window.specs.declared.Sampling.TheVariants.{Taken, Cut, Gone, Ambiguous, NotPositive}
use Rattle.context.specs.Context.{Context}
use Rattle.sender.specs.declared.Ack.{Ack}
use Rattle.log_records.specs.Parse.{parse_at}
use Rattle.log_records.specs.Layout.{flow_of}
use Rattle.log_records.specs.declared.record.Whose.{Whose}
use Rattle.log_records.specs.declared.record.Record.{Record}
use Rattle.log_records.specs.declared.record.Record.TheVariants as rec
use Rattle.log_records.specs.declared.parse.Parsed.{Parsed}
use Rattle.log_records.specs.declared.parse.Parsed.TheVariants as parsed
use Rattle.replay.specs.Answers.{on_event}
use Rattle.replay.specs.Batches.{kind_of, fill_room_of, batch_of}
use Rattle.replay.specs.Places.{logged, found_in, found_from, found_at, end_from, Turning, over, place_after, turned, on_found, turn_of, turns_in}
use Rattle.replay.specs.Places.{turns_of, last_place, last_context}
use Rattle.replay.specs.Records.{event_of, ack_event_of}
use Rattle.replay.specs.declared.Place.{Place}
use Rattle.replay.specs.declared.Shown.{Shown}
use Rattle.replay.specs.declared.Shown.TheVariants.{Nothing, State, Path, Sample as Showing}
use Rattle.replay.specs.declared.records.Event.TheVariants as event
use Rattle.replay.specs.declared.turns.Found.{Found}
use Rattle.replay.specs.declared.turns.Found.TheVariants as found
use Rattle.replay.proofs.Parts.{turn_forward}
use Rattle.replay_report.specs.Figures.{counted, bytes_counted, event_counted}
use Rattle.replay_report.specs.Tallies.{counting, tally_turns_of, tally_of}
use Rattle.replay_report.specs.Statements.{kind_test, zeros}
use Rattle.replay_report.specs.Ambiguous.{service_first, service_last, served_by, served_in, ambiguous_byte, may_differ}
use Rattle.replay_report.specs.Ambiguous.{is_ambiguous, DifferOnly, AllEqual}
use Rattle.replay_report.proofs.Alike.{rest_alike, parse_alike, ack_past, ack_alike}
use Rattle.replay_report.proofs.Served.{served, ambiguous_accepted, ambiguous_served}

-- ---- tests

wrong : {A : Type 0} → false ≡ true → A
wrong e = let z : ◌≡◌ {A = ℕ} 0 1 = cc in absurd (let clash : ⊥ = omega arith in clash)

none_of : (a b : Bool) → a ≡ false → b ≡ false → (a || b) ≡ false
none_of a b e f = rw (e, f)

not_both : (a b : Bool) → (a ≡ true → b ≡ false) → (a && b) ≡ false
not_both true b f = f refl
not_both false b f = refl

outside : (low i high : ℕ) → (low ≤ i → i ≤ high → ⊥) → inside low i high ≡ false
outside low i high out = by (inside low i high) refl
  where
    by : (b : Bool) → inside low i high ≡ b → b ≡ false
    by true e = let h = inside_tells low i high e in absurd (out h.0 h.1)
    by false e = refl

-- the kind of M-103 that a line shows is ambiguous
kind_ambiguous : (s : Shown) → kind_test (kind_of Ambiguous) s ≡ true → s ≡ Showing Ambiguous
unfolding kind_test kind_of
kind_ambiguous Nothing e = wrong e
kind_ambiguous State e = wrong e
kind_ambiguous (Path ev) e = wrong e
kind_ambiguous (Showing (Taken ticks)) e = wrong e
kind_ambiguous (Showing Cut) e = wrong e
kind_ambiguous (Showing Gone) e = wrong e
kind_ambiguous (Showing Ambiguous) e = refl
kind_ambiguous (Showing NotPositive) e = wrong e

-- ---- a service time stands behind the fields before it

abbrev early : ℕ
early = 2 + 2 + 8 + 4 + 8 + 4 + 4

record_late : (r : Record) (at i : ℕ) → i < at + early → served_by r at i ≡ false
unfolding served_by
record_late (rec.NewData time whose bytes) at i h = refl
record_late (rec.Send time whose size psn resend) at i h = refl
record_late (rec.Ack time whose cum trigger count service ev flags map) at i h = outside _ i _ (λ low _. omega arith)
record_late (rec.Nack time whose psn ev reason flags) at i h = refl
record_late (rec.Loss time whose psn ev) at i h = refl
record_late (rec.Path time whose) at i h = refl
record_late (rec.SetUp s) at i h = refl
record_late (rec.SetUpEvs s evs) at i h = refl

served_late : (x : Parsed) (at i : ℕ) → i < at + early → served_in x at i ≡ false
unfolding served_in
served_late (parsed.Whole r next) at i h = record_late r at i h
served_late parsed.End at i h = refl
served_late parsed.Cut at i h = refl
served_late parsed.Malformed at i h = refl

-- ---- the turn at a place, and the turns from there on

found_is : (l : List ℕ) (at : ℕ) (x : Parsed) → parse_at l at ≡ x → found_at (logged l) at ≡ found_in x
unfolding found_from
found_is l at x e = ap found_in e

turn_is : (l : List ℕ) (p : Place) (w : Context) (x : Found) → p.stopped ≡ false → found_at (logged l) p.at ≡ x
    → turn_of (logged l) p w ≡ on_found p w x
unfolding turn_of
turn_is l p w x s e = sym (so_no p.stopped (on_found p w x) (over p w) _ s (ap (on_found p w) (sym e)))

stopped_none : (l : List ℕ) (k : ℕ) (p : Place) (w : Context) → p.stopped ≡ true → turns_in k (logged l) p w ≡ []
unfolding turns_in turn_of
stopped_none l zero p w s = refl
stopped_none l (suc k) p w s =
    sym (so_yes (turn_of (logged l) p w).ended [] [] _ (ap (λ (t : Turning). t.ended)
    (sym (so_yes p.stopped (over p w) (over p w) _ s refl))) refl)

module _ (log : List ℕ) (k : ℕ) (p : Place) (w : Context) (i : ℕ) where
  abbrev Kept : List Turning → Type 0
  Kept ts = may_differ log p ts i ≡ false

  -- a byte that may differ is one of this turn's or of a later one's
  kept_turn : let t = turn_of (logged log) p w in
      ambiguous_byte log p t i ≡ false
      → (t.ended ≡ false → may_differ log t.place (turns_in k (logged log) t.place t.after) i ≡ false)
      → Kept (turns_in (suc k) (logged log) p w)
  unfolding turns_in may_differ
  kept_turn here later =
      so_both Kept (turn_of (logged log) p w).ended [] _ (λ _. refl)
      (λ go. none_of (ambiguous_byte log p (turn_of (logged log) p w) i) _ here (later go))

-- none before the first service time
kept_before : (log : List ℕ) (k : ℕ) (p : Place) (w : Context) (i : ℕ) → i < p.at + early
    → may_differ log p (turns_in k (logged log) p w) i ≡ false
unfolding turns_in may_differ
kept_before log zero p w i h = refl
kept_before log (suc k) p w i h =
    let t = turn_of (logged log) p w in
    kept_turn log k p w i (not_both (is_ambiguous t) _ (λ _. served_late (parse_at log p.at) p.at i h))
    (λ _. kept_before log k t.place t.after i (omega (arith, turn_forward (logged log) p w)))

-- none where replay has stopped
kept_stopped : (log : List ℕ) (k : ℕ) (p : Place) (w : Context) (i : ℕ) → p.stopped ≡ true
    → may_differ log p (turns_in k (logged log) p w) i ≡ false
unfolding may_differ
kept_stopped log k p w i s = ap (λ (ts : List Turning). may_differ log p ts i) (stopped_none log k p w s)

-- and none of a later turn's before the next record
kept_past : (log : List ℕ) (k : ℕ) (p : Place) (w : Context) (next number : ℕ) (shown : Shown) (i : ℕ) → i < next
    → let q = place_after p next number shown in may_differ log q (turns_in k (logged log) q w) i ≡ false
unfolding place_after
kept_past log k p w next number shown i h =
    eq_both (λ (q : Place). may_differ log q (turns_in k (logged log) q w) i ≡ false) number 12 _ _
    (λ _. kept_stopped log k _ w i refl)
    (λ _. kept_before log k _ w i (omega arith))

-- ---- two logs

module _ (log other : List ℕ) (long : length log ≡ length other) where
  -- every byte from the place on is the same, but those
  abbrev Agree : ℕ → Place → Context → Type 0
  Agree k p w = (i : ℕ) → p.at ≤ i → may_differ log p (turns_in k (logged log) p w) i ≡ false → get_or log i 0 ≡ get_or other i 0

  -- what stands there in the one and in the other, and which of its bytes may differ: none, or none behind it
  data Match (p : Place) (w : Context) : Type 0 where
    same : found_at (logged log) p.at ≡ found_at (logged other) p.at
        → ((i : ℕ) → ambiguous_byte log p (turn_of (logged log) p w) i ≡ false) → Match p w
    differs : (time k : ℕ) (a : Ack) (service next : ℕ) → found_at (logged log) p.at ≡ found.Whole (event.Ack time k a) next
        → found_at (logged other) p.at ≡ found.Whole (event.Ack time k (served service a)) next
        → (on_event p.done (event.Ack time k a) w).shown ≡ Showing Ambiguous
        → ((i : ℕ) → next ≤ i → ambiguous_byte log p (turn_of (logged log) p w) i ≡ false) → Match p w

  found_same : (at : ℕ) → parse_at log at ≡ parse_at other at → found_at (logged log) at ≡ found_at (logged other) at
  unfolding found_from
  found_same at e = ap found_in e

  module _ (k : ℕ) (p : Place) (w : Context) (agree : Agree (suc k) p w) (go : p.stopped ≡ false) where
    -- where no ACK stands and no turn is left, all is the same
    match_none : (x : Parsed) → parse_at log p.at ≡ x → ((i : ℕ) → served_in x p.at i ≡ false)
        → ((turn_of (logged log) p w).ended ≡ false → (turn_of (logged log) p w).place.stopped ≡ true) → Match p w
    match_none x e no-ack stop =
        let t = turn_of (logged log) p w in
        let quiet : (i : ℕ) → ambiguous_byte log p t i ≡ false
        = λ i. not_both (is_ambiguous t) _ (λ _. ap (λ (y : Parsed). served_in y p.at i) e ∙ no-ack i) in
        same
        (found_same p.at
        (rest_alike log other p.at long
        (λ i from. agree i from (kept_turn log k p w i (quiet i) (λ on. kept_stopped log k t.place t.after i (stop on))))))
        quiet

    module _ (r : Record) (next : ℕ) (q : parse_at log p.at ≡ parsed.Whole r next) where
      abbrev here : Turning
      here = turn_of (logged log) p w

      turn_here : here ≡ turned p next (on_event p.done (event_of r) w)
      unfolding found_in on_found
      turn_here = turn_is log p w _ go (found_is log p.at _ q)

      -- a byte of this record is the same but in its service time
      of_record : (i : ℕ) → p.at ≤ i → i < next → ambiguous_byte log p here i ≡ false → get_or log i 0 ≡ get_or other i 0
      of_record i from past free = agree i from (kept_turn log k p w i free (λ _. rw turn_here (kept_past log k p _ next _ _ i past)))

      of_front : (i : ℕ) → p.at ≤ i → i < p.at + early → get_or log i 0 ≡ get_or other i 0
      of_front i from past = agree i from (kept_before log (suc k) p w i past)

      -- which bytes are its service time's
      of_service : (i : ℕ) → served_by r p.at i ≡ false → ambiguous_byte log p here i ≡ false
      unfolding served_in
      of_service i e = not_both (is_ambiguous here) _ (λ _. ap (λ (y : Parsed). served_in y p.at i) q ∙ e)

      match_same : ((i : ℕ) → ambiguous_byte log p here i ≡ false) → Match p w
      match_same quiet =
          same
          (found_same p.at
          (q ∙ sym (parse_alike log other p.at long r next (λ i from past. of_front i from (omega arith))
          (λ i from past. of_record i from past (quiet i)) q)))
          quiet

      match_other : ((i : ℕ) → served_by r p.at i ≡ false) → Match p w
      match_other no-ack = match_same (λ i. of_service i (no-ack i))

    match_ack : (time : ℕ) (whose : Whose) (cum map trigger count service ev flags next : ℕ)
        → parse_at log p.at ≡ parsed.Whole (rec.Ack time whose cum trigger count service ev flags map) next
        → (b : Bool) → is_ambiguous (turn_of (logged log) p w) ≡ b → Match p w
    unfolding found_in served_by
    match_ack time whose cum map trigger count service ev flags next q false amb =
        match_same (rec.Ack time whose cum trigger count service ev flags map) next q
        (λ i. not_both (is_ambiguous (turn_of (logged log) p w)) _ (λ a. wrong (sym amb ∙ a)))
    match_ack time whose cum map trigger count service ev flags next q true amb =
        let r = rec.Ack time whose cum trigger count service ev flags map in
        let past = ack_past log other p.at long time whose cum map trigger count service ev flags next q in
        let free : (i : ℕ) → (p.at + service_first whose ≤ i → i ≤ p.at + service_last whose → ⊥)
        → ambiguous_byte log p (turn_of (logged log) p w) i ≡ false
        = λ i out. of_service r next q i (outside _ i _ out) in
        let alike = ack_alike log other p.at long time whose cum map trigger count service ev flags next q
        (λ i from h. of_record r next q i from (omega (arith, past)) (free i (λ low _. omega arith)))
        (λ i from h. of_record r next q i (omega arith) h (free i (λ _ high. omega arith))) in
        differs time (flow_of whose) (ack_event_of cum map trigger count service ev flags)
        (number_at (drop p.at other) (service_first whose) 4) next
        (found_is log p.at _ q) (found_is other p.at _ alike)
        (ap (λ (t : Turning). t.shown) (sym (turn_here r next q)) ∙ kind_ambiguous _ amb)
        (λ i behind. free i (λ _ high. omega (arith, past)))

    match_whole : (r : Record) (next : ℕ) → parse_at log p.at ≡ parsed.Whole r next → Match p w
    unfolding served_by
    match_whole (rec.NewData time whose bytes) next q = match_other _ next q (λ i. refl)
    match_whole (rec.Send time whose size psn resend) next q = match_other _ next q (λ i. refl)
    match_whole (rec.Ack time whose cum trigger count service ev flags map) next q =
        match_ack time whose cum map trigger count service ev flags next q (is_ambiguous (turn_of (logged log) p w)) refl
    match_whole (rec.Nack time whose psn ev reason flags) next q = match_other _ next q (λ i. refl)
    match_whole (rec.Loss time whose psn ev) next q = match_other _ next q (λ i. refl)
    match_whole (rec.Path time whose) next q = match_other _ next q (λ i. refl)
    match_whole (rec.SetUp s) next q = match_other _ next q (λ i. refl)
    match_whole (rec.SetUpEvs s evs) next q = match_other _ next q (λ i. refl)

    match_refused : (x : Parsed) → parse_at log p.at ≡ x → found_in x ≡ found.Malformed → ((i : ℕ) → served_in x p.at i ≡ false)
        → Match p w
    unfolding on_found place_after if_eq
    match_refused x q e no-ack =
        match_none x q no-ack (λ _. ap (λ (t : Turning). t.place.stopped) (turn_is log p w _ go (found_is log p.at x q ∙ e)))

    match_end : parse_at log p.at ≡ parsed.End → Match p w
    unfolding found_in served_in on_found
    match_end q =
        match_none parsed.End q (λ i. refl)
        (λ on. wrong (sym on ∙ ap (λ (t : Turning). t.ended) (turn_is log p w _ go (found_is log p.at _ q))))

    match_parsed : (x : Parsed) → parse_at log p.at ≡ x → Match p w
    unfolding found_in served_in
    match_parsed (parsed.Whole r next) q = match_whole r next q
    match_parsed parsed.End q = match_end q
    match_parsed parsed.Cut q = match_refused parsed.Cut q refl (λ i. refl)
    match_parsed parsed.Malformed q = match_refused parsed.Malformed q refl (λ i. refl)

  -- ---- what a match tells

  turn_match : (p : Place) (w : Context) → p.stopped ≡ false → Match p w → turn_of (logged log) p w ≡ turn_of (logged other) p w
  unfolding on_found
  turn_match p w go (same e quiet) = turn_is log p w _ go e ∙ sym (turn_is other p w _ go refl)
  turn_match p w go (differs time k a service next e f shows past) =
      turn_is log p w _ go e
      ∙ (ap (turned p next) (sym (ambiguous_served p.done time k a w shows service)) ∙ sym (turn_is other p w _ go f))

  -- an ACK counts no bytes
  count_match : (p : Place) (w : Context) → Match p w → (number : ℕ) (shown : Shown) (figures : List ℕ)
      → counted (found_at (logged log) p.at) number shown figures ≡ counted (found_at (logged other) p.at) number shown figures
  unfolding counted bytes_counted event_counted
  count_match p w (same e quiet) number shown figures = ap (λ (x : Found). counted x number shown figures) e
  count_match p w (differs time k a service next e f shows past) number shown figures =
      ap (λ (x : Found). counted x number shown figures) e ∙ sym (ap (λ (x : Found). counted x number shown figures) f)

  -- replay goes on behind an ambiguous ACK, where none of its bytes is
  far_match : (p : Place) (w : Context) → p.stopped ≡ false → Match p w → (i : ℕ) → (turn_of (logged log) p w).place.at ≤ i
      → ambiguous_byte log p (turn_of (logged log) p w) i ≡ false
  unfolding on_found place_after
  far_match p w go (same e quiet) i from = quiet i
  far_match p w go (differs time k a service next e f shows past) i from =
      let at : (turn_of (logged log) p w).place.at ≡ next
      = ap (λ (t : Turning). t.place.at) (turn_is log p w _ go e)
      ∙ ap (λ (q : Place). q.at) (sym (eq_no _ 12 _ _ _ (λ twelve. omega (arith, ambiguous_accepted p.done time k a w shows)) refl)) in
      past i (omega (arith, at))

  rest_agrees : (k : ℕ) (p : Place) (w : Context) → Agree (suc k) p w → p.stopped ≡ false → Match p w
      → Agree k (turn_of (logged log) p w).place (turn_of (logged log) p w).after
  rest_agrees k p w agree go m i from kept =
      agree i (omega (arith, turn_forward (logged log) p w)) (kept_turn log k p w i (far_match p w go m i from) (λ _. kept))

  -- ---- all turns

  abbrev Equal : ℕ → Place → Context → Type 0
  Equal k p w =
      (turns_in k (logged log) p w ≡ turns_in k (logged other) p w)
      × ((figures : List ℕ) → counting (logged log) p (turns_in k (logged log) p w) figures
      ≡ counting (logged other) p (turns_in k (logged log) p w) figures)

  equal_stopped : (k : ℕ) (p : Place) (w : Context) → p.stopped ≡ true → Equal k p w
  unfolding counting
  equal_stopped k p w s = rw (stopped_none log k p w s) (sym (stopped_none other k p w s), λ figures. refl)

  equal_on : (k : ℕ) (p : Place) (w : Context) → p.stopped ≡ false → Match p w
      → Equal k (turn_of (logged log) p w).place (turn_of (logged log) p w).after → Equal (suc k) p w
  unfolding turns_in counting
  equal_on k p w go m rest =
      let t = turn_of (logged log) p w in (
        ap (λ (ts : List Turning). if_so t.ended [] (t ∷ ts)) rest.0
            ∙ ap (λ (u : Turning). if_so u.ended [] (u ∷ turns_in k (logged other) u.place u.after)) (turn_match p w go m),
        λ figures.
            so_both (λ (ts : List Turning). counting (logged log) p ts figures ≡ counting (logged other) p ts figures) t.ended [] _
            (λ _. refl)
            (λ _.
            rest.1 _
            ∙ ap (counting (logged other) t.place (turns_in k (logged log) t.place t.after))
            (count_match p w m t.number t.shown figures)),
      )

  equal : (k : ℕ) (p : Place) (w : Context) → Agree k p w → Equal k p w
  unfolding turns_in counting
  equal zero p w agree = (refl, λ figures. refl)
  equal (suc k) p w agree = by p.stopped refl (equal k (turn_of (logged log) p w).place (turn_of (logged log) p w).after)
    where
      by : (b : Bool) → p.stopped ≡ b
          → (Agree k (turn_of (logged log) p w).place (turn_of (logged log) p w).after
          → Equal k (turn_of (logged log) p w).place (turn_of (logged log) p w).after)
          → Equal (suc k) p w
      by true s later = equal_stopped (suc k) p w s
      by false go later = let m = match_parsed k p w agree go (parse_at log p.at) refl in
          equal_on k p w go m (later (rest_agrees k p w agree go m))

-- AMBIGUOUS PACKETS DO NOT MATTER, from any place of a replay on
module _ (log other : List ℕ) (p : Place) (w : Context) (d : DifferOnly log other p w) where
  all_equal : Equal log other d.long (length log - p.at) p w
  unfolding turns_of end_from
  all_equal = equal log other d.long (length log - p.at) p w (λ i _ kept. d.only i kept)

  same_turns : turns_of (logged log) p w ≡ turns_of (logged other) p w
  unfolding turns_of end_from
  same_turns = all_equal.0 ∙ ap (λ (n : ℕ). turns_in (n - p.at) (logged other) p w) d.long

  same_figures : (figures : List ℕ)
      → counting (logged log) p (turns_of (logged log) p w) figures ≡ counting (logged other) p (turns_of (logged other) p w) figures
  unfolding turns_of end_from
  same_figures figures = all_equal.1 figures ∙ ap (λ (ts : List Turning). counting (logged other) p ts figures) same_turns

  same_tally : (figures : List ℕ) → tally_of (logged log) p w figures ≡ tally_of (logged other) p w figures
  unfolding tally_of tally_turns_of
  same_tally figures =
      rw (same_figures figures, same_turns)

  pub ambiguous_does_not_matter : AllEqual log other p w
  unfolding batch_of fill_room_of
  ambiguous_does_not_matter =
      record {
        turns = same_turns;
        place = ap (last_place p) same_turns;
        state = ap (λ (ts : List Turning). (last_context w ts).state) same_turns;
        flows = ap (λ (ts : List Turning). (last_context w ts).flows) same_turns;
        slots = ap (λ (ts : List Turning). (last_context w ts).slots) same_turns;
        times = ap (λ (ts : List Turning). (last_context w ts).times) same_turns;
        report = same_figures zeros;
        replayed = λ room. rw same_turns;
        tallied = same_tally;
      }

-- so a byte that may differ may be anything
pub any_byte : (log : List ℕ) (p : Place) (w : Context) (i byte : ℕ) → may_differ log p (turns_of (logged log) p w) i ≡ true
    → AllEqual log (set log i byte) p w
any_byte log p w i byte may =
    ambiguous_does_not_matter log (set log i byte) p w
    (record {
      long = sym (length-set log i byte);
      only = λ j kept. sym (get_or-set_other log i j byte 0 (λ e. wrong
          (sym kept ∙ (ap (may_differ log p (turns_of (logged log) p w)) e ∙ may))));
    })
