-- `nscc_chunk` call after call: between calls the words hold what the definitions of `replay_chunks` hold, whatever the calls are, and what
-- the calls answer and take is what those say. Assumes nothing.
use mathlib.Core.Path.{◌≡◌, refl, sym, ap, subst, ◌∙◌}
use mathlib.Core.Bool.{Bool, true, ◌&&◌}
use mathlib.Core.List.{List, [], ◌∷◌, ◌++◌}
use Prim.Native.Nat.{ℕ, ◌+◌, ◌<◌}
use lib.ListN.{length, take, length-append}
use Rattle.rules.specs.Branch.{if_so, if_eq, so_yes}
use Rattle.context.specs.Context.{Context, context}
use Rattle.context.specs.declared.Controller.{Controller}
use Rattle.replay.specs.Places.{Feed, Turning, last_place, last_context}
use Rattle.replay.specs.declared.Place.{Place}
use Rattle.replay_chunks.specs.Chunks.{part_of, Chunking, untouched}
use Rattle.replay_chunks.specs.Statements.{Between, Kept, Call, answered, left, took_by, answers_by, turns_by, over_by, joined_log, answers_fed}
use Rattle.replay_chunks.specs.Statements.{turns_fed, end_fed, Ends}
use Rattle.replay_chunks.specs.declared.Carry.{Carry}
use Rattle.replay_chunks.proofs.Calls.{One, one, left_out, taken_in, either_way}
use Rattle.replay_chunks.proofs.Joined.{calls_joined}
use Rattle.replay_chunks.proofs.Tests.{chunk_place}
use Rattle.c_state.specs.Layout.{word_count, unpacked}
use Rattle.c_api.specs.Flags.{flag}
use Rattle.c_state.specs.Statements.{Machine}
use Rattle.c_api.specs.Batch.{words_then}
use Rattle.c_api.specs.Parts.{part_words, carry_from, part_ok, Chunked, chunk_called, part_then, handed_part, on_chunk_words}
use Rattle.c_api.specs.Statements.{Lent, chunk_call, chunk_left, part_stopped, part_answered, told_by, chunk_answers, chunk_took, chunk_log}
use Rattle.c_api.specs.Statements.{chunk_all, chunk_last, ChunkEnds, shared_words}
use Rattle.c_api.proofs.Machines.{Going, turns_going}
use Rattle.c_api.proofs.Parting.{part_long}
use Rattle.c_api.proofs.Stored.{none_stored, then_long, back, twice, carry_back, three_words, three_back, part_ok_lem}

-- ---- nscc_chunk: what is lent, as the definitions hold it

abbrev pub between : Lent → Between
between l =
    record {
      carry = carry_from l.part;
      piece = l.piece;
      after = context (unpacked l.words).state l.flows l.slots l.times;
    }

-- what every call finds
pub record Sound (l : Lent) : Type 0 where
  pub ok : part_ok l.part l.words ≡ true
  pub good : Kept (between l)
  pub machine : ((between l).carry.place.done ≡ 0 → ⊥) → Machine (between l).after.state
  pub first_words : take shared_words l.part ≡ three_words (between l).carry.place

-- what a call hands back in words is what the chunk is answered
pub record Matches (l : Lent) (c : Call) (x : Chunked) (r : Chunking) : Type 0 where
  pub number : x.number ≡ r.number
  pub told : told_by x.number x.part part_answered ≡ r.count
  pub answers : chunk_answers x ≡ answers_by r
  pub took : chunk_took c x ≡ took_by c r
  pub next : between (chunk_left x) ≡ left r
  pub words : x.words ≡ words_then 0 r.carry.place r.count r.after.state l.words
  pub sound : Sound (chunk_left x)

module _ (l : Lent) (c : Call) (s : Sound l) where
  abbrev b : Between
  b = between l

  abbrev r : Chunking
  r = answered b c

  abbrev o : One b c r
  o = one b c s.good

  abbrev whole : Feed
  whole = part_of b.carry b.piece c.chunk c.ended

  words_few : length l.words ≡ word_count
  words_few = (part_long l.part l.words s.ok).1

  is_handed : chunk_call l c ≡ handed_part l.part l.words r
  unfolding on_chunk_words
  is_handed = sym (so_yes (part_ok l.part l.words) _ _ _ s.ok refl)

  -- left out: all is as it was
  abbrev out : Chunking
  out = untouched 28 0 b.carry b.after b.piece c.room

  left_matches : Matches l c (handed_part l.part l.words out) out
  unfolding handed_part part_then words_then told_by if_eq
  left_matches =
      record {
        number = refl;
        told = refl;
        answers = refl;
        took = refl;
        next = refl;
        words = sym (none_stored b.carry.place 0 b.after.state l.words refl);
        sound = s;
      }

  -- taken in: what is carried, and the state, are stored
  abbrev ws : List ℕ
  ws = words_then 0 r.carry.place r.count r.after.state l.words

  abbrev made : Chunked
  made =
      chunk_called 0 (part_words r.carry r.count r.taken) r.piece ws r.after.flows r.after.slots
      r.after.times r.room

  is_made : r.number ≡ 0 → handed_part l.part l.words r ≡ made
  unfolding handed_part part_then if_eq
  is_made e =
      ap
      (λ (n : ℕ).
      chunk_called n (part_then n r.carry r.count r.taken l.part) r.piece
      (words_then n r.carry.place r.count r.after.state l.words)
      r.after.flows r.after.slots r.after.times r.room)
      e

  going : Going b.carry.place b.after
  going = (chunk_place b.carry b.after b.piece s.good, s.machine)

  -- by the turns
  abbrev ts : List Turning
  ts = turns_by b c r

  ws_are : ws ≡ words_then 0 (last_place b.carry.place ts) (length ts) (last_context b.after ts).state l.words
  ws_are =
      ap (λ (q : Place). words_then 0 q r.count r.after.state l.words) o.place
      ∙ (ap (λ (n : ℕ). words_then 0 (last_place b.carry.place ts) n r.after.state l.words) (sym o.counted)
      ∙ ap (λ (v : Context). words_then 0 (last_place b.carry.place ts) (length ts) v.state l.words) o.after)

  state_back : (unpacked ws).state ≡ r.after.state
  state_back =
      rw ws_are (back whole r.count b.carry.place b.after going l.words refl ∙ sym (ap (λ (v : Context). v.state) o.after))

  -- what is left, with what is carried and the state by name
  abbrev left_with : Carry → Controller → Between
  left_with h d =
      record { carry = h; piece = r.piece; after = context d r.after.flows r.after.slots r.after.times }

  made_next : between (chunk_left made) ≡ left r
  made_next =
      ap (λ (h : Carry). left_with h (unpacked ws).state) (carry_back r.carry r.count r.taken)
      ∙ ap (left_with r.carry) state_back

  made_machine : (r.carry.place.done ≡ 0 → ⊥) → Machine (unpacked ws).state
  made_machine some =
      let done : (last_place b.carry.place ts).done ≡ 0 → ⊥ = λ z. some (ap (λ (q : Place). q.done) o.place ∙ z) in
      let m : Machine (last_context b.after ts).state = (turns_going whole r.count b.carry.place b.after going).1 done in
      rw (state_back ∙ ap (λ (v : Context). v.state) o.after) m

  made_matches : r.number ≡ 0 → Matches l c made r
  unfolding told_by if_eq
  made_matches e =
      record {
        number = sym e;
        told = refl;
        answers = refl;
        took = refl;
        next = made_next;
        words = refl;
        sound =
            record {
              ok = part_ok_lem r.carry r.count r.taken ws
                  (then_long r.carry.place r.count r.after.state l.words words_few);
              good = subst Kept (sym made_next) o.good;
              machine = made_machine;
              first_words = three_back r.carry.place;
            };
      }

  pub matches : Matches l c (chunk_call l c) r
  matches =
      rw is_handed
      (either_way b c s.good
      (λ q. rw (left_out b c s.good q) left_matches)
      (λ q. let e = (taken_in b c s.good q).0 in rw (is_made e) (made_matches e)))

-- ---- nscc_chunk, one call after another

pub record Run (l : Lent) (cs : List Call) : Type 0 where
  pub answers : chunk_all l cs ≡ answers_fed (between l) cs
  pub log : chunk_log l cs ≡ joined_log (between l) cs
  pub last : between (chunk_last l cs) ≡ end_fed (between l) cs
  pub words :
      (chunk_last l cs).words
      ≡ words_then 0 (end_fed (between l) cs).carry.place (length (turns_fed (between l) cs)) (end_fed (between l) cs).after.state
      l.words
  pub sound : Sound (chunk_last l cs)
  pub ends : ChunkEnds l cs → Ends true (between l) cs

-- what is stored by a call and by those behind it is what one would store
fed_twice : (b : Between) (cs : List Call) → Kept b → (count : ℕ) (ws : List ℕ)
    → let e = end_fed b cs in let us = turns_fed b cs in
    words_then 0 e.carry.place (length us) e.after.state (words_then 0 b.carry.place count b.after.state ws)
    ≡ words_then 0 e.carry.place (count + length us) e.after.state ws
fed_twice b cs good count ws =
    let g = calls_joined b cs good in
    let f = part_of b.carry b.piece (joined_log b cs) true in
    rw (g.place, g.after) (rw (sym g.turns) at (twice f (length (turns_fed b cs)) b.carry.place b.after count ws))

module _ (l : Lent) (c : Call) (m : Matches l c (chunk_call l c) (answered (between l) c)) where
  abbrev then : Lent
  then = chunk_left (chunk_call l c)

  ends_first : (cs : List Call) → (ChunkEnds then cs → Ends true (between then) cs) → ChunkEnds l (c ∷ cs) → Ends true (between l) (c ∷ cs)
  ends_first [] later e = (e.0, (sym m.number ∙ e.1.0, subst (λ (n : ℕ). n < length c.room) m.told e.1.1))
  ends_first (d ∷ ds) later e = subst (λ (y : Between). Ends true y (d ∷ ds)) m.next (later e)

pub run : (l : Lent) (cs : List Call) → Sound l → Run l cs
run l [] s =
    record {
      answers = refl;
      log = refl;
      last = refl;
      words = sym (none_stored (between l).carry.place 0 (between l).after.state l.words refl);
      sound = s;
      ends = λ e. e;
    }
run l (c ∷ cs) s =
    let b = between l in
    let x = chunk_call l c in
    let r = answered b c in
    let o = one b c s.good in
    let m = matches l c s in
    let later = run (chunk_left x) cs m.sound in
    let stop : flag x.part part_stopped ≡ r.carry.place.stopped = ap (λ (d : Between). d.carry.place.stopped) m.next in
    let us = turns_fed (left r) cs in
    let e = end_fed (left r) cs in
    let counted : r.count + length us ≡ length (turns_by b c r ++ us)
    = ap (λ (n : ℕ). n + length us) (sym o.counted) ∙ sym (length-append (turns_by b c r) us) in
    record {
      answers =
          ap (λ (a : List ℕ). a ++ chunk_all (chunk_left x) cs) m.answers
          ∙ ap (λ (a : List ℕ). answers_by r ++ a) (later.answers ∙ ap (λ (d : Between). answers_fed d cs) m.next);
      log =
          ap (λ (t : List ℕ). t ++ if_so (c.ended && flag x.part part_stopped) [] (chunk_log (chunk_left x) cs)) m.took
          ∙ (ap (λ (y : Bool). took_by c r ++ if_so (c.ended && y) [] (chunk_log (chunk_left x) cs)) stop
          ∙ ap (λ (j : List ℕ). took_by c r ++ if_so (over_by c r) [] j) (later.log ∙ ap (λ (d : Between). joined_log d cs) m.next));
      last = later.last ∙ ap (λ (d : Between). end_fed d cs) m.next;
      words =
          later.words
          ∙ (ap (λ (d : Between). words_then 0 (end_fed d cs).carry.place (length (turns_fed d cs)) (end_fed d cs).after.state
          x.words) m.next
          ∙ (ap (λ (ws : List ℕ). words_then 0 e.carry.place (length us) e.after.state ws) m.words
          ∙ (fed_twice (left r) cs o.good r.count l.words
          ∙ ap (λ (n : ℕ). words_then 0 e.carry.place n e.after.state l.words) counted)));
      sound = later.sound;
      ends = ends_first l c m cs later.ends;
    }
