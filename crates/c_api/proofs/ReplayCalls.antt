-- `nscc_replay` call after call, once for each of some rooms: the answers are those of as many turns as the
-- rooms have words. Assumes nothing.
use mathlib.Core.Path.{◌≡◌, refl, sym, ap, subst, ◌∙◌}
use mathlib.Core.Bool.{true}
use mathlib.Core.List.{List, [], ◌∷◌, ◌++◌}
use Prim.Native.Nat.{ℕ, ◌+◌}
use native.Mathlib.Omega.{arith}
use lib.ListN.{length, take, drop, length-append, length-take, take-append-drop}
use lib.Seq.{sets, take-add, drop-append_seam}
use Rattle.rules.specs.Branch.{if_eq, so_yes}
use Rattle.context.specs.Context.{Context, context}
use Rattle.context.specs.declared.Controller.{Controller}
use Rattle.replay.specs.Places.{Feed, logged, sound_place, Turning, turns_of, last_place, last_context}
use Rattle.replay.specs.Batches.{words_of, fill_room_of, batch_of}
use Rattle.replay.specs.declared.Place.{Place}
use Rattle.replay.proofs.Progress.{turns_split, place_append, context_append}
use Rattle.replay_chunks.proofs.Calls.{words_first}
use Rattle.replay_chunks.proofs.Joins.{words_append}
use Rattle.c_state.specs.Layout.{unpacked}
use Rattle.c_api.specs.Batch.{place_words, place_from, lent_ok, Replayed, replay_called, place_then, words_then, handed, on_replay_words}
use Rattle.c_api.specs.Statements.{Placed, replay_call, replay_left, told_by, replay_answers, replay_all, replay_last, rooms_long}
use Rattle.c_api.specs.Statements.{shared_words}
use Rattle.c_api.proofs.Handing.{lent_long}
use Rattle.c_api.proofs.Machines.{Going, turns_going}
use Rattle.c_api.proofs.Stored.{none_stored, then_long, back, twice, place_back, three_words, place_ok}

-- the first turns, and then the next of those that are left
turns_add : (f : Feed) (p : Place) (w : Context) (n k : ℕ)
    → let ts = take n (turns_of f p w) in take (n + k) (turns_of f p w) ≡ ts ++ take k (turns_of f (last_place p ts) (last_context w ts))
turns_add f p w n k =
    let all = turns_of f p w in
    let ts = take n all in
    let next = turns_of f (last_place p ts) (last_context w ts) in
    let left : drop n all ≡ next
    = sym (drop-append_seam ts (drop n all)) ∙ (ap (drop (length ts)) (take-append-drop n all ∙ turns_split n f p w)
    ∙ drop-append_seam ts next) in
    take-add n k all ∙ ap (λ (l : List Turning). ts ++ take k l) left

-- what is lent stands for a place and a context
pub record Stands (a : Placed) (p : Place) (w : Context) : Type 0 where
  pub ok : lent_ok a.place a.words ≡ true
  pub place : place_from a.place ≡ p
  pub context_is : context (unpacked a.words).state a.flows a.slots a.times ≡ w
  pub going : Going p w
  pub first_words : take shared_words a.place ≡ three_words p

module _ (log : List ℕ) where
  abbrev f : Feed
  f = logged log

  module _ (a : Placed) (p : Place) (w : Context) (s : Stands a p w) (room : List ℕ) where
    abbrev first : List Turning
    first = take (length room) (turns_of f p w)

    abbrev q : Place
    q = last_place p first

    abbrev v : Context
    v = last_context w first

    abbrev stored : List ℕ
    stored = words_then 0 q (length first) v.state a.words

    abbrev gave : Replayed
    gave = replay_called 0 (place_words q (length first)) stored v.flows v.slots v.times (sets room 0 (words_of first))

    gave_filled : gave ≡ handed a.place a.words (fill_room_of f p w room)
    unfolding handed fill_room_of place_then if_eq
    gave_filled = refl

    gave_is : replay_call log a room ≡ gave
    unfolding on_replay_words batch_of
    gave_is =
        sym
        (so_yes (lent_ok a.place a.words) gave
        (handed a.place a.words (batch_of f (place_from a.place)
        (context (unpacked a.words).state a.flows a.slots a.times) room)) _ s.ok
        (gave_filled
        ∙ ap (handed a.place a.words)
        (so_yes (sound_place p w) (fill_room_of f p w room) (fill_room_of f p w room) _ s.going.0 refl
        ∙ (ap (λ (y : Place). batch_of f y w room) (sym s.place)
        ∙ ap (λ (y : Context). batch_of f (place_from a.place) y room) (sym s.context_is)))))

    gave_answers : replay_answers gave ≡ words_of first
    unfolding told_by if_eq
    gave_answers = words_first room first (omega (arith, length-take (length room) (turns_of f p w)))

    gave_stands : Stands (replay_left gave) q v
    gave_stands =
        let state : (unpacked stored).state ≡ v.state
        = back f (length room) p w s.going a.words (ap (λ (y : Context). y.state) s.context_is) in
        record {
          ok = place_ok q (length first) stored (then_long q (length first) v.state a.words
              (lent_long a.place a.words s.ok).1);
          place = place_back q (length first);
          context_is = ap (λ (d : Controller). context d v.flows v.slots v.times) state;
          going = turns_going f (length room) p w s.going;
          first_words = refl;
        }

  pub record Replays (a : Placed) (p : Place) (w : Context) (rooms : List (List ℕ)) (ts : List Turning) : Type 0 where
    pub answers : replay_all log a rooms ≡ words_of ts
    pub words : (replay_last log a rooms).words ≡ words_then 0 (last_place p ts) (length ts) (last_context w ts).state a.words
    pub stands : Stands (replay_last log a rooms) (last_place p ts) (last_context w ts)

  -- AS MANY TURNS AS THE ROOMS HAVE WORDS
  pub replays : (a : Placed) (p : Place) (w : Context) (rooms : List (List ℕ)) → Stands a p w
      → Replays a p w rooms (take (rooms_long rooms) (turns_of f p w))
  unfolding words_of last_place last_context
  replays a p w [] s =
      record {
        answers = refl;
        words = sym (none_stored p 0 w.state a.words refl);
        stands = s;
      }
  replays a p w (room ∷ rooms) s =
      let ts = first a p w s room in
      let q = last_place p ts in
      let v = last_context w ts in
      let x = gave a p w s room in
      let us = take (rooms_long rooms) (turns_of f q v) in
      let later = replays (replay_left x) q v rooms (gave_stands a p w s room) in
      let is = gave_is a p w s room in
      let joined : Replays a p w (room ∷ rooms) (ts ++ us)
      = record {
        answers =
            ap (λ (y : Replayed). replay_answers y ++ replay_all log (replay_left y) rooms) is
            ∙ (ap (λ (l : List ℕ). l ++ replay_all log (replay_left x) rooms) (gave_answers a p w s room)
            ∙ (ap (λ (l : List ℕ). words_of ts ++ l) later.answers ∙ sym (words_append ts us)));
        words =
            ap (λ (y : Replayed). (replay_last log (replay_left y) rooms).words) is
            ∙ (later.words
            ∙ (twice f (rooms_long rooms) q v (length ts) a.words
            ∙ rw (place_append p ts us, context_append w ts us, length-append ts us)));
        stands =
            rw (place_append p ts us, context_append w ts us)
            (subst (λ (y : Replayed). Stands (replay_last log (replay_left y) rooms) (last_place q us) (last_context v us)) (sym is)
            later.stands);
      } in
      subst (Replays a p w (room ∷ rooms)) (sym (turns_add f p w (length room) (rooms_long rooms))) joined
