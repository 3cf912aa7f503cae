-- A replay of a log in chunks over lent words, request M-104: what it holds between chunks, the state's words, the flows', and an answer a
-- record.
-- Assumes nothing.
use Rattle.std.specs.Prelude.{Bool, ◌&&◌, List, [], ◌∷◌, ℕ, ltb, eqb, length}
use Rattle.rules.specs.Branch.{if_so, if_eq}
use Rattle.ledger.specs.Memory.{Memory}
use Rattle.context.specs.Context.{context}
use Rattle.replay_chunks.specs.Chunks.{Chunking, chunk_of}
use Rattle.replay_chunks.specs.declared.Carry.{Carry}
use Rattle.c_state.specs.Layout.{word_count, word, unpacked}
use Rattle.c_api.specs.Flags.{bit}
use Rattle.c_api.specs.Batch.{place_from, words_then}

abbrev pub part_count : ℕ
part_count = 6

-- "the piece and its length, the records done, the offset, whether it has stopped": the offset of the next record, the records
-- done, whether replay has stopped, the piece's length; and how many answers the last call gave, and how many bytes of its chunk it
-- took. The piece has a room of its own
abbrev pub part_words : Carry → ℕ → ℕ → List ℕ
part_words h count taken = h.place.at ∷ h.place.done ∷ bit h.place.stopped ∷ h.length ∷ count ∷ taken ∷ []

abbrev pub carry_from : List ℕ → Carry
carry_from ws = record { length = word ws 3; place = place_from ws }

-- the lengths are right, and the third word of what is carried is 0 or 1
unfoldable pub part_ok : List ℕ → List ℕ → Bool
part_ok part ws = eqb (length part) part_count && eqb (length ws) word_count && ltb (word part 2) 2

-- everything that a call hands back
pub record Chunked : Type 0 where
  pub number : ℕ
  pub part : List ℕ
  pub piece : List ℕ
  pub words : List ℕ
  pub flows : List ℕ
  pub slots : Memory
  pub times : List ℕ
  pub answers : List ℕ

abbrev pub chunk_called : ℕ → List ℕ → List ℕ → List ℕ → List ℕ → Memory → List ℕ → List ℕ → Chunked
chunk_called n p piece ws fs r t room = record {
  number = n;
  part = p;
  piece = piece;
  words = ws;
  flows = fs;
  slots = r;
  times = t;
  answers = room;
}

-- the words of what is carried once a chunk was answered: where it was refused, as they were
unfoldable pub part_then : ℕ → Carry → ℕ → ℕ → List ℕ → List ℕ
part_then number h count taken part = if_eq number 0 (part_words h count taken) part

-- 2 or 28, with everything as it was; or what the chunk gives. The state's words are stored as a replay stores them
unfoldable pub handed_part : List ℕ → List ℕ → Chunking → Chunked
handed_part part ws b =
    chunk_called b.number (part_then b.number b.carry b.count b.taken part) b.piece
    (words_then b.number b.carry.place b.count b.after.state ws)
    b.after.flows b.after.slots b.after.times b.room

-- words that are no state's are a state of zeros, which number 2 refuses past record 1
unfoldable pub on_chunk_words : List ℕ → Bool → List ℕ → List ℕ → List ℕ → List ℕ → Memory → List ℕ → List ℕ → Chunked
on_chunk_words chunk ended part piece ws fs r t answers =
    if_so (part_ok part ws)
    (handed_part part ws (chunk_of (carry_from part) (context (unpacked ws).state fs r t) piece chunk ended answers))
    (chunk_called 2 part piece ws fs r t answers)
