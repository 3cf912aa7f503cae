-- Two logs of equal length whose bytes are alike, request M-106: a record stays where all its bytes are (`parse_alike`), and an ACK stays
-- but for its service time where its other bytes are (`ack_alike`). Assumes nothing.
use mathlib.Core.Path.{◌≡◌, refl, sym, ap, ◌∙◌}
use mathlib.Core.Bool.{true}
use mathlib.Core.List.{List, [], ◌∷◌}
use Prim.Native.Nat.{ℕ, ◌+◌, ◌-◌, ◌≤◌, ◌<◌, min}
use lib.ListN.{length, get_or, take, drop, length-take, length-drop}
use lib.Seq.{ext_get_or, get_or-take, get_or-drop}
use native.Mathlib.Omega.{arith}
use Rattle.rules.specs.Branch.{if_lt, if_eq, so_yes, so_both, lt_yes, lt_no, lt_both}
use Rattle.log_bytes.specs.Little.{little_endian, number_at}
use Rattle.log_records.specs.Layout.{Row, Maker, new_data, send, ack, nack, loss, path, settings, settings_evs, table, key, key_of, look_up}
use Rattle.log_records.specs.Layout.{new_data_of, send_of, ack_of, nack_of, loss_of, path_of, read_fields, read}
use Rattle.log_records.specs.Parse.{len_at, kind_at, proper_of, check_of, whole_of, front_of, parse_at}
use Rattle.log_records.specs.Write.{row_by}
use Rattle.log_records.specs.declared.record.Whose.{Whose}
use Rattle.log_records.specs.declared.record.Whose.TheVariants.{First, Flow}
use Rattle.log_records.specs.declared.record.Record.{Record}
use Rattle.log_records.specs.declared.record.Record.TheVariants.{Ack}
use Rattle.log_records.specs.declared.parse.Parsed.{Parsed}
use Rattle.log_records.specs.declared.parse.Parsed.TheVariants.{Whole, End, Cut, Malformed}
use Rattle.log_records.proofs.Fields.{total}
use Rattle.log_records.proofs.Rows.{Each, each_map, look_each, look_two}
use Rattle.replay_report.specs.Ambiguous.{service_first, service_last}

-- the bytes from one offset up to another
abbrev pub Alike : List ℕ → List ℕ → ℕ → ℕ → Type 0
Alike bs cs from past = (i : ℕ) → from ≤ i → i < past → get_or bs i 0 ≡ get_or cs i 0

-- a record's length and kind
abbrev head_size : ℕ
head_size = 4

-- ---- numbers and fields

module _ (bs cs : List ℕ) (long : length bs ≡ length cs) where
  number_alike : (at width : ℕ) → Alike bs cs at (at + width) → number_at bs at width ≡ number_at cs at width
  unfolding number_at
  number_alike at width same =
      ap little_endian
      (ext_get_or 0 (take width (drop at bs)) (take width (drop at cs))
      (simp (length-take, length-drop) (ap (λ (n : ℕ). min width (n - at)) long))
      (λ i h.
      let near : i < width = omega (arith, length-take width (drop at bs)) in
      get_or-take width (drop at bs) i 0 near
      ∙ (get_or-drop at bs i 0 ∙ (same (at + i) (omega arith) (omega arith)
      ∙ sym (get_or-take width (drop at cs) i 0 near ∙ get_or-drop at cs i 0)))))

  fields_alike : (ws : List ℕ) (make : Maker Record ws) (at : ℕ) → Alike bs cs at (at + total ws)
      → read_fields ws make bs at ≡ read_fields ws make cs at
  fields_alike [] make at same = refl
  fields_alike (w ∷ ws) make at same =
      ap (λ (n : ℕ). read_fields ws (make n) bs (at + w)) (number_alike at w (λ i from past. same i from (omega arith)))
      ∙ fields_alike ws (make (number_at cs at w)) (at + w) (λ i from past. same i (omega arith) (omega arith))

  key_alike : Alike bs cs 0 head_size → key (kind_at bs) (len_at bs) ≡ key (kind_at cs) (len_at cs)
  key_alike same =
      ap (λ (n : ℕ). key n (len_at bs)) (number_alike 2 2 (λ i from past. same i (omega arith) past))
      ∙ ap (key (kind_at cs)) (number_alike 0 2 (λ i from past. same i from (omega arith)))

-- ---- a row's record

-- what it tells that a row's record is whole
record Told (at : ℕ) (bs : List ℕ) (x : Row) (r : Record) (next : ℕ) : Type 0 where
  is : read x bs ≡ r
  proper : proper_of r ≡ true
  past : next ≡ at + (x.len + 2)
  there : x.len + 2 ≤ length bs

no_record : {A : Type 0} {r : Record} {next : ℕ} → Malformed ≡ Whole r next → A
no_record e = let z : ◌≡◌ {A = ℕ} 0 1 = cc in absurd (let clash : ⊥ = omega arith in clash)

no_cut : {A : Type 0} {r : Record} {next : ℕ} → Cut ≡ Whole r next → A
no_cut e = let z : ◌≡◌ {A = ℕ} 0 1 = cc in absurd (let clash : ⊥ = omega arith in clash)

module _ (at : ℕ) (bs : List ℕ) (x : Row) (r : Record) (next : ℕ) where
  told : whole_of at bs x ≡ Whole r next → Told at bs x r next
  unfolding whole_of check_of
  told =
      let P : Parsed → Type 0 = λ p. p ≡ Whole r next → Told at bs x r next in
      lt_both P (length bs) (x.len + 2) Cut _ (λ _ e. no_cut e)
      (λ there.
      so_both P (proper_of (read x bs)) (Whole (read x bs) (at + (x.len + 2))) Malformed
      (λ proper e.
      let is : read x bs ≡ r = cc in
      let past : next ≡ at + (x.len + 2) = cc in
      record { is = is; proper = ap proper_of (sym is) ∙ proper; past = past; there = there })
      (λ _ e. no_record e))

  whole_of_lem : Told at bs x r next → whole_of at bs x ≡ Whole r next
  unfolding whole_of check_of
  whole_of_lem t =
      sym (lt_no (length bs) (x.len + 2) (Whole r next) Cut _ t.there
      (so_yes (proper_of (read x bs)) _ _ Malformed (ap proper_of t.is ∙ t.proper)
      (sym (ap (Whole (read x bs)) (sym t.past) ∙ ap (λ (y : Record). Whole y next) t.is))))

-- of a row and of each behind it
infixr 20 ◌&◌
◌&◌ : {A B : Type 0} → A → B → A × B
a & b = (a, b)

-- the fields of each row end where its length says
ends : Each (λ x. head_size + total x.fields ≤ x.len + 2) table
ends =
    omega arith
    & omega arith
    & omega arith
    & omega arith
    & omega arith
    & omega arith
    & omega arith
    & omega arith
    & omega arith
    & omega arith
    & omega arith
    & omega arith
    & omega arith
    & omega arith
    & tt

module _ (at : ℕ) (bs cs : List ℕ) (long : length bs ≡ length cs) (r : Record) (next : ℕ) (same : Alike bs cs head_size (next - at)) where
  row_alike : (x : Row) → head_size + total x.fields ≤ x.len + 2 → whole_of at bs x ≡ Whole r next → whole_of at cs x ≡ Whole r next
  row_alike x fits e =
      let t = told at bs x r next e in
      whole_of_lem at cs x r next
      (record {
        is = sym (fields_alike bs cs long x.fields x.make head_size (λ i from past. same i from (omega (arith, t.past)))) ∙ t.is;
        proper = t.proper;
        past = t.past;
        there = omega (arith, t.there);
      })

  front_alike : Alike bs cs 0 head_size → front_of at bs ≡ Whole r next → front_of at cs ≡ Whole r next
  unfolding front_of
  front_alike head =
      let k : ℕ = key (kind_at bs) (len_at bs) in
      lt_both (λ (p : Parsed). p ≡ Whole r next → front_of at cs ≡ Whole r next) (length bs) 4 Cut _ (λ _ e. no_cut e)
      (λ four e.
      sym (lt_no (length cs) 4 (Whole r next) Cut _ (omega arith)
      (sym (ap (λ (n : ℕ). look_up table n (whole_of at cs) Malformed) (sym (key_alike bs cs long head))
      ∙ look_two (λ (p q : Parsed). p ≡ Whole r next → q ≡ Whole r next) k (whole_of at bs) (whole_of at cs) Malformed Malformed table
      (each_map (λ x. head_size + total x.fields ≤ x.len + 2)
      (λ x. k ≡ key_of x → whole_of at bs x ≡ Whole r next → whole_of at cs x ≡ Whole r next)
      (λ x fits _. row_alike x fits) table ends)
      (λ e. e) e))))

-- ---- an ACK

-- the row of an ACK's record: of the old kind, or with a flow number
abbrev ack_row : Whose → Row
ack_row whose = row_by whose ack ack_of

module _ (at : ℕ) (bs : List ℕ) (time cum map trigger count service ev flags next : ℕ) where
  abbrev heard : Whose → Record
  heard whose = Ack time whose cum trigger count service ev flags map

  -- the ACK's key stands there, and its row is whole
  abbrev Acked : Whose → Type 0
  Acked whose = (key (kind_at bs) (len_at bs) ≡ key_of (ack_row whose)) × Told at bs (ack_row whose) (heard whose) next

  not_acked : (whose : Whose) (x : Row) → (read x bs ≡ heard whose → ◌≡◌ {A = ℕ} 0 1) → whole_of at bs x ≡ Whole (heard whose) next
      → Acked whose
  not_acked whose x other e = absurd (let wrong : ⊥ = omega (arith, other (told at bs x (heard whose) next e).is) in wrong)

  -- each row of the table but its own makes another record
  rows_told : (whose : Whose)
      → Each (λ x. key (kind_at bs) (len_at bs) ≡ key_of x → whole_of at bs x ≡ Whole (heard whose) next → Acked whose) table
  rows_told First =
      (λ _. not_acked First new_data (λ e. cc))
      & (λ _. not_acked First send (λ e. cc))
      & (λ is e. (is, told at bs ack (heard First) next e))
      & (λ _. not_acked First nack (λ e. cc))
      & (λ _. not_acked First loss (λ e. cc))
      & (λ _. not_acked First path (λ e. cc))
      & (λ _. not_acked First new_data_of (λ e. cc))
      & (λ _. not_acked First send_of (λ e. cc))
      & (λ _. not_acked First ack_of (λ e. cc))
      & (λ _. not_acked First nack_of (λ e. cc))
      & (λ _. not_acked First loss_of (λ e. cc))
      & (λ _. not_acked First path_of (λ e. cc))
      & (λ _. not_acked First settings (λ e. cc))
      & (λ _. not_acked First settings_evs (λ e. cc))
      & tt
  rows_told (Flow flow) =
      (λ _. not_acked (Flow flow) new_data (λ e. cc))
      & (λ _. not_acked (Flow flow) send (λ e. cc))
      & (λ _. not_acked (Flow flow) ack (λ e. cc))
      & (λ _. not_acked (Flow flow) nack (λ e. cc))
      & (λ _. not_acked (Flow flow) loss (λ e. cc))
      & (λ _. not_acked (Flow flow) path (λ e. cc))
      & (λ _. not_acked (Flow flow) new_data_of (λ e. cc))
      & (λ _. not_acked (Flow flow) send_of (λ e. cc))
      & (λ is e. (is, told at bs ack_of (heard (Flow flow)) next e))
      & (λ _. not_acked (Flow flow) nack_of (λ e. cc))
      & (λ _. not_acked (Flow flow) loss_of (λ e. cc))
      & (λ _. not_acked (Flow flow) path_of (λ e. cc))
      & (λ _. not_acked (Flow flow) settings (λ e. cc))
      & (λ _. not_acked (Flow flow) settings_evs (λ e. cc))
      & tt

  ack_told : (whose : Whose) → front_of at bs ≡ Whole (heard whose) next → Acked whose
  unfolding front_of
  ack_told whose =
      let P : Parsed → Type 0 = λ p. p ≡ Whole (heard whose) next → Acked whose in
      lt_both P (length bs) 4 Cut _ (λ _ e. no_cut e)
      (λ four. look_each P (key (kind_at bs) (len_at bs)) (whole_of at bs) Malformed table (rows_told whose) (λ e. no_record e))

  -- its service time lies in it
  ack_long : (whose : Whose) → Acked whose → at + service_last whose < next
  ack_long First a = omega (arith, a.1.past)
  ack_long (Flow flow) a = omega (arith, a.1.past)

  module _ (cs : List ℕ) (long : length bs ≡ length cs) where
    -- alike but for the service time
    abbrev Unserved : Whose → Type 0
    Unserved whose = Alike bs cs 0 (service_first whose) × Alike bs cs (service_last whose + 1) (next - at)

    abbrev other : Whose → Record
    other whose = Ack time whose cum trigger count (number_at cs (service_first whose) 4) ev flags map

    -- a field before the service time, and one behind it
    field_before : (whose : Whose) → Unserved whose → (from width : ℕ) → from + width ≤ service_first whose
        → number_at bs from width ≡ number_at cs from width
    field_before whose u from width h = number_alike bs cs long from width (λ i a b. u.0 i (omega arith) (omega arith))

    field_behind : (whose : Whose) → Unserved whose → (from width : ℕ) → service_last whose < from → at + (from + width) ≤ next
        → number_at bs from width ≡ number_at cs from width
    field_behind whose u from width h l = number_alike bs cs long from width (λ i a b. u.1 i (omega arith) (omega arith))

    -- its fields in the table's order
    told_other : (whose : Whose) → Unserved whose → Told at bs (ack_row whose) (heard whose) next
        → Told at cs (ack_row whose) (other whose) next
    unfolding proper_of
    told_other First u t =
        let is : read ack bs ≡ heard First = t.is in
        let same = field_before First u in
        let later = field_behind First u in
        record {
          is = cc (
            same 4 8 (omega arith),
            same 12 4 (omega arith),
            same 16 8 (omega arith),
            same 24 4 (omega arith),
            same 28 4 (omega arith),
            later 36 2 (omega arith) (omega (arith, t.past)),
            later 38 1 (omega arith) (omega (arith, t.past)),
          );
          proper = t.proper;
          past = t.past;
          there = omega (arith, t.there);
        }
    told_other (Flow flow) u t =
        let is : read ack_of bs ≡ heard (Flow flow) = t.is in
        let same = field_before (Flow flow) u in
        let later = field_behind (Flow flow) u in
        record {
          is = cc (
            same 4 8 (omega arith),
            same 12 1 (omega arith),
            same 13 4 (omega arith),
            same 17 8 (omega arith),
            same 25 4 (omega arith),
            same 29 4 (omega arith),
            later 37 2 (omega arith) (omega (arith, t.past)),
            later 39 1 (omega arith) (omega (arith, t.past)),
          );
          proper = t.proper;
          past = t.past;
          there = omega (arith, t.there);
        }

    -- its row is found by its key
    ack_row_lem : (whose : Whose) → look_up table (key_of (ack_row whose)) (whole_of at cs) Malformed ≡ whole_of at cs (ack_row whose)
    unfolding look_up if_eq
    ack_row_lem First = refl
    ack_row_lem (Flow flow) = refl

    front_other : (whose : Whose) → Unserved whose → front_of at bs ≡ Whole (heard whose) next → front_of at cs ≡ Whole (other whose) next
    unfolding front_of
    front_other whose u e =
        let a = ack_told whose e in
        let t = told_other whose u a.1 in
        sym (lt_no (length cs) 4 (Whole (other whose) next) Cut _ (omega (arith, t.there, t.past, ack_long whose a))
        (sym (ap (λ (n : ℕ). look_up table n (whole_of at cs) Malformed)
        (sym (key_alike bs cs long (λ i from past. u.0 i from (omega arith))) ∙ a.0)
        ∙ (ack_row_lem whose ∙ whole_of_lem at cs (ack_row whose) (other whose) next t))))

-- ---- in a log

module _ (log : List ℕ) (at : ℕ) (r : Record) (next : ℕ) where
  parse_front : parse_at log at ≡ Whole r next → (at < length log) × (front_of at (drop at log) ≡ Whole r next)
  unfolding parse_at
  parse_front =
      lt_both (λ (p : Parsed). p ≡ Whole r next → (at < length log) × (front_of at (drop at log) ≡ Whole r next)) at (length log) _ End
      (λ h e. (h, e))
      (λ _ e. let z : ◌≡◌ {A = ℕ} 0 1 = cc in absurd (let wrong : ⊥ = omega arith in wrong))

  front_parse : at < length log → front_of at (drop at log) ≡ Whole r next → parse_at log at ≡ Whole r next
  unfolding parse_at
  front_parse h e = sym (lt_yes at (length log) (Whole r next) _ End h (sym e))

module _ (log other : List ℕ) (at : ℕ) (long : length log ≡ length other) where
  drop_long : length (drop at log) ≡ length (drop at other)
  drop_long = simp length-drop (ap (λ (n : ℕ). n - at) long)

  drop_alike : (i : ℕ) → get_or log (at + i) 0 ≡ get_or other (at + i) 0 → get_or (drop at log) i 0 ≡ get_or (drop at other) i 0
  drop_alike i e = get_or-drop at log i 0 ∙ (e ∙ sym (get_or-drop at other i 0))

  -- where all bytes from an offset on are alike the same stands there
  pub rest_alike : ((i : ℕ) → at ≤ i → get_or log i 0 ≡ get_or other i 0) → parse_at log at ≡ parse_at other at
  unfolding parse_at
  rest_alike same =
      let rest : drop at log ≡ drop at other = ext_get_or 0 (drop at log) (drop at other) drop_long
      (λ i _. drop_alike i (same (at + i) (omega arith))) in
      ap (λ (n : ℕ). if_lt at n (front_of at (drop at log)) End) long ∙ ap (λ (l : List ℕ). if_lt at (length other) (front_of at l) End) rest

  -- a record whose bytes are alike is the same
  pub parse_alike : (r : Record) (next : ℕ) → Alike log other at (at + head_size) → Alike log other at next
      → parse_at log at ≡ Whole r next → parse_at other at ≡ Whole r next
  parse_alike r next head same e =
      let f = parse_front log at r next e in
      front_parse other at r next (omega (arith, f.0))
      (front_alike at (drop at log) (drop at other) drop_long r next (λ i _ h. drop_alike i (same (at + i) (omega arith) (omega arith)))
      (λ i _ h. drop_alike i (head (at + i) (omega arith) (omega arith))) f.1)

  -- an ACK whose bytes are alike but for its service time is the same but for that
  module _ (time : ℕ) (whose : Whose) (cum map trigger count service ev flags next : ℕ)
      (e : parse_at log at ≡ Whole (Ack time whose cum trigger count service ev flags map) next) where
    pub ack_past : at + service_last whose < next
    ack_past =
        ack_long at (drop at log) time cum map trigger count service ev flags next whose
        (ack_told at (drop at log) time cum map trigger count service ev flags next whose (parse_front log at _ next e).1)

    pub ack_alike : Alike log other at (at + service_first whose) → Alike log other (at + service_last whose + 1) next
        → parse_at other at ≡ Whole (Ack time whose cum trigger count (number_at (drop at other) (service_first whose) 4) ev flags map) next
    ack_alike before behind =
        let f = parse_front log at (Ack time whose cum trigger count service ev flags map) next e in
        front_parse other at _ next (omega (arith, f.0))
        (front_other at (drop at log) time cum map trigger count service ev flags next (drop at other) drop_long whose (
          λ i _ h. drop_alike i (before (at + i) (omega arith) (omega arith)),
          λ i h l. drop_alike i (behind (at + i) (omega arith) (omega arith)),
        ) f.1)
