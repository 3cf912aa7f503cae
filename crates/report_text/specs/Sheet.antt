-- The text of a run report, request M-105: a line for each figure, in ASCII.
-- Assumes nothing.
use Rattle.std.specs.Prelude.{List, [], ◌∷◌, ◌++◌, ℕ, zero, suc, ◌+◌, ◌-◌, ◌*◌, length, get_or}
use Rattle.std.proofs.lemmas.List.Edits.{sets}
use Rattle.rules.specs.Branch.{if_lt, if_eq}
use Rattle.text.specs.Decimal.{newline, column_most, column}
use Rattle.report_text.specs.Places.{answers, kinds_at, least_at, greatest_at, buckets_at, buckets, new_at, again_at, figure_count}

-- ---- the words that lines start with

-- accepted
abbrev pub accepted_label : List ℕ
accepted_label = 97 ∷ 99 ∷ 99 ∷ 101 ∷ 112 ∷ 116 ∷ 101 ∷ 100 ∷ []

-- refused
abbrev pub refused_label : List ℕ
refused_label = 114 ∷ 101 ∷ 102 ∷ 117 ∷ 115 ∷ 101 ∷ 100 ∷ []

-- taken
abbrev pub taken_label : List ℕ
taken_label = 116 ∷ 97 ∷ 107 ∷ 101 ∷ 110 ∷ []

-- cut
abbrev pub cut_label : List ℕ
cut_label = 99 ∷ 117 ∷ 116 ∷ []

-- gone
abbrev pub gone_label : List ℕ
gone_label = 103 ∷ 111 ∷ 110 ∷ 101 ∷ []

-- ambiguous
abbrev pub ambiguous_label : List ℕ
ambiguous_label = 97 ∷ 109 ∷ 98 ∷ 105 ∷ 103 ∷ 117 ∷ 111 ∷ 117 ∷ 115 ∷ []

-- not-positive
abbrev pub not_positive_label : List ℕ
not_positive_label = 110 ∷ 111 ∷ 116 ∷ 45 ∷ 112 ∷ 111 ∷ 115 ∷ 105 ∷ 116 ∷ 105 ∷ 118 ∷ 101 ∷ []

-- least
abbrev pub least_label : List ℕ
least_label = 108 ∷ 101 ∷ 97 ∷ 115 ∷ 116 ∷ []

-- greatest
abbrev pub greatest_label : List ℕ
greatest_label = 103 ∷ 114 ∷ 101 ∷ 97 ∷ 116 ∷ 101 ∷ 115 ∷ 116 ∷ []

-- bucket
abbrev pub bucket_label : List ℕ
bucket_label = 98 ∷ 117 ∷ 99 ∷ 107 ∷ 101 ∷ 116 ∷ []

-- new
abbrev pub new_label : List ℕ
new_label = 110 ∷ 101 ∷ 119 ∷ []

-- again
abbrev pub again_label : List ℕ
again_label = 97 ∷ 103 ∷ 97 ∷ 105 ∷ 110 ∷ []

-- ---- lines

-- "accepted 5": a label and a figure
unfoldable pub figure_line : List ℕ → ℕ → List ℕ
figure_line label n = label ++ (column n ++ (newline ∷ []))

-- "refused 8 1": a label, a number and how many there are of it; no line where there is none
unfoldable pub count_line : List ℕ → ℕ → ℕ → List ℕ
count_line label number n = if_eq n 0 [] (label ++ (column number ++ (column n ++ (newline ∷ []))))

-- the lines of k counts; the first has this number, and stands at this place of the figures
unfoldable pub count_lines : List ℕ → ℕ → ℕ → List ℕ → ℕ → List ℕ
count_lines label number place figures zero = []
count_lines label number place figures (suc k) =
    count_lines label number place figures k ++ count_line label (number + k) (get_or figures (place + k) 0)

-- ---- the report

-- "records accepted, and refused by number"
unfoldable pub answer_lines : List ℕ → List ℕ
answer_lines figures = figure_line accepted_label (get_or figures 0 0) ++ count_lines refused_label 1 1 figures (answers - 1)

-- "samples by the five kinds of M-103", whose numbers start at 1
unfoldable pub kind_lines : List ℕ → List ℕ
kind_lines figures =
    figure_line taken_label (get_or figures (kinds_at + 1) 0)
    ++ (figure_line cut_label (get_or figures (kinds_at + 2) 0)
    ++ (figure_line gone_label (get_or figures (kinds_at + 3) 0)
    ++ (figure_line ambiguous_label (get_or figures (kinds_at + 4) 0)
    ++ figure_line not_positive_label (get_or figures (kinds_at + 5) 0))))

-- "least and greatest sample (0 if none), and how many samples fell in each of 32 buckets"
unfoldable pub sample_lines : List ℕ → List ℕ
sample_lines figures =
    figure_line least_label (get_or figures least_at 0)
    ++ (figure_line greatest_label (get_or figures greatest_at 0) ++ count_lines bucket_label 0 buckets_at figures buckets)

-- "the bytes sent new and sent again"
unfoldable pub byte_lines : List ℕ → List ℕ
byte_lines figures = figure_line new_label (get_or figures new_at 0) ++ figure_line again_label (get_or figures again_at 0)

unfoldable pub sheet_text : List ℕ → List ℕ
sheet_text figures = answer_lines figures ++ (kind_lines figures ++ (sample_lines figures ++ byte_lines figures))

-- ---- how long it can be

-- the longest label is not-positive
abbrev pub label_most : ℕ
label_most = length not_positive_label

-- a label, two columns and the line's end: no line is longer
abbrev pub line_most : ℕ
line_most = label_most + 2 * column_most + 1

-- a line for each figure of a part of the report
abbrev pub answers_most : ℕ
answers_most = answers * line_most

abbrev pub kinds_most : ℕ
kinds_most = 5 * line_most

abbrev pub samples_most : ℕ
samples_most = (2 + buckets) * line_most

abbrev pub bytes_most : ℕ
bytes_most = 2 * line_most

-- and of the whole: no report is longer
abbrev pub sheet_most : ℕ
sheet_most = figure_count * line_most

-- the report at a buffer's front, where there are as many figures and as much room; else nothing
unfoldable pub sheeted : List ℕ → List ℕ → ℕ × List ℕ
sheeted figures out =
    if_eq (length figures) figure_count
    (if_lt (length out) sheet_most (0, out) (length (sheet_text figures), sets out 0 (sheet_text figures)))
    (0, out)
