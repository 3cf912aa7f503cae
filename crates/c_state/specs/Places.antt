-- Where each number of a state stands among its words: the order of include/nscc.h.
-- Assumes nothing.
use Rattle.std.specs.Prelude.{ℕ}

-- the settings: the twelve numbers in the order of document 01
abbrev pub mtu : ℕ
mtu = 0

abbrev pub maxwnd : ℕ
maxwnd = 1

abbrev pub config_base_rtt : ℕ
config_base_rtt = 2

abbrev pub target_qdelay : ℕ
target_qdelay = 3

abbrev pub fi : ℕ
fi = 4

abbrev pub eta : ℕ
eta = 5

abbrev pub alpha : ℕ
alpha = 6

abbrev pub gamma : ℕ
gamma = 7

abbrev pub max_md_jump : ℕ
max_md_jump = 8

abbrev pub adjust_period : ℕ
adjust_period = 9

abbrev pub adjust_bytes : ℕ
adjust_bytes = 10

abbrev pub qa_threshold : ℕ
qa_threshold = 11

-- the first PSN, and the flag that disables quick adapt
abbrev pub first_psn : ℕ
first_psn = 12

abbrev pub quick_adapt_off : ℕ
quick_adapt_off = 13

-- the totals, over all flows; in-flight has 2^24 added
abbrev pub backlog : ℕ
backlog = 14

abbrev pub flying : ℕ
flying = 15

abbrev pub marked : ℕ
marked = 16

abbrev pub marked_bytes : ℕ
marked_bytes = 17

abbrev pub in_flight : ℕ
in_flight = 18

-- the window
abbrev pub cwnd : ℕ
cwnd = 19

abbrev pub base : ℕ
base = 20

abbrev pub avg : ℕ
avg = 21

abbrev pub inc_bytes : ℕ
inc_bytes = 22

abbrev pub received : ℕ
received = 23

abbrev pub achieved : ℕ
achieved = 24

abbrev pub ignored : ℕ
ignored = 25

abbrev pub bytes_to_ignore : ℕ
bytes_to_ignore = 26

abbrev pub fi_count : ℕ
fi_count = 27

abbrev pub fast : ℕ
fast = 28

abbrev pub trigger : ℕ
trigger = 29

abbrev pub qa_end : ℕ
qa_end = 30

abbrev pub last_adjust : ℕ
last_adjust = 31

abbrev pub last_dec : ℕ
last_dec = 32

-- the clock, the path cursor and the state's name
abbrev pub clock : ℕ
clock = 33

abbrev pub cursor : ℕ
cursor = 34

abbrev pub phase : ℕ
phase = 35

-- the number of EVs, request M-110
abbrev pub ev_count : ℕ
ev_count = 36

-- the held turn, request M-108
abbrev pub turn : ℕ
turn = 37
