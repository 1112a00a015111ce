-- The programs and records of document 01's "Runs to check by", and more of the same kind, byte by byte: a header, then a transition or an item to a
-- line; and texts, character by character.
use Prim.Native.Nat.{ℕ, ◌+◌}
use Prim.Native.Char.{code}
use Prim.Native.String.{String, [] as []ˢ, ◌∷◌ as ◌∷ˢ◌}
use mathlib.Core.List.{List, [], ◌∷◌, ◌++◌}
use Rattle.model.specs.Listings.{join}

-- The bytes of a text, in which `\n` is a line feed.
unfoldable pub text : String → List ℕ
text []ˢ = []
text (c ∷ˢ s) = code c ∷ text s

-- "The neighbour program, N = 2: store rank into cell 0; write cell 0 to cell 1 of rank 3 − own rank on queue 0; bar; load cell 1."
unfoldable pub neighbour : List ℕ
unfolding join
neighbour =
    join
    ((2 ∷ 2 ∷ 1 ∷ 1 ∷ 5 ∷ 4 ∷ []) ∷
    (6 ∷ 2 ∷ 0 ∷ 1 ∷ 0 ∷ 0 ∷ 0 ∷ 2 ∷ []) ∷
    (30 ∷ 6 ∷ 1 ∷ 2 ∷ 0 ∷ 0 ∷ 0 ∷ 0x11 ∷ 0 ∷ 0 ∷ 3 ∷ 2 ∷ 0 ∷ 0 ∷ 1 ∷ 0 ∷ 0 ∷ 0 ∷ []) ∷
    (0 ∷ 9 ∷ 2 ∷ 3 ∷ []) ∷
    (3 ∷ 1 ∷ 3 ∷ 4 ∷ 0 ∷ 0 ∷ 0 ∷ 1 ∷ []) ∷ [])

-- A record of no items.
unfoldable pub no_items : List ℕ
no_items = 0 ∷ 0 ∷ []

-- The first eight items of b and c: store 1, store 2, write 1, write 2, popa 1, popa 2, bar 1, bar 2.
unfoldable pub exchange : List ℕ
unfolding join
exchange =
    join
    ((27 ∷ 2 ∷ 1 ∷ 0 ∷ 1 ∷ 0 ∷ 0 ∷ []) ∷
    (27 ∷ 2 ∷ 2 ∷ 0 ∷ 2 ∷ 0 ∷ 0 ∷ []) ∷
    (3 ∷ 6 ∷ 1 ∷ 1 ∷ []) ∷
    (3 ∷ 6 ∷ 2 ∷ 1 ∷ []) ∷
    (29 ∷ 7 ∷ 1 ∷ 0 ∷ 1 ∷ 0 ∷ 0 ∷ []) ∷
    (29 ∷ 7 ∷ 2 ∷ 0 ∷ 2 ∷ 0 ∷ 0 ∷ []) ∷
    (3 ∷ 9 ∷ 1 ∷ 2 ∷ []) ∷
    (3 ∷ 9 ∷ 2 ∷ 2 ∷ []) ∷ [])

-- load 1 (value v), popb 1, popb 2.
unfoldable pub load_of : ℕ → List ℕ
load_of v = 59 ∷ 1 ∷ 1 ∷ 3 ∷ 1 ∷ 0 ∷ 1 ∷ 0 ∷ v ∷ []

unfoldable pub deliveries : List ℕ
unfolding join
deliveries = join ((29 ∷ 8 ∷ 1 ∷ 0 ∷ 2 ∷ 0 ∷ 1 ∷ []) ∷ (29 ∷ 8 ∷ 2 ∷ 0 ∷ 1 ∷ 0 ∷ 1 ∷ []) ∷ [])

-- b: ".. load 1 (value 0), popb 1, popb 2"; c: "as b with the load last (value 2)".
unfoldable pub late_after : (loaded : ℕ) → List ℕ
unfolding exchange load_of deliveries
late_after loaded = 0 ∷ 11 ∷ (exchange ++ (load_of loaded ++ deliveries))

unfoldable pub late_delivery : List ℕ
unfolding late_after
late_delivery = late_after 0

unfoldable pub delivery_first : List ℕ
unfolding exchange load_of deliveries
delivery_first = 0 ∷ 11 ∷ (exchange ++ (deliveries ++ load_of 2))

-- N = 1: one transition from state 0 to state 1, in a machine of so many cells.
unfoldable pub alone : (cells : ℕ) → (transition : List ℕ) → List ℕ
alone cells transition = 1 ∷ cells ∷ 1 ∷ 1 ∷ 2 ∷ 1 ∷ transition

-- d: a write of cell 0 to cell 0 of the own rank.
unfoldable pub self_copy : List ℕ
unfolding alone
self_copy = alone 1 (30 ∷ 6 ∷ 0 ∷ 1 ∷ 0 ∷ 0 ∷ 0 ∷ 2 ∷ 0 ∷ 0 ∷ 0 ∷ 0 ∷ 0 ∷ 0 ∷ [])

-- Its write, popa and popb.
unfoldable pub write_item : List ℕ
write_item = 3 ∷ 6 ∷ 1 ∷ 0 ∷ []

unfoldable pub pop_item : (kind cell : ℕ) → List ℕ
pop_item kind cell = 29 ∷ kind ∷ 1 ∷ 0 ∷ 1 ∷ 0 ∷ cell ∷ []

-- e: "N = 1: write from cell 0 to 1, store to cell 0" (the value 5); and the same with more ranks, each of which writes to itself.
unfoldable pub copy_then_store_by : (ranks : ℕ) → List ℕ
unfolding join
copy_then_store_by ranks =
    join
    ((ranks ∷ 2 ∷ 1 ∷ 1 ∷ 3 ∷ 2 ∷ []) ∷
    (30 ∷ 6 ∷ 0 ∷ 1 ∷ 0 ∷ 0 ∷ 0 ∷ 2 ∷ 0 ∷ 0 ∷ 1 ∷ 0 ∷ 0 ∷ 0 ∷ []) ∷
    (6 ∷ 2 ∷ 1 ∷ 2 ∷ 0 ∷ 0 ∷ 0 ∷ 0 ∷ 0 ∷ 5 ∷ []) ∷ [])

unfoldable pub copy_then_store : List ℕ
unfolding copy_then_store_by
copy_then_store = copy_then_store_by 1

unfoldable pub store_item : (transition cell : ℕ) → List ℕ
store_item transition cell = 27 ∷ 2 ∷ 1 ∷ transition ∷ 1 ∷ 0 ∷ cell ∷ []

-- i: assume of a constant.
unfoldable pub assume_of : ℕ → List ℕ
unfolding alone
assume_of n = alone 1 (2 ∷ 4 ∷ 0 ∷ 1 ∷ 0 ∷ 0 ∷ n ∷ [])

-- k: A = 64, a store of 1 to a cell.
unfoldable pub store_to : (cell : ℕ) → List ℕ
unfolding alone
store_to cell = alone 64 (6 ∷ 2 ∷ 0 ∷ 1 ∷ 0 ∷ 0 ∷ cell ∷ 0 ∷ 0 ∷ 1 ∷ [])

-- l: a store of an expression to cell 0, with its value in the item.
unfoldable pub store_of : (expression : List ℕ) → List ℕ
unfolding alone
store_of e = alone 1 (6 ∷ 2 ∷ 0 ∷ 1 ∷ 0 ∷ 0 ∷ 0 ∷ e)

unfoldable pub value_item : (high low : ℕ) → List ℕ
value_item high low = 0 ∷ 1 ∷ 59 ∷ 2 ∷ 1 ∷ 0 ∷ 1 ∷ 0 ∷ 0 ∷ high ∷ low ∷ []

-- A constant, a register, an operator over two expressions, and 65,535 + 1, which has no value.
unfoldable pub word : (high low : ℕ) → List ℕ
word high low = 0 ∷ high ∷ low ∷ []

unfoldable pub register : (index : ℕ) → List ℕ
register index = 1 ∷ index ∷ []

unfoldable pub over : (token : ℕ) → (first second : List ℕ) → List ℕ
over token first second = token ∷ (first ++ second)

unfoldable pub past_range : List ℕ
unfolding word over
past_range = over 0x10 (word 255 255) (word 0 1)

-- N = 3, a cell each: store of N + 10 × own rank to cell 0.
unfoldable pub store_by_rank : List ℕ
unfolding word over
store_by_rank = 3 ∷ 1 ∷ 1 ∷ 1 ∷ 2 ∷ 1 ∷ 6 ∷ 2 ∷ 0 ∷ 1 ∷ (word 0 0 ++ over 0x10 (3 ∷ []) (over 0x12 (word 0 10) (2 ∷ [])))

-- N = 2, two cells and two registers each, in one state: register 1 takes register 1 + 5; register 0 takes cell 0; store of register 1 − register 0 to
-- cell 1.
unfoldable pub count_up : List ℕ
unfolding join word register over
count_up =
    join
    ((2 ∷ 2 ∷ 2 ∷ 1 ∷ 1 ∷ 3 ∷ []) ∷
    (3 ∷ 3 ∷ 0 ∷ 0 ∷ 1 ∷ over 0x10 (register 1) (word 0 5)) ∷
    (3 ∷ 1 ∷ 0 ∷ 0 ∷ 0 ∷ word 0 0) ∷
    (6 ∷ 2 ∷ 0 ∷ 0 ∷ (word 0 1 ++ over 0x11 (register 1) (register 0))) ∷ [])

-- assign 1, assign 2, assign 1, load 1 (value 3), store 1 (value 7), store 2 (value 5).
unfoldable pub counted_up : List ℕ
unfolding join
counted_up =
    0 ∷ 6 ∷
    join
    ((3 ∷ 3 ∷ 1 ∷ 0 ∷ []) ∷
    (3 ∷ 3 ∷ 2 ∷ 0 ∷ []) ∷
    (3 ∷ 3 ∷ 1 ∷ 0 ∷ []) ∷
    (59 ∷ 1 ∷ 1 ∷ 1 ∷ 1 ∷ 0 ∷ 0 ∷ 0 ∷ 3 ∷ []) ∷
    (59 ∷ 2 ∷ 1 ∷ 2 ∷ 1 ∷ 0 ∷ 1 ∷ 0 ∷ 7 ∷ []) ∷
    (59 ∷ 2 ∷ 2 ∷ 2 ∷ 2 ∷ 0 ∷ 1 ∷ 0 ∷ 5 ∷ []) ∷ [])

-- N = 2, two cells each: register 0 takes N; assume that register 0 equals 2; read cell 0 of rank 3 − own rank into cell 1. Then rank 1's record of it.
unfoldable pub ask_other : List ℕ
unfolding join word register over
ask_other =
    join
    ((2 ∷ 2 ∷ 1 ∷ 1 ∷ 4 ∷ 3 ∷ []) ∷
    (3 ∷ 3 ∷ 0 ∷ 1 ∷ 0 ∷ 3 ∷ []) ∷
    (2 ∷ 4 ∷ 1 ∷ 2 ∷ over 0x13 (register 0) (word 0 2)) ∷
    (30 ∷ 5 ∷ 2 ∷ 3 ∷ join (word 0 1 ∷ over 0x11 (word 0 3) (2 ∷ []) ∷ word 0 0 ∷ word 0 0 ∷ [])) ∷ [])

unfoldable pub other_asked : List ℕ
unfolding join
other_asked =
    0 ∷ 5 ∷
    join
    ((3 ∷ 3 ∷ 1 ∷ 0 ∷ []) ∷
    (3 ∷ 4 ∷ 1 ∷ 1 ∷ []) ∷
    (3 ∷ 5 ∷ 1 ∷ 2 ∷ []) ∷
    (29 ∷ 7 ∷ 1 ∷ 0 ∷ 2 ∷ 0 ∷ 0 ∷ []) ∷
    (29 ∷ 8 ∷ 1 ∷ 0 ∷ 1 ∷ 0 ∷ 1 ∷ []) ∷ [])

-- One transition of each kind, from a state, with its expressions; and an item of each kind that takes it.
unfoldable pub assume_from : (state : ℕ) → (expression : List ℕ) → List ℕ
unfolding alone
assume_from state e = alone 1 (2 ∷ 4 ∷ state ∷ 1 ∷ e)

unfoldable pub into_register : (kind : ℕ) → (expression : List ℕ) → List ℕ
unfolding alone
into_register kind e = alone 1 (3 ∷ kind ∷ 0 ∷ 1 ∷ 0 ∷ e)

unfoldable pub store_both : (cell value : List ℕ) → List ℕ
unfolding alone
store_both cell value = alone 1 (6 ∷ 2 ∷ 0 ∷ 1 ∷ (cell ++ value))

unfoldable pub transfer_of : (kind : ℕ) → (own rank cell queue : List ℕ) → List ℕ
unfolding alone
transfer_of kind own rank cell queue = alone 1 (30 ∷ kind ∷ 0 ∷ 1 ∷ (own ++ (rank ++ (cell ++ queue))))

unfoldable pub access_item : (kind : ℕ) → List ℕ
access_item kind = 0 ∷ 1 ∷ 27 ∷ kind ∷ 1 ∷ 0 ∷ 1 ∷ 0 ∷ 0 ∷ []

unfoldable pub bare_item : (kind : ℕ) → List ℕ
bare_item kind = 0 ∷ 1 ∷ 3 ∷ kind ∷ 1 ∷ 0 ∷ []

-- A sum of ones: so many sums, then a one more; the last one is `last`.
unfoldable pub sums : (count : ℕ) → (last : List ℕ) → List ℕ
sums ℕ.zero last = last
sums (ℕ.suc count) last = 0x10 ∷ 2 ∷ sums count last

-- Two transfers of one rank and queue with a store between them: write cell 0 to 1, store to cell 2, write cell 1 to 3. The second fetches cell 1
-- before the first delivers there.
unfoldable pub two_transfers : List ℕ
unfolding join
two_transfers =
    join
    ((1 ∷ 4 ∷ 1 ∷ 1 ∷ 4 ∷ 3 ∷ []) ∷
    (30 ∷ 6 ∷ 0 ∷ 1 ∷ 0 ∷ 0 ∷ 0 ∷ 2 ∷ 0 ∷ 0 ∷ 1 ∷ 0 ∷ 0 ∷ 0 ∷ []) ∷
    (6 ∷ 2 ∷ 1 ∷ 2 ∷ 0 ∷ 0 ∷ 2 ∷ 0 ∷ 0 ∷ 1 ∷ []) ∷
    (30 ∷ 6 ∷ 2 ∷ 3 ∷ 0 ∷ 0 ∷ 1 ∷ 2 ∷ 0 ∷ 0 ∷ 3 ∷ 0 ∷ 0 ∷ 0 ∷ []) ∷ [])

unfoldable pub overtaking : List ℕ
unfolding join pop_item store_item
overtaking =
    0 ∷ 7 ∷
    join
    ((3 ∷ 6 ∷ 1 ∷ 0 ∷ []) ∷
    store_item 1 2 ∷
    (3 ∷ 6 ∷ 1 ∷ 2 ∷ []) ∷
    pop_item 7 0 ∷
    pop_item 7 1 ∷
    pop_item 8 1 ∷
    pop_item 8 3 ∷ [])

-- N = 2, two cells each, in one state: write cell 0 to cell 1 of rank 2; load cell 1; store rank into cell 0. Rank 1's transfer is delivered after rank 2
-- has loaded that cell twice, and rank 2 goes on.
unfoldable pub copy_and_load : List ℕ
unfolding join
copy_and_load =
    join
    ((2 ∷ 2 ∷ 1 ∷ 1 ∷ 1 ∷ 3 ∷ []) ∷
    (30 ∷ 6 ∷ 0 ∷ 0 ∷ 0 ∷ 0 ∷ 0 ∷ 0 ∷ 0 ∷ 2 ∷ 0 ∷ 0 ∷ 1 ∷ 0 ∷ 0 ∷ 0 ∷ []) ∷
    (3 ∷ 1 ∷ 0 ∷ 0 ∷ 0 ∷ 0 ∷ 0 ∷ 1 ∷ []) ∷
    (6 ∷ 2 ∷ 0 ∷ 0 ∷ 0 ∷ 0 ∷ 0 ∷ 2 ∷ []) ∷ [])

unfoldable pub loaded_first : List ℕ
unfolding join write_item pop_item
loaded_first =
    0 ∷ 6 ∷
    join
    (write_item ∷
    (27 ∷ 1 ∷ 2 ∷ 1 ∷ 2 ∷ 0 ∷ 1 ∷ []) ∷
    (27 ∷ 1 ∷ 2 ∷ 1 ∷ 2 ∷ 0 ∷ 1 ∷ []) ∷
    (27 ∷ 2 ∷ 2 ∷ 2 ∷ 2 ∷ 0 ∷ 0 ∷ []) ∷
    pop_item 7 0 ∷
    (29 ∷ 8 ∷ 1 ∷ 0 ∷ 2 ∷ 0 ∷ 1 ∷ []) ∷ [])

-- Document 02, #111. N = 1, in one state: write from cell 0 to 1, store of 5 to cell 0, write from cell 1 to 0. Then rounds of the first two, the
-- store before the transfer is fetched: each is a ring.
unfoldable pub copy_or_store : List ℕ
unfolding join
copy_or_store =
    join
    ((1 ∷ 2 ∷ 1 ∷ 1 ∷ 1 ∷ 3 ∷ []) ∷
    (30 ∷ 6 ∷ 0 ∷ 0 ∷ 0 ∷ 0 ∷ 0 ∷ 2 ∷ 0 ∷ 0 ∷ 1 ∷ 0 ∷ 0 ∷ 0 ∷ []) ∷
    (6 ∷ 2 ∷ 0 ∷ 0 ∷ 0 ∷ 0 ∷ 0 ∷ 0 ∷ 0 ∷ 5 ∷ []) ∷
    (30 ∷ 6 ∷ 0 ∷ 0 ∷ 0 ∷ 0 ∷ 1 ∷ 2 ∷ 0 ∷ 0 ∷ 0 ∷ 0 ∷ 0 ∷ 0 ∷ []) ∷ [])

-- Two stores in the round, or one.
unfoldable pub long_round : List ℕ
unfolding join write_item store_item pop_item
long_round = join (write_item ∷ store_item 1 0 ∷ store_item 1 0 ∷ pop_item 7 0 ∷ pop_item 8 1 ∷ [])

unfoldable pub short_round : List ℕ
unfolding join write_item store_item pop_item
short_round = join (write_item ∷ store_item 1 0 ∷ pop_item 7 0 ∷ pop_item 8 1 ∷ [])

-- Ranks 1 and 2 in turn, each as in e: its store comes between its write and its popa.
unfoldable pub both_store_first : List ℕ
unfolding join write_item store_item pop_item
both_store_first =
    0 ∷ 8 ∷
    join
    (write_item ∷
    (3 ∷ 6 ∷ 2 ∷ 0 ∷ []) ∷
    store_item 1 0 ∷
    (27 ∷ 2 ∷ 2 ∷ 1 ∷ 2 ∷ 0 ∷ 0 ∷ []) ∷
    pop_item 7 0 ∷
    (29 ∷ 7 ∷ 2 ∷ 0 ∷ 2 ∷ 0 ∷ 0 ∷ []) ∷
    pop_item 8 1 ∷
    (29 ∷ 8 ∷ 2 ∷ 0 ∷ 2 ∷ 0 ∷ 1 ∷ []) ∷ [])

-- Document 02, #107. N = 1: so many bars from state 0 to state 0, then a store of 7 to cell 0, with a count of two bytes.
unfoldable pub bars : ℕ → List ℕ
bars ℕ.zero = []
bars (ℕ.suc count) = 0 ∷ 9 ∷ 0 ∷ 0 ∷ bars count

unfoldable pub bars_then_store : (high low count : ℕ) → List ℕ
unfolding bars
bars_then_store high low count =
    1 ∷ 1 ∷ 1 ∷ 1 ∷ 1 ∷ 255 ∷ high ∷ low ∷ (bars count ++ (6 ∷ 2 ∷ 0 ∷ 0 ∷ 0 ∷ 0 ∷ 0 ∷ 0 ∷ 0 ∷ 7 ∷ []))

-- A record of one store with a value, and with a high byte behind that; and of one assume with a high byte.
unfoldable pub short_store : (transition value : ℕ) → List ℕ
short_store transition value = 0 ∷ 1 ∷ 59 ∷ 2 ∷ 1 ∷ transition ∷ 1 ∷ 0 ∷ 0 ∷ 0 ∷ value ∷ []

unfoldable pub long_store : (low place_rank value high : ℕ) → List ℕ
long_store low place_rank value high = 0 ∷ 1 ∷ 187 ∷ 2 ∷ 1 ∷ low ∷ place_rank ∷ 0 ∷ 0 ∷ 0 ∷ value ∷ high ∷ []

unfoldable pub long_assume : (rank low high : ℕ) → List ℕ
long_assume rank low high = 0 ∷ 1 ∷ 131 ∷ 4 ∷ rank ∷ low ∷ high ∷ []

-- Document 02, #105. N ranks with a cell each, and one bar from state 0 to state 1; and so many bars, ranks rising from a first one on.
unfoldable pub bar_alone : (ranks : ℕ) → List ℕ
bar_alone ranks = ranks ∷ 1 ∷ 1 ∷ 1 ∷ 2 ∷ 1 ∷ 0 ∷ 9 ∷ 0 ∷ 1 ∷ []

unfoldable pub bar_items : (first count : ℕ) → List ℕ
bar_items first ℕ.zero = []
bar_items first (ℕ.suc count) = 3 ∷ 9 ∷ first ∷ 0 ∷ bar_items (first + 1) count

unfoldable pub bar_record : (count : ℕ) → List ℕ
unfolding bar_items
bar_record count = 0 ∷ count ∷ bar_items 1 count

-- N ranks with a cell each: store rank into cell 0; write cell 0 to cell 0 of rank 25 − own rank.
unfoldable pub far_copy : (ranks : ℕ) → List ℕ
unfolding join
far_copy ranks =
    join
    ((ranks ∷ 1 ∷ 1 ∷ 1 ∷ 3 ∷ 2 ∷ []) ∷
    (6 ∷ 2 ∷ 0 ∷ 1 ∷ 0 ∷ 0 ∷ 0 ∷ 2 ∷ []) ∷
    (30 ∷ 6 ∷ 1 ∷ 2 ∷ 0 ∷ 0 ∷ 0 ∷ 0x11 ∷ 0 ∷ 0 ∷ 25 ∷ 2 ∷ 0 ∷ 0 ∷ 0 ∷ 0 ∷ 0 ∷ 0 ∷ []) ∷ [])

-- A rank's store and write; its popa and, at the other rank, popb, which name no remote rank or the other.
unfoldable pub far_commands : (rank : ℕ) → List ℕ
far_commands rank = 27 ∷ 2 ∷ rank ∷ 0 ∷ rank ∷ 0 ∷ 0 ∷ 3 ∷ 6 ∷ rank ∷ 1 ∷ []

unfoldable pub far_pops : (rank other : ℕ) → List ℕ
far_pops rank other = 29 ∷ 7 ∷ rank ∷ 0 ∷ rank ∷ 0 ∷ 0 ∷ 29 ∷ 8 ∷ rank ∷ 0 ∷ other ∷ 0 ∷ 0 ∷ []

unfoldable pub far_pops_for : (rank other : ℕ) → List ℕ
far_pops_for rank other = 93 ∷ 7 ∷ rank ∷ 0 ∷ rank ∷ 0 ∷ 0 ∷ other ∷ 93 ∷ 8 ∷ rank ∷ 0 ∷ other ∷ 0 ∷ 0 ∷ other ∷ []

unfoldable pub far_record : (rank other : ℕ) → List ℕ
unfolding far_commands far_pops
far_record rank other = 0 ∷ 4 ∷ (far_commands rank ++ far_pops rank other)

-- Document 02, #108. N = 3, two cells each: write cell 0 to cell 0 of rank 2; read cell 0 of rank 3 into cell 0; write cell 1 to cell 1 of rank 2.
-- So the remote ranks are 2, 3, 2, all on queue 0.
unfoldable pub neighbours : List ℕ
unfolding join
neighbours =
    join
    ((3 ∷ 2 ∷ 1 ∷ 1 ∷ 4 ∷ 3 ∷ []) ∷
    (30 ∷ 6 ∷ 0 ∷ 1 ∷ 0 ∷ 0 ∷ 0 ∷ 0 ∷ 0 ∷ 2 ∷ 0 ∷ 0 ∷ 0 ∷ 0 ∷ 0 ∷ 0 ∷ []) ∷
    (30 ∷ 5 ∷ 1 ∷ 2 ∷ 0 ∷ 0 ∷ 0 ∷ 0 ∷ 0 ∷ 3 ∷ 0 ∷ 0 ∷ 0 ∷ 0 ∷ 0 ∷ 0 ∷ []) ∷
    (30 ∷ 6 ∷ 2 ∷ 3 ∷ 0 ∷ 0 ∷ 1 ∷ 0 ∷ 0 ∷ 2 ∷ 0 ∷ 0 ∷ 1 ∷ 0 ∷ 0 ∷ 0 ∷ []) ∷ [])

-- Rank 1's first two commands, and its third.
unfoldable pub two_asked : List ℕ
two_asked = 3 ∷ 6 ∷ 1 ∷ 0 ∷ 3 ∷ 5 ∷ 1 ∷ 1 ∷ []

unfoldable pub third_asked : List ℕ
third_asked = 3 ∷ 6 ∷ 1 ∷ 2 ∷ []

-- A pop of rank 1 that names no remote rank, and one that names a rank.
unfoldable pub pop_any : (kind place_rank cell : ℕ) → List ℕ
pop_any kind place_rank cell = 29 ∷ kind ∷ 1 ∷ 0 ∷ place_rank ∷ 0 ∷ cell ∷ []

unfoldable pub pop_for : (kind place_rank cell remote : ℕ) → List ℕ
pop_for kind place_rank cell remote = 93 ∷ kind ∷ 1 ∷ 0 ∷ place_rank ∷ 0 ∷ cell ∷ remote ∷ []

-- Starts: a rank's map, whose first and last bytes these are, with the values that it lists; no reading at all; and 2,314 in cell 1 of rank 1 of 2.
unfoldable pub readings : (first last : ℕ) → (values : List ℕ) → List ℕ
readings first last values = first ∷ 0 ∷ 0 ∷ 0 ∷ 0 ∷ 0 ∷ 0 ∷ last ∷ values

unfoldable pub no_readings : List ℕ
unfolding readings
no_readings = readings 0 0 []

unfoldable pub gauge_start : List ℕ
unfolding readings no_readings
gauge_start = readings 0 2 (9 ∷ 10 ∷ []) ++ no_readings
