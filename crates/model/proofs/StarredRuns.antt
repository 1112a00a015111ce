-- The starred runs of document 01, a run for each refusal and each of its "Mistakes that look sound", rows that tell each definition from its neighbours,
-- and the forms and refusals that document 02's requests brought, as one table in sections. Expected answers were worked out by hand from the papers. A
-- theorem for each section, and one for the table, says that the definitions give each of them.
use Rattle.model.specs.declared.Verdict.TheVariants.{Order, Ring}
use Rattle.std.specs.Prelude.{Ok, Err}
use Prim.Native.Nat.{ℕ, ◌/◌, ◌%◌}
use mathlib.Core.Path.{◌≡◌, refl, sym, ◌∙◌, ap₂}
use mathlib.Core.List.{List, [], ◌∷◌, ◌++◌, map, map-append}
use lib.ListN.{replicate}
use Rattle.model.specs.Choice.{Each, all, one}
use Rattle.model.specs.Listings.{join}
use Rattle.model.proofs.Samples.{text, neighbour, no_items, late_after, late_delivery, delivery_first, alone, self_copy, write_item, pop_item, store_item}
use Rattle.model.proofs.Samples.{copy_then_store_by, copy_then_store, both_store_first, assume_of, store_to, store_of, value_item, sums, store_by_rank}
use Rattle.model.proofs.Samples.{count_up, counted_up, ask_other, other_asked, two_transfers, overtaking, copy_and_load, loaded_first}
use Rattle.model.proofs.Samples.{copy_or_store, long_round, short_round, bars_then_store, short_store, long_store, long_assume, bar_alone, bar_record}
use Rattle.model.proofs.Samples.{far_copy, far_commands, far_pops_for, far_record, neighbours, two_asked, third_asked, pop_any, pop_for}
use Rattle.model.proofs.Samples.{word, over, past_range, assume_from, into_register, store_both, transfer_of, access_item, bare_item}
use Rattle.model.proofs.Samples.{readings, no_readings, gauge_start}
use Rattle.model.proofs.Rows.{Row, reply, writes, reads, begins, begins_bytes, recalls, recalls_bytes, lent, nines, refusal}
use Rattle.model.proofs.Rows.{order_from, order_row, ring_from, ring_row, entry_row, refused_with_from, refused_with, refused_from, refused_row}
use Rattle.model.proofs.Rows.{listing_with, listing_from, listing_row, no_listing_row, filled_with, filled, not_filled, number_row, no_number_row}

-- A store of an expression's value to cell 0, with that value in the item.
stored_row : (expression : List ℕ) → (value : ℕ) → Row
unfolding store_of value_item order_row
stored_row e value = order_row (store_of e) (value_item (value / 256) (value % 256)) (0 ∷ []) (value ∷ [])

-- What document 01 prints under a and b.
order0 : List ℕ
unfolding text
order0 = text "order 0\n"

late_listing : List ℕ
unfolding text
late_listing =
    text "ring 3\ngroup 3 write 2 3\ngroup 4 bar 0 6\ngroup 5 load 1 8\ncell 1 0 1\ncell 1 1 2\ncell 2 0 2\ncell 2 1 1\n"

refused_line10 : List ℕ
unfolding text
refused_line10 = text "refused 1 0\n"

-- The listing of rank 16's copy to rank 9; and that of rank 1's read from rank 2, which holds 7.
far_listing : List ℕ
unfolding text
far_listing = text "order 2\ngroup 0 store 16 0\ngroup 1 write 16 1\ncell 9 0 16\ncell 16 0 16\n"

asked_listing : List ℕ
unfolding text
asked_listing = text "order 3\ngroup 0 assign 1 0\ngroup 1 assume 1 1\ngroup 2 read 1 2\ncell 1 1 7\ncell 2 0 7\n"

-- The readers: what is refused of program, record and slip bytes, at places that tell neighbouring readings apart.
pub reading_rows : List Row
unfolding neighbour no_items alone store_of sums refused_row filled_with filled not_filled nines stored_row
reading_rows =
    -- 1: no byte at all; a transition cut off in its last expression; a byte left over
    refused_row [] [] 1 0 ∷
    refused_row (1 ∷ 1 ∷ 1 ∷ 1 ∷ 2 ∷ 1 ∷ 2 ∷ 4 ∷ 0 ∷ 1 ∷ 0 ∷ 0 ∷ []) no_items 1 12 ∷
    refused_row (1 ∷ 1 ∷ 1 ∷ 1 ∷ 1 ∷ 0 ∷ 7 ∷ 7 ∷ []) no_items 1 6 ∷
    -- 2: a header number before what is missing after it; a from state; a register of a load; one in an expression
    refused_row (0 ∷ []) [] 2 0 ∷
    refused_row (17 ∷ 1 ∷ []) [] 2 0 ∷
    refused_row (1 ∷ 65 ∷ []) [] 2 1 ∷
    refused_row (1 ∷ 1 ∷ 1 ∷ 1 ∷ 1 ∷ 129 ∷ []) [] 2 5 ∷
    refused_row (alone 1 (0 ∷ 9 ∷ 2 ∷ 0 ∷ [])) no_items 2 8 ∷
    refused_row (alone 1 (0 ∷ 9 ∷ 0 ∷ 2 ∷ [])) no_items 2 9 ∷
    refused_row (alone 1 (3 ∷ 1 ∷ 0 ∷ 1 ∷ 1 ∷ 2 ∷ [])) no_items 2 10 ∷
    refused_row (store_of (1 ∷ 1 ∷ [])) no_items 2 14 ∷
    -- 3: an unknown kind before its map; a map that is not its kind's; an unknown token; the sixteenth token, and none where it is missing
    refused_row (alone 1 (1 ∷ 7 ∷ 9 ∷ [])) no_items 3 7 ∷
    refused_row (alone 1 (1 ∷ 9 ∷ 9 ∷ [])) no_items 3 6 ∷
    refused_row (store_of (4 ∷ [])) no_items 3 13 ∷
    stored_row (sums 7 (2 ∷ [])) 8 ∷
    refused_row (store_of (sums 7 (0x10 ∷ 2 ∷ 2 ∷ []))) no_items 3 28 ∷
    refused_row (store_of (sums 7 (0x10 ∷ []))) no_items 1 28 ∷
    -- 4: no count; an item cut off in its place; a byte left over
    refused_row neighbour (0 ∷ []) 4 1 ∷
    refused_row neighbour (0 ∷ 1 ∷ 27 ∷ 2 ∷ 1 ∷ 0 ∷ 1 ∷ 0 ∷ []) 4 8 ∷
    refused_row neighbour (0 ∷ 0 ∷ 0 ∷ []) 4 2 ∷
    -- 5: 1,025 items before the missing ones; a rank, a transition, a queue, a place rank before its cell is read, a place cell
    refused_row neighbour (4 ∷ 1 ∷ []) 5 0 ∷
    refused_row neighbour (0 ∷ 1 ∷ 3 ∷ 6 ∷ 3 ∷ 1 ∷ []) 5 4 ∷
    refused_row neighbour (0 ∷ 1 ∷ 3 ∷ 6 ∷ 1 ∷ 4 ∷ []) 5 5 ∷
    refused_row neighbour (0 ∷ 1 ∷ 29 ∷ 7 ∷ 1 ∷ 1 ∷ []) 5 5 ∷
    refused_row neighbour (0 ∷ 1 ∷ 27 ∷ 2 ∷ 1 ∷ 0 ∷ 0 ∷ []) 5 6 ∷
    refused_row neighbour (0 ∷ 1 ∷ 27 ∷ 2 ∷ 1 ∷ 0 ∷ 1 ∷ 0 ∷ 2 ∷ []) 5 7 ∷
    -- 6: an unknown kind before its map; a map that is not among its kind's
    refused_row neighbour (0 ∷ 1 ∷ 99 ∷ 10 ∷ []) 6 3 ∷
    refused_row neighbour (0 ∷ 1 ∷ 27 ∷ 6 ∷ []) 6 2 ∷
    -- the slip read: 0 for a rank without a bit; 16, then 15
    filled (reads 3 (5 ∷ 0 ∷ 4 ∷ 4 ∷ 0 ∷ []) (nines 4)) (4 ∷ 0 ∷ 1_024 ∷ []) ∷
    not_filled (reads 0 (0 ∷ []) (nines 1)) 1 16 0 ∷
    not_filled (reads 17 (0 ∷ 0 ∷ []) (nines 17)) 17 16 0 ∷
    not_filled (reads 2 [] (nines 2)) 2 16 0 ∷
    not_filled (reads 2 (4 ∷ 0 ∷ 1 ∷ []) (nines 2)) 2 16 0 ∷
    not_filled (reads 2 (1 ∷ 0 ∷ 0 ∷ []) (nines 2)) 2 16 1 ∷
    not_filled (reads 2 (3 ∷ 0 ∷ 1 ∷ 4 ∷ 1 ∷ []) (nines 2)) 2 16 3 ∷
    not_filled (reads 2 (1 ∷ 0 ∷ []) (nines 2)) 2 16 2 ∷
    not_filled (reads 2 (1 ∷ 0 ∷ 1 ∷ 0 ∷ []) (nines 1)) 1 16 3 ∷
    filled_with 0 (reads 2 (1 ∷ 0 ∷ 1 ∷ []) (nines 2)) (1 ∷ 0 ∷ []) ∷
    not_filled (reads 2 (1 ∷ 0 ∷ 1 ∷ []) (nines 1)) 1 15 2 ∷ []

-- The replay: what it refuses, and the values that it finds.
pub replay_rows : List Row
unfolding neighbour self_copy write_item pop_item copy_then_store store_item assume_of store_to store_of value_item order_row refused_row
replay_rows =
    -- f* a write alone: 13 at 1
    refused_row self_copy (0 ∷ 1 ∷ write_item) 13 1 ∷
    -- g* popa first: 10 at 0
    refused_row self_copy (0 ∷ 1 ∷ pop_item 7 0) 10 0 ∷
    -- h* write, popb: 10 at 1
    refused_row self_copy (0 ∷ 2 ∷ (write_item ++ pop_item 8 0)) 10 1 ∷
    -- i* assume of 0: 9 at 0
    refused_row (assume_of 0) (0 ∷ 1 ∷ 3 ∷ 4 ∷ 1 ∷ 0 ∷ []) 9 0 ∷
    -- j* bar of rank 2 first: 12 at 0
    refused_row neighbour (0 ∷ 1 ∷ 3 ∷ 9 ∷ 2 ∷ 2 ∷ []) 12 0 ∷
    -- k* A = 64: store to cell 63 accepted; to cell 64, the item naming cell 63, gives 8
    order_row (store_to 63) (0 ∷ 1 ∷ store_item 0 63) (0 ∷ []) (replicate 63 0 ++ 1 ∷ []) ∷
    refused_row (store_to 64) (0 ∷ 1 ∷ store_item 0 63) 8 0 ∷
    -- l* 65,535 + 1 and 0 − 1, which document 01 gave 0 and 65,535: "Run l now refuses"
    refused_row (store_of (0x10 ∷ 0 ∷ 255 ∷ 255 ∷ 0 ∷ 0 ∷ 1 ∷ [])) (value_item 0 0) 18 0 ∷
    refused_row (store_of (0x11 ∷ 0 ∷ 0 ∷ 0 ∷ 0 ∷ 0 ∷ 1 ∷ [])) (value_item 255 255) 18 0 ∷
    -- 7: not from the rank's state; of another kind
    refused_row neighbour (0 ∷ 1 ∷ 3 ∷ 6 ∷ 1 ∷ 1 ∷ []) 7 0 ∷
    refused_row neighbour (0 ∷ 1 ∷ 3 ∷ 3 ∷ 1 ∷ 0 ∷ []) 7 0 ∷
    -- 11: another place, or another value than the replay's; 10 comes before it
    refused_row neighbour (0 ∷ 1 ∷ 27 ∷ 2 ∷ 1 ∷ 0 ∷ 2 ∷ 0 ∷ 0 ∷ []) 11 0 ∷
    refused_row (store_of (0 ∷ 0 ∷ 3 ∷ [])) (value_item 0 4) 11 0 ∷
    refused_row self_copy (0 ∷ 1 ∷ 61 ∷ 7 ∷ 1 ∷ 0 ∷ 1 ∷ 0 ∷ 0 ∷ 0 ∷ 1 ∷ []) 10 0 ∷
    -- 11: "Fetching at issue and not at popa" would deliver 0 and not the 5 that is stored before the popa
    refused_row copy_then_store
    (0 ∷ 4 ∷ (write_item ++ (store_item 1 0 ++ (pop_item 7 0 ++ (61 ∷ 8 ∷ 1 ∷ 0 ∷ 1 ∷ 0 ∷ 1 ∷ 0 ∷ 0 ∷ []))))) 11 3 ∷
    -- 12: another item in an open row, before its 10; an open row at the end
    refused_row neighbour (0 ∷ 4 ∷ (store_item 0 0 ++ (3 ∷ 6 ∷ 1 ∷ 1 ∷ 3 ∷ 9 ∷ 1 ∷ 2 ∷ pop_item 8 1))) 12 3 ∷
    refused_row neighbour (0 ∷ 3 ∷ (store_item 0 0 ++ (3 ∷ 6 ∷ 1 ∷ 1 ∷ 3 ∷ 9 ∷ 1 ∷ 2 ∷ []))) 12 3 ∷
    -- 13: a request is left, or a delivery; "a barrier that empties queues" would leave none
    refused_row self_copy (0 ∷ 2 ∷ (write_item ++ pop_item 7 0)) 13 2 ∷
    refused_row neighbour
    (0 ∷ 6 ∷
    (store_item 0 0 ++
    (27 ∷ 2 ∷ 2 ∷ 0 ∷ 2 ∷ 0 ∷ 0 ∷ 3 ∷ 6 ∷ 1 ∷ 1 ∷ 3 ∷ 6 ∷ 2 ∷ 1 ∷ 3 ∷ 9 ∷ 1 ∷ 2 ∷ 3 ∷ 9 ∷ 2 ∷ 2 ∷ []))) 13 6 ∷ []

-- Values: what each token gives (document 01, "Expressions"), and what a register holds.
pub value_rows : List Row
unfolding word over store_by_rank count_up counted_up readings no_readings stored_row order_row order_from
value_rows =
    -- "13 and 14 give 1 or 0": 256 equals 256, and not 0, whose low byte is the same; 255 is less than 256, and 256 less than neither 256 nor 255
    stored_row (over 0x13 (word 1 0) (word 1 0)) 1 ∷
    stored_row (over 0x13 (word 1 0) (word 0 0)) 0 ∷
    stored_row (over 0x14 (word 0 255) (word 1 0)) 1 ∷
    stored_row (over 0x14 (word 1 0) (word 1 0)) 0 ∷
    stored_row (over 0x14 (word 1 0) (word 0 255)) 0 ∷
    -- "02 own rank, 03 N": rank 2 of 3 stores 3 + 10 × 2
    order_row store_by_rank (0 ∷ 1 ∷ 59 ∷ 2 ∷ 2 ∷ 0 ∷ 2 ∷ 0 ∷ 0 ∷ 0 ∷ 23 ∷ []) (0 ∷ []) (0 ∷ 23 ∷ 0 ∷ []) ∷
    -- "Expressions use the rank's registers before the step", and registers are held per rank: rank 1 counts up to 10, loads 3 and stores 10 − 3; rank 2
    -- counts up to 5, loads nothing and stores 5 − 0
    order_from count_up (readings 0 1 (0 ∷ 3 ∷ []) ++ no_readings) counted_up (0 ∷ 1 ∷ 2 ∷ 3 ∷ 4 ∷ 5 ∷ []) (3 ∷ 7 ∷ 0 ∷ 5 ∷ []) ∷ []

-- Order, ring and check: the arrows' verdict, what is written where, and the slip and the listing. "Arrows from writes to reads only" would give b an
-- order.
pub verdict_rows : List Row
unfolding
    neighbour no_items late_delivery delivery_first self_copy write_item pop_item store_item copy_then_store two_transfers overtaking copy_and_load loaded_first
    ask_other other_asked readings no_readings order_row ring_row entry_row refused_with listing_with listing_from listing_row no_listing_row filled_with filled
    not_filled nines refusal order0 late_listing refused_line10 asked_listing
verdict_rows =
    -- a* no items: an order of no groups (prints `order 0`)
    order_row neighbour no_items [] (0 ∷ 0 ∷ 0 ∷ 0 ∷ []) ∷
    listing_row neighbour no_items (Ok (Order 0)) order0 ∷
    -- b* the load before the deliveries: the ring 3 4 5
    ring_row neighbour late_delivery 6 (3 ∷ 4 ∷ 5 ∷ []) (1 ∷ 2 ∷ 2 ∷ 1 ∷ []) ∷
    listing_row neighbour late_delivery (Ok (Ring 3)) late_listing ∷
    -- c* as b with the load last (value 2): order 0 1 2 3 4 5
    order_row neighbour delivery_first (0 ∷ 1 ∷ 2 ∷ 3 ∷ 4 ∷ 5 ∷ []) (1 ∷ 2 ∷ 2 ∷ 1 ∷ []) ∷
    -- d* N = 1, a cell copied onto itself: order 0
    order_row self_copy (0 ∷ 3 ∷ (write_item ++ (pop_item 7 0 ++ pop_item 8 0))) (0 ∷ []) (0 ∷ []) ∷
    -- e* N = 1: write from cell 0 to 1, store to cell 0, popa, popb: ring 0 1
    ring_row copy_then_store (0 ∷ 4 ∷ (write_item ++ (store_item 1 0 ++ (pop_item 7 0 ++ pop_item 8 1)))) 2 (0 ∷ 1 ∷ []) (5 ∷ 5 ∷ []) ∷
    -- "each time .. the lowest number": 0 is passed over twice, since the loads 1 and 2 come before its delivery, and goes before 3 once they are placed
    order_row copy_and_load loaded_first (1 ∷ 2 ∷ 0 ∷ 3 ∷ []) (0 ∷ 0 ∷ 2 ∷ 0 ∷ []) ∷
    -- 14 for a ring too, and before 15; 15 with all cells, also for no items
    refused_with 5 4 neighbour late_delivery 14 6 ∷
    refused_with 5 3 neighbour late_delivery 14 6 ∷
    refused_with 6 3 neighbour late_delivery 15 4 ∷
    refused_with 0 3 neighbour no_items 15 4 ∷
    -- the recorder's entry: big-endian, two bytes an entry; the order's odd last byte is never used, nor is a fourth cell's half
    entry_row neighbour late_delivery 13 8 (Ok (Ring 3)) (0 ∷ 3 ∷ 0 ∷ 4 ∷ 0 ∷ 5 ∷ nines 7) (0 ∷ 1 ∷ 0 ∷ 2 ∷ 0 ∷ 2 ∷ 0 ∷ 1 ∷ []) ∷
    entry_row neighbour late_delivery 12 7 (Err (refusal 15 4)) (nines 12) (nines 7) ∷
    entry_row neighbour late_delivery 11 7 (Err (refusal 14 6)) (nines 11) (nines 7) ∷
    -- the kind words of an assign, an assume and a read
    listing_from ask_other (no_readings ++ readings 0 1 (0 ∷ 7 ∷ [])) other_asked (Ok (Order 3)) asked_listing ∷
    -- the listing of a refused input is its `refused` line; 15 with the length of what does not fit, and an exact fit
    listing_row [] [] (Err (refusal 1 0)) refused_line10 ∷
    listing_with 0 [] [] [] (Err (refusal 1 0)) refused_line10 ∷
    no_listing_row [] [] 11 12 ∷
    no_listing_row neighbour no_items 7 8 ∷
    listing_with 0 neighbour [] late_delivery (Ok (Ring 3)) late_listing ∷
    no_listing_row neighbour late_delivery 101 102 ∷
    -- the slip: ranks 1 and 2 have 4 and 3 command items; a run without command items has an empty map; refused input; an exact fit; 15
    filled (writes neighbour [] late_delivery (nines 6)) (3 ∷ 0 ∷ 4 ∷ 0 ∷ 3 ∷ []) ∷
    filled (writes neighbour [] no_items (nines 2)) (0 ∷ []) ∷
    not_filled (writes neighbour [] (0 ∷ []) (nines 0)) 0 4 1 ∷
    filled_with 0 (writes neighbour [] late_delivery (nines 5)) (3 ∷ 0 ∷ 4 ∷ 0 ∷ 3 ∷ []) ∷
    not_filled (writes neighbour [] late_delivery (nines 4)) 4 15 5 ∷
    -- "queue order drawn as an arrow": the ring would leave out the store
    ring_row two_transfers overtaking 3 (0 ∷ 1 ∷ 2 ∷ []) (0 ∷ 0 ∷ 1 ∷ 0 ∷ []) ∷ []

-- Document 02, #111: which ring of several.
pub ring_rows : List Row
unfolding join ring_row write_item pop_item store_item copy_then_store_by both_store_first copy_or_store long_round short_round
ring_rows =
    -- "as few groups as any closed walk along arrows has": 3 4 and not 0 1 2, which document 01's rule found
    ring_row copy_or_store (0 ∷ 9 ∷ (long_round ++ short_round)) 5 (3 ∷ 4 ∷ []) (5 ∷ 5 ∷ []) ∷
    -- "Of several, take the one whose numbers, listed from its lowest group, come first": 0 1 and not 2 3; 0 1 and not 0 2
    ring_row copy_or_store (0 ∷ 8 ∷ (short_round ++ short_round)) 4 (0 ∷ 1 ∷ []) (5 ∷ 5 ∷ []) ∷
    -- rank 1's groups are 0 and 2, rank 2's 1 and 3, and no arrow leads from one rank to the other: 0 2 and not 1 3
    ring_row (copy_then_store_by 2) both_store_first 4 (0 ∷ 2 ∷ []) (5 ∷ 5 ∷ 5 ∷ 5 ∷ []) ∷
    ring_row copy_or_store
    (0 ∷ 7 ∷
    join (write_item ∷ store_item 1 0 ∷ (3 ∷ 6 ∷ 1 ∷ 2 ∷ []) ∷ pop_item 7 0 ∷ pop_item 7 1 ∷ pop_item 8 1 ∷ pop_item 8 0 ∷ [])) 3 (0 ∷ 1 ∷ [])
    (0 ∷ 5 ∷ []) ∷ []

-- Document 02, #107: the forms of a count and of a transition's number, and each refusal at its place.
pub transition_rows : List Row
unfolding order_row refused_row number_row no_number_row assume_of store_to bars_then_store short_store long_store long_assume
transition_rows =
    -- transition 256 of 257
    order_row (bars_then_store 1 1 256) (long_store 0 1 7 1) (0 ∷ []) (7 ∷ []) ∷
    -- the record alone: numbers of one byte, of which a count's byte says no more than 128, and of two; each up to T − 1
    number_row 300 (short_store 200 7) 200 ∷
    number_row 256 (short_store 255 7) 255 ∷
    number_row 400 (long_store 44 1 7 1) 300 ∷
    number_row 400 (long_store 143 1 7 1) 399 ∷
    -- T itself is no transition's number, and is refused at the byte that makes it
    no_number_row 200 (short_store 200 7) 5 ∷
    no_number_row 256 (long_store 0 1 7 1) 11 ∷
    no_number_row 300 (long_store 44 1 7 1) 11 ∷
    no_number_row 400 (long_store 144 1 7 1) 11 ∷
    -- "A count byte 129..254 or a two-byte count not 129..400 gets 2"; a missing byte is 1 at the length
    refused_row (1 ∷ 1 ∷ 1 ∷ 1 ∷ 1 ∷ 129 ∷ []) [] 2 5 ∷
    refused_row (1 ∷ 1 ∷ 1 ∷ 1 ∷ 1 ∷ 254 ∷ []) [] 2 5 ∷
    refused_row (1 ∷ 1 ∷ 1 ∷ 1 ∷ 1 ∷ 255 ∷ []) [] 1 6 ∷
    refused_row (1 ∷ 1 ∷ 1 ∷ 1 ∷ 1 ∷ 255 ∷ 0 ∷ []) [] 1 7 ∷
    refused_row (1 ∷ 1 ∷ 1 ∷ 1 ∷ 1 ∷ 255 ∷ 0 ∷ 128 ∷ []) [] 2 6 ∷
    refused_row (1 ∷ 1 ∷ 1 ∷ 1 ∷ 1 ∷ 255 ∷ 0 ∷ 129 ∷ []) [] 1 8 ∷
    refused_row (1 ∷ 1 ∷ 1 ∷ 1 ∷ 1 ∷ 255 ∷ 1 ∷ 144 ∷ []) [] 1 8 ∷
    refused_row (1 ∷ 1 ∷ 1 ∷ 1 ∷ 1 ∷ 255 ∷ 1 ∷ 145 ∷ []) [] 2 6 ∷
    -- "a high byte of 0, or one that makes the number T or more, gets 5 at that byte"; "With bit 7 the low byte is not judged alone"
    refused_row (assume_of 1) (long_assume 1 0 0) 5 6 ∷
    refused_row (assume_of 1) (long_assume 1 0 1) 5 6 ∷
    refused_row (assume_of 1) (long_assume 1 200 0) 5 6 ∷
    refused_row (assume_of 1) (0 ∷ 1 ∷ 131 ∷ 4 ∷ 1 ∷ 0 ∷ []) 4 6 ∷
    refused_row (assume_of 1) (0 ∷ 1 ∷ 3 ∷ 4 ∷ 1 ∷ 1 ∷ []) 5 5 ∷
    -- a bad rank or place comes first; the high byte is behind the value
    refused_row (assume_of 1) (long_assume 2 0 0) 5 4 ∷
    refused_row (store_to 0) (long_store 0 2 1 0) 5 6 ∷
    refused_row (store_to 0) (long_store 0 1 1 0) 5 11 ∷
    -- "bit 7 stands only with bit 1"
    refused_row (store_to 0) (0 ∷ 1 ∷ 157 ∷ 7 ∷ 1 ∷ 0 ∷ 1 ∷ 0 ∷ 0 ∷ 0 ∷ []) 6 2 ∷ []

-- Document 02, #105: N up to 16 wherever a rank stands, and the two widths of a slip's map.
pub rank_rows : List Row
unfolding order_row refused_row refused_with listing_row filled not_filled nines bar_alone bar_record far_copy far_commands far_record far_listing
rank_rows =
    -- the header: 9 and 16 are right
    refused_row (9 ∷ []) [] 1 1 ∷
    refused_row (16 ∷ []) [] 1 1 ∷
    -- an item's rank and its place's: up to N
    refused_row (bar_alone 16) (0 ∷ 1 ∷ 3 ∷ 9 ∷ 17 ∷ 0 ∷ []) 5 4 ∷
    refused_row (bar_alone 9) (0 ∷ 1 ∷ 3 ∷ 9 ∷ 10 ∷ 0 ∷ []) 5 4 ∷
    refused_row (bar_alone 15) (0 ∷ 1 ∷ 29 ∷ 7 ∷ 15 ∷ 0 ∷ 16 ∷ 0 ∷ 0 ∷ []) 5 6 ∷
    -- a row ends at rank N: nine bars are one group, and after eight the row is open
    order_row (bar_alone 9) (bar_record 9) (0 ∷ []) (replicate 9 0) ∷
    refused_row (bar_alone 9) (bar_record 8) 12 8 ∷
    order_row (bar_alone 16) (bar_record 16) (0 ∷ []) (replicate 16 0) ∷
    -- rank 16 copies to rank 9, and rank 9 to rank 16; there is no rank 16 of 15
    order_row (far_copy 16) (far_record 16 9) (0 ∷ 1 ∷ []) (replicate 8 0 ++ 16 ∷ (replicate 6 0 ++ 16 ∷ [])) ∷
    order_row (far_copy 16) (far_record 9 16) (0 ∷ 1 ∷ []) (replicate 8 0 ++ 9 ∷ (replicate 6 0 ++ 9 ∷ [])) ∷
    refused_row (far_copy 15) (0 ∷ 2 ∷ far_commands 9) 8 1 ∷
    refused_with 2 15 (far_copy 16) (far_record 16 9) 15 16 ∷
    listing_row (far_copy 16) (far_record 16 9) (Ok (Order 2)) far_listing ∷
    -- "the rank map takes two bytes if N is above 8 and one otherwise", the high byte first
    filled (writes (bar_alone 8) [] (bar_record 8) (nines 18)) (255 ∷ 0 ∷ 1 ∷ 0 ∷ 1 ∷ 0 ∷ 1 ∷ 0 ∷ 1 ∷ 0 ∷ 1 ∷ 0 ∷ 1 ∷ 0 ∷ 1 ∷ 0 ∷ 1 ∷ []) ∷
    filled (writes (bar_alone 9) [] (bar_record 9) (nines 21))
    (1 ∷ 255 ∷ 0 ∷ 1 ∷ 0 ∷ 1 ∷ 0 ∷ 1 ∷ 0 ∷ 1 ∷ 0 ∷ 1 ∷ 0 ∷ 1 ∷ 0 ∷ 1 ∷ 0 ∷ 1 ∷ 0 ∷ 1 ∷ []) ∷
    filled (writes (far_copy 16) [] (far_record 16 9) (nines 5)) (128 ∷ 0 ∷ 0 ∷ 2 ∷ []) ∷
    filled (writes (bar_alone 9) [] (0 ∷ 0 ∷ []) (nines 3)) (0 ∷ 0 ∷ []) ∷
    not_filled (writes (bar_alone 9) [] (0 ∷ 0 ∷ []) (nines 1)) 1 15 2 ∷
    filled (reads 9 (1 ∷ 1 ∷ 0 ∷ 3 ∷ 4 ∷ 0 ∷ []) (nines 10)) (3 ∷ 0 ∷ 0 ∷ 0 ∷ 0 ∷ 0 ∷ 0 ∷ 0 ∷ 1_024 ∷ []) ∷
    filled (reads 16 (128 ∷ 0 ∷ 0 ∷ 2 ∷ []) (nines 17)) (replicate 15 0 ++ 2 ∷ []) ∷
    filled (reads 8 (128 ∷ 0 ∷ 2 ∷ []) (nines 9)) (0 ∷ 0 ∷ 0 ∷ 0 ∷ 0 ∷ 0 ∷ 0 ∷ 2 ∷ []) ∷
    -- a byte of the map is missing; a bit for a rank above N, in either byte
    not_filled (reads 9 (0 ∷ []) (nines 9)) 9 16 1 ∷
    not_filled (reads 9 (2 ∷ 1 ∷ 0 ∷ 1 ∷ 0 ∷ 1 ∷ []) (nines 9)) 9 16 0 ∷
    not_filled (reads 15 (128 ∷ 1 ∷ 0 ∷ 1 ∷ 0 ∷ 1 ∷ []) (nines 15)) 15 16 0 ∷
    not_filled (reads 7 (128 ∷ 0 ∷ 1 ∷ []) (nines 7)) 7 16 0 ∷
    -- another N than the slip was written for: the map's second byte is half a count, a count's high byte half a map
    not_filled (reads 8 (1 ∷ 0 ∷ 0 ∷ 2 ∷ []) (nines 8)) 8 16 1 ∷
    not_filled (reads 9 (1 ∷ 0 ∷ 2 ∷ []) (nines 9)) 9 16 3 ∷ []

-- Document 02, #108: which entry a pop takes, and each refusal at its place.
pub neighbour_rows : List Row
unfolding join order_row ring_row refused_row far_copy far_commands far_pops_for neighbours two_asked third_asked pop_any pop_for
neighbour_rows =
    -- "A pop without the bit takes the oldest of all"; one that names the oldest's rank takes it too
    order_row neighbours
    (0 ∷ 9 ∷
    join
    (two_asked ∷ third_asked ∷ pop_for 7 1 0 2 ∷ pop_any 7 3 0 ∷ pop_for 7 1 1 2 ∷ pop_for 8 2 0 2 ∷ pop_for 8 1 0 3 ∷ pop_any 8 2 1 ∷ []))
    (0 ∷ 1 ∷ 2 ∷ []) (replicate 6 0) ∷
    -- the read overtakes the write: it is delivered into the cell before the write fetches it, which is a ring
    ring_row neighbours (0 ∷ 6 ∷ join (two_asked ∷ pop_for 7 3 0 3 ∷ pop_for 8 1 0 3 ∷ pop_any 7 1 0 ∷ pop_any 8 2 0 ∷ [])) 2 (0 ∷ 1 ∷ [])
    (replicate 6 0) ∷
    -- "Oldest means first appended to the requests or deliveries it is taken from": the read was fetched first, and is the older delivery
    order_row neighbours (0 ∷ 6 ∷ join (two_asked ∷ pop_for 7 3 0 3 ∷ pop_any 7 1 0 ∷ pop_any 8 1 0 ∷ pop_any 8 2 0 ∷ [])) (0 ∷ 1 ∷ [])
    (replicate 6 0) ∷
    refused_row neighbours (0 ∷ 5 ∷ join (two_asked ∷ pop_for 7 3 0 3 ∷ pop_any 7 1 0 ∷ pop_any 8 2 0 ∷ [])) 11 4 ∷
    -- "the oldest entry for that rank": of the two for rank 2 the first, of requests and of deliveries
    refused_row neighbours (0 ∷ 4 ∷ join (two_asked ∷ third_asked ∷ pop_for 7 1 1 2 ∷ [])) 11 3 ∷
    refused_row neighbours
    (0 ∷ 7 ∷ join (two_asked ∷ third_asked ∷ pop_any 7 1 0 ∷ pop_any 7 3 0 ∷ pop_any 7 1 1 ∷ pop_for 8 2 1 2 ∷ [])) 11 6 ∷
    -- "for a read, the rank read from", also of its delivery: the own rank is not it
    refused_row neighbours (0 ∷ 3 ∷ join (two_asked ∷ pop_for 7 3 0 1 ∷ [])) 10 2 ∷
    refused_row neighbours (0 ∷ 4 ∷ join (two_asked ∷ pop_for 7 3 0 3 ∷ pop_for 8 1 0 1 ∷ [])) 10 3 ∷
    -- "A named rank with none waiting gets 10": it waits elsewhere, or nowhere; 10 comes before 11
    refused_row neighbours (0 ∷ 3 ∷ join (two_asked ∷ pop_for 8 2 0 2 ∷ [])) 10 2 ∷
    refused_row neighbours (0 ∷ 1 ∷ pop_for 7 1 0 2) 10 0 ∷
    refused_row neighbours (0 ∷ 3 ∷ join (two_asked ∷ pop_for 7 2 1 1 ∷ [])) 10 2 ∷
    refused_row neighbours (0 ∷ 3 ∷ join (two_asked ∷ pop_for 7 2 1 3 ∷ [])) 11 2 ∷
    -- a transfer to the own rank names it
    order_row neighbours
    (0 ∷ 3 ∷ join ((3 ∷ 6 ∷ 2 ∷ 0 ∷ []) ∷ (93 ∷ 7 ∷ 2 ∷ 0 ∷ 2 ∷ 0 ∷ 0 ∷ 2 ∷ []) ∷ (93 ∷ 8 ∷ 2 ∷ 0 ∷ 2 ∷ 0 ∷ 0 ∷ 2 ∷ []) ∷ [])) (0 ∷ [])
    (replicate 6 0) ∷
    -- a transfer of rank 16 to rank 9 names 9, and one of rank 9 to rank 16 names 16; there is no rank 17 of 16
    order_row (far_copy 16) (0 ∷ 4 ∷ (far_commands 16 ++ far_pops_for 16 9)) (0 ∷ 1 ∷ []) (replicate 8 0 ++ 16 ∷ (replicate 6 0 ++ 16 ∷ [])) ∷
    order_row (far_copy 16) (0 ∷ 4 ∷ (far_commands 9 ++ far_pops_for 9 16)) (0 ∷ 1 ∷ []) (replicate 8 0 ++ 9 ∷ (replicate 6 0 ++ 9 ∷ [])) ∷
    refused_row (far_copy 16) (0 ∷ 1 ∷ 93 ∷ 7 ∷ 16 ∷ 0 ∷ 16 ∷ 0 ∷ 0 ∷ 17 ∷ []) 5 9 ∷
    -- what is overtaken is left
    refused_row neighbours (0 ∷ 4 ∷ join (two_asked ∷ pop_for 7 3 0 3 ∷ pop_for 8 1 0 3 ∷ [])) 13 4 ∷
    -- "one outside 1..N gets 5", at its byte, which is the pop's last; a bad place comes first; a missing byte is 4 at the length
    refused_row neighbours (0 ∷ 1 ∷ pop_for 7 1 0 0) 5 9 ∷
    refused_row neighbours (0 ∷ 1 ∷ pop_for 7 1 0 4) 5 9 ∷
    refused_row neighbours (0 ∷ 1 ∷ 125 ∷ 7 ∷ 1 ∷ 0 ∷ 1 ∷ 0 ∷ 0 ∷ 0 ∷ 0 ∷ 4 ∷ []) 5 11 ∷
    refused_row neighbours (0 ∷ 1 ∷ pop_for 8 0 0 4) 5 6 ∷
    refused_row neighbours (0 ∷ 1 ∷ 93 ∷ 7 ∷ 1 ∷ 0 ∷ 1 ∷ 0 ∷ 0 ∷ []) 4 9 ∷
    refused_row neighbours (0 ∷ 1 ∷ 93 ∷ 7 ∷ 1 ∷ 0 ∷ 1 ∷ 0 ∷ 0 ∷ 3 ∷ 0 ∷ []) 4 10 ∷
    -- "A pop may carry map bit 6", and no other item
    refused_row neighbours (0 ∷ 1 ∷ 67 ∷ 6 ∷ 1 ∷ 0 ∷ 2 ∷ []) 6 2 ∷
    refused_row neighbours (0 ∷ 1 ∷ 91 ∷ 1 ∷ 1 ∷ 0 ∷ 1 ∷ 0 ∷ 0 ∷ 2 ∷ []) 6 2 ∷ []

-- Document 02, #102: values at the edges of their range and beyond, and where 18 stands among the other numbers. Run l is above.
pub sum_rows : List Row
unfolding
    no_items store_of value_item word over past_range assume_from into_register store_both transfer_of access_item bare_item order_row refused_row stored_row
sum_rows =
    -- 65,535 and 0 are values: 65,535 + 0, 0 − 0, 255 × 257, 65,535 − 65,535
    stored_row (over 0x10 (word 255 255) (word 0 0)) 65_535 ∷
    stored_row (over 0x11 (word 0 0) (word 0 0)) 0 ∷
    stored_row (over 0x12 (word 0 255) (word 1 1)) 65_535 ∷
    stored_row (over 0x11 (word 255 255) (word 255 255)) 0 ∷
    -- 256 × 256; 65,535 × 65,535, which is 1 modulo 65,536
    refused_row (store_of (over 0x12 (word 1 0) (word 1 0))) (value_item 0 0) 18 0 ∷
    refused_row (store_of (over 0x12 (word 255 255) (word 255 255))) (value_item 0 1) 18 0 ∷
    -- "and neither has an expression holding it": (65,535 + 1) − 1, 0 × (65,535 + 1), and an equal or a less over it, on either side
    refused_row (store_of (over 0x11 past_range (word 0 1))) (value_item 255 255) 18 0 ∷
    refused_row (store_of (over 0x12 (word 0 0) past_range)) (value_item 0 0) 18 0 ∷
    refused_row (store_of (over 0x13 (word 0 0) past_range)) (value_item 0 1) 18 0 ∷
    refused_row (store_of (over 0x13 past_range past_range)) (value_item 0 1) 18 0 ∷
    refused_row (store_of (over 0x14 past_range (word 0 1))) (value_item 0 1) 18 0 ∷
    refused_row (store_of (over 0x14 (word 0 1) past_range)) (value_item 0 0) 18 0 ∷
    -- any expression of any command
    refused_row (into_register 1 past_range) (access_item 1) 18 0 ∷
    refused_row (store_both past_range (word 0 1)) (access_item 2) 18 0 ∷
    refused_row (into_register 3 past_range) (bare_item 3) 18 0 ∷
    refused_row (assume_from 0 past_range) (bare_item 4) 18 0 ∷
    refused_row (transfer_of 6 past_range (word 0 1) (word 0 0) (word 0 0)) (bare_item 6) 18 0 ∷
    refused_row (transfer_of 5 (word 0 0) past_range (word 0 0) (word 0 0)) (bare_item 5) 18 0 ∷
    refused_row (transfer_of 6 (word 0 0) (word 0 1) past_range (word 0 0)) (bare_item 6) 18 0 ∷
    refused_row (transfer_of 5 (word 0 0) (word 0 1) (word 0 0) past_range) (bare_item 5) 18 0 ∷
    -- "after 7 and before 8 and 9": another state, another kind; an own cell out of its range beside a later expression without a value
    refused_row (assume_from 1 past_range) (bare_item 4) 7 0 ∷
    refused_row (assume_from 0 past_range) (bare_item 3) 7 0 ∷
    refused_row (store_both (word 0 1) past_range) (access_item 2) 18 0 ∷
    refused_row (transfer_of 6 (word 0 1) (word 0 1) (word 0 0) past_range) (bare_item 6) 18 0 ∷
    refused_row (transfer_of 5 (word 0 0) (word 0 2) (word 0 0) past_range) (bare_item 5) 18 0 ∷
    refused_row (transfer_of 6 (word 0 1) (word 0 1) (word 0 0) (word 0 0)) (bare_item 6) 8 0 ∷
    -- a transition that is not taken has no values
    order_row (assume_from 0 past_range) no_items [] (0 ∷ []) ∷ []

gauge_listing : List ℕ
unfolding text
gauge_listing = text "order 0\ncell 1 1 2314\n"

-- Document 02, #103: what a start puts into the cells, each refusal at its place, and both writer and reader.
pub start_rows : List Row
unfolding
    join neighbour no_items late_after late_delivery delivery_first alone self_copy write_item pop_item copy_then_store store_item store_to bar_alone bar_record
    readings no_readings gauge_start order_from ring_from refused_from refused_with_from listing_from gauge_listing filled_with filled not_filled nines
start_rows =
    -- a start and no items: `order 0` and the readings; "No bytes at all .. mean that all is 0", and so do the maps without a bit
    order_from neighbour gauge_start no_items [] (0 ∷ 2_314 ∷ 0 ∷ 0 ∷ []) ∷
    listing_from neighbour gauge_start no_items (Ok (Order 0)) gauge_listing ∷
    order_from neighbour [] no_items [] (replicate 4 0) ∷
    order_from neighbour (no_readings ++ no_readings) no_items [] (replicate 4 0) ∷
    -- "bit a for cell a": the lowest bit of the eighth byte, the highest of the first; "cells rising", the high byte first
    order_from neighbour (readings 0 3 (0 ∷ 5 ∷ 6 ∷ 0 ∷ []) ++ readings 0 1 (0 ∷ 7 ∷ [])) no_items [] (5 ∷ 1_536 ∷ 7 ∷ 0 ∷ []) ∷
    order_from (store_to 0) (readings 128 1 (0 ∷ 9 ∷ 255 ∷ 255 ∷ [])) no_items [] (9 ∷ (replicate 62 0 ++ 65_535 ∷ [])) ∷
    -- sixteen ranks
    order_from (bar_alone 16) (join (replicate 15 no_readings) ++ readings 0 1 (1 ∷ 0 ∷ [])) (bar_record 16) (0 ∷ []) (replicate 15 0 ++ 256 ∷ []) ∷
    -- "A plain run begins from those readings too": the value that b's load finds is the reading, and c's is the delivery
    refused_from neighbour gauge_start late_delivery 11 8 ∷
    ring_from neighbour (readings 0 2 (0 ∷ 7 ∷ []) ++ no_readings) (late_after 7) 6 (3 ∷ 4 ∷ 5 ∷ []) (1 ∷ 2 ∷ 2 ∷ 1 ∷ []) ∷
    order_from neighbour gauge_start delivery_first (0 ∷ 1 ∷ 2 ∷ 3 ∷ 4 ∷ 5 ∷ []) (1 ∷ 2 ∷ 2 ∷ 1 ∷ []) ∷
    -- a reading that is copied, and one that is stored over
    order_from self_copy (readings 0 1 (0 ∷ 7 ∷ [])) (0 ∷ 3 ∷ (write_item ++ (pop_item 7 0 ++ pop_item 8 0))) (0 ∷ []) (7 ∷ []) ∷
    order_from copy_then_store (readings 0 1 (0 ∷ 3 ∷ [])) (0 ∷ 4 ∷ (write_item ++ (pop_item 7 0 ++ (pop_item 8 1 ++ store_item 1 0)))) (0 ∷ 1 ∷ [])
    (5 ∷ 3 ∷ []) ∷
    -- a missing byte, in a map, behind it and in a value; of a rank's map; nothing lies between no bytes and all maps
    refused_from neighbour (0 ∷ []) no_items 19 1 ∷
    refused_from neighbour (readings 0 2 []) no_items 19 8 ∷
    refused_from neighbour (readings 0 2 (9 ∷ [])) no_items 19 9 ∷
    refused_from neighbour (readings 0 2 (9 ∷ 10 ∷ [])) no_items 19 10 ∷
    refused_from neighbour (readings 0 2 (9 ∷ 10 ∷ 0 ∷ [])) no_items 19 11 ∷
    refused_from neighbour no_readings no_items 19 8 ∷
    -- a left-over byte
    refused_from neighbour (gauge_start ++ 0 ∷ []) no_items 19 18 ∷
    refused_from neighbour (no_readings ++ (no_readings ++ no_readings)) no_items 19 16 ∷
    -- "a bit for a cell A or above", once all eight bytes are there; in the second map
    refused_from neighbour (readings 0 4 []) no_items 19 0 ∷
    refused_from neighbour (readings 128 0 (0 ∷ 1 ∷ [])) no_items 19 0 ∷
    refused_from neighbour (128 ∷ []) no_items 19 1 ∷
    refused_from neighbour (readings 0 2 (9 ∷ 10 ∷ []) ++ readings 0 4 (0 ∷ 1 ∷ [])) no_items 19 10 ∷
    -- "a listed 0", which comes before what is missing behind it
    refused_from neighbour (readings 0 1 (0 ∷ 0 ∷ [])) no_items 19 8 ∷
    refused_from neighbour (readings 0 3 (0 ∷ 1 ∷ 0 ∷ 0 ∷ [])) no_items 19 10 ∷
    -- "judged after the program and before the record", and so before 14 and 15
    refused_from [] (0 ∷ []) [] 1 0 ∷
    refused_from neighbour (0 ∷ []) [] 19 1 ∷
    refused_from neighbour gauge_start [] 4 0 ∷
    refused_with_from 0 0 neighbour (0 ∷ []) late_delivery 19 1 ∷
    -- the writer: what the check fills, and more of the list; "the writer always writes the maps"
    filled (begins neighbour (0 ∷ 2_314 ∷ 0 ∷ 0 ∷ 7 ∷ []) (nines 19)) gauge_start ∷
    filled (begins neighbour (replicate 4 0) (nines 17)) (no_readings ++ no_readings) ∷
    filled (begins (store_to 0) (9 ∷ (replicate 62 0 ++ 65_535 ∷ [])) (nines 13)) (readings 128 1 (0 ∷ 9 ∷ 255 ∷ 255 ∷ [])) ∷
    filled (begins_bytes neighbour (0 ∷ 0 ∷ 9 ∷ 10 ∷ 0 ∷ 0 ∷ 0 ∷ 0 ∷ 7 ∷ []) (nines 19)) gauge_start ∷
    -- values of rank 2, alone and behind those of rank 1
    filled (begins neighbour (0 ∷ 0 ∷ 0 ∷ 7 ∷ []) (nines 19)) (no_readings ++ readings 0 2 (0 ∷ 7 ∷ [])) ∷
    filled (begins neighbour (5 ∷ 0 ∷ 7 ∷ 1_536 ∷ []) (nines 23)) (readings 0 1 (0 ∷ 5 ∷ []) ++ readings 0 3 (0 ∷ 7 ∷ 6 ∷ 0 ∷ [])) ∷
    -- the program, the list, then the memory, which may fit exactly
    not_filled (begins [] [] (nines 0)) 0 1 0 ∷
    not_filled (begins neighbour (replicate 3 0) (nines 0)) 0 15 4 ∷
    not_filled (begins_bytes neighbour (replicate 7 0) (nines 0)) 0 15 4 ∷
    filled_with 0 (begins neighbour (0 ∷ 2_314 ∷ 0 ∷ 0 ∷ []) (nines 18)) gauge_start ∷
    not_filled (begins neighbour (0 ∷ 2_314 ∷ 0 ∷ 0 ∷ []) (nines 17)) 17 15 18 ∷
    -- the reader: the program, the start, then the list, which may fit exactly
    filled (recalls neighbour gauge_start (nines 5)) (0 ∷ 2_314 ∷ 0 ∷ 0 ∷ []) ∷
    filled (recalls neighbour [] (nines 5)) (replicate 4 0) ∷
    not_filled (recalls [] (0 ∷ []) (nines 0)) 0 1 0 ∷
    not_filled (recalls neighbour (0 ∷ []) (nines 0)) 0 19 1 ∷
    filled_with 0 (recalls neighbour gauge_start (nines 4)) (0 ∷ 2_314 ∷ 0 ∷ 0 ∷ []) ∷
    not_filled (recalls neighbour gauge_start (nines 3)) 3 15 4 ∷
    not_filled (recalls_bytes neighbour gauge_start (nines 7)) 7 15 4 ∷
    record {
      question = recalls_bytes neighbour gauge_start (nines 9);
      expected = lent (record { answer = Ok 4; memory = 0 ∷ 0 ∷ 9 ∷ 10 ∷ 0 ∷ 0 ∷ 0 ∷ 0 ∷ 9 ∷ [] });
    } ∷
    -- the slip is that of the run, whatever it begins from
    filled (writes neighbour gauge_start delivery_first (nines 6)) (3 ∷ 0 ∷ 4 ∷ 0 ∷ 3 ∷ []) ∷
    not_filled (writes neighbour (0 ∷ []) delivery_first (nines 0)) 0 19 1 ∷ []

-- The definitions give the answer of each of these rows.
abbrev pub Answered : List Row → Type 0
Answered rows = map (λ row. reply row.question) rows ≡ map (λ row. row.expected) rows

-- A theorem for each section, so that a wrong definition is refused where it is wrong first.
pub reading_rows_lem : Answered reading_rows
unfolding reply reading_rows
reading_rows_lem = refl

pub replay_rows_lem : Answered replay_rows
unfolding reply replay_rows
replay_rows_lem = refl

pub value_rows_lem : Answered value_rows
unfolding reply value_rows
value_rows_lem = refl

pub verdict_rows_lem : Answered verdict_rows
unfolding reply verdict_rows
verdict_rows_lem = refl

pub ring_rows_lem : Answered ring_rows
unfolding reply ring_rows
ring_rows_lem = refl

pub transition_rows_lem : Answered transition_rows
unfolding reply transition_rows
transition_rows_lem = refl

pub rank_rows_lem : Answered rank_rows
unfolding reply rank_rows
rank_rows_lem = refl

pub neighbour_rows_lem : Answered neighbour_rows
unfolding reply neighbour_rows
neighbour_rows_lem = refl

pub sum_rows_lem : Answered sum_rows
unfolding reply sum_rows
sum_rows_lem = refl

pub start_rows_lem : Answered start_rows
unfolding reply start_rows
start_rows_lem = refl

-- And the one of the whole table.
answered_both : (rows more : List Row) → Answered rows → Answered more → Answered (rows ++ more)
answered_both rows more h g =
    map-append (λ (row : Row). reply row.question) rows more ∙ ap₂ ◌++◌ h g ∙ sym (map-append (λ (row : Row). row.expected) rows more)

unfoldable pub rows_of : List (List Row) → List Row
rows_of [] = []
rows_of (rows ∷ sections) = rows ++ rows_of sections

answered_all : {sections : List (List Row)} → Each Answered sections → Answered (rows_of sections)
unfolding rows_of
answered_all all = refl
answered_all (one {a = rows} {rest = sections} h others) = answered_both rows (rows_of sections) h (answered_all others)

pub table : List (List Row)
table =
    reading_rows ∷ replay_rows ∷ value_rows ∷ verdict_rows ∷ ring_rows ∷ transition_rows ∷ rank_rows ∷ neighbour_rows ∷ sum_rows ∷ start_rows ∷ []

pub every_row_lem : Answered (rows_of table)
unfolding table
every_row_lem =
    answered_all
    (one reading_rows_lem (one replay_rows_lem (one value_rows_lem (one verdict_rows_lem (one ring_rows_lem (one transition_rows_lem (one rank_rows_lem (one neighbour_rows_lem
    (one sum_rows_lem (one start_rows_lem all))))))))))
