-- An item's reader and writer undo each other (`item_trip`), in one walk through the reader: what the bits of a right map make of the fields that were
-- read, and of those that are written; then the item from its map byte on.
use Rattle.model.specs.declared.Found.{Found}
use Rattle.std.specs.Prelude.{Option}
use Prim.Native.Nat.{ℕ, ◌%◌, ◌<◌, ◌≤◌}
use mathlib.Core.Path.{◌≡◌, refl, sym, ap, ap₂, subst, ◌∙◌}
use mathlib.Core.Bool.{true, false, true≢false, false≢true}
use mathlib.Core.List.{List, []}
use native.Mathlib.Nat.{mod-eq_of_lt, add-zero}
use native.Mathlib.Omega.{arith}
use lib.Dec.{ltb, leb}
use borrow.Author.Tests.{ltb-true, lt-ltb, ltb-false, le-leb, lt-leb, leb-true, leb-false}
use Rattle.model.specs.declared.Header.{Header}
use Rattle.model.specs.declared.Item.{Item}
use Rattle.model.specs.declared.Kind.{Kind}
use Rattle.model.specs.declared.Kind.TheVariants.{Load, Store, Assign, Assume, Read, Write, Popa, Popb, Bar}
use Rattle.model.specs.Limits.{byte_values, word_values}
use Rattle.model.specs.Refusals.{Ok, record_length, record_range}
use Rattle.model.specs.Choice.{between, bit}
use Rattle.model.specs.Bytes.{found}
use Rattle.model.specs.ItemKinds.{kind_number, has_place, is_command_kind, Part, command, fetch, delivery, part_of, is_command_part}
use Rattle.model.specs.Formats.{HasMap}
use Rattle.model.specs.Programs.{HeaderFits}
use Rattle.model.specs.ItemForms.{FormIs, good, unknown_kind, wrong_map, item_form, judged_item_form, ItemForm}
use Rattle.model.specs.Machine.{address}
use Rattle.model.specs.Records.{item_fields, read_item_in, read_item}
use Rattle.model.specs.Traces.{ChosenIn, InRecord}
use Rattle.model.proofs.Laws.{refused≢ok, ok_injective, decided, between_true, true_between}
use Rattle.model.proofs.ItemForms.{today_maps, form_is, form_only}
use Rattle.record_bytes.specs.RecordBytes.{is_given, item_map, field_bytes, item_bytes, Shown, Writable}
use Rattle.record_bytes.specs.Claims.{StandsAt, RoundTrip}
use Rattle.record_bytes.proofs.RoundTrip.{no_bytes, trip_byte, trip_word, trip_judged, trip_as, trip_written, trip_pure, trip_bind, trip_then}
use Rattle.record_bytes.proofs.RoundTrip.{trip_plain, trip_here, Optional, trip_optional}
use Rattle.record_bytes.proofs.ItemMaps.{Bits, not-true, not-false, item_bits, map_small, map_is, map_allowed, map_bits_lem, has_map}
use Rattle.record_bytes.proofs.Fields.{Passes, trip_field, Low, trip_low, High, trip_high, GivenBy, absent, trip_given}

-- A command names a transition, a pop a queue and a remote rank or none.
chosen_in : (h : Header) (i : Item) (part : Part) → (is_command_part part ≡ true → i.transition < h.transitions) →
    (is_command_part part ≡ false → (i.queue < h.queues) × (i.remote ≤ h.ranks)) → ChosenIn h part i
chosen_in h i command transition queue = transition refl
chosen_in h i fetch transition queue = queue refl
chosen_in h i delivery transition queue = queue refl

chosen_command : (h : Header) (i : Item) (part : Part) → is_command_part part ≡ true → ChosenIn h part i → i.transition < h.transitions
chosen_command h i command is chosen = chosen
chosen_command h i fetch is chosen = absurd (false≢true is)
chosen_command h i delivery is chosen = absurd (false≢true is)

chosen_pop : (h : Header) (i : Item) (part : Part) → is_command_part part ≡ false → ChosenIn h part i → (i.queue < h.queues) × (i.remote ≤ h.ranks)
chosen_pop h i command is chosen = absurd (true≢false is)
chosen_pop h i fetch is chosen = chosen
chosen_pop h i delivery is chosen = chosen

-- Fields by a right map.
module _ (h : Header) (fits : HeaderFits h) {kind : Kind} {map : ℕ} (has : HasMap kind map) where
  abbrev Ranked : ℕ → Type 0
  Ranked = Passes (between 1 h.ranks)

  abbrev Queued : ℕ → Type 0
  Queued = Passes (λ q. ltb q h.queues)

  abbrev Celled : ℕ → Type 0
  Celled v = (v < word_values) × (ltb v h.cells ≡ true)

  bits_are : Bits map (is_command_kind kind) (has_place kind) (bit 5 map) (bit 6 map) (bit 7 map)
  bits_are = map_bits_lem has

  -- The number that was read: its low byte is the one read before it, its high bit stands exactly if it does not fit a byte, and it is below T.
  module _ {low : ℕ} (is_low : Optional (bit 1 map) 0 (Low (bit 7 map) h.transitions) low) where
    low_small : low < byte_values
    low_small = decided (bit 1 map) (λ t. (is_low.there t).small) (λ t. omega (arith, is_low.left_out t))

    module _ {transition : ℕ} (is_number : Optional (bit 7 map) low (High h.transitions low) transition) where
      number_low : transition % byte_values ≡ low
      number_low =
          decided (bit 7 map)
          (λ t. (is_number.there t).low_byte_lem)
          (λ t. ap (λ n. n % byte_values) (is_number.left_out t) ∙ mod-eq_of_lt low_small)

      number_told : leb byte_values transition ≡ bit 7 map
      number_told =
          decided (bit 7 map)
          (λ t. rw t (le-leb byte_values transition (is_number.there t).large))
          (λ t. rw (t, is_number.left_out t) (lt-leb byte_values low low_small))

      number_below_lem : is_command_kind kind ≡ true → transition < h.transitions
      number_below_lem is =
          decided (bit 7 map)
          (λ t. (is_number.there t).below)
          (λ t. rw (is_number.left_out t) ((is_low.there (bits_are.bit1 ∙ is)).below t))

      number_none : is_command_kind kind ≡ false → transition ≡ 0
      number_none is = is_number.left_out ((map_allowed has).low is) ∙ is_low.left_out (bits_are.bit1 ∙ is)

  -- The remote rank: its bit stands exactly if there is one.
  module _ {remote : ℕ} (is_remote : Optional (bit 6 map) 0 Ranked remote) where
    remote_told : ltb 0 remote ≡ bit 6 map
    remote_told =
        decided (bit 6 map)
        (λ t. rw t (lt-ltb 0 remote (between_true 1 h.ranks remote (is_remote.there t).passes).low))
        (λ t. rw (t, is_remote.left_out t))

    remote_few : remote ≤ h.ranks
    remote_few =
        decided (bit 6 map)
        (λ t. (between_true 1 h.ranks remote (is_remote.there t).passes).high)
        (λ t. omega (arith, is_remote.left_out t))

  -- An item that can be written, with this kind and this map.
  record Fields (i : Item) : Type 0 where
    writable : Writable h i
    kind_is : i.kind ≡ kind
    map_is_own : item_map i ≡ map

  -- What was read is such an item.
  module _ {rank low queue place_rank_lem place_cell_lem remote transition : ℕ} {given : Option ℕ} (is_rank : Optional (bit 0 map) 0 Ranked rank)
      (is_low : Optional (bit 1 map) 0 (Low (bit 7 map) h.transitions) low) (is_queue : Optional (bit 2 map) 0 Queued queue)
      (is_place_rank : Optional (bit 3 map) 0 Ranked place_rank_lem) (is_place_cell : Optional (bit 4 map) 0 Celled place_cell_lem)
      (is_given_lem : GivenBy (bit 5 map) given) (is_remote : Optional (bit 6 map) 0 Ranked remote)
      (is_number : Optional (bit 7 map) low (High h.transitions low) transition) where
    abbrev item : Item
    item =
        record {
          kind = kind;
          rank = rank;
          transition = transition;
          queue = queue;
          place = record { rank = place_rank_lem; cell = place_cell_lem };
          given = given;
          remote = remote;
        }

    fields_read_lem : Fields item
    fields_read_lem =
        let in_ranks = between_true 1 h.ranks rank (is_rank.there bits_are.bit0).passes in
        record {
          writable =
              record {
                in_record =
                    record {
                      low = in_ranks.low;
                      high = in_ranks.high;
                      choice =
                          chosen_in h item (part_of kind) (number_below_lem is_low is_number)
                          (λ is. (ltb-true queue h.queues (is_queue.there (rw is at bits_are.bit2)).passes, remote_few is_remote));
                      place = λ is.
                          let in_place = between_true 1 h.ranks place_rank_lem (is_place_rank.there (bits_are.bit3 ∙ is)).passes in
                          (in_place.low, in_place.high, ltb-true place_cell_lem h.cells (is_place_cell.there (bits_are.bit4 ∙ is)).1);
                      given = is_given_lem.in_range_lem;
                    };
                shown =
                    record {
                      of_command = λ is. (is_queue.left_out (rw is at bits_are.bit2), is_remote.left_out ((map_allowed has).unnamed is));
                      of_pop = λ is. number_none is_low is_number is;
                      of_no_place = λ is. (
                        ap₂ address (is_place_rank.left_out (bits_are.bit3 ∙ is)) (is_place_cell.left_out (bits_are.bit4 ∙ is)),
                        absent given (is_given_lem.told ∙ (map_allowed has).unvalued is),
                      );
                    };
              };
          kind_is = refl;
          map_is_own = rw (is_given_lem.told, remote_told is_remote, number_told is_low is_number) (sym (map_is has));
        }

  -- And each field of such an item can be written.
  module _ (i : Item) (is : Fields i) where
    abbrev in_record : InRecord h i
    in_record = is.writable.in_record

    abbrev shown : Shown i
    shown = is.writable.shown

    own_bits : Bits map (is_command_kind i.kind) (has_place i.kind) (is_given i.given) (ltb 0 i.remote) (leb byte_values i.transition)
    own_bits =
        subst
        (λ m. Bits m (is_command_kind i.kind) (has_place i.kind) (is_given i.given) (ltb 0 i.remote) (leb byte_values i.transition))
        is.map_is_own (item_bits i)

    below : is_command_kind i.kind ≡ true → i.transition < h.transitions
    below t = chosen_command h i (part_of i.kind) t in_record.choice

    of_pop : is_command_kind i.kind ≡ false → (i.queue < h.queues) × (i.remote ≤ h.ranks)
    of_pop t = chosen_pop h i (part_of i.kind) t in_record.choice

    ranked : (v : ℕ) → 1 ≤ v → v ≤ h.ranks → Ranked v
    ranked v low high =
        record { small = omega (arith, high, fits.ranks_fit); passes = true_between 1 h.ranks v (record { low = low; high = high }) }

    could_rank : Optional (bit 0 map) 0 Ranked i.rank
    could_rank =
        record {
          there = λ _. ranked i.rank in_record.low in_record.high;
          left_out = λ t. absurd (true≢false (sym own_bits.bit0 ∙ t));
        }

    could_low : Optional (bit 1 map) 0 (Low (bit 7 map) h.transitions) (i.transition % byte_values)
    could_low =
        record {
          there = λ t.
              record {
                small = omega arith;
                below = λ u.
                    let short : i.transition < byte_values = omega (arith, leb-false byte_values i.transition (sym own_bits.bit7 ∙ u)) in
                    rw (mod-eq_of_lt short) (below (sym own_bits.bit1 ∙ t));
              };
          left_out = λ t. ap (λ n. n % byte_values) (shown.of_pop (sym own_bits.bit1 ∙ t));
        }

    could_queue : Optional (bit 2 map) 0 Queued i.queue
    could_queue =
        record {
          there = λ t.
              let few = (of_pop (not-true (is_command_kind i.kind) (sym own_bits.bit2 ∙ t))).0 in
              record { small = omega (arith, few, fits.queues_fit); passes = lt-ltb i.queue h.queues few };
          left_out = λ t. (shown.of_command (not-false (is_command_kind i.kind) (sym own_bits.bit2 ∙ t))).0;
        }

    could_place_rank : Optional (bit 3 map) 0 Ranked i.place.rank
    could_place_rank =
        record {
          there = λ t. let (low, high, _) = in_record.place (sym own_bits.bit3 ∙ t) in ranked i.place.rank low high;
          left_out = λ t. ap (λ a. a.rank) (shown.of_no_place (sym own_bits.bit3 ∙ t)).0;
        }

    could_place_cell : Optional (bit 4 map) 0 Celled i.place.cell
    could_place_cell =
        record {
          there = λ t.
              let (_, _, few) = in_record.place (sym own_bits.bit4 ∙ t) in
              (omega (arith, few, fits.cells_fit), lt-ltb i.place.cell h.cells few);
          left_out = λ t. ap (λ a. a.cell) (shown.of_no_place (sym own_bits.bit4 ∙ t)).0;
        }

    could_remote : Optional (bit 6 map) 0 Ranked i.remote
    could_remote =
        record {
          there = λ t.
              let some : 0 < i.remote = ltb-true 0 i.remote (sym own_bits.bit6 ∙ t) in
              decided (is_command_kind i.kind)
              (λ c. absurd (omega (arith, some, (shown.of_command c).1)))
              (λ p. ranked i.remote (omega arith) (of_pop p).1);
          left_out = λ t. omega (arith, ltb-false 0 i.remote (sym own_bits.bit6 ∙ t));
        }

    could_number : {low : ℕ} → i.transition % byte_values ≡ low → Optional (bit 7 map) low (High h.transitions low) i.transition
    could_number low_byte_lem =
        record {
          there = λ t.
              let large = leb-true byte_values i.transition (sym own_bits.bit7 ∙ t) in
              record {
                low_byte_lem = low_byte_lem;
                large = large;
                below = decided (is_command_kind i.kind) below (λ p. absurd (omega (arith, large, shown.of_pop p)));
              };
          left_out = λ t.
              let short : i.transition < byte_values = omega (arith, leb-false byte_values i.transition (sym own_bits.bit7 ∙ t)) in
              sym (mod-eq_of_lt short) ∙ low_byte_lem;
        }

  fields_trip : RoundTrip (item_fields h map kind) (field_bytes map) Fields
  unfolding item_fields
  fields_trip =
      trip_plain
      (trip_bind (λ i. i.rank) (trip_optional (bit 0 map) 0 (trip_field (between 1 h.ranks))) (λ i is _. could_rank i is) λ rank is_rank.
      trip_bind (λ i. i.transition % byte_values) (trip_optional (bit 1 map) 0 (trip_low (bit 7 map) h.transitions))
      (λ i is _. could_low i is) λ low is_low.
      trip_bind (λ i. i.queue) (trip_optional (bit 2 map) 0 (trip_field (λ q. ltb q h.queues))) (λ i is _. could_queue i is) λ queue is_queue.
      trip_bind (λ i. i.place.rank) (trip_optional (bit 3 map) 0 (trip_field (between 1 h.ranks)))
      (λ i is _. could_place_rank i is) λ place_rank_lem is_place_rank.
      trip_bind (λ i. i.place.cell) (trip_optional (bit 4 map) 0 (trip_judged (λ a. ltb a h.cells) record_range (trip_word record_length)))
      (λ i is _. could_place_cell i is) λ place_cell_lem is_place_cell.
      trip_bind (λ i. i.given) (trip_given (bit 5 map))
      (λ i is _. record { in_range_lem = is.writable.in_record.given; told = sym (own_bits i is).bit5 }) λ given is_given_lem.
      trip_bind (λ i. i.remote) (trip_optional (bit 6 map) 0 (trip_field (between 1 h.ranks))) (λ i is _. could_remote i is) λ remote is_remote.
      trip_then (λ i. i.transition) (trip_optional (bit 7 map) low (trip_high h.transitions low fits.transitions_fit (low_small is_low)))
      (λ i is (((((((_, _), low_byte_lem), _), _), _), _), _). could_number i is low_byte_lem) λ transition is_number.
      trip_pure (item is_rank is_low is_queue is_place_rank is_place_cell is_given_lem is_remote is_number)
      (fields_read_lem is_rank is_low is_queue is_place_rank is_place_cell is_given_lem is_remote is_number)
      ((((((((tt, refl), number_low is_low is_number), refl), refl), refl), refl), refl), refl)
      (λ i is ((((((((_, r), l), q), pr), pc), g), n), t). rw (← is.kind_is, ← r, ← q, ← pr, ← pc, ← g, ← n, ← t) refl))

-- The verdict on a map and a kind's number has no bytes of its own.
record Judged (map number : ℕ) (kind : Kind) : Type 0 where
  same : kind_number kind ≡ number
  has : HasMap kind map

verdict_so : {bytes : List ℕ} (at next : ℕ) {map number : ℕ} {form : ItemForm} → FormIs HasMap map number form → (f : Found Kind) →
    judged_item_form at form bytes next ≡ Ok f → StandsAt (λ k. []) (Judged map number) bytes next f
unfolding judged_item_form
verdict_so {bytes} at next (good kind same has) f h =
    subst (StandsAt (λ k. []) (Judged _ _) bytes next) (ok_injective h) (record { can = record { same = same; has = has }; stands = refl })
verdict_so at next (unknown_kind no_kind) f h = absurd (refused≢ok h)
verdict_so at next (wrong_map kind same has_not) f h = absurd (refused≢ok h)

trip_verdict : (at map number : ℕ) → RoundTrip (judged_item_form at (item_form map number)) (λ k. []) (Judged map number)
unfolding judged_item_form
trip_verdict at map number =
    record {
      are_bytes = λ kind is. no_bytes;
      read_back = λ kind is bytes next more e.
          rw (form_only today_maps (good kind is.same is.has)) (ap (found kind) (sym (add-zero next)));
      written_so = λ bytes bound next f h. verdict_so at next (form_is today_maps map number) f h;
    }

kind_small : (kind : Kind) → kind_number kind < byte_values
kind_small Load = omega arith
kind_small Store = omega arith
kind_small Assign = omega arith
kind_small Assume = omega arith
kind_small Read = omega arith
kind_small Write = omega arith
kind_small Popa = omega arith
kind_small Popb = omega arith
kind_small Bar = omega arith

-- The item, from its map byte on.
pub item_trip : (h : Header) → HeaderFits h → RoundTrip (read_item h) item_bytes (Writable h)
unfolding read_item_in item_bytes
item_trip h fits =
    trip_plain
    (trip_here λ at.
    trip_bind item_map (trip_byte record_length) (λ i w _. map_small i) λ map _.
    trip_bind (λ i. kind_number i.kind) (trip_byte record_length) (λ i w _. kind_small i.kind) λ number _.
    trip_bind (λ i. i.kind) (trip_verdict at map number)
    (λ i w ((_, map_is), same). record { same = same; has = rw map_is at (has_map w.shown) }) λ kind judged.
    trip_as
    (trip_written (fields_trip h fits judged.has) (λ i is. ap (λ m. field_bytes m i) (sym is.map_is_own)))
    (λ i is. (is.writable, (((tt, is.map_is_own), ap kind_number is.kind_is ∙ judged.same), is.kind_is)))
    (λ i (w, (((_, map_is), _), kind_is)). record { writable = w; kind_is = kind_is; map_is_own = map_is }))
