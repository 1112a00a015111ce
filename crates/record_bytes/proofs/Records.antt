-- A record's reader and writer undo each other, and items that the replay accepts are written as a record that the check accepts.
use Prim.Native.Nat.{ℕ}
use mathlib.Core.Path.{◌≡◌, refl}
use mathlib.Core.List.{List}
use lib.Dec.{leb}
use lib.ListN.{length}
use native.Mathlib.Omega.{arith}
use borrow.Author.Tests.{leb-true, le-leb}
use Rattle.model.specs.declared.Header.{Header}
use Rattle.model.specs.declared.Item.{Item}
use Rattle.model.specs.Limits.{max_items}
use Rattle.model.specs.Refusals.{Ok, record_length, record_range}
use Rattle.model.specs.Programs.{Program, HeaderFits, read_program}
use Rattle.model.specs.Records.{record_reader_in, record_reader, read_record_in}
use Rattle.model.specs.Machine.{Start}
use Rattle.model.specs.StartBytes.{read_start}
use Rattle.model.specs.Replay.{Replayed, replay}
use Rattle.model.specs.Checks.{accept_in, accept}
use Rattle.model.proofs.Bytes.{whole_ok}
use Rattle.model.proofs.Ranges.{header_fits}
use Rattle.record_bytes.specs.RecordBytes.{items_bytes, record_bytes}
use Rattle.record_bytes.specs.Claims.{RoundTrip, WritableRecord, RecordForms}
use Rattle.record_bytes.proofs.RoundTrip.{trip_word, trip_judged, trip_as, trip_bind, trip_plain, trip_times, whole_back, whole_so, trip_once}
use Rattle.record_bytes.proofs.Items.{item_trip}

pub record_trip : (h : Header) → HeaderFits h → RoundTrip (record_reader h) record_bytes (WritableRecord h)
unfolding record_reader_in items_bytes
record_trip h fits =
    trip_plain
    (trip_bind length (trip_judged (λ n. leb n max_items) record_range (trip_word record_length))
    (λ items w _. (omega (arith, w.few), le-leb (length items) max_items w.few)) λ count (_, few).
    trip_as (trip_times (item_trip h fits) items_bytes refl (λ i items. refl) count)
    (λ items (each, counted). (record { few = omega (arith, leb-true count max_items few, counted); each = each }, (tt, counted)))
    (λ items (w, (_, counted)). (w.each, counted)))

-- The claims.
pub record_forms : (h : Header) → HeaderFits h → RecordForms h
unfolding read_record_in
record_forms h fits =
    record {
      items = item_trip h fits;
      records = record_trip h fits;
      read_back = λ items w. whole_back (record_trip h fits) record_length items w;
      written_so = λ bytes items bound read. whole_so (record_trip h fits) bytes items bound (whole_ok record_length (record_reader h) bytes read);
      one_form = λ other fits'. trip_once (item_trip h fits) (item_trip other fits');
    }

-- What is written of items that the replay accepts is a record that the check accepts.
pub accept_written : (program start : List ℕ) {P : Program} {readings : Start} → read_program program ≡ Ok P →
    read_start P.header start ≡ Ok readings → {items : List Item} → WritableRecord P.header items → {run : Replayed} →
    replay P readings items ≡ Ok run → accept program start (record_bytes items) ≡ Ok (record { program = P; readings = readings; run = run })
unfolding accept_in
accept_written program start {P} program_read_lem start_read_lem {items} w replayed =
    rw (program_read_lem, start_read_lem, (record_forms P.header (header_fits program program_read_lem)).read_back items w, replayed)
