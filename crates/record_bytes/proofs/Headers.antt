-- A header's reader and writer undo each other, so each T has one form: a count that fits the byte is in the byte, and 255 stands before no such count.
use Rattle.model.specs.declared.Found.{Found}
use Prim.Native.Nat.{ℕ, ◌+◌, ◌≤◌, ◌<◌}
use mathlib.Core.Path.{◌≡◌, refl, sym, ap, ◌∙◌}
use mathlib.Core.Bool.{true}
use mathlib.Core.List.{List, [], ◌∷◌, ◌++◌}
use native.Mathlib.Omega.{arith}
use lib.Dec.{leb, eqb}
use lib.ListN.{length, drop}
use borrow.Author.Tests.{eqb-true, eqb-false, lt-ltb, le-ltb, leb-true, leb-false, le-leb, lt-leb, ne_eqb}
use Rattle.model.specs.declared.Header.{Header}
use Rattle.model.specs.Limits.{max_ranks, max_cells, max_registers, max_queues, max_states, short_transitions, max_transitions, long_count, byte_values}
use Rattle.model.specs.Refusals.{Ok, program_length, program_range}
use Rattle.model.specs.Choice.{between}
use Rattle.model.specs.Bytes.{AreBytes, found, word, word_bytes, judged, optional, times}
use Rattle.model.specs.Programs.{Transition, Program, header_number, count_byte, transition_count, read_header_in, read_header, read_transition, program_reader_in, program_reader}
use Rattle.model.specs.Programs.{read_program_in, read_program}
use Rattle.model.proofs.Laws.{decided, Within, between_true, true_between, bind_ok, ok_injective}
use Rattle.model.proofs.Bytes.{whole_ok}
use Rattle.record_bytes.specs.RecordBytes.{part}
use Rattle.record_bytes.specs.HeaderBytes.{count_byte_of, long_count_bytes, count_bytes, header_bytes, WritableHeader}
use Rattle.record_bytes.specs.Claims.{RoundTrip, HeaderForms}
use Rattle.record_bytes.proofs.RoundTrip.{trip_byte, trip_word, trip_judged, trip_as, trip_written, trip_pure, trip_bind, trip_then}
use Rattle.record_bytes.proofs.RoundTrip.{trip_plain, trip_once}

-- A header number in its range, which fits a byte.
trip_number : (low high : ℕ) → high < byte_values → RoundTrip (header_number low high) (λ v. v ∷ []) (Within low high)
unfolding header_number
trip_number low high small =
    trip_as (trip_judged (between low high) program_range (trip_byte program_length))
    (λ v (_, passes). between_true low high v passes)
    (λ v is. (omega (arith, is.high, small), true_between low high v is))

-- The count byte of a T that fits it, and of one that does not.
short_count : (t : ℕ) → t ≤ short_transitions → count_byte_of t ≡ t
short_count t few = rw (le-leb t short_transitions few)

long_count_lem : (t : ℕ) → short_transitions < t → count_byte_of t ≡ long_count
long_count_lem t many = rw (lt-leb t short_transitions many)

byte_short : (t : ℕ) → ¬ (count_byte_of t ≡ long_count) → t ≤ short_transitions
byte_short t other =
    decided (leb t short_transitions) (λ y. leb-true t short_transitions y)
    (λ n. absurd (other (long_count_lem t (omega (arith, leb-false t short_transitions n)))))

byte_long : (t : ℕ) → count_byte_of t ≡ long_count → short_transitions < t
byte_long t is =
    decided (leb t short_transitions)
    (λ y. absurd (omega (arith, leb-true t short_transitions y, sym (short_count t (leb-true t short_transitions y)) ∙ is)))
    (λ n. omega (arith, leb-false t short_transitions n))

could_count : (t : ℕ) → t ≤ max_transitions → (count_byte_of t < byte_values) × (count_byte max_transitions (count_byte_of t) ≡ true)
could_count t few =
    decided (leb t short_transitions)
    (λ y.
    let small = leb-true t short_transitions y in
    rw (short_count t small, ne_eqb t long_count (omega arith)) (omega arith, y))
    (λ n. rw (long_count_lem t (omega (arith, leb-false t short_transitions n))) (omega arith, refl))

-- What follows the count byte: a two-byte count behind 255, and nothing behind any other.
behind_byte : (count : ℕ) → count_byte max_transitions count ≡ true →
    RoundTrip (optional (eqb count long_count) count (judged (between (short_transitions + 1) max_transitions) program_range (word program_length)))
    long_count_bytes (λ t. (t ≤ max_transitions) × (Unit {0} × (count_byte_of t ≡ count)))
behind_byte count passes =
    decided (eqb count long_count)
    (λ y.
    let is = eqb-true count long_count y in
    rw y
    (trip_written
    (trip_as (trip_judged (between (short_transitions + 1) max_transitions) program_range (trip_word program_length))
    (λ t (_, passes).
    let range = between_true (short_transitions + 1) max_transitions t passes in
    (range.high, (tt, long_count_lem t (omega (arith, range.low)) ∙ sym is)))
    (λ t (few, (_, byte_is)).
    let many = byte_long t (byte_is ∙ is) in
    (omega arith, true_between (short_transitions + 1) max_transitions t (record { low = omega arith; high = few }))))
    (λ t (_, (_, byte_is)). ap (λ long. part long (word_bytes t)) (sym (lt-ltb short_transitions t (byte_long t (byte_is ∙ is)))))))
    (λ n.
    let other = eqb-false count long_count n in
    let short = leb-true count short_transitions (rw n at passes) in
    rw n
    (trip_written
    (trip_pure count (omega arith) (tt, short_count count short)
    (λ t _ (_, byte_is). sym byte_is ∙ short_count t (byte_short t (λ long. other (sym byte_is ∙ long)))))
    (λ t (_, (_, byte_is)).
    ap (λ long. part long (word_bytes t)) (sym (le-ltb short_transitions t (byte_short t (λ long. other (sym byte_is ∙ long))))))))

trip_count : RoundTrip (transition_count max_transitions) count_bytes (λ t. t ≤ max_transitions)
unfolding transition_count
trip_count =
    trip_plain
    (trip_bind count_byte_of (trip_judged (count_byte max_transitions) program_range (trip_byte program_length)) (λ t few _. could_count t few)
    λ count (_, passes). behind_byte count passes)

pub header_trip : RoundTrip read_header header_bytes WritableHeader
unfolding read_header_in header_bytes
header_trip =
    trip_plain
    (trip_bind (λ h. h.ranks) (trip_number 1 max_ranks (omega arith)) (λ h w _. record { low = w.fits.ranks_low; high = w.fits.ranks_fit })
    λ ranks is_ranks.
    trip_bind (λ h. h.cells) (trip_number 1 max_cells (omega arith)) (λ h w _. record { low = w.cells_low; high = w.fits.cells_fit })
    λ cells is_cells.
    trip_bind (λ h. h.registers) (trip_number 1 max_registers (omega arith)) (λ h w _. record { low = w.registers_low; high = w.fits.registers_fit })
    λ registers is_registers.
    trip_bind (λ h. h.queues) (trip_number 1 max_queues (omega arith)) (λ h w _. record { low = w.queues_low; high = w.fits.queues_fit })
    λ queues is_queues.
    trip_bind (λ h. h.states) (trip_number 1 max_states (omega arith)) (λ h w _. record { low = w.states_low; high = w.fits.states_fit })
    λ states is_states.
    trip_then (λ h. h.transitions) trip_count (λ h w _. w.fits.transitions_fit) λ transitions few.
    trip_pure
    (record { ranks = ranks; cells = cells; registers = registers; queues = queues; states = states; transitions = transitions })
    (record {
      fits =
          record {
            ranks_low = is_ranks.low;
            ranks_fit = is_ranks.high;
            cells_fit = is_cells.high;
            registers_fit = is_registers.high;
            queues_fit = is_queues.high;
            states_fit = is_states.high;
            transitions_fit = few;
          };
      cells_low = is_cells.low;
      registers_low = is_registers.low;
      queues_low = is_queues.low;
      states_low = is_states.low;
    })
    ((((((tt, refl), refl), refl), refl), refl), refl)
    (λ h w ((((((_, n), a), r), q), s), t). rw (← n, ← a, ← r, ← q, ← s, ← t) refl))

-- The claims.
begins_with : (bytes : List ℕ) (P : Program) → AreBytes bytes → read_program bytes ≡ Ok P → (rest : List ℕ) × (bytes ≡ header_bytes P.header ++ rest)
unfolding read_program_in program_reader_in
begins_with bytes P bound h =
    let (f, read, h₁) = bind_ok (read_header bytes 0) _ (whole_ok program_length program_reader bytes h) in
    let (g, _, h₂) = bind_ok (times f.value.transitions (read_transition f.value) bytes f.next) _ h₁ in
    of_header f g read h₂
  where
    of_header : (f : Found Header) (g : Found (List Transition)) → read_header bytes 0 ≡ Ok f →
        found {A = Program} (record { header = f.value; transitions = g.value }) g.next ≡ found P (length bytes) →
        (rest : List ℕ) × (bytes ≡ header_bytes P.header ++ rest)
    of_header f g read is =
        let same : f.value ≡ P.header = ap (λ (p : Found Program). p.value.header) (ok_injective is) in
        (drop f.next bytes, (header_trip.written_so bytes bound 0 f read).stands ∙ ap (λ (k : Header). header_bytes k ++ drop f.next bytes) same)

pub header_forms : HeaderForms
header_forms = record { headers = header_trip; one_form = trip_once header_trip header_trip; begins = begins_with }
