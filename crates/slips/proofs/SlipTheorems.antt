-- Writer and reader together. What the writer writes for an accepted record, the reader reads back as each rank's count of command items
-- (`written_read_back`); and two byte strings that the reader reads alike are one (`read_once`).
use Prim.Native.Nat.{ℕ, ◌≤◌}
use mathlib.Core.Path.{◌≡◌, sym, ap, ap₂, fun_ext, ◌∙◌}
use mathlib.Core.List.{List, map}
use lib.ListN.{length, take, length-map}
use Rattle.model.specs.Limits.{max_ranks}
use Rattle.model.specs.Refusals as Refusals
use Rattle.model.specs.Refusals.{Result, Ok, Err, require, slip_form}
use Rattle.model.specs.Choice.{between, numbers_from}
use Rattle.model.specs.Bytes.{AreBytes, whole}
use Rattle.model.specs.Checks.{Accepted, accept, fill}
use Rattle.model.specs.Lending.{Lent, answering}
use Rattle.model.specs.Slips.{slip_of, write_slip_in, write_slip, slip_reader, read_slip_in, read_slip}
use Rattle.model.proofs.Laws.{required, ok_injective, true_between}
use Rattle.model.proofs.Lending.{lends, filling, fill_front}
use Rattle.memory.proofs.Filled.{numbers_length}
use Rattle.record_facts.specs.Facts.{count_of}
use Rattle.record_facts.proofs.Bounds.{accepted_bounds}
use Rattle.slips.proofs.Commands.{commands_counted, commands_few}
use Rattle.slips.proofs.RoundTrip.{slip_reads, slip_unique}

-- Each rank's count of command items, rank 1 first.
abbrev pub command_counts : Accepted → List ℕ
command_counts a = map (λ rank. count_of rank a.run.events) (numbers_from 1 a.program.header.ranks)

module _ (program start recorded : List ℕ) (a : Accepted) (accepted : accept program start recorded ≡ Ok a) where
  abbrev ranks : ℕ
  ranks = a.program.header.ranks

  counts_same : map a.run.last.taken (numbers_from 1 ranks) ≡ command_counts a
  counts_same = ap (λ f. map f (numbers_from 1 ranks)) (fun_ext (commands_counted program start recorded a accepted))

  counts_long : length (command_counts a) ≡ ranks
  counts_long = length-map (numbers_from 1 ranks) (λ rank. count_of rank a.run.events) ∙ numbers_length 1 ranks

  -- The slip of an accepted record is read for its N as its ranks' counts.
  pub read_back : (counts : List ℕ) → ranks ≤ length counts →
      read_slip ranks (slip_of a) counts ≡ answering (Ok ranks) (fill (command_counts a) counts)
  unfolding read_slip_in slip_of
  read_back counts room =
      let fits = (accepted_bounds program start recorded a accepted).header in
      let inside = true_between 1 max_ranks ranks (record { low = fits.ranks_low; high = fits.ranks_fit }) in
      rw (inside, slip_reads a.run.last.taken (commands_few program start recorded a accepted) ranks, counts_same)
      (sym (lends counts (command_counts a) counts_long room))

-- The writer's bytes, so many as it says.
pub written_read_back : (program start recorded memory : List ℕ) (a : Accepted) → accept program start recorded ≡ Ok a → {n : ℕ} →
    (write_slip program start recorded memory).answer ≡ Ok n → (counts : List ℕ) → a.program.header.ranks ≤ length counts →
    read_slip a.program.header.ranks (take n (write_slip program start recorded memory).memory) counts
    ≡ answering (Ok a.program.header.ranks) (fill (command_counts a) counts)
unfolding write_slip_in
written_read_back program start recorded memory a accepted {n} h counts room =
    let written = filling memory (Refusals.◌>>=◌ (accept program start recorded) (λ a. Ok (slip_of a))) h in
    let slip : slip_of a ≡ written.entries = ok_injective (sym (ap (λ m. Refusals.◌>>=◌ m (λ a. Ok (slip_of a))) accepted) ∙ written.is) in
    let front : take n (write_slip program start recorded memory).memory ≡ slip_of a =
    ap₂ take written.counted written.holds ∙ fill_front written.entries memory ∙ sym slip in
    ap (λ s. read_slip a.program.header.ranks s counts) front ∙ read_back program start recorded a accepted counts room

-- Two byte strings that are read alike, and not refused, are one.
pub read_once : (ranks : ℕ) (slip other counts : List ℕ) {n : ℕ} → AreBytes slip → AreBytes other →
    (read_slip ranks slip counts).answer ≡ Ok n → read_slip ranks slip counts ≡ read_slip ranks other counts → slip ≡ other
unfolding read_slip_in
read_once ranks slip other counts bound bound' h same =
    let one = filling counts (right slip) h in
    let two = filling counts (right other) (ap (λ (l : Lent). l.answer) (sym same) ∙ h) in
    let entries : one.entries ≡ two.entries =
    sym (fill_front one.entries counts)
    ∙ ap₂ take (sym one.counted ∙ two.counted) (sym one.holds ∙ ap (λ (l : Lent). l.memory) same ∙ two.holds)
    ∙ fill_front two.entries counts in
    slip_unique ranks slip other bound bound' (read slip one.is) (read other (two.is ∙ ap Ok (sym entries)))
  where
    right : List ℕ → Result (List ℕ)
    right s = Refusals.◌>>=◌ (require (between 1 max_ranks ranks) slip_form 0) (λ _. whole slip_form (slip_reader ranks) s)

    read : (s : List ℕ) {l : List ℕ} → right s ≡ Ok l → whole slip_form (slip_reader ranks) s ≡ Ok l
    read s e = (required (between 1 max_ranks ranks) slip_form 0 _ e).1
