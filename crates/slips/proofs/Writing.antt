-- The slip of an accepted record is the slip from its ranks' counts. The definition goes rank by rank up to N; the ranks above N have no count.
use Prim.Native.Nat.{ℕ, ◌+◌, ◌/◌, ◌%◌, ◌^◌, ◌≤◌, ◌<◌}
use mathlib.Core.Path.{◌≡◌, sym, ap, ap₂, ◌∙◌}
use mathlib.Core.List.{List, [], ◌∷◌, ◌++◌}
use native.Mathlib.Nat.{mod-eq_of_lt}
use native.Mathlib.Omega.{arith}
use lib.Count.{ones, ones-le}
use lib.Dec.{ltb}
use lib.ListN.{length, get_or, length-append, length-map, get_or-eq_default}
use lib.Pow.{pow_mono}
use borrow.Author.Tests.{ltb-true, ltb-false}
use Rattle.model.specs.Limits.{byte_ranks, max_ranks, byte_values}
use Rattle.model.specs.Choice.{numbers_from}
use Rattle.model.specs.Checks.{Accepted, accept, entry_bytes}
use Rattle.model.specs.Refusals.{Ok}
use Rattle.model.specs.Marked.{marked_bytes}
use Rattle.model.specs.Slips.{map_bytes, slip_of}
use Rattle.model.proofs.Laws.{decided}
use Rattle.record_facts.proofs.Bounds.{accepted_bounds}
use Rattle.memory.specs.Made.{by_rank}
use Rattle.memory.proofs.Filled.{numbers_length, numbers_at}
use Rattle.lists.proofs.Forms.{entry_length}
use Rattle.marked.specs.Maps.{map_bits}
use Rattle.marked.proofs.MarkedMaps.{map_to, map_fits}
use Rattle.marking.specs.Marking.{map_of, values_of}
use Rattle.marking.proofs.Writing.{map_small, values_ones, map_whole, values_whole}
use Rattle.slips.specs.Writing.{map_length, slip_length, map_written, slip_from}
use Rattle.slips.proofs.Commands.{commands_none}

-- A map of N ranks is written whole, in one byte or two.
map_written_lem : (ranks mapped : ℕ) → ranks ≤ max_ranks → mapped < 2 ^ ranks → map_bytes ranks mapped ≡ map_written ranks mapped
unfolding map_bytes map_written
map_written_lem ranks mapped few small =
    decided (ltb byte_ranks ranks)
    (λ t.
    let high : mapped / byte_values < byte_values = omega (arith, small, pow_mono few) in
    rw t (ap {B = List ℕ} (λ n. n ∷ mapped % byte_values ∷ []) (sym (mod-eq_of_lt high))))
    (λ t.
    let byte : mapped < byte_values = omega (arith, small, pow_mono (ltb-false byte_ranks ranks t)) in
    rw t (ap {B = List ℕ} (λ n. n ∷ []) (sym (mod-eq_of_lt byte))))

-- Counts of all ranks that there may be, of which those above N have none.
module _ (f : ℕ → ℕ) (ranks : ℕ) (few : ranks ≤ max_ranks) (none : (rank : ℕ) → ranks < rank → f rank ≡ 0) where
  same : (i : ℕ) → i < ranks → get_or (by_rank f) i 0 ≡ f (1 + i)
  same i below = numbers_at f 1 max_ranks i 0 (omega arith)

  beyond : (i : ℕ) → ranks ≤ i → get_or (by_rank f) i 0 ≡ 0
  beyond i above =
      decided (ltb i max_ranks)
      (λ t. numbers_at f 1 max_ranks i 0 (ltb-true i max_ranks t) ∙ none (1 + i) (omega arith))
      (λ t.
      let long : length (by_rank f) ≡ max_ranks = length-map (numbers_from 1 max_ranks) f ∙ numbers_length 1 max_ranks in
      get_or-eq_default (by_rank f) 0 (rw long (ltb-false i max_ranks t)))

  pub slip_whole : map_bytes ranks (map_to 1 f ranks) ++ marked_bytes f (numbers_from 1 ranks) ≡ slip_from ranks (by_rank f)
  unfolding slip_from
  slip_whole =
      let room : ranks ≤ map_bits = omega arith in
      ap₂ ◌++◌
      (map_written_lem ranks (map_to 1 f ranks) few (map_fits 1 f ranks)
      ∙ ap (map_written ranks) (sym (map_whole 1 f (by_rank f) ranks room same (λ i above below. beyond i above))))
      (sym (values_whole 1 f (by_rank f) ranks room same (λ i above below. beyond i above)))

pub slip_accepted : (program start recorded : List ℕ) (a : Accepted) → accept program start recorded ≡ Ok a →
    slip_of a ≡ slip_from a.program.header.ranks (by_rank a.run.last.taken)
unfolding slip_of
slip_accepted program start recorded a accepted =
    slip_whole a.run.last.taken a.program.header.ranks (accepted_bounds program start recorded a accepted).header.ranks_fit
    (commands_none program start recorded a accepted)

-- One byte or two.
pub map_length_some : (ranks : ℕ) → 1 ≤ map_length ranks
map_length_some ranks = decided (ltb byte_ranks ranks) (λ t. rw t (omega arith)) (λ t. rw t (omega arith))

pub map_length_few : (ranks : ℕ) → map_length ranks ≤ 2
map_length_few ranks = decided (ltb byte_ranks ranks) (λ t. rw t (omega arith)) (λ t. rw t (omega arith))

-- It has as many bytes as the map asks for.
pub written_length_lem : (ranks mapped : ℕ) → length (map_written ranks mapped) ≡ map_length ranks
unfolding map_written
written_length_lem ranks mapped = decided (ltb byte_ranks ranks) (λ t. rw t) (λ t. rw t)

pub slip_length_lem : (ranks : ℕ) (counts : List ℕ) → length (slip_from ranks counts) ≡ slip_length ranks (map_of counts)
unfolding slip_from
slip_length_lem ranks counts =
    omega (
      arith,
      length-append (map_written ranks (map_of counts)) (entry_bytes (values_of (map_of counts) counts)),
      written_length_lem ranks (map_of counts),
      entry_length (values_of (map_of counts) counts),
      values_ones (map_of counts) counts (map_small counts),
    )

-- A map has no more ones than bits.
pub ones_few : (mapped : ℕ) → mapped < 2 ^ map_bits → ones mapped ≤ map_bits
ones_few mapped small = ones-le map_bits mapped small
