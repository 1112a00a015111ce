-- Lists as their caller reads them: what is written into the first entries is read back from them, and the rest is as it was.
use Prim.Native.Nat.{ℕ, ◌*◌, ◌/◌, ◌≤◌}
use mathlib.Core.Path.{◌≡◌, refl}
use mathlib.Core.List.{List, [], ◌∷◌, ◌++◌}
use native.Mathlib.Omega.{arith}
use lib.ListN.{length, drop, length-append, length-drop}
use lib.Seq.{take-append_seam, drop-append_seam}
use Rattle.model.specs.Checks.{fill, entry_bytes}
use Rattle.model.proofs.Entries.{two_length, two_entries}
use Rattle.demands.specs.Entries.{Form, numbers, bytes, width, entries, first_entries}
use Rattle.demands.specs.Demands.{Untouched}

-- Entries as they stand in a list.
abbrev pub written : Form → List ℕ → List ℕ
written numbers new = new
written bytes new = entry_bytes new

pub written_length_lem : (form : Form) (new : List ℕ) → length (written form new) ≡ width form * length new
unfolding entry_bytes
written_length_lem numbers new = omega arith
written_length_lem bytes [] = refl
written_length_lem bytes (n ∷ new) = omega (arith, written_length_lem bytes new)

-- What is written is read.
read_written : (form : Form) (new rest : List ℕ) → entries form (written form new ++ rest) ≡ new ++ entries form rest
read_written numbers new rest = refl
read_written bytes new rest = two_entries new rest

-- How many entries a list has.
unfoldable pub capacity : Form → List ℕ → ℕ
capacity numbers list = length list
capacity bytes list = length list / 2

pub entries_length : (form : Form) (list : List ℕ) → length (entries form list) ≡ capacity form list
unfolding capacity
entries_length numbers list = refl
entries_length bytes list = two_length list

-- So many entries take no more than the list has.
fits : (form : Form) (n : ℕ) (list : List ℕ) → n ≤ capacity form list → width form * n ≤ length list
unfolding capacity
fits numbers n list h = omega arith
fits bytes n list h = omega arith

-- A list whose first entries are filled: they are read back, and behind them it is what it was.
module _ (form : Form) (new old : List ℕ) where
  pub filled_entries : entries form (fill (written form new) old) ≡ new ++ entries form (drop (length (written form new)) old)
  unfolding fill
  filled_entries = read_written form new (drop (length (written form new)) old)

  pub filled_reads : first_entries form (length new) (fill (written form new) old) ≡ new
  filled_reads = rw filled_entries (take-append_seam new (entries form (drop (length (written form new)) old)))

  pub filled_untouched : length new ≤ capacity form old → Untouched form (length new) old (fill (written form new) old)
  unfolding fill
  filled_untouched room =
      let size = written_length_lem form new in
      let few : length (written form new) ≤ length old = omega (arith, fits form (length new) old room) in
      record {
        size = simp (length-append, length-drop) (omega arith);
        beyond = rw (← size) (drop-append_seam (written form new) (drop (length (written form new)) old));
      }
