-- The reader that goes by the map's bits is the definition's, which goes number by number.
use Rattle.model.specs.declared.Found.{Found}
use Prim.Native.Nat.{ℕ, zero, suc, ◌+◌, ◌-◌, ◌^◌, ◌≤◌, ◌<◌}
use mathlib.Core.Path.{◌≡◌, refl, sym, ap, ◌∙◌}
use mathlib.Core.Bool.{Bool}
use mathlib.Core.List.{List, [], ◌∷◌, ◌++◌}
use native.Mathlib.Omega.{arith}
use lib.ListN.{length, set, replicate, length-append, replicate-append-replicate}
use lib.Seq.{set_at, append_snoc}
use Rattle.model.specs.Refusals as Refusals
use Rattle.model.specs.Refusals.{Result, Ok, Err}
use Rattle.model.specs.Choice.{bit, select, numbers_from}
use Rattle.model.specs.Bytes.{found, optional}
use Rattle.model.specs.Marked.{read_marked}
use Rattle.model.proofs.Laws.{decided}
use Rattle.model.proofs.Bytes.{Finds, finds_anything, finds_bind, finds_pure}
use Rattle.marked.specs.Maps.{map_bits, no_values}
use Rattle.marked.specs.Reading.{value_reader, read_bits, values_at}
use Rattle.marked.proofs.Bits.{bits_few}

-- Values joined those of lower and of higher numbers.
abbrev joined : (done new rest : List ℕ) → List ℕ
joined done new rest = done ++ (new ++ rest)

abbrev pub placed : (done rest : List ℕ) → Result (Found (List ℕ)) → Result (Found (List ℕ))
placed done rest m = Refusals.◌>>=◌ m (λ f. found (joined done f.value rest) f.next)

-- One value, put behind those that are there.
one_behind : (done : List ℕ) (value : ℕ) (new rest : List ℕ) → joined done (value ∷ new) rest ≡ joined (done ++ value ∷ []) new rest
one_behind done value new rest = sym (append_snoc done value (new ++ rest))

one_placed : (count : ℕ) (done rest : List ℕ) (value at : ℕ) → length done ≡ at →
    set (joined done (replicate (suc count) 0) rest) at value ≡ joined (done ++ value ∷ []) (replicate count 0) rest
one_placed count done rest value at long =
    set_at done 0 (replicate count 0 ++ rest) value at long ∙ one_behind done value (replicate count 0) rest

one_longer : (done : List ℕ) (value at : ℕ) → length done ≡ at → length (done ++ value ∷ []) ≡ at + 1
one_longer done value at long = length-append done (value ∷ []) ∙ ap (λ n. n + 1) long

-- Where a value is known, it may be placed first or last.
placed_first : (done rest : List ℕ) (value : ℕ) (m : Result (Found (List ℕ))) →
    placed (done ++ value ∷ []) rest m ≡ placed done rest (Refusals.◌>>=◌ m (λ f. found (value ∷ f.value) f.next))
placed_first done rest value (Ok f) = ap (λ l. found l f.next) (sym (one_behind done value f.value rest))
placed_first done rest value (Err r) = refl

module _ (first most fault map : ℕ) (bytes : List ℕ) where
  abbrev bit_of : ℕ → Bool
  bit_of i = bit i map

  abbrev marked_from : (i count : ℕ) → (at : ℕ) → Result (Found (List ℕ))
  marked_from i count at = read_marked first most fault map (numbers_from (first + i) count) bytes at

  -- The bits from one on, with the values of the bits before it in place.
  abbrev BitsRead : (count i : ℕ) (done rest : List ℕ) (at : ℕ) → Type 0
  BitsRead count i done rest at =
      read_bits most fault (select bit_of (numbers_from i count)) (joined done (replicate count 0) rest) bytes at
      ≡ placed done rest (marked_from i count at)

  bits_read : (count i : ℕ) (done rest : List ℕ) (at : ℕ) → length done ≡ i → BitsRead count i done rest at
  unfolding read_bits read_marked numbers_from select
  bits_read zero i done rest at long = refl
  bits_read (suc count) i done rest at long =
      let e : first + i - first ≡ i = omega arith in
      let f : first + i + 1 ≡ first + (i + 1) = omega arith in
      let further : (value next : ℕ) → BitsRead count (i + 1) (done ++ value ∷ []) rest next =
      λ value next. bits_read count (i + 1) (done ++ value ∷ []) rest next (one_longer done value i long) in
      decided (bit_of i)
      (λ t. rw (e, t, f) (go further (value_reader most fault bytes at)))
      (λ t.
      rw (e, t, f, one_behind done 0 (replicate count 0) rest)
      (further 0 at ∙ placed_first done rest 0 (marked_from (i + 1) count at)))
    where
      go : ((value next : ℕ) → BitsRead count (i + 1) (done ++ value ∷ []) rest next) → (m : Result (Found ℕ)) →
          Refusals.◌>>=◌ m
          (λ g.
          read_bits most fault (select bit_of (numbers_from (i + 1) count)) (set (joined done (replicate (suc count) 0) rest) i g.value) bytes g.next)
          ≡ placed done rest
          (Refusals.◌>>=◌ m
          (λ g. Refusals.◌>>=◌ (marked_from (i + 1) count g.next) (λ h. found (g.value ∷ h.value) h.next)))
      go further (Ok g) =
          rw (one_placed count done rest g.value i long)
          (further g.value g.next ∙ placed_first done rest g.value (marked_from (i + 1) count g.next))
      go further (Err r) = refl

  -- The values of the first numbers, and 0 for every bit beyond.
  pub values_placed : (count : ℕ) → count ≤ map_bits → map < 2 ^ count → (at : ℕ) →
      values_at most fault map bytes at
      ≡ placed [] (replicate (map_bits - count) 0) (read_marked first most fault map (numbers_from first count) bytes at)
  unfolding values_at
  values_placed count few small at =
      let e : count + (map_bits - count) ≡ map_bits = omega arith in
      let z : first + 0 ≡ first = omega arith in
      let all : no_values ≡ replicate count 0 ++ replicate (map_bits - count) 0 =
      sym (replicate-append-replicate count (map_bits - count) 0 ∙ ap (λ n. replicate n 0) e) in
      rw (bits_few map count few small, all)
      (bits_read count 0 [] (replicate (map_bits - count) 0) at refl
      ∙ ap (λ n. placed [] (replicate (map_bits - count) 0) (read_marked first most fault map (numbers_from n count) bytes at)) z)

-- A value for each number.
pub marked_length : {bytes : List ℕ} (first most fault map : ℕ) (numbers : List ℕ) →
    Finds bytes (read_marked first most fault map numbers) (λ l. length l ≡ length numbers)
unfolding read_marked
marked_length first most fault map [] = finds_pure [] refl
marked_length first most fault map (n ∷ numbers) =
    finds_bind (finds_anything (optional (bit (n - first) map) 0 (value_reader most fault))) λ value _.
    finds_bind (marked_length first most fault map numbers) λ rest e. finds_pure (value ∷ rest) (ap suc e)
