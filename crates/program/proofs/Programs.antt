-- The reader answers for the program that the definition reads: it is refused where the definition refuses, and its starts are where the definition's
-- transitions stand.
use Rattle.model.specs.declared.Found.{Found}
use Rattle.std.specs.Prelude.{Some, slice_get}
use Prim.Native.Nat.{ℕ, zero, suc, ◌<◌}
use mathlib.Core.Path.{◌≡◌, refl, ap, sym, ◌∙◌}
use mathlib.Core.List.{List, [], ◌∷◌}
use native.Mathlib.Omega.{arith}
use lib.Dec.{eqb}
use lib.ListN.{length, get_or, get_or-append}
use Rattle.model.specs.declared.Header.{Header}
use Rattle.model.specs.declared.Refusal.{Refusal}
use Rattle.model.specs.Refusals as Refusals
use Rattle.model.specs.Refusals.{Result, Ok, Err}
use Rattle.model.specs.Bytes.{found, times}
use Rattle.model.specs.Programs.{HeaderFits, Program, Transition, read_header, read_program_in, read_program, read_transition}
use Rattle.model.proofs.Laws.{bind_assoc, decided}
use Rattle.model.proofs.Bytes.{times_more, times_none}
use Rattle.model.proofs.Extents.{header_takes}
use Rattle.model.proofs.Ranges.{header_finds}
use Rattle.program.specs.declared.reader.Program as reader
use Rattle.program.specs.Starts.{
  Answers,
  Begun,
  Starts,
  after_header,
  entries,
  map_ok,
  padded,
  program_of,
  reach,
  read_starts,
  transition_start,
}
use Rattle.program.proofs.Loops.{start_found, start_refused}

module _ (header : Header) (bytes : List ℕ) where
  -- Transitions that stand each at its start.
  abbrev Standing : (starts : List ℕ) → List Transition → Type 0
  Standing [] [] = Unit {0}
  Standing (s ∷ starts) (t ∷ ts) = (next : ℕ) × (read_transition header bytes s ≡ found t next) × Standing starts ts
  Standing [] (t ∷ ts) = ⊥
  Standing (s ∷ starts) [] = ⊥

  standing_length : (starts : List ℕ) (ts : List Transition) → Standing starts ts → length starts ≡ length ts
  standing_length [] [] h = refl
  standing_length (s ∷ starts) (t ∷ ts) h = ap suc (standing_length starts ts h.2)
  standing_length [] (t ∷ ts) h = absurd h
  standing_length (s ∷ starts) [] h = absurd h

  standing_at : (starts : List ℕ) (ts : List Transition) → Standing starts ts → (i : ℕ) → i < length starts →
      (t : Transition) × (next : ℕ) × (slice_get ts i ≡ Some t) × (read_transition header bytes (get_or starts i 0) ≡ found t next)
  standing_at [] [] h i l = absurd (omega arith)
  standing_at (s ∷ starts) (t ∷ ts) h zero l = (t, h.0, refl, h.1)
  standing_at (s ∷ starts) (t ∷ ts) h (suc i) l = standing_at starts ts h.2 i (omega arith)
  standing_at [] (t ∷ ts) h i l = absurd h
  standing_at (s ∷ starts) [] h i l = absurd h

  -- Two readers of so many find alike, or refuse alike.
  abbrev Alike : (count : ℕ) → Result (Found (List ℕ)) → Result (Found (List Transition)) → Type 0
  Alike count (Ok s) (Ok t) = (s.next ≡ t.next) × (length s.value ≡ count) × Standing s.value t.value
  Alike count (Err r) (Err r') = r ≡ r'
  Alike count (Ok s) (Err r) = ⊥
  Alike count (Err r) (Ok t) = ⊥

  alike_more : (n at : ℕ) (t : Transition) (next : ℕ) → read_transition header bytes at ≡ found t next →
      (s : Result (Found (List ℕ))) (ts : Result (Found (List Transition))) → Alike n s ts →
      Alike (suc n)
      (Refusals.◌>>=◌ s (λ rest. found (at ∷ rest.value) rest.next))
      (Refusals.◌>>=◌ ts (λ rest. found (t ∷ rest.value) rest.next))
  alike_more n at t next h (Ok s) (Ok ts) a = (a.0, ap suc a.1, (next, h, a.2))
  alike_more n at t next h (Err r) (Err r') a = a
  alike_more n at t next h (Ok s) (Err r) a = a
  alike_more n at t next h (Err r) (Ok ts) a = a

  alike_step : (n at : ℕ) → ((next : ℕ) → Alike n (times n (transition_start header) bytes next) (times n (read_transition header) bytes next)) →
      (m : Result (Found Transition)) → read_transition header bytes at ≡ m →
      Alike (suc n) (times (suc n) (transition_start header) bytes at) (times (suc n) (read_transition header) bytes at)
  alike_step n at rest (Ok f) e =
      rw (times_more n (transition_start header), times_more n (read_transition header), start_found header bytes at e, e)
      (alike_more n at f.value f.next e (times n (transition_start header) bytes f.next) (times n (read_transition header) bytes f.next)
      (rest f.next))
  alike_step n at rest (Err r) e =
      rw (times_more n (transition_start header), times_more n (read_transition header), start_refused header bytes at e, e) refl

  alike_times : (n at : ℕ) → Alike n (times n (transition_start header) bytes at) (times n (read_transition header) bytes at)
  alike_times zero at = rw (times_none (transition_start header), times_none (read_transition header)) (refl, refl, tt)
  alike_times (suc n) at = alike_step n at (alike_times n) (read_transition header bytes at) refl

-- The program that was read, beside the starts: the same header, and its transitions each at its start.
record Matching (bytes : List ℕ) (s : Starts) (p : Program) : Type 0 where
  header : p.header ≡ s.header
  bounded : HeaderFits s.header
  count : length s.starts ≡ s.header.transitions
  standing : Standing s.header bytes s.starts p.transitions

-- Both readers find a program, or both refuse alike.
abbrev Together : (bytes : List ℕ) → Result Starts → Result Program → Type 0
Together bytes (Ok s) (Ok p) = Matching bytes s p
Together bytes (Err r) (Err r') = r ≡ r'
Together bytes (Ok s) (Err r) = ⊥
Together bytes (Err r) (Ok p) = ⊥

module _ (header : Header) (bytes : List ℕ) (at : ℕ) where
  -- What follows the header, with the starts and with the transitions.
  abbrev with_starts : Result (Found (List ℕ)) → Result Starts
  with_starts = reach bytes (λ starts. record { header = header; starts = starts })

  abbrev with_transitions : Result (Found (List Transition)) → Result Program
  with_transitions = reach bytes (λ transitions. record { header = header; transitions = transitions })

  together_ends : HeaderFits header → (s : Result (Found (List ℕ))) (t : Result (Found (List Transition))) →
      Alike header bytes header.transitions s t →
      Together bytes (with_starts s) (with_transitions t)
  together_ends b (Ok s) (Ok t) a =
      rw a.0
      (decided (eqb t.next (length bytes))
      (λ e. rw e (record { header = refl; bounded = b; count = a.1; standing = a.2 }))
      (λ e. rw e refl))
  together_ends b (Err r) (Err r') a = a
  together_ends b (Ok s) (Err r) a = absurd a
  together_ends b (Err r) (Ok t) a = absurd a

  module _ (h : read_header bytes 0 ≡ found header at) where
    pub starts_after : read_starts bytes ≡ after_header header bytes at
    unfolding read_starts after_header
    starts_after = rw h (bind_assoc (times header.transitions (transition_start header) bytes at) _ _)

    program_after : read_program bytes ≡ with_transitions (times header.transitions (read_transition header) bytes at)
    unfolding read_program_in
    program_after = rw h (bind_assoc (times header.transitions (read_transition header) bytes at) _ _)

    together_after : Together bytes (read_starts bytes) (read_program bytes)
    unfolding after_header
    together_after =
        rw (starts_after, program_after)
        (together_ends (header_finds.holds 0 _ h)
        (times header.transitions (transition_start header) bytes at)
        (times header.transitions (read_transition header) bytes at)
        (alike_times header bytes header.transitions at))

module _ (bytes : List ℕ) where
  no_header_alike : {r : Refusal} → read_header bytes 0 ≡ Err r → Together bytes (read_starts bytes) (read_program bytes)
  unfolding read_starts read_program_in
  no_header_alike h = rw h refl

  together_by : (m : Result (Found Header)) → read_header bytes 0 ≡ m → Together bytes (read_starts bytes) (read_program bytes)
  together_by (Ok f) h = together_after f.value bytes f.next h
  together_by (Err r) h = no_header_alike h

  together : Together bytes (read_starts bytes) (read_program bytes)
  together = together_by (read_header bytes 0) refl

-- A program beside the entries that the reader filled.
pub record Placed (bytes : List ℕ) (header : Header) (starts : List ℕ) (p : Program) : Type 0 where
  pub same : p.header ≡ header
  pub bounded : HeaderFits header
  pub count : length p.transitions ≡ header.transitions
  pub transition : (i : ℕ) → i < header.transitions →
      (t : Transition) × (next : ℕ) × (slice_get p.transitions i ≡ Some t) × (read_transition header bytes (get_or starts i 0) ≡ found t next)

placed : (bytes : List ℕ) (s : Starts) (p : Program) → Matching bytes s p → Placed bytes s.header (padded s.starts) p
placed bytes s p m = record {
  same = m.header;
  bounded = m.bounded;
  count = sym (standing_length s.header bytes s.starts p.transitions m.standing) ∙ m.count;
  transition = λ i h.
      let l : i < length s.starts = omega (arith, m.count) in
      rw (get_or-append s.starts _ 0 i l) (standing_at s.header bytes s.starts p.transitions m.standing i l);
}

-- What the answer says of the program that the definition reads.
module _ (bytes : List ℕ) where
  readable_of : {read : reader.Program} (s : Result Starts) (q : Result Program) → Together bytes s q → Ok read ≡ map_ok program_of s →
      (p : Program) × (q ≡ Ok p) × Placed bytes read.header (entries s) p
  readable_of {read} (Ok s) (Ok p) m e =
      let same : read ≡ program_of s = cc in
      (p, refl, rw same (placed bytes s p m))
  readable_of (Ok s) (Err r) m e = absurd m
  readable_of (Err r) (Ok p) m e = absurd m
  readable_of (Err r) (Err r') m e = cc

  -- A program that can be read has this header, and each transition stands at its entry.
  pub readable : {read : reader.Program} → Answers bytes (Ok read) →
      (p : Program) × (read_program bytes ≡ Ok p) × Placed bytes read.header (entries (read_starts bytes)) p
  readable a = readable_of (read_starts bytes) (read_program bytes) (together bytes) a.starts

  unreadable_of : (q : Result Program) {r : Refusal} → Err r ≡ map_ok (λ (p : Program). p.header) q → q ≡ Err r
  unreadable_of (Ok p) e = cc
  unreadable_of (Err r') e = cc

  -- One that cannot is refused as the definition refuses it.
  pub unreadable : {r : Refusal} → Answers bytes (Err r) → read_program bytes ≡ Err r
  unreadable a = unreadable_of (read_program bytes) a.answer

  -- The entries are those of the starts that were read.
  pub entries_read : {read : reader.Program} → Answers bytes (Ok read) → read.starts ≡ entries (read_starts bytes)
  entries_read {read} a = of (read_starts bytes) a.starts
    where
      of : (s : Result Starts) → Ok read ≡ map_ok program_of s → read.starts ≡ entries s
      of (Ok s) e = let same : read ≡ program_of s = cc in rw same
      of (Err r) e = cc

  -- The reader with the starts and the definition's reader answer alike.
  same_header : (s : Result Starts) (q : Result Program) → Together bytes s q →
      map_ok (λ (p : reader.Program). p.header) (map_ok program_of s) ≡ map_ok (λ (p : Program). p.header) q
  same_header (Ok s) (Ok p) m = rw m.header
  same_header (Err r) (Err r') m = rw m
  same_header (Ok s) (Err r) m = absurd m
  same_header (Err r) (Ok p) m = absurd m

  promised : {read : Result reader.Program} → read ≡ map_ok program_of (read_starts bytes) → Answers bytes read
  promised e = rw e (record { answer = same_header (read_starts bytes) (read_program bytes) (together bytes); starts = refl })

  -- The two ways through the reader.
  pub no_header : {r : Refusal} → read_header bytes 0 ≡ Err r → Answers bytes (Err r)
  unfolding read_starts
  no_header h = promised (rw h)

  module _ {header : Header} {next : ℕ} (h : read_header bytes 0 ≡ found header next) where
    pub begun : Begun header next
    begun = record { few = (header_finds.holds 0 _ h).transitions_fit; near = omega (arith, header_takes.spares bytes 0 _ h) }

    pub after_header_lem : {read : Result reader.Program} → read ≡ map_ok program_of (after_header header bytes next) → Answers bytes read
    after_header_lem e = promised (rw (starts_after header bytes next h) e)
