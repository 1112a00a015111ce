-- The loop over the transitions. After i turns the first i entries are the first i starts, and what is left to read is the other transitions from the
-- present place on: so what is found in the end is those entries followed by the starts of the rest.
use Rattle.model.specs.declared.Found.{Found}
use Prim.Native.Nat.{ℕ, suc, ◌+◌, ◌-◌, ◌*◌, ◌≤◌, ◌<◌}
use mathlib.Core.Path.{◌≡◌, refl, sym, ◌∙◌}
use mathlib.Core.List.{List, [], ◌∷◌, ◌++◌, append_assoc, append-nil}
use native.Mathlib.Omega.{arith}
use native.Mathlib.Numerals.{add-one}
use lib.ListN.{length, take, drop, set, replicate, length-set}
use lib.Seq.{take-suc-set, take-length}
use borrow.Author.Tests.{eq-eqb, ne_eqb}
use Rattle.std.proofs.lemmas.List.{drop-replicate}
use Rattle.model.specs.declared.Header.{Header}
use Rattle.model.specs.declared.Refusal.{Refusal}
use Rattle.model.specs.Limits.{max_transition_bytes, max_transitions, word_values}
use Rattle.model.specs.Refusals as Refusals
use Rattle.model.specs.Refusals.{Result, Ok, Err, refuse, program_length}
use Rattle.model.specs.Bytes.{found, times}
use Rattle.model.specs.Programs.{Transition, read_transition}
use Rattle.model.proofs.Bytes.{times_more, times_none}
use Rattle.model.proofs.Extents.{transition_takes}
use Rattle.program.specs.Starts.{Begun, after_header, map_ok, program_of, transition_start}

-- What was passed stands before what is found after it.
abbrev after : List ℕ → Result (Found (List ℕ)) → Result (Found (List ℕ))
after passed m = Refusals.◌>>=◌ m (λ f. found (passed ++ f.value) f.next)

after_none : (m : Result (Found (List ℕ))) → after [] m ≡ m
after_none (Ok f) = refl
after_none (Err r) = refl

after_one : (passed : List ℕ) (a : ℕ) (m : Result (Found (List ℕ))) →
    after passed (Refusals.◌>>=◌ m (λ f. found (a ∷ f.value) f.next)) ≡ after (passed ++ (a ∷ [])) m
after_one passed a (Ok f) = rw append_assoc
after_one passed a (Err r) = refl

-- One start more.
pub start_found : (header : Header) (bytes : List ℕ) (at : ℕ) {t : Transition} {n : ℕ} →
    read_transition header bytes at ≡ found t n → transition_start header bytes at ≡ found at n
unfolding transition_start
start_found header bytes at h = rw h

pub start_refused : (header : Header) (bytes : List ℕ) (at : ℕ) {r : Refusal} →
    read_transition header bytes at ≡ Err r → transition_start header bytes at ≡ Err r
unfolding transition_start
start_refused header bytes at h = rw h

-- After i turns.
pub record Passed (header : Header) (bytes : List ℕ) (at : ℕ) (starts : List ℕ) (place i : ℕ) : Type 0 where
  pub begun : Begun header at
  pub near : place ≤ at + i * max_transition_bytes
  pub sized : length starts ≡ header.transitions
  pub same : times header.transitions (transition_start header) bytes at
      ≡ after (take i starts) (times (header.transitions - i) (transition_start header) bytes place)

pub passed_none : (header : Header) (bytes : List ℕ) (at : ℕ) (starts : List ℕ) → Begun header at → length starts ≡ header.transitions →
    Passed header bytes at starts at 0
passed_none header bytes at starts begun sized = record {
  begun = begun;
  near = omega arith;
  sized = sized;
  same =
      let e : header.transitions - 0 ≡ header.transitions = omega arith in
      rw e (sym (after_none (times header.transitions (transition_start header) bytes at)));
}

module _ {header : Header} {bytes : List ℕ} {at : ℕ} {starts : List ℕ} {place i : ℕ} (p : Passed header bytes at starts place i) where
  -- A start fits sixteen bits.
  pub fits : i < length starts → place < word_values
  fits h = omega (arith, p.near, p.begun.near, p.begun.few, p.sized)

  -- What is left, one transition at a time.
  one_more_lem : i < length starts →
      times header.transitions (transition_start header) bytes at
      ≡ after (take i starts)
      (Refusals.◌>>=◌ (transition_start header bytes place)
      (λ a. Refusals.◌>>=◌ (times (header.transitions - (i + 1)) (transition_start header) bytes a.next)
      (λ rest. found (a.value ∷ rest.value) rest.next)))
  one_more_lem h =
      let e : header.transitions - i ≡ suc (header.transitions - (i + 1)) = omega (arith, p.sized) in
      p.same ∙ rw (e, times_more)

  -- A turn.
  module _ (h : i < length starts) where
    pub passed_more : {t : Transition} {next : ℕ} → read_transition header bytes place ≡ found t next →
        Passed header bytes at (set starts i place) next (i + 1)
    passed_more {t} {next} read = record {
      begun = p.begun;
      near = omega (arith, p.near, (transition_takes header {from = 0}).spares bytes place _ read);
      sized = length-set starts i place ∙ p.sized;
      same =
          one_more_lem h
          ∙ rw (
            start_found header bytes place read,
            after_one (take i starts) place (times (header.transitions - (i + 1)) (transition_start header) bytes next),
            add-one i,
            take-suc-set starts i place h,
          );
    }

    pub passed_refused : {r : Refusal} → read_transition header bytes place ≡ Err r → after_header header bytes at ≡ Err r
    unfolding after_header
    passed_refused read = rw (one_more_lem h, start_refused header bytes place read)

  -- All turns are taken.
  module _ (h : i ≡ length starts) where
    all_passed : times header.transitions (transition_start header) bytes at ≡ found starts place
    all_passed =
        let z : header.transitions - i ≡ 0 = omega (arith, p.sized) in
        p.same ∙ rw (z, times_none, h, take-length, append-nil)

    pub left_over : ¬ (place ≡ length bytes) → after_header header bytes at ≡ refuse program_length place
    unfolding after_header
    left_over d = rw (all_passed, ne_eqb place (length bytes) d)

    -- The entries with zeros after them are all the starts.
    pub all_read : place ≡ length bytes →
        Ok (record { header = header; starts = starts ++ drop header.transitions (replicate max_transitions 0) })
        ≡ map_ok program_of (after_header header bytes at)
    unfolding after_header
    all_read d = rw (all_passed, eq-eqb place (length bytes) d, drop-replicate, p.sized)
