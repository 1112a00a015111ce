-- Looking back over a run. The events before an event stand nearest first, so the whole run is that list turned round onto the rest: what lies d
-- deep in it is d + 1 places before the event. An event is nearest under a test if none that lies less deep passes it; in the run, if none between
-- does.
use Rattle.std.specs.Prelude.{slice_get}
use Rattle.model.proofs.Options.{some-injective}
use Prim.Native.Nat.{ℕ, zero, suc, ◌+◌, ◌-◌, ◌<◌}
use mathlib.Core.Path.{◌≡◌, refl, sym, ap, ◌∙◌}
use mathlib.Core.Bool.{Bool, false}
use mathlib.Core.List.{List, [], ◌∷◌, reverse_aux}
use native.Mathlib.Omega.{arith}
use lib.ListN.{length}
use Rattle.model.specs.Replay.{Event}
use Rattle.model.specs.HappensBefore.{At, Follows}
use Rattle.model.proofs.Laws.{slice_get_bound}

-- The places of a list that is turned round onto another.
pub turned_rest : {A : Type 0} (before rest : List A) (j k : ℕ) → j ≡ length before + k → slice_get (reverse_aux before rest) j ≡ slice_get rest k
turned_rest [] rest j k h = ap (slice_get rest) (omega arith)
turned_rest (x ∷ before) rest j k h = turned_rest before (x ∷ rest) j (suc k) (omega arith)

pub turned_before : {A : Type 0} (before rest : List A) (i d : ℕ) → i + suc d ≡ length before →
    slice_get (reverse_aux before rest) i ≡ slice_get before d
turned_before [] rest i d h = absurd (omega arith)
turned_before (x ∷ before) rest i zero h = turned_rest before (x ∷ rest) i 0 (omega arith)
turned_before (x ∷ before) rest i (suc d) h = turned_before before (x ∷ rest) i d (omega arith)

-- x lies in the list, and nothing that lies less deep passes the test.
pub record Nearest (before : List Event) (test : Event → Bool) (x : Event) : Type 0 where
  pub depth : ℕ
  pub lies : At before depth x
  pub none_nearer : (d : ℕ) (z : Event) → d < depth → At before d z → test z ≡ false

-- The first of a list is nearest; and what is nearest stays so behind an event that fails the test.
pub nearest_first : (x : Event) (before : List Event) (test : Event → Bool) → Nearest (x ∷ before) test x
nearest_first x before test = record { depth = 0; lies = refl; none_nearer = λ d z p at. absurd (omega arith) }

passed : (before : List Event) (test : Event → Bool) (w : Event) → test w ≡ false → (depth : ℕ) →
    ((d : ℕ) (z : Event) → d < depth → At before d z → test z ≡ false) →
    (d : ℕ) (z : Event) → d < suc depth → At (w ∷ before) d z → test z ≡ false
passed before test w t depth h zero z p at = sym (ap test (some-injective w z at)) ∙ t
passed before test w t depth h (suc d) z p at = h d z (omega arith) at

pub nearest_deeper : {before : List Event} {test : Event → Bool} {x : Event} (w : Event) → test w ≡ false → Nearest before test x →
    Nearest (w ∷ before) test x
nearest_deeper {before} {test} w t n =
    record { depth = suc n.depth; lies = n.lies; none_nearer = passed before test w t n.depth n.none_nearer }

-- Nearest among the events before y, and the last before y in the run, are the same.
pub nearest_follows : (before rest : List Event) {test : Event → Bool} {x y : Event} → Nearest before test x →
    Follows (reverse_aux before (y ∷ rest)) test x y
nearest_follows before rest {y} n =
    let bound : n.depth < length before = slice_get_bound before n.depth n.lies in
    record {
      i = length before - suc n.depth;
      j = length before;
      first = turned_before before (y ∷ rest) (length before - suc n.depth) n.depth (omega arith) ∙ n.lies;
      second = turned_rest before (y ∷ rest) (length before) 0 (omega arith);
      before = omega arith;
      none_between = λ k z p q at.
          n.none_nearer (length before - suc k) z (omega arith)
          (sym (turned_before before (y ∷ rest) k (length before - suc k) (omega arith)) ∙ at);
    }

pub follows_nearest : (before rest : List Event) {test : Event → Bool} {x y : Event} (f : Follows (reverse_aux before rest) test x y) →
    f.j ≡ length before → Nearest before test x
follows_nearest before rest f e =
    let bound : f.i < length before = omega (arith, f.before) in
    record {
      depth = length before - suc f.i;
      lies = sym (turned_before before rest f.i (length before - suc f.i) (omega arith)) ∙ f.first;
      none_nearer = λ d z p at.
          f.none_between (length before - suc d) z (omega arith) (omega arith)
          (turned_before before rest (length before - suc d) d (omega arith) ∙ at);
    }

-- Between the same two events, another test that tells the same.
pub retest : {events : List Event} {t u : Event → Bool} {x y : Event} → ((z : Event) → t z ≡ u z) → Follows events t x y → Follows events u x y
retest same f =
    record {
      i = f.i;
      j = f.j;
      first = f.first;
      second = f.second;
      before = f.before;
      none_between = λ k z p q at. sym (same z) ∙ f.none_between k z p q at;
    }
