-- The replay's last test is Table 1's final states: it looks at each queue of each rank once, and an emptied queue is empty with or without marks.
use Prim.Native.Nat.{ℕ}
use mathlib.Core.Path.{◌≡◌, refl}
use mathlib.Core.Bool.{true, false≢true}
use mathlib.Core.List.{List, [], ◌∷◌, map, cons≢nil}
use native.Mathlib.Omega.{arith}
use Rattle.model.specs.Programs.{Program}
use Rattle.model.specs.Machine.{State}
use Rattle.model.specs.Rules.{Rank, Queue, Final}
use Rattle.model.specs.Replay.{Origin, is_empty, quiet}
use Rattle.model.proofs.Laws.{and-true, true_and}
use Rattle.acceptance.proofs.Numbers.{every_each, each_every}
use Rattle.acceptance.specs.Bare.{bare, bare_request, bare_delivery}

-- A list is empty exactly if it is so without its marks.
pub map_empty : {A B : Type 0} (f : A → B) (l : List A) → map f l ≡ [] → is_empty l ≡ true
map_empty f [] h = refl
map_empty f (a ∷ l) h = absurd (cons≢nil h)

pub empty_map : {A B : Type 0} (f : A → B) (l : List A) → is_empty l ≡ true → map f l ≡ []
empty_map f [] h = refl
empty_map f (a ∷ l) h = absurd (false≢true h)

-- The test looks at both queues of every rank and number.
quiet_queues : (P : Program) (s : State Origin) → quiet P s ≡ true → (r q : ℕ) → Rank P r → Queue P q →
    (is_empty (s.requests r q) ≡ true) × (is_empty (s.deliveries r q) ≡ true)
unfolding quiet
quiet_queues P s h r q rank queue =
    and-true (is_empty (s.requests r q)) (is_empty (s.deliveries r q))
    (every_each _ 0 P.header.queues (every_each _ 1 P.header.ranks h r rank.low (omega (arith, rank.high))) q (omega arith) (omega arith))

-- "At the end all queues are empty": the test passes in final states, and in no others.
pub quiet_final : (P : Program) (s : State Origin) → quiet P s ≡ true → Final P (bare s)
unfolding bare
quiet_final P s h =
    record {
      requests = λ r q rank queue. empty_map bare_request (s.requests r q) (quiet_queues P s h r q rank queue).0;
      deliveries = λ r q rank queue. empty_map bare_delivery (s.deliveries r q) (quiet_queues P s h r q rank queue).1;
    }

pub final_quiet : (P : Program) (s : State Origin) → Final P (bare s) → quiet P s ≡ true
unfolding quiet bare
final_quiet P s final =
    each_every _ 1 P.header.ranks λ r low high.
    each_every _ 0 P.header.queues λ q _ below.
    let rank : Rank P r = record { low = low; high = omega arith } in
    true_and (is_empty (s.requests r q)) (is_empty (s.deliveries r q))
    (map_empty bare_request (s.requests r q) (final.requests r q rank (omega arith)))
    (map_empty bare_delivery (s.deliveries r q) (final.deliveries r q rank (omega arith)))
