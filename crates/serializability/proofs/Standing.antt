-- The replay's state as the events so far tell it: each rank's local state is that after as many commands, and each cell holds what was last
-- written. The laws say what one more event changes.
use Prim.Native.Nat.{ℕ, suc}
use mathlib.Core.Path.{◌≡◌, sym, ◌∙◌, ap, fun_ext}
use mathlib.Core.Bool.{true, false, and-false}
use mathlib.Core.List.{List, [], ◌∷◌, ◌++◌}
use lib.Dec.{eqb}
use borrow.Author.Tests.{eqb-true, eqb-false, ne_eqb}
use Rattle.model.specs.Machine.{Request, Delivery, Start, put}
use Rattle.model.specs.Replay.{Event, Origin, Replay}
use Rattle.model.specs.HappensBefore.{is_command, rank_of}
use Rattle.model.specs.Traces.{command_of}
use Rattle.model.proofs.Selections.{count_own, count_other}
use Rattle.model.proofs.Laws.{decided, put_same, put_other}
use Rattle.record_facts.specs.Facts.{Local, count_of, written, cells_after}
use Rattle.serializability.proofs.Projections.{command_of_true}
use Rattle.record_facts.proofs.Appended.{cells_append}

-- The queues of all ranks.
abbrev pub Requests : Type 0
Requests = ℕ → ℕ → List (Request Origin)

abbrev pub Deliveries : Type 0
Deliveries = ℕ → ℕ → List (Delivery Origin)

-- No queue has an entry.
abbrev pub no_requests : Requests
no_requests rank queue = []

abbrev pub no_deliveries : Deliveries
no_deliveries rank queue = []

-- The state after these events, with so many groups opened, so many ranks in an open row, and these queues.
abbrev pub standing : Start → (ℕ → ℕ → Local) → (done : List Event) (opened row : ℕ) → Requests → Deliveries → Replay
standing start local done opened row requests deliveries =
    record {
      machine =
          record {
            control = λ rank. (local rank (count_of rank done)).control;
            registers = λ rank. (local rank (count_of rank done)).registers;
            cells = cells_after start done;
            requests = requests;
            deliveries = deliveries;
          };
      taken = λ rank. count_of rank done;
      opened = opened;
      row = row;
    }

-- States with equal parts are equal.
pub replay_equal : {s t : Replay} → s.machine.control ≡ t.machine.control → s.machine.registers ≡ t.machine.registers →
    s.machine.cells ≡ t.machine.cells → s.machine.requests ≡ t.machine.requests → s.machine.deliveries ≡ t.machine.deliveries →
    s.taken ≡ t.taken → s.opened ≡ t.opened → s.row ≡ t.row → s ≡ t
replay_equal control registers cells requests deliveries taken opened row =
    λ i. record {
      machine =
          record { control = control i; registers = registers i; cells = cells i; requests = requests i; deliveries = deliveries i };
      taken = taken i;
      opened = opened i;
      row = row i;
    }

-- What depends on a rank's number of commands, after a command: it changes at the command's rank ..
pub after_command_lem : {A : Type 0} (F : (rank count : ℕ) → A) (done : List Event) (e : Event) → is_command e ≡ true → (v : A) →
    v ≡ F (rank_of e) (suc (count_of (rank_of e) done)) →
    put (λ rank. F rank (count_of rank done)) (rank_of e) v ≡ (λ rank. F rank (count_of rank (done ++ e ∷ [])))
after_command_lem F done e c v is =
    fun_ext
    (λ rank.
    decided (eqb rank (rank_of e))
    (λ t.
    let here : rank ≡ rank_of e = eqb-true rank (rank_of e) t in
    ap (put (λ r. F r (count_of r done)) (rank_of e) v) here ∙
    put_same (λ r. F r (count_of r done)) (rank_of e) v ∙
    is ∙
    ap (F (rank_of e)) (sym (count_own (command_of (rank_of e)) done e (command_of_true e c))) ∙
    ap (λ r. F r (count_of r (done ++ e ∷ []))) (sym here))
    (λ t.
    let elsewhere : ¬ (rank ≡ rank_of e) = eqb-false rank (rank_of e) t in
    put_other (λ r. F r (count_of r done)) (rank_of e) v rank elsewhere ∙
    ap (F rank) (sym (count_other (command_of rank) done e (other_rank rank e elsewhere)))))
  where
    other_rank : (rank : ℕ) (x : Event) → ¬ (rank ≡ rank_of x) → command_of rank x ≡ false
    other_rank rank x h = rw (ne_eqb (rank_of x) rank (λ same. h (sym same))) (and-false (is_command x))

-- .. and not at all after a pop.
pub after_pop : {A : Type 0} (F : (rank count : ℕ) → A) (done : List Event) (e : Event) → is_command e ≡ false →
    ◌≡◌ {A = ℕ → A} (λ rank. F rank (count_of rank done)) (λ rank. F rank (count_of rank (done ++ e ∷ [])))
after_pop F done e c = fun_ext (λ rank. ap (F rank) (sym (count_other (command_of rank) done e (rw c))))

-- The cells after one more event.
pub after_access : (start : Start) (done : List Event) (e : Event) → written (cells_after start done) e.access ≡ cells_after start (done ++ e ∷ [])
unfolding cells_after
after_access start done e = sym (cells_append start done (e ∷ []))
