-- Which events are linked: two commands of one rank's sequence, two accesses that conflict. Both links look only at what the two events share, a
-- rank or a cell, so an event between them that shares it with the one shares it with the other.
use Rattle.std.specs.Prelude.{Option, Some, None}
use Prim.Native.Nat.{ℕ}
use mathlib.Core.Path.{◌≡◌, refl, sym, ap, ◌∙◌, ap₂}
use mathlib.Core.Bool.{Bool, true, false, ◌&&◌, ◌||◌, false≢true, or_comm}
use lib.Dec.{eqb}
use borrow.Author.Tests.{eq-eqb, ne_eqb, eqb-true, eqb-false}
use Rattle.model.specs.Machine.{Access}
use Rattle.model.specs.Replay.{Event}
use Rattle.model.specs.HappensBefore.{in_program_order, rank_of, same_sequence, same_cell, overwrites, conflict, either_writes, is_command}
use Rattle.model.proofs.Laws.{decided, and-true, true_and, eqb_refl}

-- Equality of numbers is tested the same either way round.
eqb_comm : (a b : ℕ) → eqb a b ≡ eqb b a
eqb_comm a b = decided (eqb a b) (λ t. t ∙ sym (eq-eqb b a (sym (eqb-true a b t)))) (λ t. t ∙ sym (ne_eqb b a (λ e. eqb-false a b t (sym e))))

-- What the test for one rank's sequence says.
pub sequence_parts : (x y : Event) → same_sequence x y ≡ true → (in_program_order x ≡ true) × (in_program_order y ≡ true) × (rank_of x ≡ rank_of y)
unfolding same_sequence
sequence_parts x y h =
    let ranks = and-true (in_program_order x && in_program_order y) (eqb (rank_of x) (rank_of y)) h in
    let commands = and-true (in_program_order x) (in_program_order y) ranks.0 in
    (commands.0, commands.1, eqb-true (rank_of x) (rank_of y) ranks.1)

pub sequence_of : (x y : Event) → in_program_order x ≡ true → in_program_order y ≡ true → rank_of x ≡ rank_of y → same_sequence x y ≡ true
unfolding same_sequence
sequence_of x y p q r = true_and _ _ (true_and _ _ p q) (eq-eqb (rank_of x) (rank_of y) r)

-- A command is in program order.
pub command_in_order : (e : Event) → is_command e ≡ true → in_program_order e ≡ true
command_in_order e h = cc

-- Of two events of one rank's sequence, another is in the sequence of the one exactly if it is in that of the other.
both_true : (a b c u v : Bool) → a ≡ true → b ≡ true → u ≡ v → (c && b && u) ≡ (a && c && v)
both_true a b true u v p q r = rw (p, q) r
both_true a b false u v p q r = rw p

pub sequence_test : (x y : Event) → same_sequence x y ≡ true → (z : Event) → same_sequence z y ≡ same_sequence x z
unfolding same_sequence
sequence_test x y h z =
    let parts = sequence_parts x y h in
    both_true (in_program_order x) (in_program_order y) (in_program_order z) (eqb (rank_of z) (rank_of y)) (eqb (rank_of x) (rank_of z)) parts.0 parts.1
    (ap (eqb (rank_of z)) (sym parts.2) ∙ eqb_comm (rank_of z) (rank_of x))

-- What the test for one cell says.
pub cell_parts : (a b : Access) → same_cell a b ≡ true → (a.address.rank ≡ b.address.rank) × (a.address.cell ≡ b.address.cell)
cell_parts a b h =
    let parts = and-true (eqb a.address.rank b.address.rank) (eqb a.address.cell b.address.cell) h in
    (eqb-true a.address.rank b.address.rank parts.0, eqb-true a.address.cell b.address.cell parts.1)

-- Two accesses of one cell share it with the same others.
pub cell_test : (a b : Access) → same_cell a b ≡ true → (c : Access) → same_cell c b ≡ same_cell c a
cell_test a b h c = let parts = cell_parts a b h in rw (parts.0, parts.1)

-- A cell is shared either way round.
pub cell_sym : (a b : Access) → same_cell a b ≡ true → same_cell b a ≡ true
cell_sym a b h = sym (cell_test a b h b) ∙ true_and _ _ (eqb_refl b.address.rank) (eqb_refl b.address.cell)

-- Accesses conflict either way round.
pub conflict_sym : (x y : Option Access) → conflict x y ≡ conflict y x
unfolding conflict
conflict_sym None None = refl
conflict_sym None (Some b) = refl
conflict_sym (Some a) None = refl
conflict_sym (Some a) (Some b) =
    ap₂ ◌&&◌ (ap₂ ◌&&◌ (eqb_comm a.address.rank b.address.rank) (eqb_comm a.address.cell b.address.cell))
    (or_comm a.writes b.writes)

-- Of two accesses that conflict, another overwrites the one exactly if it overwrites the other.
pub overwrite_test : (a b : Option Access) → conflict a b ≡ true → (c : Option Access) → overwrites c b ≡ overwrites c a
unfolding overwrites conflict
overwrite_test None b h c = absurd (false≢true h)
overwrite_test (Some a) None h c = absurd (false≢true h)
overwrite_test (Some a) (Some b) h None = refl
overwrite_test (Some a) (Some b) h (Some c) =
    ap (λ (t : Bool). t && c.writes) (cell_test a b (and-true (same_cell a b) (either_writes a b) h).0 c)

-- A choice of tests passes by either.
or_left : (a b : Bool) → a ≡ true → (a || b) ≡ true
or_left a b h = rw h

or_right : (a b : Bool) → b ≡ true → (a || b) ≡ true
or_right true b h = refl
or_right false b h = h

-- A write between two accesses that conflict conflicts with both.
pub write_splits : (a b c : Option Access) → conflict a b ≡ true → overwrites c a ≡ true → (conflict a c ≡ true) × (conflict c b ≡ true)
unfolding conflict overwrites
write_splits None b c h o = absurd (false≢true h)
write_splits (Some a) None c h o = absurd (false≢true h)
write_splits (Some a) (Some b) None h o = absurd (false≢true o)
write_splits (Some a) (Some b) (Some c) h o =
    let shared : same_cell a b ≡ true = (and-true (same_cell a b) (either_writes a b) h).0 in
    let (cell, writes) = and-true (same_cell c a) c.writes o in (
      true_and (same_cell a c) (either_writes a c) (cell_sym c a cell) (or_right a.writes c.writes writes),
      true_and (same_cell c b) (either_writes c b) (cell_test a b shared c ∙ cell) (or_left c.writes b.writes writes),
    )
