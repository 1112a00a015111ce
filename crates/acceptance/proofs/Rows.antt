-- A barrier row: the replay moves one rank at each of its bars, Table 1 moves all at once. In between stands the state in which ranks 1 to k have
-- moved; from no rank to all N of them the one grows into the other.
use Rattle.std.specs.Prelude.{Some, None}
use Prim.Native.Nat.{ℕ, ◌+◌, ◌≤◌}
use mathlib.Core.Path.{◌≡◌, sym, ap, ap₂, subst, fun_ext, ◌∙◌}
use mathlib.Core.Bool.{false≢true}
use mathlib.Core.List.{List, [], ◌∷◌, ◌++◌, map, map-append}
use native.Mathlib.Omega.{arith}
use native.Mathlib.Numerals.{add-one}
use lib.Dec.{eqb}
use borrow.Author.Tests.{eqb-true, eqb-false}
use Rattle.model.specs.declared.Kind.TheVariants.{Bar}
use Rattle.model.specs.Choice.{when, between, numbers_from}
use Rattle.model.specs.Programs.{Program, Command}
use Rattle.model.specs.Machine.{put, move_to}
use Rattle.model.specs.Rules.{Bare, Label, command, Enabled, Step}
use Rattle.model.proofs.Laws.{decided, when_true, when_false, put_same, put_other, between_true, true_between, between_false}
use Rattle.acceptance.proofs.Numbers.{numbers_from_snoc, map_numbers}

-- Ranks 1 to k have moved to their st'.
abbrev pub moved : Bare → (k : ℕ) → (ℕ → ℕ) → Bare
moved s k st' =
    record {
      control = λ r. when (between 1 k r) (λ _. st' r) (λ _. s.control r);
      registers = s.registers;
      cells = s.cells;
      requests = s.requests;
      deliveries = s.deliveries;
    }

-- States that differ in control alone are the same if they agree there.
same_control : (s : Bare) (f g : ℕ → ℕ) → ((r : ℕ) → f r ≡ g r) →
    ◌≡◌ {A = Bare}
    (record { control = f; registers = s.registers; cells = s.cells; requests = s.requests; deliveries = s.deliveries })
    (record { control = g; registers = s.registers; cells = s.cells; requests = s.requests; deliveries = s.deliveries })
same_control s f g h =
    ap
    (λ (c : ℕ → ℕ). record { control = c; registers = s.registers; cells = s.cells; requests = s.requests; deliveries = s.deliveries })
    (fun_ext h)

-- No rank has moved.
pub moved_none : (s : Bare) (st' : ℕ → ℕ) → moved s 0 st' ≡ s
moved_none s st' =
    same_control s (moved s 0 st').control s.control
    (λ r. when_false (λ _. st' r) (λ _. s.control r) (between_false 1 0 r (λ h. omega (arith, h.low, h.high))))

-- The rank after those that have moved is where it was.
pub moved_next_control : (s : Bare) (k : ℕ) (st' : ℕ → ℕ) → (moved s k st').control (k + 1) ≡ s.control (k + 1)
moved_next_control s k st' =
    when_false (λ _. st' (k + 1)) (λ _. s.control (k + 1)) (between_false 1 k (k + 1) (λ h. omega (arith, h.high)))

-- Ranks 1 to k + 1, but for the last of them, are ranks 1 to k.
between_next : (k r : ℕ) → ¬ (r ≡ k + 1) → between 1 (k + 1) r ≡ between 1 k r
between_next k r other =
    decided (between 1 k r)
    (λ t.
    let h = between_true 1 k r t in
    true_between 1 (k + 1) r (record { low = h.low; high = omega (arith, h.high) }) ∙ sym t)
    (λ f.
    between_false 1 (k + 1) r
    (λ h. false≢true (sym f ∙ true_between 1 k r (record { low = h.low; high = omega (arith, h.high, other) }))) ∙
    sym f)

-- One more rank moves.
pub moved_next : (s : Bare) (k q : ℕ) (st' st'' : ℕ → ℕ) → st'' (k + 1) ≡ q → ((r : ℕ) → 1 ≤ r → r ≤ k → st'' r ≡ st' r) →
    move_to (moved s k st') (k + 1) q ≡ moved s (k + 1) st''
unfolding move_to
moved_next s k q st' st'' here before =
    let control : ℕ → ℕ = (moved s k st').control in
    same_control s (put control (k + 1) q) (moved s (k + 1) st'').control λ r.
    decided (eqb r (k + 1))
    (λ t.
    let same : r ≡ k + 1 = eqb-true r (k + 1) t in
    ap (put control (k + 1) q) same ∙ put_same control (k + 1) q ∙ sym here ∙ ap st'' (sym same) ∙
    sym (when_true (λ _. st'' r) (λ _. s.control r) (true_between 1 (k + 1) r (record { low = omega arith; high = omega arith }))))
    (λ f.
    let other : ¬ (r ≡ k + 1) = eqb-false r (k + 1) f in
    put_other control (k + 1) q r other ∙ rw (between_next k r other) (agree r))
  where
    agree : (r : ℕ) → when (between 1 k r) (λ _. st' r) (λ _. s.control r) ≡ when (between 1 k r) (λ _. st'' r) (λ _. s.control r)
    agree r =
        decided (between 1 k r)
        (λ t.
        let h = between_true 1 k r t in
        ap (λ n. when (between 1 k r) (λ _. n) (λ _. s.control r)) (sym (before r h.low h.high)))
        (λ f. rw f)

-- The events of ranks 1 to k in a row.
abbrev pub row_labels : (t : ℕ → ℕ) → (k : ℕ) → List Label
row_labels t k = map (λ r. command Bar r (t r) None) (numbers_from 1 k)

-- One rank more adds its event.
row_labels_next : (t t' : ℕ → ℕ) (k : ℕ) → ((r : ℕ) → 1 ≤ r → r ≤ k → t' r ≡ t r) →
    row_labels t' (k + 1) ≡ row_labels t k ++ command Bar (k + 1) (t' (k + 1)) None ∷ []
row_labels_next t t' k h =
    let event : (ℕ → ℕ) → ℕ → Label = λ u r. command Bar r (u r) None in
    ap (row_labels t') (add-one k) ∙ ap (map (event t')) (numbers_from_snoc 1 k) ∙ map-append (event t') (numbers_from 1 k) ((1 + k) ∷ []) ∙
    ap₂ (λ (l : List Label) (n : ℕ). l ++ event t' n ∷ [])
    (map_numbers (event t') (event t) 1 k (λ n low high. ap (λ u. command Bar n u None) (h n low (omega arith))))
    (omega arith)

-- Ranks 1 to k have entered a row that opened in state s₀, and the state is now s: each had its bar enabled at s₀, and has moved.
pub record Entered (P : Program) (s₀ : Bare) (k : ℕ) (s : Bare) : Type 0 where
  pub transition : ℕ → ℕ
  pub target : ℕ → ℕ
  pub enabled : (r : ℕ) → 1 ≤ r → r ≤ k → Enabled P s₀ r (transition r) Command.bar (target r)
  pub state : s ≡ moved s₀ k target

-- A row is open with no rank in it: nothing has happened.
pub nobody : (P : Program) (s : Bare) → Entered P s 0 s
nobody P s =
    record {
      transition = λ r. 0;
      target = λ r. 0;
      enabled = λ r low high. absurd (omega (arith, low, high));
      state = sym (moved_none s (λ r. 0));
    }

-- All ranks have entered: that is Table 1's step.
pub row_step : (P : Program) (s₀ s : Bare) (e : Entered P s₀ P.header.ranks s) → Step P s₀ (row_labels e.transition P.header.ranks) s
row_step P s₀ s e =
    subst (Step P s₀ (row_labels e.transition P.header.ranks)) (sym e.state)
    (Step.bar e.transition e.target (λ r rank. e.enabled r rank.low rank.high))

-- A command is enabled in any state in which its rank is where it was.
pub enabled_elsewhere : (P : Program) (s s' : Bare) {r t q₂ : ℕ} {c : Command} → s.control r ≡ s'.control r → Enabled P s r t c q₂ →
    Enabled P s' r t c q₂
enabled_elsewhere P s s' {q₂ = q₂} {c = c} h e =
    record { rank = e.rank; transition = e.transition ∙ ap (λ n. Some (record { source = n; target = q₂; command = c })) h }

-- What stands for the ranks up to k is kept when the next one's is put beside it.
put_earlier : {k : ℕ} (f : ℕ → ℕ) (v r : ℕ) → r ≤ k → put f (k + 1) v r ≡ f r
put_earlier {k} f v r high = put_other f (k + 1) v r (λ same. omega arith)

-- The row e with one event more is a row of ranks 1 to k, in state s'.
abbrev pub Grown : (P : Program) {s₀ s : Bare} {j : ℕ} → Entered P s₀ j s → Label → (k : ℕ) → (s' : Bare) → Type 0
Grown P {s₀} {s} {j} e l k s' = (e' : Entered P s₀ k s') × (row_labels e'.transition k ≡ row_labels e.transition j ++ l ∷ [])

-- The next rank enters.
pub enter : (P : Program) {s₀ s : Bare} {k t q₂ : ℕ} (e : Entered P s₀ k s) → Enabled P s (k + 1) t Command.bar q₂ →
    Grown P e (command Bar (k + 1) t None) (k + 1) (move_to s (k + 1) q₂)
enter P {s₀} {s} {k} {t} {q₂} e next =
    let transition : ℕ → ℕ = put e.transition (k + 1) t in
    let target : ℕ → ℕ = put e.target (k + 1) q₂ in
    let stays : s.control (k + 1) ≡ s₀.control (k + 1) = ap (λ (x : Bare). x.control (k + 1)) e.state ∙ moved_next_control s₀ k e.target in
    let here = enabled_elsewhere P s s₀ stays next in (
      record {
        transition = transition;
        target = target;
        enabled = λ r low high.
            decided (eqb r (k + 1))
            (λ same. rw (eqb-true r (k + 1) same, put_same e.transition (k + 1) t, put_same e.target (k + 1) q₂) here)
            (λ other.
            let earlier : r ≤ k = omega (arith, eqb-false r (k + 1) other) in
            rw (put_earlier e.transition t r earlier, put_earlier e.target q₂ r earlier) (e.enabled r low earlier));
        state =
            ap (λ (x : Bare). move_to x (k + 1) q₂) e.state ∙
            moved_next s₀ k q₂ e.target target (put_same e.target (k + 1) q₂) (λ r low high. put_earlier e.target q₂ r high);
      },
      row_labels_next e.transition transition k (λ r low high. put_earlier e.transition t r high) ∙
          ap (λ n. row_labels e.transition k ++ command Bar (k + 1) n None ∷ []) (put_same e.transition (k + 1) t),
    )
