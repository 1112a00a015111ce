-- What a command asks for, as a relation: the action that the replay computes, under Table 1's side conditions. The replay gives an action exactly if
-- the conditions hold, whatever the item's number is.
use Rattle.model.specs.declared.Action.TheVariants.{Loads, Stores, Assigns, Passes, Issues, Meets}
use Prim.Native.Nat.{ℕ, ◌<◌}
use mathlib.Core.Path.{◌≡◌, refl, ap, subst, ◌∙◌}
use mathlib.Core.Bool.{true}
use lib.Dec.{ltb}
use borrow.Author.Tests.{ltb-true, lt-ltb}
use Rattle.model.specs.Refusals.{Result, Ok, operand_range, assume_fails, no_value, ◌>>=◌}
use Rattle.model.specs.Choice.{between}
use Rattle.model.specs.Expressions.{Expression}
use Rattle.model.specs.Programs.{Program, Command, load, store, assign, assume, read, write, bar}
use Rattle.model.specs.Machine.{Action, Transfer, address, value, transfer, action, value_of}
use Rattle.model.specs.Rules.{Cell, Evaluates, Operands}
use Rattle.model.proofs.Laws.{bind_ok, required, presented, ok_injective, between_true, true_between}

module _ (P : Program) (r : ℕ) (registers : ℕ → ℕ) where
  -- Rank r's command asks for an action: the side conditions of its rule hold, and its expressions have the action's values.
  pub data Asks : Command → Action → Type 0 where
    loading : {x a : ℕ} {e : Expression} → Evaluates P r registers e a → Cell P a → Asks (load x e) (Loads x a)
    storing : {a v : ℕ} {e₁ e₂ : Expression} → Evaluates P r registers e₁ a → Evaluates P r registers e₂ v → Cell P a →
        Asks (store e₁ e₂) (Stores a v)
    assigning : {x v : ℕ} {e : Expression} → Evaluates P r registers e v → Asks (assign x e) (Assigns x v)
    passing : {v : ℕ} {e : Expression} → Evaluates P r registers e v → 0 < v → Asks (assume e) Passes
    reading : {a n b q : ℕ} {e₁ e₂ e₃ e₄ : Expression} → Operands P r registers e₁ e₂ e₃ e₄ a n b q →
        Asks (read e₁ e₂ e₃ e₄) (Issues q n (address n b) (address r a))
    writing : {a n b q : ℕ} {e₁ e₂ e₃ e₄ : Expression} → Operands P r registers e₁ e₂ e₃ e₄ a n b q →
        Asks (write e₁ e₂ e₃ e₄) (Issues q n (address r a) (address n b))
    meeting : Asks bar Meets

  -- A transfer whose operands have these values.
  abbrev transfer_of : (a n b q : ℕ) → Transfer
  transfer_of a n b q = record { own = address r a; remote = address n b; queue = q }

  -- A value that is handed on is its expression's.
  value_given : {B : Type 0} (at : ℕ) (e : Expression) (f : ℕ → Result B) {b : B} →
      (value P r registers at e >>= f) ≡ Ok b → (v : ℕ) × Evaluates P r registers e v × (f v ≡ Ok b)
  unfolding value
  value_given at e = presented (value_of P r registers e) no_value at

  -- A transfer whose operands have values in their domains, as the replay computes it.
  record Transferred (e₁ e₂ e₃ e₄ : Expression) (t : Transfer) : Type 0 where
    a : ℕ
    n : ℕ
    b : ℕ
    q : ℕ
    operands : Operands P r registers e₁ e₂ e₃ e₄ a n b q
    same : transfer_of a n b q ≡ t

  transfer_ok : (at : ℕ) (e₁ e₂ e₃ e₄ : Expression) {t : Transfer} → transfer P r registers at e₁ e₂ e₃ e₄ ≡ Ok t → Transferred e₁ e₂ e₃ e₄ t
  unfolding transfer
  transfer_ok at e₁ e₂ e₃ e₄ h =
      let (a, own_value, h₁) = value_given at e₁ _ h in
      let (n, rank_value, h₂) = value_given at e₂ _ h₁ in
      let (b, cell_value, h₃) = value_given at e₃ _ h₂ in
      let (q, queue_value, h₄) = value_given at e₄ _ h₃ in
      let (own, h₅) = required (ltb a P.header.cells) operand_range at _ h₄ in
      let (rank, h₆) = required (between 1 P.header.ranks n) operand_range at _ h₅ in
      let (cell, h₇) = required (ltb b P.header.cells) operand_range at _ h₆ in
      let (queue, h₈) = required (ltb q P.header.queues) operand_range at _ h₇ in
      let domain = between_true 1 P.header.ranks n rank in
      record {
        a = a;
        n = n;
        b = b;
        q = q;
        operands =
            record {
              own_value = own_value;
              rank_value = rank_value;
              cell_value = cell_value;
              queue_value = queue_value;
              own = ltb-true _ _ own;
              rank = record { low = domain.low; high = domain.high };
              cell = ltb-true _ _ cell;
              queue = ltb-true _ _ queue;
            };
        same = ok_injective h₈;
      }

  ok_transfer : (at : ℕ) {e₁ e₂ e₃ e₄ : Expression} {a n b q : ℕ} → Operands P r registers e₁ e₂ e₃ e₄ a n b q →
      transfer P r registers at e₁ e₂ e₃ e₄ ≡ Ok (transfer_of a n b q)
  unfolding transfer value
  ok_transfer at {a = a} {n} {b} {q} h =
      let rank : between 1 P.header.ranks n ≡ true = true_between 1 _ n (record { low = h.rank.low; high = h.rank.high }) in
      rw (h.own_value, h.rank_value, h.cell_value, h.queue_value, lt-ltb a _ h.own, rank, lt-ltb b _ h.cell, lt-ltb q _ h.queue)

  -- A command's action is computed: its side conditions hold.
  pub action_asks : (at : ℕ) (c : Command) {a : Action} → action P r registers at c ≡ Ok a → Asks c a
  unfolding action
  action_asks at (load x e) h =
      let (a, here, h₁) = value_given at e _ h in
      let (cell, h₂) = required (ltb a P.header.cells) operand_range at _ h₁ in
      subst (Asks (load x e)) (ok_injective h₂) (loading here (ltb-true _ _ cell))
  action_asks at (store e₁ e₂) h =
      let (a, here, h₁) = value_given at e₁ _ h in
      let (v, stored, h₂) = value_given at e₂ _ h₁ in
      let (cell, h₃) = required (ltb a P.header.cells) operand_range at _ h₂ in
      subst (Asks (store e₁ e₂)) (ok_injective h₃) (storing here stored (ltb-true _ _ cell))
  action_asks at (assign x e) h =
      let (v, assigned, h₁) = value_given at e _ h in
      subst (Asks (assign x e)) (ok_injective h₁) (assigning assigned)
  action_asks at (assume e) h =
      let (v, assumed, h₁) = value_given at e _ h in
      let (test, h₂) = required (ltb 0 v) assume_fails at _ h₁ in
      subst (Asks (assume e)) (ok_injective h₂) (passing assumed (ltb-true _ _ test))
  action_asks at (read e₁ e₂ e₃ e₄) h =
      let (t, p, h₁) = bind_ok (transfer P r registers at e₁ e₂ e₃ e₄) _ h in
      let found = transfer_ok at e₁ e₂ e₃ e₄ p in
      let same = ap (λ (u : Transfer). Issues u.queue u.remote.rank u.remote u.own) found.same ∙ ok_injective h₁ in
      subst (Asks (read e₁ e₂ e₃ e₄)) same (reading found.operands)
  action_asks at (write e₁ e₂ e₃ e₄) h =
      let (t, p, h₁) = bind_ok (transfer P r registers at e₁ e₂ e₃ e₄) _ h in
      let found = transfer_ok at e₁ e₂ e₃ e₄ p in
      let same = ap (λ (u : Transfer). Issues u.queue u.remote.rank u.own u.remote) found.same ∙ ok_injective h₁ in
      subst (Asks (write e₁ e₂ e₃ e₄)) same (writing found.operands)
  action_asks at bar h = subst (Asks bar) (ok_injective h) meeting

  -- A command's side conditions hold: its action is computed.
  pub asks_action : (at : ℕ) {c : Command} {a : Action} → Asks c a → action P r registers at c ≡ Ok a
  unfolding action value
  asks_action at (loading {a = a} here cell) = rw (here, lt-ltb a _ cell)
  asks_action at (storing {a = a} here stored cell) = rw (here, stored, lt-ltb a _ cell)
  asks_action at (assigning assigned) = rw assigned
  asks_action at (passing {v} assumed test) = rw (assumed, lt-ltb 0 v test)
  asks_action at (reading operands) = rw (ok_transfer at operands)
  asks_action at (writing operands) = rw (ok_transfer at operands)
  asks_action at meeting = refl

  -- So the action of a command is the same at whatever item.
  pub action_at : (c : Command) (item : ℕ) {a : Action} → action P r registers item c ≡ Ok a → (at : ℕ) → action P r registers at c ≡ Ok a
  action_at c item h at = asks_action at (action_asks item c h)
