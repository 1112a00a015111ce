-- What is kept stands for the items so far, and once an item is kept for one item more. An access joins its cell's list, which a write begins anew.
use Rattle.std.specs.Prelude.{Some, None, IfSome}
use Prim.Native.Nat.{ℕ, suc, ◌+◌, ◌-◌, ◌<◌}
use mathlib.Core.Path.{◌≡◌, refl, sym, ap, ◌∙◌}
use mathlib.Core.Bool.{Bool, true, false, ◌&&◌}
use mathlib.Core.List.{List, [], ◌∷◌}
use native.Mathlib.Numerals.{add-one}
use native.Mathlib.Omega.{arith}
use lib.Dec.{eqb}
use lib.ListN.{length, get_or, length-set}
use borrow.Author.Tests.{ne_eqb, eqb-true, eqb-false}
use Rattle.model.specs.Limits.{max_ranks, max_items}
use Rattle.model.specs.Choice.{when}
use Rattle.model.proofs.Laws.{decided, eqb_refl}
use Rattle.memory.specs.Tables.{Table}
use Rattle.chains.specs.Chains.{room, heads_after, links_after, Listed}
use Rattle.chains.proofs.Chains.{exchanged, listed_later, clear_listed, push_listed}
use Rattle.happens_before.specs.declared.kept.Kept.{Kept}
use Rattle.happens_before.specs.declared.rows.Told.{Told}
use Rattle.happens_before.specs.declared.rows.Touch.{Touch}
use Rattle.happens_before.specs.Told.{told_at}
use Rattle.happens_before.specs.Drawing.{commands_with, if_writes, kept_after}
use Rattle.happens_before.proofs.Tests.{told_or_not, is_rank, at_cell, is_write, rank_within, inside_cell}
use Rattle.happens_before.proofs.Cases.{commands_none, commands_some, accessed_none, accessed_some}
use Rattle.happens_before.proofs.Lasts.{Lasts, lasts_same, lasts_set}
use Rattle.happens_before.proofs.Standing.{Stands, of_rank, touches, writing, overwriting}
use Rattle.happens_before.proofs.Searches.{since}

and_no : (a : Bool) {b : Bool} → b ≡ false → (a && b) ≡ false
and_no true e = e
and_no false e = refl

-- The lists of the keys may be said in other words.
listed_same : {heads links : List ℕ} {below : ℕ} {f g : ℕ → List ℕ} → ((key : ℕ) → f key ≡ g key) → Listed heads links below f → Listed heads links below g
listed_same same so_far =
    record { heads_below = so_far.heads_below; lists = λ key h. so_far.lists key h ∙ same key }

module _ (heads links : List ℕ) (key member : ℕ) where
  heads_length : length (heads_after heads links key member) ≡ length heads
  unfolding heads_after
  heads_length = decided (room heads links key member) (λ t. rw t (length-set heads key member)) (λ t. rw t)

  links_length : length (links_after heads links key member) ≡ length links
  unfolding links_after
  links_length =
      decided (room heads links key member) (λ t. rw t (length-set links (member - 1) (get_or heads key 0))) (λ t. rw t)

-- An item more.
module _ {cells : ℕ} (trail : Table) (item : ℕ) (within : item < max_items) (inside : IfSome (told_at trail item).access (λ t. t.cell < cells))
    (k : Kept cells) (stands : Stands trail item k) where
  abbrev t : Told
  t = told_at trail item

  commands_next : Lasts (commands_with k.commands t item) max_ranks (of_rank trail) (suc item)
  commands_next =
      told_or_not t.rank
      (λ rank command.
      rw (commands_some t item k.commands rank command)
      (lasts_set stands.commands rank
      (rank_within trail item rank command)
      (ap (λ o. is_rank o rank) command ∙ eqb_refl rank)
      (λ r other. ap (λ o. is_rank o r) command ∙ ne_eqb rank r (λ e. other (sym e)))))
      (λ pop.
      rw (commands_none t item k.commands pop)
      (lasts_same stands.commands (λ r. ap (λ o. is_rank o r) pop)))

  module _ (untouched : t.access ≡ None) where
    not_touching : (c : ℕ) → touches trail c item ≡ false
    not_touching c = ap (λ o. at_cell o c) untouched

    stands_untouched : Stands trail (suc item) (kept_after trail item k)
    unfolding since
    stands_untouched =
        rw (accessed_none t item k.accesses untouched)
        (record {
          commands = commands_next;
          writes = lasts_same stands.writes (λ c. ap (λ b. b && writing trail item) (not_touching c));
          newest_long = stands.newest_long;
          links_long = stands.links_long;
          accesses = listed_same (λ c. rw (not_touching c)) (listed_later stands.accesses (omega arith));
        })

  module _ (own : Touch) (touched : t.access ≡ Some own) where
    abbrev slot : ℕ
    slot = own.cell

    slot_inside : slot < cells
    slot_inside = inside_cell inside own touched

    own_cell : (c : ℕ) → c ≡ slot → touches trail c item ≡ true
    own_cell c e = ap (λ o. at_cell o c) touched ∙ ap (eqb slot) e ∙ eqb_refl slot

    other_cell : (c : ℕ) → ¬ (c ≡ slot) → touches trail c item ≡ false
    other_cell c n = ap (λ o. at_cell o c) touched ∙ ne_eqb slot c (λ e. n (sym e))

    own_writing : writing trail item ≡ own.writes
    own_writing = ap is_write touched

    writes_next : Lasts (if_writes k.accesses.writes own (Some item)) cells (overwriting trail) (suc item)
    writes_next =
        decided own.writes
        (λ w.
        rw w
        (lasts_set stands.writes slot slot_inside
        (rw (own_cell slot refl) (own_writing ∙ w))
        (λ c n. ap (λ b. b && writing trail item) (other_cell c n))))
        (λ w. rw w (lasts_same stands.writes (λ c. and_no (touches trail c item) (own_writing ∙ w))))

    -- The lists of the cells before the item joins its own: a write begins it anew.
    abbrev lists_before : ℕ → List ℕ
    lists_before c = since (touches trail c) (writing trail) item

    abbrev begun : ℕ → List ℕ
    begun = exchanged lists_before slot (when own.writes (λ _. []) (λ _. lists_before slot))

    begun_own : begun slot ≡ when own.writes (λ _. []) (λ _. lists_before slot)
    begun_own = rw (eqb_refl slot)

    abbrev heads : List ℕ
    heads = if_writes k.accesses.newest own 0

    heads_long : length heads ≡ cells
    heads_long =
        decided own.writes
        (λ w. rw w (length-set k.accesses.newest slot 0 ∙ stands.newest_long))
        (λ w. rw w stands.newest_long)

    heads_listed : Listed heads k.accesses.links item begun
    heads_listed =
        decided own.writes
        (λ w. rw w (clear_listed stands.accesses slot (rw stands.newest_long slot_inside)))
        (λ w.
        rw w
        (listed_same
        (λ c. decided (eqb c slot) (λ e. rw e (ap lists_before (eqb-true c slot e))) (λ e. rw e))
        stands.accesses))

    joined : (c : ℕ) → exchanged begun slot (item ∷ begun slot) c ≡ since (touches trail c) (writing trail) (suc item)
    unfolding since
    joined c =
        decided (eqb c slot)
        (λ e.
        let same : c ≡ slot = eqb-true c slot e in
        rw (e, own_cell c same, own_writing)
        (ap {B = List ℕ} (λ l. item ∷ l)
        (begun_own ∙ ap (λ n. when own.writes (λ _. []) (λ _. lists_before n)) (sym same))))
        (λ e. rw (e, other_cell c (eqb-false c slot e)))

    accesses_next : Listed (heads_after heads k.accesses.links slot (item + 1)) (links_after heads k.accesses.links slot (item + 1)) (suc item)
        (λ c. since (touches trail c) (writing trail) (suc item))
    accesses_next =
        rw (add-one item)
        (listed_same joined (push_listed heads_listed slot (rw heads_long slot_inside) (rw stands.links_long within)))

    stands_touched : Stands trail (suc item) (kept_after trail item k)
    stands_touched =
        rw (accessed_some t item k.accesses own touched)
        (record {
          commands = commands_next;
          writes = writes_next;
          newest_long = heads_length heads k.accesses.links slot (item + 1) ∙ heads_long;
          links_long = links_length heads k.accesses.links slot (item + 1) ∙ stands.links_long;
          accesses = accesses_next;
        })

  pub stands_next : Stands trail (suc item) (kept_after trail item k)
  stands_next = told_or_not t.access stands_touched stands_untouched
