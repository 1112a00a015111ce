-- Arrows added to a table: those from the items of a list one after the other, and those into an item.
use Prim.Native.Nat.{ℕ, ◌-◌}
use mathlib.Core.Path.{◌≡◌, refl, sym, ap, ◌∙◌}
use mathlib.Core.List.{List, ◌∷◌, ◌++◌}
use native.Mathlib.Omega.{arith}
use Rattle.memory.specs.Tables.{Table}
use Rattle.chains.specs.Chains.{members, older_in}
use Rattle.chains.proofs.Chains.{no_members, members_first}
use Rattle.graph.specs.declared.Drawn.{Drawn}
use Rattle.happens_before.specs.declared.kept.Accesses.{Accesses}
use Rattle.happens_before.specs.declared.rows.Told.{Told}
use Rattle.happens_before.specs.Told.{told_at}
use Rattle.happens_before.specs.Drawing.{
  kept,
  added,
  group_at,
  between,
  from_each,
  program_into,
  conflicts_into,
  commands_with,
  accessed_with,
  Draws,
}
use Rattle.happens_before.proofs.Sheets.{added_append}

module _ (trail : Table) (to : ℕ) (links : List ℕ) (member : ℕ) where
  each_first : (item : ℕ) (items : List ℕ) → from_each trail (item ∷ items) to ≡ between (group_at trail item) to ++ from_each trail items to
  unfolding from_each
  each_first item items = refl

  pub each_done : member ≡ 0 → (d : Drawn) → added (from_each trail (members links member) to) d ≡ d
  unfolding from_each added
  each_done e d = rw (e, no_members links)

  pub each_turn : ¬ (member ≡ 0) → {below : ℕ} (d : Drawn) {e : Drawn} → below ≡ older_in links member →
      e ≡ added (between (group_at trail (member - 1)) to) d →
      added (from_each trail (members links member) to) d ≡ added (from_each trail (members links below) to) e
  each_turn some {below} d {e} older drawn =
      let others : List ℕ = members links (older_in links member) in
      ap (λ items. added (from_each trail items to) d) (members_first links member (omega (arith, some)))
      ∙ ap (λ es. added es d) (each_first (member - 1) others)
      ∙ added_append (between (group_at trail (member - 1)) to) (from_each trail others to) d
      ∙ ap (λ m. added (from_each trail (members links m) to) (added (between (group_at trail (member - 1)) to) d)) (sym older)
      ∙ ap (added (from_each trail (members links below) to)) (sym drawn)

-- One item, step by step: what is told of it, the arrows by program order and by conflict, and what is kept.
pub item_drawn : {cells : ℕ} (trail : Table) (item : ℕ) (commands : List _) (a : Accesses cells) (d : Drawn) {told : Told} {first then : Drawn}
    {commands' : List _} {a' : Accesses cells} → told ≡ told_at trail item → first ≡ added (program_into trail commands told) d →
    then ≡ added (conflicts_into trail a told) first → commands' ≡ commands_with commands told item → a' ≡ accessed_with a told item →
    Draws trail item (kept commands a) (kept commands' a') d then
item_drawn trail item commands a d {told} is program conflicts keeps keeps_access =
    record {
      keeps = rw (keeps, keeps_access) (ap (λ t. kept (commands_with commands t item) (accessed_with a t item)) is);
      draws =
          conflicts
          ∙ ap (added (conflicts_into trail a told)) program
          ∙ sym (added_append (program_into trail commands told) (conflicts_into trail a told) d)
          ∙ ap (λ t. added (program_into trail commands t ++ conflicts_into trail a t) d) is;
    }
