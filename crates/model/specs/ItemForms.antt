-- The form of an item: its map byte against its kind byte. Nothing else compares a map with a kind. What the papers say stands first, as a relation;
-- then the verdict as it is computed. They agree on every pair of numbers, in document 01's format and in today's (`forms_agree` in
-- proofs/ItemForms.antt).
use Rattle.std.specs.Prelude as prelude
use Rattle.model.specs.declared.FormFault.{FormFault}
use Rattle.model.specs.declared.FormFault.TheVariants.{UnknownKind, WrongMap}
use Rattle.std.specs.Prelude.{ℕ, ◌+◌, ◌≡◌, List, Option, Some, None, Ok, Err}
use Rattle.model.specs.declared.Kind.{Kind}
use Rattle.model.specs.Refusals.{record_form}
use Rattle.model.specs.Choice.{when, lookup, member}
use Rattle.model.specs.Bytes.{Reader, pure, fault}
use Rattle.model.specs.ItemKinds.{kind_number, item_kinds}
use Rattle.model.specs.Formats.{Format, today}

-- What map and kind say together: the kind, or which of the two is to blame.
abbrev pub ItemForm : Type 0
ItemForm = prelude.Result Kind FormFault

-- The verdict on a map and a kind's number, in document 01's words: "item's unknown kind, then map not among its kind's", and else good. Which maps
-- a kind has, `Has` says.
pub data FormIs (Has : Kind → ℕ → Type 0) (map number : ℕ) : ItemForm → Type 0 where
  good : (kind : Kind) → kind_number kind ≡ number → Has kind map → FormIs Has map number (Ok kind)
  unknown_kind : ((kind : Kind) → ¬ (kind_number kind ≡ number)) → FormIs Has map number (Err UnknownKind)
  wrong_map : (kind : Kind) → kind_number kind ≡ number → ¬ (Has kind map) → FormIs Has map number (Err WrongMap)

-- A map against the kind that was found under a number, if one was.
unfoldable pub form_of : (maps : Kind → List ℕ) → (map : ℕ) → Option Kind → ItemForm
unfolding member
form_of maps map None = Err UnknownKind
form_of maps map (Some kind) = when (member map (maps kind)) (λ _. Ok kind) (λ _. Err WrongMap)

-- The verdict, computed.
unfoldable pub item_form_in : Format → (map number : ℕ) → ItemForm
unfolding lookup item_kinds form_of
item_form_in format map number = form_of format.maps map (lookup number item_kinds)

abbrev pub item_form : (map number : ℕ) → ItemForm
item_form = item_form_in today

-- What a reader makes of a verdict: the kind, or 6 at the byte that is to blame. The map stands at `at`, the kind after it.
unfoldable pub judged_item_form : (at : ℕ) → ItemForm → Reader Kind
judged_item_form at (Ok kind) = pure kind
judged_item_form at (Err UnknownKind) = fault record_form (at + 1)
judged_item_form at (Err WrongMap) = fault record_form at
