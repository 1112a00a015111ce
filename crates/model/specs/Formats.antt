-- The format of programs and records: what document 02's requests widen. Document 01's is one value of it and today's another, and each reader, and
-- each answer that is made of what it reads, is one definition over both: its name ends in `In`, and the name without `In` is today's. What a wider
-- format keeps is in proofs/Formats.antt.
--
-- What the papers say of an item's maps stands first, as relations; then the maps as they are computed with. The two agree (`original_maps_lem` and
-- `today_maps` in proofs/ItemForms.antt).
use Rattle.std.specs.Prelude.{ℕ, ◌+◌, ◌≡◌, true, false, List, [], ◌∷◌}
use Rattle.model.specs.declared.Kind.{Kind}
use Rattle.model.specs.declared.Kind.TheVariants.{Load, Store, Assign, Assume, Read, Write, Popa, Popb, Bar}
use Rattle.model.specs.Limits.{byte_ranks, max_ranks, short_transitions, max_transitions}
use Rattle.model.specs.Choice.{bit}
use Rattle.model.specs.ItemKinds.{is_command_kind}

-- Document 01: "Maps: load and store 27, or 59 with a value; assign, assume, read, write and bar 3; popa (kind 7) and popb (kind 8) 29, or 61 with a
-- value."
pub data OriginalMap : Kind → ℕ → Type 0 where
  load : OriginalMap Load 27
  load_valued : OriginalMap Load 59
  store : OriginalMap Store 27
  store_valued : OriginalMap Store 59
  assign : OriginalMap Assign 3
  assume : OriginalMap Assume 3
  read : OriginalMap Read 3
  write : OriginalMap Write 3
  bar : OriginalMap Bar 3
  popa : OriginalMap Popa 29
  popa_valued : OriginalMap Popa 61
  popb : OriginalMap Popb 29
  popb_valued : OriginalMap Popb 61

-- Document 02, #107: "In items a new map bit 7 brings the transition's high byte after all other fields"; "bit 7 stands only with bit 1". #108: "A
-- pop may carry map bit 6".
pub data HasMap : Kind → ℕ → Type 0 where
  original : {kind : Kind} {map : ℕ} → OriginalMap kind map → HasMap kind map
  with_high : {kind : Kind} {map : ℕ} → OriginalMap kind map → bit 1 map ≡ true → HasMap kind (map + 128)
  with_remote : {kind : Kind} {map : ℕ} → OriginalMap kind map → is_command_kind kind ≡ false → HasMap kind (map + 64)

-- A case for each kind, with its maps written out: document 01's, and today's.
unfoldable pub original_maps : Kind → List ℕ
original_maps Load = 27 ∷ 59 ∷ []
original_maps Store = 27 ∷ 59 ∷ []
original_maps Assign = 3 ∷ []
original_maps Assume = 3 ∷ []
original_maps Read = 3 ∷ []
original_maps Write = 3 ∷ []
original_maps Popa = 29 ∷ 61 ∷ []
original_maps Popb = 29 ∷ 61 ∷ []
original_maps Bar = 3 ∷ []

unfoldable pub item_maps : Kind → List ℕ
item_maps Load = 27 ∷ 59 ∷ 155 ∷ 187 ∷ []
item_maps Store = 27 ∷ 59 ∷ 155 ∷ 187 ∷ []
item_maps Assign = 3 ∷ 131 ∷ []
item_maps Assume = 3 ∷ 131 ∷ []
item_maps Read = 3 ∷ 131 ∷ []
item_maps Write = 3 ∷ 131 ∷ []
item_maps Popa = 29 ∷ 61 ∷ 93 ∷ 125 ∷ []
item_maps Popb = 29 ∷ 61 ∷ 93 ∷ 125 ∷ []
item_maps Bar = 3 ∷ 131 ∷ []

-- What differs from format to format: the most ranks, the most transitions, and an item's maps by its kind.
pub record Format : Type 0 where
  pub ranks : ℕ
  pub transitions : ℕ
  pub maps : Kind → List ℕ

-- Document 01's: "N 1..8", "T transitions (0..128)", and the maps of its sentence.
abbrev pub document01 : Format
document01 = record { ranks = byte_ranks; transitions = short_transitions; maps = original_maps }

-- Today's: "N goes to 16", "T may reach 400".
abbrev pub today : Format
today = record { ranks = max_ranks; transitions = max_transitions; maps = item_maps }

-- The format that differs in its most ranks alone.
abbrev pub up_to : (ranks : ℕ) → Format → Format
up_to ranks format = record { ranks = ranks; transitions = format.transitions; maps = format.maps }
