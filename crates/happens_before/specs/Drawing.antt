-- The drawing of arrows on arrays: what is kept of the items so far, and the arrows into the next one that it gives. Nothing is asked of the arrays.
use Rattle.std.specs.Prelude.{
  ℕ,
  zero,
  suc,
  ◌+◌,
  ◌<◌,
  ◌≡◌,
  List,
  [],
  ◌∷◌,
  ◌++◌,
  ltb,
  eqb,
  get_or,
  set,
  replicate,
  Option,
  Some,
  None,
  IfSome,
}
use Rattle.model.specs.Limits.{max_ranks, max_items}
use Rattle.model.specs.Choice.{when}
use Rattle.model.specs.HappensBefore.{Edge, ◌⟶◌}
use Rattle.memory.specs.Tables.{Table}
use Rattle.chains.specs.Chains.{heads_after, links_after, members}
use Rattle.graph.specs.declared.Drawn.{Drawn}
use Rattle.graph.specs.Drawn.{one_more}
use Rattle.happens_before.specs.declared.kept.Accesses.{Accesses}
use Rattle.happens_before.specs.declared.kept.Kept.{Kept}
use Rattle.happens_before.specs.declared.rows.Told.{Told}
use Rattle.happens_before.specs.declared.rows.Touch.{Touch}
use Rattle.happens_before.specs.Told.{told_at}

-- By cell: its last write, the newest access, and what links it to a list of the accesses since that write, itself included, the newest first.
abbrev pub accessed : {cells : ℕ} → (writes : List (Option ℕ)) → (newest links : List ℕ) → Accesses cells
accessed writes newest links = record { writes = writes; newest = newest; links = links }

-- All that is kept: each rank's last command, and the accesses.
abbrev pub kept : {cells : ℕ} → (commands : List (Option ℕ)) → Accesses cells → Kept cells
kept commands accesses = record { commands = commands; accesses = accesses }

-- Nothing is kept, in tables with entries for so many cells.
abbrev pub kept_none : (cells : ℕ) → Kept cells
kept_none cells = kept (replicate max_ranks None) (accessed (replicate cells None) (replicate cells 0) (replicate max_items 0))

-- The first items access these cells alone.
abbrev pub Inside : (cells : ℕ) → (trail : Table) → (last : ℕ) → Type 0
Inside cells trail last = (item : ℕ) → item < last → IfSome (told_at trail item).access (λ t. t.cell < cells)

-- Several arrows more, where there is room for them.
unfoldable pub added : List Edge → Drawn → Drawn
unfolding one_more
added [] d = d
added (e ∷ edges) d = added edges (one_more e d)

-- An item's group; 0 outside the trail.
unfoldable pub group_at : Table → (item : ℕ) → ℕ
group_at trail item = when (ltb item max_items) (λ _. get_or (get_or trail item []) 1 0) (λ _. 0)

-- The arrow from one group to another, different, group.
unfoldable pub between : (from to : ℕ) → List Edge
between from to = when (eqb from to) (λ _. []) (λ _. from ⟶ to ∷ [])

-- The arrow to a group from an item, if there is one, and from each of a list of items.
unfoldable pub from_item : Table → (item : Option ℕ) → (to : ℕ) → List Edge
from_item trail None to = []
from_item trail (Some item) to = between (group_at trail item) to

unfoldable pub from_each : Table → (items : List ℕ) → (to : ℕ) → List Edge
unfolding group_at between
from_each trail [] to = []
from_each trail (item ∷ items) to = between (group_at trail item) to ++ from_each trail items to

-- By program order: the arrow from the last command of the item's rank.
abbrev pub program_from : Table → (commands : List (Option ℕ)) → (to : ℕ) → (rank : Option ℕ) → List Edge
program_from trail commands to None = []
program_from trail commands to (Some rank) = from_item trail (get_or commands rank None) to

unfoldable pub program_into : Table → (commands : List (Option ℕ)) → Told → List Edge
program_into trail commands t = program_from trail commands t.group t.rank

-- By conflict: a write gets an arrow from each access since the cell's last write, itself included, and a read gets one from that write alone.
abbrev pub conflicts_from : {cells : ℕ} → Table → Accesses cells → (to : ℕ) → Option Touch → List Edge
conflicts_from trail a to None = []
conflicts_from trail a to (Some t) =
    when t.writes
    (λ _. from_each trail (members a.links (get_or a.newest t.cell 0)) to)
    (λ _. from_item trail (get_or a.writes t.cell None) to)

unfoldable pub conflicts_into : {cells : ℕ} → Table → Accesses cells → Told → List Edge
conflicts_into trail a t = conflicts_from trail a t.group t.access

-- What is kept with an item more. A write is its cell's last, and begins the cell's list anew.
abbrev pub commands_by : (commands : List (Option ℕ)) → (rank : Option ℕ) → (item : ℕ) → List (Option ℕ)
commands_by commands None item = commands
commands_by commands (Some rank) item = set commands rank (Some item)

unfoldable pub commands_with : (commands : List (Option ℕ)) → Told → (item : ℕ) → List (Option ℕ)
commands_with commands t item = commands_by commands t.rank item

abbrev pub if_writes : {A : Type 0} → (entries : List A) → Touch → (entry : A) → List A
if_writes entries t entry = when t.writes (λ _. set entries t.cell entry) (λ _. entries)

abbrev pub accessed_by : {cells : ℕ} → Accesses cells → Option Touch → (item : ℕ) → Accesses cells
accessed_by a None item = a
accessed_by a (Some t) item =
    accessed (if_writes a.writes t (Some item))
    (heads_after (if_writes a.newest t 0) a.links t.cell (item + 1))
    (links_after (if_writes a.newest t 0) a.links t.cell (item + 1))

unfoldable pub accessed_with : {cells : ℕ} → Accesses cells → Told → (item : ℕ) → Accesses cells
accessed_with a t item = accessed_by a t.access item

-- An item of the trail: the arrows into it, and what is kept once it is drawn.
abbrev pub edges_into : {cells : ℕ} → Table → (item : ℕ) → Kept cells → List Edge
edges_into trail item k = program_into trail k.commands (told_at trail item) ++ conflicts_into trail k.accesses (told_at trail item)

abbrev pub kept_after : {cells : ℕ} → Table → (item : ℕ) → Kept cells → Kept cells
kept_after trail item k =
    kept (commands_with k.commands (told_at trail item) item) (accessed_with k.accesses (told_at trail item) item)

-- One item drawn: what is kept then, and the arrows.
pub record Draws {cells : ℕ} (trail : Table) (item : ℕ) (before after : Kept cells) (old new : Drawn) : Type 0 where
  pub keeps : after ≡ kept_after trail item before
  pub draws : new ≡ added (edges_into trail item before) old

-- So many items from one on.
unfoldable pub drawn_from : {cells : ℕ} → (left item : ℕ) → Table → Kept cells → Drawn → Drawn
unfolding added program_into conflicts_into commands_with accessed_with
drawn_from zero item trail k d = d
drawn_from (suc left) item trail k d = drawn_from left (item + 1) trail (kept_after trail item k) (added (edges_into trail item k) d)
