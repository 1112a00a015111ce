-- Kinds of items (document 01's table of kinds, with popa and popb): their numbers, and what the rules ask of a kind.
use Rattle.std.specs.Prelude.{ℕ, Bool, true, false, ◌||◌, List, [], ◌∷◌, eqb}
use Rattle.model.specs.declared.Kind.{Kind}
use Rattle.model.specs.declared.Kind.TheVariants.{Load, Store, Assign, Assume, Read, Write, Popa, Popb, Bar}
use Rattle.model.specs.Choice.{when}

-- Document 01's number of each kind.
abbrev pub kind_number : Kind → ℕ
kind_number Load = 1
kind_number Store = 2
kind_number Assign = 3
kind_number Assume = 4
kind_number Read = 5
kind_number Write = 6
kind_number Popa = 7
kind_number Popb = 8
kind_number Bar = 9

-- The kinds under these numbers; any other number is of an unknown kind.
unfoldable pub item_kinds : List (ℕ × Kind)
item_kinds =
    (1, Load) ∷ (2, Store) ∷ (3, Assign) ∷ (4, Assume) ∷ (5, Read) ∷ (6, Write) ∷ (7, Popa) ∷ (8, Popb) ∷ (9, Bar) ∷ []

abbrev pub same_kind : Kind → Kind → Bool
same_kind k l = eqb (kind_number k) (kind_number l)

-- "9 bar: barrier"
abbrev pub is_bar : Kind → Bool
is_bar k = same_kind k Bar

-- "5 read, 6 write": the kinds that a popa and a popb follow.
abbrev pub is_transfer : Kind → Bool
is_transfer k = same_kind k Read || same_kind k Write

-- "Loads and popa read their cell; stores and popb write theirs": the kinds of items that have a place.
abbrev pub has_place : Kind → Bool
has_place k = same_kind k Load || same_kind k Store || same_kind k Popa || same_kind k Popb

-- "its part (command, fetch or delivery)"
pub data Part : Type 0 where
  command fetch delivery : Part

abbrev pub part_of : Kind → Part
part_of k = when (same_kind k Popa) (λ _. fetch) (λ _. when (same_kind k Popb) (λ _. delivery) (λ _. command))

-- Items of all parts but the pops' are command items.
abbrev pub is_command_part : Part → Bool
is_command_part command = true
is_command_part fetch = false
is_command_part delivery = false

abbrev pub is_command_kind : Kind → Bool
is_command_kind k = is_command_part (part_of k)
