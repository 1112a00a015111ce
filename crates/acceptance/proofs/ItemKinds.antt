-- A command's item names its transition.
use mathlib.Core.Path.{◌≡◌}
use mathlib.Core.Logic.Iff
use mathlib.Core.Logic.{◌↔◌}
use Rattle.model.specs.declared.Item.{Item}
use Rattle.model.specs.ItemKinds.{part_of}
use Rattle.model.specs.Programs.{Command, kind_of}
use Rattle.model.specs.Rules.{Label, ChosenAs}
use Rattle.model.proofs.ItemKinds.{part_of_command}

pub chosen_transition : (c : Command) (l : Label) (i : Item) → ChosenAs l (part_of (kind_of c)) i ↔ (i.transition ≡ l.transition)
chosen_transition c l i = rw (part_of_command c) Iff.rfl
