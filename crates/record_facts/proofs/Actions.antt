-- An action fits its command's kind: a transfer issues a request on a queue of its rank, a bar meets, and every other command does neither.
use Rattle.model.specs.declared.Action.TheVariants.{Loads, Stores, Assigns, Passes, Issues, Meets}
use Prim.Native.Nat.{ℕ, ◌<◌}
use mathlib.Core.Path.{◌≡◌, refl}
use mathlib.Core.Bool.{true, false}
use Rattle.model.specs.declared.Kind.{Kind}
use Rattle.model.specs.declared.Kind.TheVariants.{Bar}
use Rattle.model.specs.ItemKinds.{is_bar, is_transfer}
use Rattle.model.specs.Programs.{Program, Command, kind_of}
use Rattle.model.specs.Machine.{Action}
use Rattle.model.proofs.Actions.{Asks, loading, storing, assigning, passing, reading, writing, meeting}

-- What the kind of a command says of its action.
abbrev pub Fits : Program → Action → Kind → Type 0
Fits P (Loads x a) kind = (is_transfer kind ≡ false) × (is_bar kind ≡ false)
Fits P (Stores a v) kind = (is_transfer kind ≡ false) × (is_bar kind ≡ false)
Fits P (Assigns x v) kind = (is_transfer kind ≡ false) × (is_bar kind ≡ false)
Fits P Passes kind = (is_transfer kind ≡ false) × (is_bar kind ≡ false)
Fits P (Issues q remote source destination) kind = (is_transfer kind ≡ true) × (is_bar kind ≡ false) × (q < P.header.queues)
Fits P Meets kind = kind ≡ Bar

pub action_fits : {P : Program} {r : ℕ} {registers : ℕ → ℕ} {c : Command} {a : Action} → Asks P r registers c a → Fits P a (kind_of c)
unfolding kind_of
action_fits (loading here cell) = (refl, refl)
action_fits (storing here stored cell) = (refl, refl)
action_fits (assigning assigned) = (refl, refl)
action_fits (passing assumed test) = (refl, refl)
action_fits (reading operands) = (refl, refl, operands.queue)
action_fits (writing operands) = (refl, refl, operands.queue)
action_fits meeting = refl
