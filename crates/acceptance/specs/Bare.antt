-- The replay marks each queue's entry with the command that asked for it; Table 1's states have no marks. Erasing the marks leads from the one to
-- the other.
use Rattle.std.specs.Prelude.{map}
use Rattle.model.specs.Machine.{State, Request, Delivery}
use Rattle.model.specs.Rules.{Bare}

-- A request without its mark.
abbrev pub bare_request : {Mark : Type 0} → Request Mark → Request (Unit {0})
bare_request a = record { remote = a.remote; source = a.source; destination = a.destination; mark = tt }

-- A delivery without its mark.
abbrev pub bare_delivery : {Mark : Type 0} → Delivery Mark → Delivery (Unit {0})
bare_delivery b = record { remote = b.remote; destination = b.destination; value = b.value; mark = tt }

-- A state without the marks of its queues' entries.
unfoldable pub bare : {Mark : Type 0} → State Mark → Bare
bare s =
    record {
      control = s.control;
      registers = s.registers;
      cells = s.cells;
      requests = λ rank queue. map bare_request (s.requests rank queue);
      deliveries = λ rank queue. map bare_delivery (s.deliveries rank queue);
    }
