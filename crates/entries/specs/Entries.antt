-- The pool: a row of numbers for each entry, and what they stand for.
use Rattle.std.specs.Prelude.{ℕ, ◌+◌}
use Rattle.model.specs.declared.Address.{Address}
use Rattle.model.specs.Limits.{max_items}
use Rattle.model.specs.Machine.{address}
use Rattle.memory.specs.Tables.{Table, Size, sized, number_at, stored}
use Rattle.entries.specs.declared.Request.{Request}
use Rattle.entries.specs.declared.Delivery.{Delivery}

-- Where an entry has its numbers. An address takes two, rank and cell.
abbrev pub source_field : ℕ
source_field = 0

abbrev pub destination_field : ℕ
destination_field = 2

abbrev pub value_field : ℕ
value_field = 4

abbrev pub group_field : ℕ
group_field = 5

abbrev pub remote_field : ℕ
remote_field = 6

abbrev pub link_field : ℕ
link_field = 7

abbrev pub pool_size : Size
pool_size = sized max_items 8

abbrev pub address_at : Table → (entry field : ℕ) → Address
address_at pool entry field = address (number_at pool_size pool entry field) (number_at pool_size pool entry (field + 1))

-- The entry as a request and as a delivery.
abbrev pub request_at : Table → (entry : ℕ) → Request
request_at pool entry =
    record {
      remote = number_at pool_size pool entry remote_field;
      source = address_at pool entry source_field;
      destination = address_at pool entry destination_field;
      group = number_at pool_size pool entry group_field;
    }

abbrev pub delivery_at : Table → (entry : ℕ) → Delivery
delivery_at pool entry =
    record {
      remote = number_at pool_size pool entry remote_field;
      destination = address_at pool entry destination_field;
      value = number_at pool_size pool entry value_field;
      group = number_at pool_size pool entry group_field;
    }

-- The pool with a request stored in an entry.
abbrev pub address_stored : Table → (entry field : ℕ) → Address → Table
address_stored pool entry field place =
    stored pool_size (stored pool_size pool entry field place.rank) entry (field + 1) place.cell

abbrev pub request_stored : Table → (entry : ℕ) → Request → Table
request_stored pool entry request =
    stored pool_size
    (stored pool_size
    (address_stored (address_stored pool entry source_field request.source) entry destination_field request.destination)
    entry group_field request.group)
    entry remote_field request.remote
