-- `replay`: program and start are refused as the definition refuses them, or the record is replayed.
use Rattle.std.proofs.Common.{rules}
use Rattle.replay.proofs.Reading.{program_unread, start_unreadable, record_follows}
use Rattle.replay.proofs.replay.Goals as goal

pub returns-in_err-read : goal.returns-in_err-read
returns-in_err-read c = program_unread _ _ _ c.read_program.ensures c.in_err-read.was (search rules)

pub returns-in_err-start_cells : goal.returns-in_err-start_cells
returns-in_err-start_cells c =
    start_unreadable _ _ _ c.read_program.ensures c.in_ok-read.was c.start_cells.ensures c.in_err-start_cells.was (search rules)

pub returns : goal.returns
returns c = record_follows _ _ _ c.read_program.ensures c.in_ok-read.was c.start_cells.ensures c.in_ok-start_cells.was c.replay_record.ensures
