-- As many bytes as are told stand in the room. Assumes nothing.
use Rattle.std.proofs.Common.{sym, length-take-le}
use Rattle.printing.proofs.Inputs.{input_inside}
use Rattle.reduce.proofs.main.Goals as goal

pub slice_bounds-room-end : goal.slice_bounds-room-end
slice_bounds-room-end c = input_inside c.print_input-k.ensures

pub slice_bounds-write_all-end : goal.slice_bounds-write_all-end
slice_bounds-write_all-end c = let printed = c.print_input-k in sym (length-take-le printed.result printed.new.room (input_inside printed.ensures))
