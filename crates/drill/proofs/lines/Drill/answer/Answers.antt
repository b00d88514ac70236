-- The answer to a line: a command's line is no long one, and its rooms are not too large. Assumes nothing.
use mathlib.Core.Path.{ap, ◌∙◌}
use Rattle.std.specs.Prelude.{Some}
use Rattle.drill_text.proofs.Rooms.{told_short, told_rooms}
use Rattle.drill.proofs.lines.Drill.answer.Goals as goal

pub move_line-requires : goal.move_line-requires
move_line-requires c = told_short _ _ _ c.command_of.ensures (c.in-Some-Load.is ∙ ap Some c.in-Some-Load.field-0-is) tt

pub move_line-requires-in-Some-Rest : goal.move_line-requires-in-Some-Rest
move_line-requires-in-Some-Rest c = told_short _ _ _ c.command_of.ensures (c.in-Some-Rest.is ∙ ap Some c.in-Some-Rest.field-0-is) tt

pub move_line-requires-in-Some-Vector : goal.move_line-requires-in-Some-Vector
move_line-requires-in-Some-Vector c = told_short _ _ _ c.command_of.ensures (c.in-Some-Vector.is ∙ ap Some c.in-Some-Vector.field-0-is) tt

pub move_line-requires-in-Some-Steps : goal.move_line-requires-in-Some-Steps
move_line-requires-in-Some-Steps c = told_short _ _ _ c.command_of.ensures (c.in-Some-Steps.is ∙ ap Some c.in-Some-Steps.field-0-is) tt

pub bench_line-requires : goal.bench_line-requires
bench_line-requires c =
    let e = c.command_of.ensures in
    let t = c.in-Some-Bench.is ∙ ap Some c.in-Some-Bench.field-0-is in
    record { line_len_bound = told_short _ _ _ e t tt; room_bound = told_rooms _ _ _ e t }

pub list_line-requires : goal.list_line-requires
list_line-requires c = told_rooms _ _ _ c.command_of.ensures (c.in-Some-List.is ∙ ap Some c.in-Some-List.field-0-is)

pub records_line-requires : goal.records_line-requires
records_line-requires c = told_rooms _ _ _ c.command_of.ensures (c.in-Some-Records.is ∙ ap Some c.in-Some-Records.field-0-is)

pub history_line-requires : goal.history_line-requires
history_line-requires c = told_rooms _ _ _ c.command_of.ensures (c.in-Some-History.is ∙ ap Some c.in-Some-History.field-0-is)

pub trace_line-requires : goal.trace_line-requires
trace_line-requires c = told_rooms _ _ _ c.command_of.ensures (c.in-Some-Trace.is ∙ ap Some c.in-Some-Trace.field-0-is)
