use Rattle.std.proofs.Common.{◌≡◌, ◌∙◌, Ok, Some, ap}
use Rattle.querylang.specs.Line.{line_command}
use Rattle.trajdb.proofs.LineLaws.{command_does, command_stops}
use Rattle.trajdb.proofs.database.Core.answer.Goals as goal

pub returns-in-Ok-Some : goal.returns-in-Ok-Some
returns-in-Ok-Some g c =
    let is : line_command c.args.line.now ≡ Ok (Some c.in-Ok-Some.command) = c.in-Ok-Some.ensures.gives ∙ ap Ok c.in-Ok-Some.field-0-is in
    record {
      does = command_does g.I.Listed c.args.files.now _ _ c.args.line.now c.in-Ok-Some.command c.command.result is c.command.ensures;
      stops = command_stops g.I.Listed c.args.files.now _ _ c.args.line.now c.in-Ok-Some.command c.command.result is c.command.ensures;
    }
