use Rattle.std.proofs.Common.{◌≡◌, ◌≤◌, length}
use Rattle.mfcsv.specs.Unread.{bytes_left, rows_left}
use Rattle.mfcsv.specs.Left.{IsUnread, text_left}
use Rattle.mfcsv.proofs.reader.Unread.next.Given as goal

abbrev pub invariant-rows : goal.invariant-rows
invariant-rows l = record {
  unread : IsUnread l.self.reader l.self.number;
  says : text_left l.initial.self.number l.initial.self.heads (rows_left l.initial.self.reader) ≡ text_left l.self.number l.self.heads (rows_left l.self.reader);
  fewer : length (bytes_left l.self.reader) ≤ length (bytes_left l.initial.self.reader);
}

abbrev pub decreases-rows : goal.decreases-rows
decreases-rows l = length (bytes_left l.self.reader)
