-- Answers over a book.
use Rattle.std.proofs.Common.{◌≡◌, ◌∙◌, ap, sym, List, Some}
use Rattle.legs.specs.declared.head.BookHead.{BookHead}
use Rattle.legs.specs.Legs.{LegView}
use Rattle.legs.specs.Book.{Book}
use Rattle.trajdb.specs.Answers.{file_answer, write_text}

-- the answer to `write` of a book that has a head
pub write_text-is : (book now : Book) (head : BookHead) (legs : List LegView) → book.head ≡ Some head → now ≡ book → legs ≡ book.legs → file_answer now head legs ≡ write_text book.head book
write_text-is book now head legs e same all = ap (λ (b : Book). file_answer b head legs) same ∙ ap (file_answer book head) all ∙ sym (ap (λ h. write_text h book) e)

-- the book with another list of legs that is the same
pub same_legs : (book : Book) (legs : List LegView) → legs ≡ book.legs → record book { legs = legs } ≡ book
same_legs book legs e = ap (λ (l : List LegView). record book { legs = l }) e
