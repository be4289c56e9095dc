-- What answers tell of a book's legs: all but the numbers that the book gives them.
use Rattle.std.specs.Prelude.{ℕ, [], ◌++◌, List, length, map, slice_index_or, Option}
use Rattle.legs.specs.declared.head.BookHead.{BookHead}
use Rattle.legs.specs.Legs.{LegView}
use Rattle.legs.specs.Book.{Book}
use Rattle.writer.specs.Entries.{NamedLegView}
use Rattle.writer.specs.File.{entries_text, features_text}
use Rattle.trajdb.specs.Answers.{book_frame, feature_name, ok_text}

-- a leg without its numbers
abbrev pub bare : LegView → LegView
bare leg = record leg { ordinal = 0; feature = 0; row = 0 }

-- a leg with its name and attribute values, without its numbers
abbrev pub told_leg : Book → LegView → NamedLegView
told_leg book leg =
    record {
      name = feature_name book leg.feature;
      leg = bare leg;
      values = slice_index_or book.rows leg.row [];
    }

-- legs as they are told
abbrev pub told : Book → List LegView → List NamedLegView
told book legs = map (told_leg book) legs

-- all legs of a book, told
abbrev pub all_told : Book → List NamedLegView
all_told book = told book book.legs

-- the answer of legs that are told
abbrev pub told_text : Option BookHead → List NamedLegView → List ℕ
told_text head entries = ok_text (length entries) ++ entries_text (book_frame head) entries

-- the answer of names
abbrev pub told_names_text : List (List ℕ) → List ℕ
told_names_text names = ok_text (length names) ++ features_text names
