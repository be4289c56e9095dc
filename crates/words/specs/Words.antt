-- The words of a text.
use Rattle.std.specs.Prelude.{ℕ, ◌-◌, ◌==◌, ◌||◌, not, Bool, List, filter, take, drop, length}
use Rattle.std.specs.List.{prefix_len, suffix_len, slice_split}
use Rattle.words.specs.declared.Separator.{Separator}
use Rattle.words.specs.declared.Separator.TheVariants.{Blank, BlankOrLineEnd}

-- a space or a tab
abbrev pub is_blank : ℕ → Bool
is_blank c = (c == 32) || (c == 9)

-- a text without the spaces and tabs at its start
abbrev pub cut_front : List ℕ → List ℕ
cut_front text = drop (prefix_len is_blank text) text

-- a text without the spaces and tabs at its end
abbrev pub cut_back : List ℕ → List ℕ
cut_back text = take (length text - suffix_len is_blank text) text

-- a text without the spaces and tabs at both its ends
unfoldable pub cut : List ℕ → List ℕ
cut text = cut_back (cut_front text)

-- a space, a tab, CR or LF
abbrev pub is_separator : ℕ → Bool
is_separator c = is_blank c || (c == 13) || (c == 10)

-- what stands between words
abbrev pub separates : Separator → ℕ → Bool
separates Blank = is_blank
separates BlankOrLineEnd = is_separator

-- a text of no bytes
abbrev pub is_empty : List ℕ → Bool
is_empty text = length text == 0

-- what stands between runs of bytes that pass a test
unfoldable pub words_between : (ℕ → Bool) → List ℕ → List (List ℕ)
words_between between text = filter (λ piece. not (is_empty piece)) (slice_split between text)

-- a text without all that separates at its front
abbrev pub from_word : (ℕ → Bool) → List ℕ → List ℕ
from_word between text = drop (prefix_len between text) text

-- the length of the first word of a text that begins with one
abbrev pub word_len : (ℕ → Bool) → List ℕ → ℕ
word_len between text = prefix_len (λ c. not (between c)) text

-- the first word of a text that begins with one
abbrev pub first_word : (ℕ → Bool) → List ℕ → List ℕ
first_word between text = take (word_len between text) text

-- what stands behind the first word
abbrev pub behind_word : (ℕ → Bool) → List ℕ → List ℕ
behind_word between text = drop (word_len between text) text
