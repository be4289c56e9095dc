use Rattle.std.proofs.Common.{ℕ, List, ◌≡◌, ◌++◌, map, length}
use Rattle.std.specs.Str.{IsUtf8}
use Rattle.words.specs.Words.{separates, words_between}
use Rattle.words.proofs.words_of.Given as goal
use denote.Ref.{Bor}

-- the words so far and those of the rest are all
abbrev pub invariant-loop-word : goal.invariant-loop-word
invariant-loop-word l = record {
  all : map (λ (w : Bor (List ℕ)). w.now) l.words.items ++ words_between (separates l.between) l.rest ≡ words_between (separates l.between) l.text;
  text : IsUtf8 l.rest;
}

abbrev pub decreases-loop-word : goal.decreases-loop-word
decreases-loop-word l = length l.rest
