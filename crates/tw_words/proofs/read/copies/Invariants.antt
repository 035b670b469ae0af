use Rattle.std.proofs.Common.{◌≡◌, map, take, string_bytes}
use Rattle.tw_words.proofs.read.copies.Given as goal

-- the words so far
abbrev pub invariant-loop-word : goal.invariant-loop-word
invariant-loop-word l = map (λ w. string_bytes w) l.copies.items ≡ map (λ w. w.now) (take l.word-index l.words)
