-- What an answer of the program has: the values of the goal's variables, and the proof, where it was read.
use Rattle.std.specs.Prelude.{◌≡◌, List, Option, Some, None, map, option_map, reverse}
use Rattle.lf.specs.Syntax.{Term}
use Rattle.tw_terms.specs.View.{term_of}
use Rattle.tw_search.specs.declared.answer.Answer.{Answer}

-- the values of the goal's variables, the newest in front
abbrev pub values_of : Answer → List Term
values_of a = reverse (map term_of a.values.items)

-- the term that was read is M; where none was, it may be any
abbrev pub IsIfRead : Option Term → Term → Type 0
IsIfRead (Some N) M = N ≡ M
IsIfRead None M = Unit {0}

-- M may be the proof of this answer: where it was read, it is the term that was read. Of the first answer of `D : nat` M is z; of that of `nat` nothing is said here.
abbrev pub HasProof : Answer → Term → Type 0
HasProof a M = IsIfRead (option_map term_of a.proof) M
