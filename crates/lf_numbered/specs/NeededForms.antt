-- What a program has in hand when it asks for coverage: a signature that is a list of declarations, and cases of free
-- variables alone, as goals of inputs are.
use Rattle.std.specs.Prelude.{◌≡◌, ℕ, List, [], length, Bool}
use Rattle.lf.specs.Syntax.{Kind}
use Rattle.lf.specs.Entries.{Entry, signature_of}
use Rattle.lf_cases.specs.Case.{Case, items_context, input_goal}
use Rattle.lf_cases.specs.Split.{HasNoBlockVariable}
use Rattle.lf_numbered.specs.EntryConstants.{IsFreeFrom}
use Rattle.lf_numbered.specs.NumberedCase.{NumberedCase}
use Rattle.lf_numbered.specs.Numbering.{numbered}

-- No constant and no family has the count of the entries as its number, or a greater one: after nat, z and s the
-- number 3 is free, and 2 isn't, which is that of s.
abbrev pub EntriesAreFreeFrom : Type 0
EntriesAreFreeFrom = (es : List Entry) → IsFreeFrom (signature_of es) (length es)

-- the same case, where items that are free variables are its variables
abbrev pub as_numbered : Case → NumberedCase
as_numbered C = record { blocks = []; variables = items_context C.items; given = C.given; local = C.local; family = C.family; arguments = C.arguments }

-- So a case of free variables alone is numbered, and so is each goal of inputs, as plus X Y _. Not cp b.x _, whose b.x
-- becomes a constant.
abbrev pub FreeCaseIsNumbered : Type 0
FreeCaseIsNumbered = (first : ℕ) (C : Case) → HasNoBlockVariable C.items → numbered first C ≡ as_numbered C

abbrev pub InputGoalIsNumbered : Type 0
InputGoalIsNumbered = (first a : ℕ) (m : List Bool) (K : Kind) → numbered first (input_goal a m K) ≡ as_numbered (input_goal a m K)
