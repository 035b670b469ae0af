-- What a store over a file system makes of what the system says.
use Rattle.std.specs.Prelude.{◌≡◌, ℕ, ◌+◌, ◌<◌, ◌≤◌, List, length, ⊤}
use Rattle.std.specs.Io.KnownBytes.{Consumes, IsAtEnd}
use Rattle.std.specs.declared.option.Option.{Option}
use Rattle.std.specs.declared.io.ErrorKind.{ErrorKind}
use Rattle.std.specs.declared.io.ErrorKind.TheVariants as kinds
use Rattle.tw_ports.specs.declared.files.FileAnswer.{FileAnswer}
use Rattle.tw_ports.specs.declared.files.FileAnswer.TheVariants.{Found, Absent, TooLong, Failed, NoMemory}

-- the answer where a file can't be opened: a missing file is absent, want of memory is no fault, all else is one
abbrev pub unopened : ErrorKind → FileAnswer
unopened kinds.NotFound = Absent
unopened kinds.OutOfMemory = NoMemory
unopened _ = Failed

-- the answer where an open file can't be read
abbrev pub unread : ErrorKind → FileAnswer
unread kinds.OutOfMemory = NoMemory
unread _ = Failed

-- what the answer says of the bytes that were taken from an open file, and of what is left of it: all of them up to the
-- end, or more than the limit. A file that was opened isn't absent
abbrev pub SaysOf : List ℕ → Option (List ℕ) → ℕ → FileAnswer → Type 0
SaysOf taken left limit (Found bytes) = (bytes.items ≡ taken) × IsAtEnd left
SaysOf taken left limit Absent = ⊥
SaysOf taken left limit TooLong = limit < length taken
SaysOf taken left limit Failed = ⊤
SaysOf taken left limit NoMemory = ⊤

-- a file was read: at most one byte more than the limit was taken from it
pub record ReadsOpen (old new : Option (List ℕ)) (limit : ℕ) (answer : FileAnswer) : Type 0 where
  pub taken : List ℕ
  pub consumed : Consumes old new taken
  pub few : length taken ≤ limit + 1
  pub says : SaysOf taken new limit answer
