-- What contracts see of files in memory that fail where they are told to, and exactly what one call on them does.
use Rattle.std.specs.Prelude.{◌≡◌, ℕ, List, true, MatchBool}
use Rattle.tw_ports.specs.Ports.{count_after}
use Rattle.tw_ports.specs.Memory.{is_to_fail}
use Rattle.tw_ports.specs.Files.{Held, LooksUp}
use Rattle.tw_ports.specs.declared.files.FileAnswer.{FileAnswer}
use Rattle.tw_ports.specs.declared.files.FileAnswer.TheVariants.{Failed}

-- the files, the numbers of the calls that fail, the calls so far, and how many of them failed
pub record Shelf : Type 0 where
  pub held : Held
  pub fails : List ℕ
  pub calls : ℕ
  pub faults : ℕ

-- a call fails exactly where its number is listed, and else the file is looked up
pub record ShelfRead (old new : Shelf) (name : List ℕ) (limit : ℕ) (answer : FileAnswer) : Type 0 where
  pub answers : MatchBool (is_to_fail old.fails old.calls) (answer ≡ Failed) (LooksUp old.held name limit answer)
  pub counted : new.calls ≡ count_after true old.calls
  pub same_held : new.held ≡ old.held
  pub same_fails : new.fails ≡ old.fails
